-- The TransportID of a SAS initiator port (SPC-4, "TransportID for initiator ports using SCSI over SAS").
use Rattle.std.specs.Prelude.{◌≡◌, ◌≢◌, ℕ, List, ◌∷◌, ◌++◌, length, drop, replicate, slice_index}
use Rattle.byteorder.specs.Endian.{big_bytes, big_number}

-- format code 00b with protocol identifier 6h
abbrev pub sas_format : ℕ
sas_format = 0x06

-- the format byte, three reserved, the SAS address, twelve reserved
abbrev pub transport_id : ℕ → List ℕ
transport_id sas = sas_format ∷ replicate 3 0 ++ big_bytes 8 sas ++ replicate 12 0

-- one TransportID in the SAS format
abbrev pub IsSas : List ℕ → Type 0
IsSas bytes = (length bytes ≡ 24) × (slice_index bytes 0 ≡ sas_format)

-- one TransportID in another format
abbrev pub IsOtherFormat : List ℕ → Type 0
IsOtherFormat bytes = (length bytes ≡ 24) × (slice_index bytes 0 ≢ sas_format)

-- the SAS address, in bytes 4 to 11
abbrev pub sas_address : List ℕ → ℕ
sas_address bytes = big_number 8 (drop 4 bytes)
