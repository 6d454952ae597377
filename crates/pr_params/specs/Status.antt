-- The parameter data of PERSISTENT RESERVE IN, uncut, from what stands at a unit: the registered nexuses with their keys,
-- ascending, the reservation and the generation (SPC-4, "PERSISTENT RESERVE IN command").
use Rattle.std.specs.Prelude.{ℕ, ◌*◌, Bool, false, ◌||◌, if◌then◌else◌, List, [], ◌∷◌, ◌++◌, length, replicate, Option, None, Some, unwrap_or}
use Rattle.std.specs.List.{flat_map}
use Rattle.std.specs.FinMap.{find}
use Rattle.byteorder.specs.Endian.{big_bytes}
use Rattle.scsi_nexus.specs.declared.nexus.Nexus.{Nexus}
use Rattle.scsi_nexus.specs.Order.{nexus_cmp, same_nexus}
use Rattle.scsi_nexus.specs.TransportId.{transport_id}
use Rattle.permit_tables.specs.Pairs.{Pairs, key_in}
use Rattle.permit_tables.specs.declared.res_type.ResType.{ResType}
use Rattle.permit_tables.specs.Types.{code_of, is_all_registrants}

-- of how many registrations data is written at most (profile)
abbrev pub pair_limit : ℕ
pair_limit = 65536

-- PRGENERATION and ADDITIONAL LENGTH
abbrev pub header : (generation additional : ℕ) → List ℕ
header generation additional = big_bytes 4 generation ++ big_bytes 4 additional

-- READ KEYS: the keys
abbrev pub keys_data : ℕ → Pairs → List ℕ
keys_data generation pairs = header generation (8 * length pairs) ++ flat_map (λ e. big_bytes 8 e.1) pairs

-- the key that READ RESERVATION shows: the holder's, 0 under an all registrants type
abbrev pub shown_key : Pairs → ResType → Nexus → ℕ
shown_key pairs t holder = if is_all_registrants t then 0 else key_in pairs holder

-- READ RESERVATION: nothing more, or the key, four obsolete bytes, one reserved, scope and type, two obsolete bytes
abbrev pub reservation_data : ℕ → Pairs → Option (ResType × Nexus) → List ℕ
reservation_data generation pairs None = header generation 0
reservation_data generation pairs (Some r) =
    header generation 0x10 ++ big_bytes 8 (shown_key pairs r.0 r.1) ++ replicate 5 0 ++ code_of r.0 ∷ replicate 2 0

-- whether a registered nexus holds: any under an all registrants type, else the one of the reservation
abbrev pub is_holding : Option (ResType × Nexus) → Nexus → Bool
is_holding None n = false
is_holding (Some r) n = is_all_registrants r.0 || same_nexus n r.1

-- R_HOLDER, and scope and type where it is 1
abbrev pub holding_bytes : Option (ResType × Nexus) → Nexus → List ℕ
holding_bytes None n = 0 ∷ 0 ∷ []
holding_bytes (Some r) n = if is_holding (Some r) n then 1 ∷ code_of r.0 ∷ [] else 0 ∷ 0 ∷ []

-- a descriptor of READ FULL STATUS: the key, four reserved bytes, R_HOLDER with scope and type, four reserved bytes, the
-- relative target port, the length of the TransportID, and that
abbrev pub full_status_of : Option (ResType × Nexus) → Nexus × ℕ → List ℕ
full_status_of reservation e =
    big_bytes 8 e.1 ++ replicate 4 0 ++ holding_bytes reservation e.0 ++ replicate 4 0 ++ big_bytes 2 e.0.port
    ++ big_bytes 4 24 ++ transport_id e.0.sas

-- READ FULL STATUS: a descriptor for each registered nexus
abbrev pub full_status_data : ℕ → Pairs → Option (ResType × Nexus) → List ℕ
full_status_data generation pairs reservation = header generation (48 * length pairs) ++ flat_map (full_status_of reservation) pairs

-- REPORT CAPABILITIES: the length 8, SPEC_I_PT and ALL_TG_PT, TMV, and the six types; nothing persists through power loss,
-- and no commands are allowed beyond the tables
abbrev pub capabilities_data : List ℕ
capabilities_data = 0x00 ∷ 0x08 ∷ 0x0C ∷ 0x80 ∷ 0xEA ∷ 0x01 ∷ 0x00 ∷ 0x00 ∷ []
