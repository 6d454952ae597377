-- The parameter data of PERSISTENT RESERVE IN in words (SPC-4, "PERSISTENT RESERVE IN command").
use Rattle.std.specs.Prelude.{ℕ, ◌+◌, ◌==◌, ◌&&◌, nat_lt, nat_le, List, [], ◌++◌, length, take, drop, codes, Option, Some, None, if◌then◌else◌}
use Rattle.std.specs.Fmt.{decimal}
use Rattle.hex.specs.Hex.{encode_lower}
use Rattle.permit_tables.specs.Text.{type_name}
use Rattle.permit_tables.specs.Types.{coded_type}
use Rattle.permit_tables.specs.declared.res_type.ResType.{ResType}
use Rattle.scsi_cdb.specs.Bits.{bit, byte, two_bytes, four_bytes}
use Rattle.explanations.specs.Pieces.{behind_header, whole_pieces}
use Rattle.explanations.specs.declared.reservations.ReservationList.{ReservationList}
use Rattle.explanations.specs.declared.reservations.ReservationList.TheVariants.{Keys, Reservation, Registrations}
use Rattle.explanations.specs.Words.{code_text, cut, number_text}

-- PRGENERATION
unfoldable pub generation_text : List ℕ → List ℕ
generation_text bytes = if nat_le 4 (length bytes) then number_text (codes ", generation ") (four_bytes bytes 0) else []

-- READ KEYS
abbrev pub key_text : List ℕ → List ℕ
key_text key = codes " " ++ encode_lower key

abbrev pub keys_in : (told : ℕ) → List ℕ → List ℕ
keys_in told bytes =
    if told == 0 then codes ", no keys" else codes ", keys" ++ whole_pieces key_text 8 (behind_header told bytes)

-- a type by its name, or the scope and type byte where it has none
abbrev pub type_text : ℕ → Option ResType → List ℕ
type_text code (Some res_type) = type_name res_type
type_text code None = code_text code

-- READ RESERVATION: the key in bytes 0 to 7 behind the header, and the scope and type in byte 13
abbrev pub held_text : List ℕ → List ℕ
held_text held =
    (if nat_le 8 (length held) then codes ", key " ++ encode_lower (take 8 held) else [])
    ++ (if nat_le 14 (length held) then codes ", type " ++ type_text (byte held 13) (coded_type (byte held 13)) else [])

abbrev pub held_in : (told : ℕ) → List ℕ → List ℕ
held_in told bytes = if told == 0 then codes ", no reservation" else held_text (behind_header told bytes)

-- READ FULL STATUS: a descriptor of 48 bytes with the TransportID of a SAS port, as SAS.PORT, the key, and the type that it
-- holds with R_HOLDER
abbrev pub role_text : List ℕ → List ℕ
role_text descriptor =
    if bit descriptor 12 0 then codes " holder " ++ type_text (byte descriptor 13) (coded_type (byte descriptor 13))
    else codes " registered"

unfoldable pub registration_text : List ℕ → List ℕ
registration_text descriptor =
    if four_bytes descriptor 20 == 24 && byte descriptor 24 == 0x06 then
    codes ", " ++ encode_lower (take 8 (drop 28 descriptor)) ++ codes "." ++ decimal (two_bytes descriptor 18)
    ++ codes " key " ++ encode_lower (take 8 descriptor) ++ role_text descriptor
    else codes ", registration of another form"

abbrev pub registrations_in : (told : ℕ) → List ℕ → List ℕ
registrations_in told bytes =
    if told == 0 then codes ", no registrations" else whole_pieces registration_text 48 (behind_header told bytes)

abbrev pub list_in : ReservationList → (told : ℕ) → List ℕ → List ℕ
list_in Keys told bytes = keys_in told bytes
list_in Reservation told bytes = held_in told bytes
list_in Registrations told bytes = registrations_in told bytes

-- what stands behind the generation: a length, and a list of so many bytes
unfoldable pub listed : ReservationList → List ℕ → List ℕ
listed list bytes =
    if nat_lt (length bytes) 8 then codes ", cut"
    else list_in list (four_bytes bytes 4) bytes ++ cut (8 + four_bytes bytes 4) bytes

abbrev pub reservations_text : ReservationList → List ℕ → List ℕ
reservations_text list bytes = generation_text bytes ++ listed list bytes
