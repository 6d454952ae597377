-- A PDU in a stream: its basic header segment, additional header segments (AHS), and its data segment, padded to words of four
-- bytes (RFC 7143, "iSCSI PDU Length and Padding", "PDU Template, Header, and Opcodes").
use Rattle.std.specs.Prelude.{ℕ, ◌+◌, ◌-◌, ◌*◌, ◌/◌, ◌==◌, ◌||◌, nat_lt, List, [], ◌∷◌, ◌++◌, length, take, drop, Option, Some, None, if◌then◌else◌}
use Rattle.byteorder.specs.Endian.{big_bytes}
use Rattle.iscsi_pdu.specs.Fields.{byte, two, three}
use Rattle.iscsi_pdu.specs.declared.fault.PduFault.{PduFault}
use Rattle.iscsi_pdu.specs.declared.fault.PduFault.TheVariants.{AhsTooLong, DataSegmentTooLong}

-- what a stream begins with: less than a PDU, of which so many bytes are wanted; one of so many bytes; or a fault
pub data Found (P : Type 0) : Type 0 where
  Partial : (wanted : ℕ) → Found P
  Complete : P → (count : ℕ) → Found P
  Invalid : PduFault → Found P

-- more than a part of a PDU
abbrev pub IsKnown : {P : Type 0} → Found P → Type 0
IsKnown (Partial wanted) = ⊥
IsKnown _ = Unit {0}

pub record SegmentsValue : Type 0 where
  pub header : List ℕ
  pub ahs : List ℕ
  pub payload : List ℕ

abbrev pub padded : ℕ → ℕ
padded n = (n + 3) / 4 * 4

abbrev pub padding : ℕ → List ℕ
padding n = take (padded n - n) (0 ∷ 0 ∷ 0 ∷ [])

-- with AHS and a data segment of so many bytes
abbrev pub sized : (ahs count : ℕ) → (bytes : List ℕ) → Found SegmentsValue
sized ahs count bytes =
    if nat_lt (length bytes) (48 + ahs + padded count) then Partial (48 + ahs + padded count)
    else Complete (record { header = take 48 bytes; ahs = take ahs (drop 48 bytes); payload = take count (drop (48 + ahs) bytes) }) (48 + ahs + padded count)

-- with AHS of so many words
abbrev pub measured : (limit words count : ℕ) → (bytes : List ℕ) → Found SegmentsValue
measured limit words count bytes =
    if nat_lt 64 words then Invalid AhsTooLong
    else if nat_lt limit count then Invalid DataSegmentTooLong
    else sized (4 * words) count bytes

-- TotalAHSLength is byte 4, DataSegmentLength bytes 5 to 7
unfoldable pub segments : (limit : ℕ) → (bytes : List ℕ) → Found SegmentsValue
segments limit bytes =
    if nat_lt (length bytes) 48 then Partial 48 else measured limit (byte bytes 4) (three bytes 5) bytes

-- the bytes of a CDB behind its first 16, in an AHS of type 01h: AHSLength, two bytes, counts a reserved byte and these
abbrev pub counted_cdb : (count : ℕ) → (ahs : List ℕ) → Option (List ℕ)
counted_cdb count ahs =
    if (count == 0) || nat_lt (length ahs) (3 + count) then None else Some (take (count - 1) (drop 4 ahs))

-- of AHS that begin with another type there are none
abbrev pub extended_cdb : (ahs : List ℕ) → Option (List ℕ)
extended_cdb ahs =
    if nat_lt (length ahs) 4 then Some []
    else if byte ahs 2 == 0x01 then counted_cdb (two ahs 0) ahs
    else Some []

-- such an AHS
abbrev pub extended_ahs : (cdb : List ℕ) → List ℕ
extended_ahs [] = []
extended_ahs (first ∷ more) =
    big_bytes 2 (length (first ∷ more) + 1) ++ 0x01 ∷ 0 ∷ [] ++ (first ∷ more) ++ padding (length (first ∷ more))
