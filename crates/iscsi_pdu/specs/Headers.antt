-- A basic header segment: bytes 0 to 3, the lengths of what follows it, and the rest in three parts.
use Rattle.std.specs.Prelude.{ℕ, List, ◌∷◌, ◌++◌}
use Rattle.byteorder.specs.Endian.{big_bytes}
use Rattle.iscsi_pdu.specs.declared.header.Header.{Header}

abbrev pub header : (start lun middle tail : List ℕ) → Header
header start lun middle tail = record { start = start; lun = lun; middle = middle; tail = tail }

-- with the length of the AHS in words of four bytes, and that of the data segment in bytes
abbrev pub header_bytes : (words count : ℕ) → Header → List ℕ
header_bytes words count h = h.start ++ (words ∷ big_bytes 3 count) ++ h.lun ++ h.middle ++ h.tail
