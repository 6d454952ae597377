-- Lines that are written as far as a writer takes them, and what is left of them.
use Rattle.std.specs.Prelude.{◌≡◌, ◌⊎◌, ◌≤◌, ◌-◌, ℕ, List, ◌++◌, ◌==◌, length, drop, count_by, slice_index_or, take, Option, Some, None, string_bytes}
use Rattle.std.specs.Io.KnownBytes.{Appends}
use Rattle.audit_log.specs.declared.record.Record.{Record}
use Rattle.output_lines.specs.AuditLines.{lines_of_records}
use Rattle.output_lines.specs.declared.audit_output.AuditFault.{AuditFault}
use Rattle.output_lines.specs.declared.audit_output.AuditFault.TheVariants.{Write, NoMemory}
use Rattle.output_lines.specs.declared.left_lines.Lines.{Lines}
use Rattle.output_lines.specs.declared.left_records.LeftRecords.{LeftRecords}

-- so many bytes were written, from the first on
pub record WritesSome (written written' : Option (List ℕ)) (bytes : List ℕ) (count : ℕ) : Type 0 where
  pub said : List ℕ
  pub rest : List ℕ
  pub split : bytes ≡ said ++ rest
  pub size : length said ≡ count
  pub appended : Appends written written' said

-- how many lines end in bytes
abbrev pub line_ends : List ℕ → ℕ
line_ends bytes = count_by (λ b. b == 10) bytes

-- so many lines were written whole, and perhaps a part of the next
pub record WritesWhole (written written' : Option (List ℕ)) (bytes : List ℕ) (lines : ℕ) : Type 0 where
  pub count : ℕ
  pub some : WritesSome written written' bytes count
  pub whole : lines ≡ line_ends (take count bytes)

-- what is written of lines where not all are: so many whole, or none for want of memory
abbrev pub WritesPart : (written written' : Option (List ℕ)) → (bytes : List ℕ) → AuditFault → Type 0
WritesPart written written' bytes (Write lines) = WritesWhole written written' bytes lines
WritesPart written written' bytes NoMemory = written' ≡ written

-- how many lines of those are written whole of which some are
abbrev pub whole_of : Lines → ℕ
whole_of l = line_ends (take l.written (string_bytes l.text))

-- what is left of lines of which so many bytes are written
abbrev pub left_of : Lines → List ℕ
left_of l = drop l.written (string_bytes l.text)

-- the lines of the records, as long as these weren't made
abbrev pub left_if : Option Lines → List Record → List ℕ
left_if None records = lines_of_records records
left_if (Some l) records = left_of l

abbrev pub left_in : LeftRecords → List ℕ
left_in r = left_if r.lines r.records.items

-- those of the records that are without a line
abbrev pub whole_if : Option Lines → ℕ
whole_if None = 0
whole_if (Some l) = whole_of l

-- what was written is what is no longer left: no byte is lost, none written twice, and none out of its place
pub record GoesOn (written written' : Option (List ℕ)) (left left' : List ℕ) : Type 0 where
  pub said : List ℕ
  pub appended : Appends written written' said
  pub rest : left ≡ said ++ left'

-- a place in bytes at which a line begins, and none after it
pub record IsBegunAgain (bytes : List ℕ) (place : ℕ) : Type 0 where
  pub within : place ≤ length bytes
  pub begins : (place ≡ 0) ⊎ (slice_index_or bytes (place - 1) 0 ≡ 10)
  pub last : line_ends (drop place bytes) ≡ 0
