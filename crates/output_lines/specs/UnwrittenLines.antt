-- Records whose lines never were written, and what is told of them (profile).
use Rattle.std.specs.Prelude.{ℕ, List, ◌++◌, ◌-◌, length, slice_get, codes, Option, Some, None}
use Rattle.std.specs.Fmt.{decimal}
use Rattle.audit_log.specs.declared.record.Record.{Record}
use Rattle.output_lines.specs.declared.unwritten_records.UnwrittenRecords.{UnwrittenRecords}

-- what is told of so many records of a unit that weren't written, by the first and the last of them, where there are any
abbrev pub unwritten_between : (lun count : ℕ) → (first last : Option Record) → Option UnwrittenRecords
unwritten_between lun count (Some e) (Some f) = Some (record { lun = lun; count = count; first = e.number; last = f.number })
unwritten_between lun count _ _ = None

abbrev pub unwritten_records : (lun : ℕ) → List Record → Option UnwrittenRecords
unwritten_records lun es = unwritten_between lun (length es) (slice_get es 0) (slice_get es (length es - 1))

abbrev pub unwritten_text : UnwrittenRecords → List ℕ
unwritten_text r =
    decimal r.count ++ (codes " records of logical unit " ++ (decimal r.lun ++ (codes " were not written, numbers " ++ (decimal r.first ++ (codes " to " ++ decimal r.last)))))
