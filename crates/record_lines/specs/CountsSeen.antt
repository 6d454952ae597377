-- What a count's words are.
use Rattle.std.specs.Prelude.{ℕ, List, Option}
use Rattle.std.specs.List.{position}
use Rattle.scsi_sense.specs.Status.{status_code}
use Rattle.audit_log.specs.Acts.{act_of}
use Rattle.audit_log.specs.Hexadecimal.{two_digits}
use Rattle.audit_log.specs.Lines.{act_text}
use Rattle.record_lines.specs.Counts.{Count, Kind, role_word, same_kind, type_word}
use Rattle.record_lines.specs.declared.counts.RecordCount.{RecordCount}
use Rattle.record_lines.specs.declared.kind.RecordKind.{RecordKind}

abbrev pub kind_seen : RecordKind → Kind
kind_seen k = record { class = act_text (act_of k.asked); res_type = type_word k.cell; role = role_word k.cell; status = two_digits (status_code k.status) }

abbrev pub count_seen : RecordCount → Count
count_seen c = record { kind = kind_seen c.kind; count = c.count }

-- the place of the first count of a kind
abbrev pub place_of : List RecordCount → Kind → Option ℕ
place_of counts kind = position (λ c. same_kind kind (kind_seen c.kind)) counts
