-- The line of a record that was taken out of its unit: an object of JSON (RFC 8259, "Objects"), or the same values in the same order as
-- words with a blank between them (profile).
use Rattle.std.specs.Prelude.{ℕ, List, [], ◌∷◌, ◌++◌, codes, Option, Some, None, option_map}
use Rattle.std.specs.Fmt.{decimal}
use Rattle.hex.specs.Hex.{encode_lower}
use Rattle.scsi_sense.specs.FixedSense.{fixed_sense}
use Rattle.scsi_sense.specs.Status.{status_code}
use Rattle.scsi_sense.specs.declared.sense.Sense.{Sense}
use Rattle.scsi_nexus.specs.declared.nexus.Nexus.{Nexus}
use Rattle.scsi_nexus.specs.Text.{nexus_text}
use Rattle.permit_tables.specs.Text.{cell_text}
use Rattle.permit_tables.specs.declared.cell.Cell.{Cell}
use Rattle.permit_tables.specs.declared.key_rule.KeyRule.{KeyRule}
use Rattle.permit_tables.specs.declared.key_rule.KeyRule.TheVariants.{K1, K2, K3, K4, K5, K6}
use Rattle.permit_tables.specs.declared.res_type.ResType.{ResType}
use Rattle.audit_log.specs.Hexadecimal.{two_digits}
use Rattle.audit_log.specs.Lines.{act_text, reservation_text}
use Rattle.audit_log.specs.Stages.{stage_number}
use Rattle.audit_log.specs.declared.record.Record.{Record}
use Rattle.pr_core.specs.State.{State}
use Rattle.program_options.specs.declared.record_format.RecordFormat.{RecordFormat}
use Rattle.program_options.specs.declared.record_format.RecordFormat.TheVariants.{Json, Text}
use Rattle.record_lines.specs.Names.{name_in}
use Rattle.record_lines.specs.Standing.{state_after}
use Rattle.record_lines.specs.declared.field.Field.{Field}
use Rattle.record_lines.specs.declared.field.Field.TheVariants.{Time, Unit as TheUnit, Number, Nexus as TheNexus, Name, Class, Stage, Cell as TheCell, Rule, Status, Sense as TheSense, Reservation}
use Rattle.record_lines.specs.declared.host_name.HostName.{HostName}

-- what comes before a value
abbrev pub lead : RecordFormat → Field → List ℕ
lead Json Time = codes "{\"time\":"
lead Json TheUnit = codes ",\"unit\":"
lead Json Number = codes ",\"number\":"
lead Json TheNexus = codes ",\"nexus\":"
lead Json Name = codes ",\"name\":"
lead Json Class = codes ",\"class\":"
lead Json Stage = codes ",\"stage\":"
lead Json TheCell = codes ",\"cell\":"
lead Json Rule = codes ",\"rule\":"
lead Json Status = codes ",\"status\":"
lead Json TheSense = codes ",\"sense\":"
lead Json Reservation = codes ",\"reservation\":"
lead Text Time = []
lead Text field = codes " "

-- on both sides of a value that isn't a number, in the place of one that isn't there, and after the last
abbrev pub mark : RecordFormat → List ℕ
mark Json = codes "\""
mark Text = []

abbrev pub absent : RecordFormat → List ℕ
absent Json = codes "null"
absent Text = codes "-"

abbrev pub line_end : RecordFormat → List ℕ
line_end Json = codes "}\n"
line_end Text = codes "\n"

-- a value that may be absent
abbrev pub value : RecordFormat → Option (List ℕ) → List ℕ
value f None = absent f
value f (Some text) = mark f ++ (text ++ mark f)

abbrev pub rule_name : KeyRule → List ℕ
rule_name K1 = codes "K1"
rule_name K2 = codes "K2"
rule_name K3 = codes "K3"
rule_name K4 = codes "K4"
rule_name K5 = codes "K5"
rule_name K6 = codes "K6"

-- of a record, where it has them
abbrev pub nexus_in : Record → Option (List ℕ)
nexus_in r = option_map nexus_text r.nexus

abbrev pub cell_in : Record → Option (List ℕ)
cell_in r = option_map cell_text r.cell

abbrev pub rule_in : Record → Option (List ℕ)
rule_in r = option_map rule_name r.rule

abbrev pub sense_in : Record → Option (List ℕ)
sense_in r = option_map (λ (s : Sense). encode_lower (fixed_sense s)) r.sense

abbrev pub held_in : Option (ResType × Nexus) → Option (List ℕ)
held_in held = option_map (λ (r : ResType × Nexus). reservation_text (Some r)) held

-- when it was taken, out of which unit, and its number
abbrev pub taken_text : RecordFormat → (time : Option (List ℕ)) → (unit : ℕ) → Record → List ℕ
taken_text f time unit r =
    lead f Time ++ (value f time ++ (lead f TheUnit ++ (decimal unit ++ (lead f Number ++ decimal r.number))))

-- which nexus asked, and for what
abbrev pub asked_text : RecordFormat → (name : Option (List ℕ)) → Record → List ℕ
asked_text f name r =
    lead f TheNexus ++ (value f (nexus_in r) ++ (lead f Name ++ (value f name ++ (lead f Class ++ value f (Some (act_text r.act))))))

-- how it was judged
abbrev pub judged_text : RecordFormat → Record → List ℕ
judged_text f r =
    lead f Stage ++ (decimal (stage_number r.stage) ++ (lead f TheCell ++ (value f (cell_in r) ++ (lead f Rule ++ value f (rule_in r)))))

-- what was answered
abbrev pub answered_text : RecordFormat → Record → List ℕ
answered_text f r =
    lead f Status ++ (value f (Some (two_digits (status_code r.status))) ++ (lead f TheSense ++ value f (sense_in r)))

-- the line: with the reservation before the record
unfoldable pub line_of :
    RecordFormat → (time : Option (List ℕ)) → (unit : ℕ) → (name : Option (List ℕ)) → Option (ResType × Nexus) → Record → List ℕ
line_of f time unit name held r =
    taken_text f time unit r
    ++ (asked_text f name r ++ (judged_text f r ++ (answered_text f r ++ (lead f Reservation ++ (value f (held_in held) ++ line_end f)))))

-- the lines of a unit's records, from what there was before the first; what there is after one is there before the next
abbrev pub lines_of :
    RecordFormat → (time : Option (List ℕ)) → (unit : ℕ) → (names : List HostName) → State → List Record → List ℕ
lines_of f time unit names v [] = []
lines_of f time unit names v (e ∷ es) =
    line_of f time unit (name_in names e.nexus) v.reservation e ++ lines_of f time unit names (state_after v e) es
