-- Records as lines of text (profile).
use Rattle.std.specs.Prelude.{ℕ, List, ◌++◌, codes, Option, Some, None, if◌then◌else◌}
use Rattle.std.specs.Fmt.{decimal}
use Rattle.scsi_cdb.specs.Classes.{class_of_action}
use Rattle.scsi_sense.specs.Status.{status_code}
use Rattle.scsi_nexus.specs.declared.nexus.Nexus.{Nexus}
use Rattle.scsi_nexus.specs.Text.{nexus_text}
use Rattle.permit_tables.specs.declared.res_type.ResType.{ResType}
use Rattle.permit_tables.specs.Types.{is_all_registrants}
use Rattle.permit_tables.specs.Text.{class_name, type_name, cell_text}
use Rattle.permit_tables.specs.declared.cell.Cell.{Cell}
use Rattle.permit_tables.specs.declared.key_rule.KeyRule.{KeyRule}
use Rattle.permit_tables.specs.declared.key_rule.KeyRule.TheVariants.{K1, K2, K3, K4, K5, K6}
use Rattle.audit_log.specs.Hexadecimal.{two_digits}
use Rattle.audit_log.specs.Stages.{stage_number}
use Rattle.audit_log.specs.declared.act.Act.{Act}
use Rattle.audit_log.specs.declared.act.Act.TheVariants.{Command, ReserveOut, Invalid, Loss, Reset, MediumIn, MediumOut}
use Rattle.audit_log.specs.declared.record.Record.{Record}

-- SAS.PORT, or a dash where nobody asked
abbrev pub sender_text : Option Nexus → List ℕ
sender_text None = codes "-"
sender_text (Some n) = nexus_text n

abbrev pub act_text : Act → List ℕ
act_text (Command class) = class_name class
act_text (ReserveOut params) = class_name (class_of_action params.act)
act_text Invalid = codes "INVALID"
act_text Loss = codes "LOSS"
act_text Reset = codes "RESET"
act_text MediumIn = codes "MEDIUM-IN"
act_text MediumOut = codes "MEDIUM-OUT"

abbrev pub cell_text_or_dash : Option Cell → List ℕ
cell_text_or_dash None = codes "-"
cell_text_or_dash (Some cell) = cell_text cell

abbrev pub rule_text : Option KeyRule → List ℕ
rule_text None = codes "-"
rule_text (Some K1) = codes "K1"
rule_text (Some K2) = codes "K2"
rule_text (Some K3) = codes "K3"
rule_text (Some K4) = codes "K4"
rule_text (Some K5) = codes "K5"
rule_text (Some K6) = codes "K6"

-- the reservation that stood: `-`, or TYPE/SAS.PORT, or TYPE/ALL under an all registrants type
abbrev pub reservation_text : Option (ResType × Nexus) → List ℕ
reservation_text None = codes "-"
reservation_text (Some r) =
    type_name r.0 ++ codes "/"
    ++ (if is_all_registrants r.0 then codes "ALL" else nexus_text r.1)

-- NUMBER NEXUS WHAT
abbrev pub asked_text : Record → List ℕ
asked_text r = decimal r.number ++ codes " " ++ sender_text r.nexus ++ codes " " ++ act_text r.act

-- STAGE CELL RULE STATUS, each after a space
abbrev pub judged_text : Record → List ℕ
judged_text r =
    codes " " ++ decimal (stage_number r.stage)
    ++ codes " " ++ cell_text_or_dash r.cell
    ++ codes " " ++ rule_text r.rule
    ++ codes " " ++ two_digits (status_code r.status)

-- NUMBER NEXUS WHAT STAGE CELL RULE STATUS
unfoldable pub line_of : Record → List ℕ
line_of r = asked_text r ++ judged_text r
