-- When a served library's records are written (profile).
use Rattle.std.specs.Prelude.{Bool, true, false}
use Rattle.output_lines.specs.declared.audit_lines.Audit.{Audit}
use Rattle.output_lines.specs.declared.audit_lines.Audit.TheVariants.{Lines}
use Rattle.output_lines.specs.declared.record_output.RecordOutput.{RecordOutput}
use Rattle.output_lines.specs.declared.record_output.RecordOutput.TheVariants.{AtTheEnd, AsTheyCome}

-- as they come where they are drained, and else what is wanted of them at the end
abbrev pub records_of : Bool → Audit → RecordOutput
records_of true audit = AsTheyCome
records_of false audit = AtTheEnd audit

-- what is written of the records that are left at the end
abbrev pub of_the_rest : RecordOutput → Audit
of_the_rest (AtTheEnd audit) = audit
of_the_rest AsTheyCome = Lines
