use Rattle.std.proofs.Common.{ℕ, List, sym, ap, ◌∙◌}
use Rattle.std.specs.Prelude.{unwrap_or}
use Rattle.scsi_nexus.specs.declared.nexus.Nexus.{Nexus}
use Rattle.scsi_nexus.proofs.PlaceLemmas.{find-place, find-no_place}
use Rattle.permit_tables.specs.Pairs.{key_in}
use Rattle.pr_core.proofs.key_table.KeyTable.key.Goals as goal

pub returns-in-Ok : goal.returns-in-Ok
returns-in-Ok c =
    sym (ap (λ o. unwrap_or o 0) (find-place c.args.nexus c.as_slice-entries.result.now c.in-Ok.place (record { 0 = record { sas = 0; port = 0 }; 1 = 0 }) (c.in-Ok.ensures).0 (c.in-Ok.ensures).1 (c.in-Ok.ensures).2))
    ∙ ap (λ (x : List (Nexus × ℕ)). key_in x c.args.nexus) (c.as_slice-entries.ensures.value ∙ c.self.view_is)

pub returns-in-Err : goal.returns-in-Err
returns-in-Err c =
    sym (ap (λ o. unwrap_or o 0) (find-no_place c.args.nexus c.as_slice-entries.result.now c.in-Err.field-0 (c.in-Err.ensures).0 (c.in-Err.ensures).1 (c.in-Err.ensures).2))
    ∙ ap (λ (x : List (Nexus × ℕ)). key_in x c.args.nexus) (c.as_slice-entries.ensures.value ∙ c.self.view_is)
