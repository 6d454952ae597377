use Rattle.std.proofs.Common.{ℕ, ◌∙◌, rules, subst, sym, ap}
use Rattle.std.specs.Prelude.{filter}
use Rattle.arrayvec.proofs.ArrayVecLemmas.{filter-from_retain}
use Rattle.scsi_nexus.specs.declared.nexus.Nexus.{Nexus}
use Rattle.scsi_nexus.specs.Order.{same_nexus}
use Rattle.pr_core.specs.Table.{IsProper}
use Rattle.pr_core.proofs.TableLaws.{proper-filter}
use Rattle.pr_core.proofs.key_table.KeyTable.keep_only.Goals as goal

pub returns : goal.returns
returns c =
    let test = λ (e : Nexus × ℕ). same_nexus e.0 c.args.nexus in
    filter-from_retain _ test _ (λ x b f' y called. search rules) _ _ c.retain.ensures.filtered ∙ ap (filter test) c.self.view_is

pub invariant_of-self : goal.invariant_of-self
invariant_of-self c =
    let test = λ (e : Nexus × ℕ). same_nexus e.0 c.args.nexus in
    subst IsProper (sym (filter-from_retain _ test _ (λ x b f' y called. search rules) _ _ c.retain.ensures.filtered)) (proper-filter test c.self.inside.entries.items c.self.invariant)
