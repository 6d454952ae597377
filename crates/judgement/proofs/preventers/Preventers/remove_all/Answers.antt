use Rattle.std.proofs.Common.{◌∙◌, not, rules, ap}
use Rattle.std.specs.Prelude.{filter}
use Rattle.arrayvec.proofs.ArrayVecLemmas.{filter-from_retain}
use Rattle.scsi_nexus.specs.declared.nexus.Nexus.{Nexus}
use Rattle.pr_core.specs.Targets.{is_among}
use Rattle.judgement.proofs.preventers.Preventers.remove_all.Goals as goal

pub returns : goal.returns
returns c =
    let test = λ (p : Nexus). not (is_among p c.args.nexuses.now) in
    filter-from_retain _ test _ (λ x b f' y called. search rules) _ _ c.retain.ensures.filtered ∙ ap (filter test) c.self.view_is
