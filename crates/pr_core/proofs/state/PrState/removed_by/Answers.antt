use Rattle.std.proofs.Common.{ℕ, length, get_or, sym, ap, ◌∙◌, arith}
use Rattle.std.proofs.lemmas.List.{length_push}
use Rattle.scsi_nexus.specs.declared.nexus.Nexus.{Nexus}
use Rattle.pr_core.specs.Acts.{act_shown}
use Rattle.pr_core.specs.Outcome.{is_removed}
use Rattle.pr_core.proofs.RaisedLaws.{key_read, passing_some, passing_none, listed}
use Rattle.pr_core.proofs.state.PrState.removed_by.Goals as goal
use Rattle.pr_core.proofs.state.PrState.removed_by.Goals.{then-removes, else-removes}

pub loop-nexus-preserved : goal.loop-nexus-preserved
loop-nexus-preserved c =
    let v = c.args.self.now in
    let test = is_removed v c.args.sender (act_shown c.args.act) in
    let entries = c.registrations-nexus-items.result.now in
    let none : Nexus × ℕ = record { 0 = record { sas = 0; port = 0 }; 1 = 0 } in
    let nexus = (get_or entries c.loop-nexus.nexus-index none).0 in
    let is = c.removes.ensures v (key_read entries v.keys c.loop-nexus.nexus-index none c.registrations-nexus-items.ensures.list c.registrations-nexus-items.ensures.ascending c.loop-nexus-test.true) c.is_taking-is_taking.ensures c.is_all_held-is_all_held.ensures in
    elim c.if-removes.branch [
      | then-removes w ↦
          let whole = w.removed-is ∙ listed w.push.result c.loop-nexus.removed w.push.new.self nexus w.push.ensures.ok w.push.ensures.full (omega (arith, c.loop-nexus.invariant.1, c.loop-nexus-test.true, ap length c.registrations-nexus-items.ensures.list, c.registrations-nexus-items.ensures.room)) in (
            whole ∙ passing_some test entries c.loop-nexus.nexus-index none c.loop-nexus.removed c.loop-nexus-test.true (sym is ∙ w.if-removes.true) c.loop-nexus.invariant.0,
            omega (arith, ap length whole, length_push c.loop-nexus.removed nexus, c.loop-nexus.invariant.1),
          )
      | else-removes w ↦ (
        w.removed-is ∙ passing_none test entries c.loop-nexus.nexus-index none c.loop-nexus.removed c.loop-nexus-test.true (sym is ∙ w.if-removes.false) c.loop-nexus.invariant.0,
        omega (arith, ap length w.removed-is, c.loop-nexus.invariant.1),
      )
    ]
