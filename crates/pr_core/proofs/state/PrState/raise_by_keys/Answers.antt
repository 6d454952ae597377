use Rattle.std.proofs.Common.{ℕ, ◌+◌, drop, sym, ap, ◌∙◌}
use Rattle.std.specs.Prelude.{option_map}
use Rattle.std.proofs.lemmas.List.{at_drop_all}
use Rattle.unit_attention.specs.Queues.{Slots}
use Rattle.scsi_nexus.specs.declared.nexus.Nexus.{Nexus}
use Rattle.pr_core.specs.Acts.{act_shown}
use Rattle.pr_core.specs.Outcome.{raised_for}
use Rattle.pr_core.proofs.RaisedLaws.{all_told, told_some, told_none, key_read}
use Rattle.pr_core.proofs.state.PrState.raise_by_keys.Goals as goal
use Rattle.pr_core.proofs.state.PrState.raise_by_keys.Goals.{in-Some, in_default}

pub returns : goal.returns
returns c =
    let told = raised_for c.args.self.now c.args.sender (act_shown c.args.act) in
    sym (at_drop_all (all_told told c.loop-nexus.queues) c.registrations-nexus-items.result.now c.loop-nexus.nexus-index c.loop-nexus-test.false)
    ∙ c.loop-nexus.invariant ∙ ap (all_told told c.args.queues.now) c.registrations-nexus-items.ensures.list

pub loop-nexus-preserved : goal.loop-nexus-preserved
loop-nexus-preserved c =
    let v = c.args.self.now in
    let told = raised_for v c.args.sender (act_shown c.args.act) in
    let entries = c.registrations-nexus-items.result.now in
    let none : Nexus × ℕ = record { 0 = record { sas = 0; port = 0 }; 1 = 0 } in
    let rest = drop (c.loop-nexus.nexus-index + 1) entries in
    let is = c.raised.ensures v (key_read entries v.keys c.loop-nexus.nexus-index none c.registrations-nexus-items.ensures.list c.registrations-nexus-items.ensures.ascending c.loop-nexus-test.true) c.standing-standing.ensures in
    elim c.match-raised.branch [
      | in-Some w ↦
          ap (λ (q : Slots). all_told told q rest) (w.queues-is ∙ w.raise.ensures)
          ∙ sym (told_some told c.loop-nexus.queues entries c.loop-nexus.nexus-index none (_, w.in-Some.kind) c.loop-nexus-test.true (sym is ∙ ap (option_map (λ kind. (_, kind))) w.in-Some.is))
          ∙ c.loop-nexus.invariant
      | in_default w ↦
          ap (λ (q : Slots). all_told told q rest) w.queues-is
          ∙ sym (told_none told c.loop-nexus.queues entries c.loop-nexus.nexus-index none c.loop-nexus-test.true (sym is ∙ ap (option_map (λ kind. (_, kind))) w.in_default.is))
          ∙ c.loop-nexus.invariant
    ]
