use Rattle.std.proofs.Common.{sym, ap, ◌∙◌, rules}
use Rattle.std.specs.Prelude.{option_map}
use Rattle.pr_core.specs.Acts.{act_shown}
use Rattle.pr_core.proofs.RoomForKeys.{room}
use Rattle.pr_core.proofs.state.PrState.apply_to.Goals as goal

pub accept-requires-clause-room : goal.accept-requires-clause-room
accept-requires-clause-room c = room c.args.self.now c.args.nexus c.args.params.now (act_shown c.in-Some-act_of.act) c.registrations-registrations.ensures.ascending c.registrations-registrations.ensures.room (sym c.refusal.ensures ∙ c.in_default.is) c.requires.allowed (sym c.act_of.ensures ∙ ap (option_map act_shown) c.in-Some-act_of.is)

pub returns-in-Some-clause-unchanged : goal.returns-in-Some-clause-unchanged
returns-in-Some-clause-unchanged c = search rules fits 100
