use Rattle.std.proofs.Common.{◌+◌, ◌-◌, ◌≤◌, length, vec_len, vec_capacity}
use Rattle.logical_unit.specs.UnitView.{units_of}
use Rattle.target_core.proofs.Runs.{Told}
use Rattle.target_core.proofs.target.TargetCore.run.Given as goal

-- the replies so far are those of a run of the events so far, and there is room for the others
abbrev pub invariant-loop-event : goal.invariant-loop-event
invariant-loop-event g l = record {
  told : Told (units_of l.fn.self) l.events l.event-index l.fn.replies.items l.replies.items (units_of l.self);
  room : vec_len l.replies + (length l.events - l.event-index) ≤ vec_capacity l.replies;
}
