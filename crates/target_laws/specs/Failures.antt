-- A target never answers INTERNAL TARGET FAILURE, 44h/00h (SPC-4, "Sense key and additional sense code definitions"): its marks agree with
-- its drives, so that each move that the map and the marks allow finds them as they say.
use Rattle.std.specs.Prelude.{◌≡◌, false, List, None}
use Rattle.std.specs.List.{All}
use Rattle.device_server.specs.Failures.{is_failure}
use Rattle.judgement.specs.declared.reply.Reply.{Reply}
use Rattle.logical_unit.specs.UnitView.{UnitView}
use Rattle.target_core.specs.declared.event.Event.{Event}
use Rattle.target_core.specs.Faults.{fault_of}
use Rattle.target_core.specs.Run.{Runs}

-- no reply of a run of a target has such sense data
abbrev pub NeverFails : Type 0
NeverFails = (us vs : List UnitView) (es : List Event) (rs : List Reply) → fault_of us ≡ None → Runs us es rs vs → All (λ (r : Reply). is_failure r.sense ≡ false) rs
