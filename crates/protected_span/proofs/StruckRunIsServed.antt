-- What is left of a span can be served.
use Rattle.std.proofs.Common.{◌≡◌, ℕ, Bool, true, List, Some, is_some, refl, sym, ap}
use Rattle.std.specs.Prelude.{slice_get}
use Rattle.std.specs.List.{list_all}
use Rattle.scsi_cdb.specs.declared.profile.CommandSet.{CommandSet}
use Rattle.scsi_nexus.specs.declared.nexus.Nexus.{Nexus}
use Rattle.unit_attention.specs.Queues.{has_slot}
use Rattle.device_server.specs.View.{commands_of}
use Rattle.logical_unit.specs.UnitView.{UnitView}
use Rattle.judgement.specs.declared.reply.Reply.{Reply}
use Rattle.target_core.specs.declared.event.Event.{Event}
use Rattle.protected_span.specs.Span.{is_the_holder, IsFair}
use Rattle.protected_span.specs.Struck.{struck, RunsThrough, InSpan, Serves}
use Rattle.protected_span.proofs.InsidersView.{IsShared, Hold, Begins, HasSlots}
use Rattle.protected_span.proofs.RoomOfStruckRuns.{roomy_self}
use Rattle.protected_span.proofs.Spans.{Rel, RelG, Kept, KeptG, AnyG, exact, all_exact, along, along_g, holder_start, group_start}
use Rattle.protected_span.proofs.Serve.{serves}

slots_h : (h : Nexus) (k : CommandSet) (f g : UnitView) (n : Nexus) → is_the_holder h n ≡ true → Rel h k f g → has_slot g.state.slots n ≡ has_slot f.state.slots n
slots_h h k f g n is rel = sym (ap is_some (rel.state.slots n is))

slots_g : (inside : Nexus → Bool) (f g : UnitView) (n : Nexus) → inside n ≡ true → RelG inside f g → has_slot g.state.slots n ≡ has_slot f.state.slots n
slots_g inside f g n is rel = sym (ap is_some (rel.state.slots n is))

pub spans_serve : (us vs : List UnitView) (es : List Event) (rs : List Reply) (lun : ℕ) (u : UnitView) → slice_get us lun ≡ Some u → HasSlots u
    → ((h : Nexus) → Begins h u → RunsThrough (InSpan lun (λ v. Hold h v.state.reservations) (IsFair h)) us es rs vs → Serves us (struck lun (is_the_holder h) es))
    × ((inside : Nexus → Bool) → IsShared inside u.state.reservations → list_all inside u.state.preventers ≡ true → RunsThrough (InSpan lun (KeptG inside) (AnyG inside)) us es rs vs → Serves us (struck lun inside es))
spans_serve us vs es rs lun u here slots = (
  λ h begins run.
      let k = commands_of u.device in
      serves lun (is_the_holder h) (exact h k) (Kept h k) (IsFair h) (Rel h k) (along h k) (slots_h h k) us us vs es rs
      (record { f = u; g = u; here = here; there = here; rest = λ j apart. refl; related = record { rel = holder_start h u begins; room = roomy_self u slots.sorted slots.few } }) run,
  λ inside shared alone run.
      serves lun inside (all_exact inside) (KeptG inside) (AnyG inside) (RelG inside) (along_g inside) (slots_g inside) us us vs es rs
      (record { f = u; g = u; here = here; there = here; rest = λ j apart. refl; related = record { rel = group_start inside u shared alone; room = roomy_self u slots.sorted slots.few } }) run,
)
