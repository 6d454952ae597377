-- The laws of protected spans: what every unit that is reached has is found, and the spans of the proofs are used.
use Rattle.std.proofs.Common.{◌≡◌, ℕ, Bool, true, false, cond, not, ◌==◌, List, [], ◌∷◌, Option, Some, None, inl, inr, sym, ap, ◌∙◌, subst}
use Rattle.std.proofs.lemmas.Bool.{not-true}
use Rattle.std.specs.Prelude.{◌⊎◌, length}
use Rattle.scsi_nexus.specs.declared.nexus.Nexus.{Nexus}
use Rattle.permit_tables.specs.declared.res_type.ResType.{ResType}
use Rattle.permit_tables.specs.declared.res_type.ResType.TheVariants as type
use Rattle.permit_tables.specs.Types.{is_all_registrants}
use Rattle.unit_laws.specs.Reservations.{is_kept_by}
use Rattle.pr_core.specs.State.{State, key, is_registered, res_type}
use Rattle.permit_tables.specs.Pairs.{key_in}
use Rattle.judgement.specs.declared.reply.Reply.{Reply}
use Rattle.logical_unit.specs.UnitView.{UnitView}
use Rattle.target_core.specs.declared.event.Event.{Event}
use Rattle.target_core.specs.declared.event.Event.TheVariants as event
use Rattle.protected_span.specs.Reached.{IsReached, AreReached}
use Rattle.protected_span.specs.Span.{Holds, IsFair, BeginsFor, HolderStep, HolderSpan, IsSharedBy, GroupStep, GroupSpan, SpansServe, SpansAreRuns}
use Rattle.protected_span.specs.Struck.{RunsThrough, InSpan, Goes}
use Rattle.protected_span.proofs.InsidersView.{Hold, Begins, IsHeldAs, IsHeldInside, IsShared, HasSlots}
use Rattle.protected_span.proofs.Reaching.{reached_table, reached_holder, step_reaches}
use Rattle.protected_span.proofs.StruckRunIsServed as served
use Rattle.protected_span.proofs.Spans as spans
use Rattle.protected_span.proofs.Spans.{KeptG, AnyG, through_is_run}

-- a holder has a key
keyed : (v : State) (o : Option (ResType × Nexus)) (h : Nexus) → o ≡ Some (type.Ea, h) → is_kept_by v.keys o ≡ true → (key v h == 0) ≡ false
keyed v o h held state = not-true (key v h == 0) (sym (ap (is_kept_by v.keys) held) ∙ state)

hold_of : (u : UnitView) (h : Nexus) → IsReached u → Holds h u → Hold h u.state.reservations
hold_of u h r held = record { holds = held; keyed = keyed u.state.reservations u.state.reservations.reservation h held (reached_holder u r) }

-- and registrants only are held by one of them
inside_of : (v : State) (inside : Nexus → Bool) (o : Option (ResType × Nexus)) → (res_type (record v { reservation = o }) ≡ type.Earo) ⊎ (res_type (record v { reservation = o }) ≡ type.Eaar) → ((n : Nexus) → is_registered v n ≡ inside n) → is_kept_by v.keys o ≡ true
    → IsHeldInside inside o
inside_of v inside None (inl e) registered state = absurd cc
inside_of v inside None (inr e) registered state = absurd cc
inside_of v inside (Some r) (inl e) registered state =
    subst (λ (t : ResType). IsHeldAs inside t r.1) (sym e) (sym (registered r.1) ∙ sym (ap (λ (t : ResType). not (cond (is_all_registrants t) (length v.keys == 0) (key_in v.keys r.1 == 0))) e) ∙ state)
inside_of v inside (Some r) (inr e) registered state = subst (λ (t : ResType). IsHeldAs inside t r.1) (sym e) tt

shared_of : (u : UnitView) (inside : Nexus → Bool) → IsReached u → IsSharedBy inside u.state.reservations → IsShared inside u.state.reservations
shared_of u inside r s = record { held = inside_of u.state.reservations inside u.state.reservations.reservation s.held s.registered (reached_holder u r); registered = s.registered }

begins : (u : UnitView) (h : Nexus) → IsReached u → BeginsFor h u → Begins h u
begins u h r b = record { table = reached_table u r; hold = hold_of u h r b.holds; alone = b.alone }

has_slots : (u : UnitView) → IsReached u → HasSlots u
has_slots u r = record { sorted = r.sorted; few = r.few }

-- ALONG A RUN: what the unit has at each event
module _ (lun : ℕ) (Kept Held : UnitView → Type 0) (May : Nexus → (cdb bytes : List ℕ) → UnitView → UnitView → Type 0) (more : (u : UnitView) → IsReached u → Kept u → Held u) where
  goes_too : (e : Event) (u v : UnitView) → IsReached v → Goes lun Kept May e u v → Goes lun Held May e u v
  goes_too (event.Command n at cdb bytes) u v r g = (more v r g.0, g.1)
  goes_too (event.Loss n at) u v r g = more v r g
  goes_too (event.Reset at) u v r g = more v r g

  through : (us vs : List UnitView) (es : List Event) (rs : List Reply) → AreReached us → RunsThrough (InSpan lun Kept May) us es rs vs → RunsThrough (InSpan lun Held May) us es rs vs
  through us vs [] [] h run = run
  through us vs (e ∷ es) (p ∷ ps) h run =
      let next = step_reaches us run.0 e p h run.1 in
      (run.0, run.1, record { served = run.2.served; goes = λ x y a b. goes_too e x y (next lun y b) (run.2.goes x y a b) }, through run.0 vs es ps next run.3)
  through us vs [] (p ∷ ps) h run = absurd run
  through us vs (e ∷ es) [] h run = absurd run

holder_through : (lun : ℕ) (h : Nexus) (us vs : List UnitView) (es : List Event) (rs : List Reply) → AreReached us → RunsThrough (HolderStep lun h) us es rs vs → RunsThrough (InSpan lun (λ v. Hold h v.state.reservations) (IsFair h)) us es rs vs
holder_through lun h us vs es rs reached run = through lun (Holds h) (λ v. Hold h v.state.reservations) (IsFair h) (λ v r held. hold_of v h r held) us vs es rs reached run

group_through : (lun : ℕ) (inside : Nexus → Bool) (us vs : List UnitView) (es : List Event) (rs : List Reply) → AreReached us → RunsThrough (GroupStep lun inside) us es rs vs → RunsThrough (InSpan lun (KeptG inside) (AnyG inside)) us es rs vs
group_through lun inside us vs es rs reached run = through lun (λ v. IsSharedBy inside v.state.reservations) (KeptG inside) (AnyG inside) (λ v r shared. shared_of v inside r shared) us vs es rs reached run

-- THE LAWS
pub holder_span : HolderSpan
holder_span us vs ws es rs qs lun h u s race =
    spans.holder_span us vs ws es rs qs lun h u s.place (begins u h (s.reached lun u s.place) s.begins) (holder_through lun h us vs es rs s.reached s.run) race

pub group_span : GroupSpan
group_span us vs ws es rs qs lun inside u s race =
    spans.group_span us vs ws es rs qs lun inside u s.place (shared_of u inside (s.reached lun u s.place) s.begins.shared) s.begins.alone (group_through lun inside us vs es rs s.reached s.run) race

pub spans_serve : SpansServe
spans_serve us vs es rs lun u = (
  λ h s.
      let r = s.reached lun u s.place in
      (served.spans_serve us vs es rs lun u s.place (has_slots u r)).0 h (begins u h r s.begins) (holder_through lun h us vs es rs s.reached s.run),
  λ inside s.
      let r = s.reached lun u s.place in
      (served.spans_serve us vs es rs lun u s.place (has_slots u r)).1 inside (shared_of u inside r s.begins.shared) s.begins.alone (group_through lun inside us vs es rs s.reached s.run),
)

pub spans_are_runs : SpansAreRuns
spans_are_runs us vs es rs lun h inside = (through_is_run _ us vs es rs, through_is_run _ us vs es rs, through_is_run _ us vs es rs)
