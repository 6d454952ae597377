-- Units as they can be at some moment after power on: what that says of them, and that each step of a run keeps it.
use Rattle.std.proofs.Common.{◌≡◌, ℕ, zero, suc, Bool, true, false, ◌==◌, List, [], ◌∷◌, ◌++◌, Option, Some, None, Result, Ok, Err, inl, inr, refl, sym, ap, ◌∙◌, subst, arith}
use Rattle.std.specs.Prelude.{slice_get, slice_set}
use Rattle.std.proofs.lemmas.List.Sums.{fold-append}
use Rattle.std.specs.List.{fold}
use Rattle.std.proofs.lemmas.Map.Views.{exact_unsigned_eq}
use Rattle.scsi_nexus.specs.declared.nexus.Nexus.{Nexus}
use Rattle.scsi_sense.specs.declared.condition.Condition.{Condition}
use Rattle.unit_attention.specs.Queues.{has_slot}
use Rattle.permit_tables.specs.declared.out_params.OutParams.{OutParams}
use Rattle.pr_core.specs.State.{State, power_on}
use Rattle.pr_core.specs.Judge.{verdict}
use Rattle.pr_core.specs.Outcome.{refusal, applied}
use Rattle.unit_laws.specs.Reservations.{commanded}
use Rattle.unit_laws.specs.Reservations as laws
use Rattle.permit_tables.specs.declared.pr_fault.PrFault.{PrFault}
use Rattle.pr_core.specs.declared.verdict.Verdict.{Verdict}
use Rattle.pr_core.specs.declared.verdict.Verdict.TheVariants.{Allowed, Denied, Rule}
use Rattle.pr_core.proofs.KeyLaws.{proper-power_on}
use Rattle.unit_laws.proofs.CommandLaws.{holder_is_registered}
use Rattle.tape_medium.specs.declared.volume.Volume.{Volume}
use Rattle.audit_log.specs.declared.record.Record.{Record}
use Rattle.device_server.specs.View.{DeviceView, commands_of, drives_of}
use Rattle.judgement.specs.declared.reply.Reply.{Reply}
use Rattle.logical_unit.specs.Medium.{taken_out, put_in}
use Rattle.logical_unit.specs.Move.{TwoDrives, is_left, judged_at, errand_at, carried_one, carried_two, MovesOne, MovesTwo}
use Rattle.logical_unit.specs.Step.{Executes, IsLost, IsReset, HasNumber, HasNumbers, answered, resets, drained}
use Rattle.logical_unit.specs.UnitView.{UnitView}
use Rattle.logical_unit.specs.declared.medium_fault.MediumFault.{MediumFault}
use Rattle.logical_unit.proofs.SameUnits.{out_same, in_same}
use Rattle.target_core.specs.declared.event.Event.{Event}
use Rattle.target_core.specs.declared.event.Event.TheVariants as event
use Rattle.target_core.specs.Run.{AtUnit, MovesWith, MovesBetween, CommandsNaming, CommandsAt, LosesAt, ResetsAt, Steps, DrainsAt}
use Rattle.target_core.proofs.History.{get-set_other}
use Rattle.protected_span.specs.Reached.{IsReached, AreReached, PowerOnIsReached, DrainedIsReached, RunsReach, began, ran, drained_one, AllAreReached}
use Rattle.protected_span.proofs.InsidersView.{IsTable}
use Rattle.protected_span.proofs.Carry.{Same, With, Takes, BothDrives, one_alike, two_alike}
use Rattle.protected_span.proofs.Changes.{Change, executes_changes, change_table}
use Rattle.protected_span.proofs.Ended.{Ended, MovesBy, end_drives, end_of_move, ended_changes}
use Rattle.logical_unit.specs.Route.{named, records_of}
use Rattle.target_core.proofs.Places.{same_some}
use Rattle.protected_span.proofs.Places.{apart_of}
use Rattle.protected_span.proofs.RoomOfStruckRuns.{Roomy, roomy_self, strike_roomy, lose_roomy, reset_roomy}
use Rattle.protected_span.proofs.RelatedWithRoom.{ended_roomy, both_roomy, out_number, in_number}
use Rattle.protected_span.proofs.Shape.{shape_self}
use Rattle.protected_span.proofs.Units.{loss_known, lost_reservations}

-- THE REGISTRATIONS
abbrev Reaches : State → Type 0
Reaches v = (commands : List (Nexus × OutParams)) × (v ≡ commanded commands)

carried : (v : State) (n : Nexus) (p : OutParams) → verdict v n p ≡ Allowed → refusal v n p ≡ None → laws.answered v n p ≡ applied v n p
carried v n p allowed free =
    ap (λ (w : Verdict). elim w [ Allowed ↦ elim (refusal v n p) [ None ↦ applied v n p | Some fault ↦ v ] | Denied cell ↦ v | Rule rule ↦ v ]) allowed
    ∙ ap (λ (o : Option PrFault). elim o [ None ↦ applied v n p | Some fault ↦ v ]) free

-- one command more
one_more : (commands : List (Nexus × OutParams)) (n : Nexus) (p : OutParams) → commanded (commands ++ (n, p) ∷ []) ≡ laws.answered (commanded commands) n p
one_more commands n p = fold-append (λ (v : State) (c : Nexus × OutParams). laws.answered v c.0 c.1) power_on commands ((n, p) ∷ [])

reaches_change : (v : State) (n : Nexus) (w : State) → Change v n w → Reaches v → Reaches w
reaches_change v n w (inl same) r = (r.0, same ∙ r.1)
reaches_change v n w (inr a) r = (
  r.0 ++ (n, a.params) ∷ [],
  a.is ∙ sym (carried v n a.params a.allowed a.free) ∙ ap (λ (s : State). laws.answered s n a.params) r.1 ∙ sym (one_more r.0 n a.params),
)

-- keys in order, and no more than there is room for
answered_table : (v : State) (n : Nexus) (p : OutParams) → IsTable v → IsTable (laws.answered v n p)
answered_table v n p t =
    elim (verdict v n p) as (λ (w : Verdict). verdict v n p ≡ w → IsTable (elim w [ Allowed ↦ elim (refusal v n p) [ None ↦ applied v n p | Some fault ↦ v ] | Denied cell ↦ v | Rule rule ↦ v ])) [
      | Allowed ↦ λ allowed. elim (refusal v n p) as (λ (o : Option PrFault). refusal v n p ≡ o → IsTable (elim o [ None ↦ applied v n p | Some fault ↦ v ])) [
        | None ↦ λ free. change_table v n (applied v n p) (inr (record { params = p; allowed = allowed; free = free; is = refl })) t
        | Some fault ↦ λ _. t
      ] refl
      | Denied cell ↦ λ _. t
      | Rule rule ↦ λ _. t
    ] refl

table_of : (v : State) (commands : List (Nexus × OutParams)) → IsTable v → IsTable (fold (λ w c. laws.answered w c.0 c.1) v commands)
table_of v [] t = t
table_of v (c ∷ commands) t = table_of (laws.answered v c.0 c.1) commands (answered_table v c.0 c.1 t)

pub reached_table : (u : UnitView) → IsReached u → IsTable u.state.reservations
reached_table u h = subst IsTable (sym h.reservations) (table_of power_on h.commands (record { proper = proper-power_on; room = omega arith }))

pub reached_holder : (u : UnitView) → IsReached u → laws.is_kept_by u.state.reservations.keys u.state.reservations.reservation ≡ true
reached_holder u h = ap (λ (v : State). laws.is_kept_by v.keys v.reservation) h.reservations ∙ holder_is_registered h.commands

-- THE UNITS
room_of : (u : UnitView) → IsReached u → Roomy u u
room_of u r = roomy_self u r.sorted r.few

reached_by : (u v : UnitView) → IsReached u → Reaches v.state.reservations → (w : UnitView) → Roomy v w → IsReached v
reached_by u v r s w room = record { commands = s.0; reservations = s.1; sorted = room.left; few = room.few }

same_reaches : (u v : UnitView) → v.state.reservations ≡ u.state.reservations → IsReached u → Reaches v.state.reservations
same_reaches u v same r = (r.commands, same ∙ r.reservations)

pub executes_reaches : (u v : UnitView) (n : Nexus) (cdb bytes : List ℕ) (r : Reply) → IsReached u → Executes u n cdb bytes (v, r) → IsReached v
executes_reaches u v n cdb bytes r h (inl e) = subst IsReached (sym (ap (λ (x : UnitView × Reply). x.0) e)) h
executes_reaches u v n cdb bytes r h (inr e) =
    let is : v ≡ (answered u n cdb bytes).0 = ap (λ (x : UnitView × Reply). x.0) e.2 in
    let reaches = reaches_change u.state.reservations n v.state.reservations (executes_changes u v n cdb bytes r (inr e)) (h.commands, h.reservations) in
    reached_by u v h reaches u (subst (λ (x : UnitView). Roomy x u) (sym is) (strike_roomy u u n cdb bytes e.0 (room_of u h)))

-- A MOVE, at the changer and at the drives
ended_reaches : {A : Type 0} (c v : UnitView) (n : Nexus) (cdb bytes : List ℕ) (r : Reply) (drives after : A) (x : Result (DeviceView × A) Condition) → IsReached c → Ended c v n cdb bytes r drives after x → IsReached v
ended_reaches c v n cdb bytes r drives after x h e =
    reached_by c v h (reaches_change c.state.reservations n v.state.reservations (ended_changes c v n cdb bytes r drives after x e) (h.commands, h.reservations)) v (ended_roomy c v c v n cdb bytes r r drives after after x x refl (room_of c h) e e)

-- a drive beside itself
abbrev Self : UnitView → UnitView → Type 0
Self x y = (x ≡ y) × IsReached x

out_reaches : (f : UnitView) (o : Result (Volume × UnitView) MediumFault) → taken_out f ≡ o → IsReached f → Same (With Self) o o
out_reaches f (Err fault) e h = refl
out_reaches f (Ok a) e h =
    let moved = out_number f a.1 a.0 e (shape_self f.state.slots h.sorted) in
    (refl, (refl, reached_by f a.1 h (same_reaches f a.1 (out_same f a.1 a.0 e).reservations h) a.1 (both_roomy f f a.1 a.1 (room_of f h) moved moved)))

in_reaches : (f : UnitView) (v : Volume) (o : Result UnitView MediumFault) → put_in f v ≡ o → IsReached f → Same Self o o
in_reaches f v (Err fault) e h = refl
in_reaches f v (Ok a) e h =
    let moved = in_number f a v e h.sorted in
    (refl, reached_by f a h (same_reaches f a (in_same f a v e).reservations h) a (both_roomy f f a a (room_of f h) moved moved))

self_takes : Takes Self
self_takes = record {
  out = λ f g d. subst (λ (x : UnitView). Same (With Self) (taken_out f) (taken_out x)) d.0 (out_reaches f (taken_out f) refl d.1);
  comes = λ f g v d. subst (λ (x : UnitView). Same Self (put_in f v) (put_in x v)) d.0 (in_reaches f v (put_in f v) refl d.1);
}

drive_by : (b : Bool) (d : UnitView) (x : Result (DeviceView × UnitView) Condition) → IsReached d → Same (With Self) x x → IsReached (end_drives b d x)
drive_by false d x h s = h
drive_by true d (Ok it) h s = s.1.1
drive_by true d (Err condition) h s = h

abbrev AreBoth : TwoDrives → Type 0
AreBoth ds = IsReached ds.low × IsReached ds.high

drives_by : (b : Bool) (ds : TwoDrives) (x : Result (DeviceView × TwoDrives) Condition) → AreBoth ds → Same (With (BothDrives Self Self)) x x → AreBoth (end_drives b ds x)
drives_by false ds x h s = h
drives_by true ds (Ok it) h s = (s.1.0.1, s.1.1.1)
drives_by true ds (Err condition) h s = h

-- what isn't BUSY ended, and BUSY left all as it was
by_busy : {A : Type 0} (P : UnitView → A → Type 0) (c v : UnitView) (n : Nexus) (cdb bytes : List ℕ) (r : Reply) (drives after : A) (x : Result (DeviceView × A) Condition) (N : Type 0) → P c drives
    → (Ended c v n cdb bytes r drives after x → P v after) → MovesBy c n cdb bytes drives x N ((v, r), after) → P v after
by_busy {A} P c v n cdb bytes r drives after x N same ended (inl e) = subst (λ (z : (UnitView × Reply) × A). P z.0.0 z.1) (sym e) same
by_busy {A} P c v n cdb bytes r drives after x N same ended (inr e) = ended (end_of_move c v n cdb bytes r drives after x N e)

one_reaches : (c d v e : UnitView) (n : Nexus) (cdb bytes : List ℕ) (r : Reply) → IsReached c → IsReached d → MovesOne c d n cdb bytes ((v, r), e) → IsReached v × IsReached e
one_reaches c d v e n cdb bytes r hc hd moves =
    let x = carried_one c.device d (errand_at c cdb) in
    by_busy (λ v e. IsReached v × IsReached e) c v n cdb bytes r d e x (HasNumbers d (records_of (errand_at c cdb))) (hc, hd)
    (λ a. (
      ended_reaches c v n cdb bytes r d e x hc a,
      subst IsReached (sym a.drives_are) (drive_by (is_left (judged_at c n cdb bytes).2.sense) d x hd (one_alike Self self_takes c.device d d (errand_at c cdb) (refl, hd))),
    )) moves

two_reach : (c v : UnitView) (ds es : TwoDrives) (n : Nexus) (cdb bytes : List ℕ) (r : Reply) → IsReached c → AreBoth ds → MovesTwo c ds n cdb bytes ((v, r), es) → IsReached v × AreBoth es
two_reach c v ds es n cdb bytes r hc hd moves =
    let x = carried_two c.device ds (errand_at c cdb) in
    by_busy (λ v es. IsReached v × AreBoth es) c v n cdb bytes r ds es x (HasNumber ds.low × HasNumber ds.high) (hc, hd)
    (λ a. (
      ended_reaches c v n cdb bytes r ds es x hc a,
      subst AreBoth (sym a.drives_are) (drives_by (is_left (judged_at c n cdb bytes).2.sense) ds x hd (two_alike Self Self self_takes self_takes c.device ds ds (errand_at c cdb) ((refl, hd.0), (refl, hd.1)))),
    )) moves

-- A LOSS, AND A RESET
loss_reaches : (u v : UnitView) (n : Nexus) (r : Reply) → IsReached u → IsLost u n (v, r) → IsReached v
loss_reaches u v n r h (inl e) = subst IsReached (sym (ap (λ (x : UnitView × Reply). x.0) e.0)) h
loss_reaches u v n r h (inr e) =
    let is = loss_known none (has_slot u.state.slots n) u v n e.0 e.1 in
    reached_by u v h (same_reaches u v (ap (λ (x : UnitView). x.state.reservations) is ∙ lost_reservations none u n (has_slot u.state.slots n)) h) v (lose_roomy u u v v n (room_of u h) is is)
  where
    none : Nexus → Bool
    none m = true

reset_reaches : (u v : UnitView) (r : Reply) → IsReached u → IsReset u (v, r) → IsReached v
reset_reaches u v r h (inl e) = subst IsReached (sym (ap (λ (x : UnitView × Reply). x.0) e)) h
reset_reaches u v r h (inr e) =
    let is : v ≡ resets u = ap (λ (x : UnitView × ℕ). x.0) e.1.1 in
    reached_by u v h (same_reaches u v (ap (λ (x : UnitView). x.state.reservations) is) h) v (reset_roomy u u v v (room_of u h) is is)

-- AT THE PLACES
one_less : (a b : ℕ) → suc a ≡ suc b → a ≡ b
one_less a b e = cc

set_at_it : (us : List UnitView) (at lun : ℕ) (x u : UnitView) → at ≡ lun → IsReached x → slice_get (slice_set us at x) lun ≡ Some u → IsReached u
set_at_it [] at lun x u same is here = absurd cc
set_at_it (z ∷ us) zero zero x u same is here = subst IsReached (same_some x u here) is
set_at_it (z ∷ us) zero (suc k) x u same is here = absurd cc
set_at_it (z ∷ us) (suc j) zero x u same is here = absurd cc
set_at_it (z ∷ us) (suc j) (suc k) x u same is here = set_at_it us j k x u (one_less j k same) is here

set_reaches : (us : List UnitView) (at : ℕ) (x : UnitView) → AreReached us → IsReached x → AreReached (slice_set us at x)
set_reaches us at x h is lun u here =
    elim (at == lun) as (λ b. (at == lun) ≡ b → IsReached u) [
      | true ↦ λ e. set_at_it us at lun x u (exact_unsigned_eq at lun e) is here
      | false ↦ λ e. h lun u (sym (get-set_other us at lun x (apart_of at lun e)) ∙ here)
    ] refl

are : (us ms : List UnitView) → ms ≡ us → AreReached us → AreReached ms
are us ms e h = subst AreReached (sym e) h

alone_reaches : (us ms : List UnitView) (at : ℕ) (x : UnitView) (n : Nexus) (cdb bytes : List ℕ) (r : Reply) → slice_get us at ≡ Some x → AreReached us → AtUnit us at (Executes x n cdb bytes) (ms, r) → AreReached ms
alone_reaches us ms at x n cdb bytes r here h a = are _ ms a.units (set_reaches us at a.unit h (executes_reaches x a.unit n cdb bytes r (h at x here) a.step))

with_reaches : (us ms : List UnitView) (l : ℕ) (c : UnitView) (d : Option UnitView) (n : Nexus) (cdb bytes : List ℕ) (r : Reply) → slice_get us 0 ≡ Some c → slice_get us l ≡ d → AreReached us → MovesWith us c l d n cdb bytes (ms, r) → AreReached ms
with_reaches us ms l c None n cdb bytes r first there h a = alone_reaches us ms 0 c n cdb bytes r first h a
with_reaches us ms l c (Some d) n cdb bytes r first there h a =
    let both = one_reaches c d a.changer a.other n cdb bytes r (h 0 c first) (h l d there) a.step in
    are _ ms a.units (set_reaches (slice_set us 0 a.changer) l a.other (set_reaches us 0 a.changer h both.0) both.1)

between_reaches : (us ms : List UnitView) (l m : ℕ) (c : UnitView) (d e : Option UnitView) (n : Nexus) (cdb bytes : List ℕ) (r : Reply) → slice_get us 0 ≡ Some c → slice_get us l ≡ d → slice_get us m ≡ e → AreReached us → MovesBetween us c l m d e n cdb bytes (ms, r) → AreReached ms
between_reaches us ms l m c None e n cdb bytes r first low high h a = alone_reaches us ms 0 c n cdb bytes r first h a
between_reaches us ms l m c (Some d) None n cdb bytes r first low high h a = alone_reaches us ms 0 c n cdb bytes r first h a
between_reaches us ms l m c (Some d) (Some e) n cdb bytes r first low high h a =
    let both = two_reach c a.changer (record { low = d; high = e }) a.drives n cdb bytes r (h 0 c first) (h l d low, h m e high) a.step in
    are _ ms a.units (set_reaches (slice_set (slice_set us 0 a.changer) l a.drives.low) m a.drives.high (set_reaches (slice_set us 0 a.changer) l a.drives.low (set_reaches us 0 a.changer h both.0) both.1.0) both.1.1)

naming_reaches : (us ms : List UnitView) (names : List ℕ) (c : UnitView) (n : Nexus) (cdb bytes : List ℕ) (r : Reply) → slice_get us 0 ≡ Some c → AreReached us → CommandsNaming us c names n cdb bytes (ms, r) → AreReached ms
naming_reaches us ms [] c n cdb bytes r first h a = alone_reaches us ms 0 c n cdb bytes r first h a
naming_reaches us ms (l ∷ []) c n cdb bytes r first h a = with_reaches us ms l c (slice_get us l) n cdb bytes r first refl h a
naming_reaches us ms (l ∷ m ∷ more) c n cdb bytes r first h a = between_reaches us ms l m c (slice_get us l) (slice_get us m) n cdb bytes r first refl refl h a

command_reaches : (us ms : List UnitView) (at : ℕ) (o : Option UnitView) (n : Nexus) (cdb bytes : List ℕ) (r : Reply) → slice_get us at ≡ o → AreReached us → CommandsAt us at o n cdb bytes (ms, r) → AreReached ms
command_reaches us ms at None n cdb bytes r here h a = are us ms a.0 h
command_reaches us ms (suc k) (Some x) n cdb bytes r here h a = alone_reaches us ms (suc k) x n cdb bytes r here h a
command_reaches us ms zero (Some x) n cdb bytes r here h a = naming_reaches us ms (named (commands_of x.device) (drives_of x.device) cdb) x n cdb bytes r here h a

lost_reaches : (us ms : List UnitView) (at : ℕ) (o : Option UnitView) (n : Nexus) (r : Reply) → slice_get us at ≡ o → AreReached us → LosesAt us at o n (ms, r) → AreReached ms
lost_reaches us ms at None n r here h a = are us ms (ap (λ (x : List UnitView × Reply). x.0) a) h
lost_reaches us ms at (Some x) n r here h a = are _ ms a.units (set_reaches us at a.unit h (loss_reaches x a.unit n r (h at x here) a.step))

resets_reach : (us ms : List UnitView) (at : ℕ) (o : Option UnitView) (r : Reply) → slice_get us at ≡ o → AreReached us → ResetsAt us at o (ms, r) → AreReached ms
resets_reach us ms at None r here h a = are us ms (ap (λ (x : List UnitView × Reply). x.0) a) h
resets_reach us ms at (Some x) r here h a = are _ ms a.units (set_reaches us at a.unit h (reset_reaches x a.unit r (h at x here) a.step))

pub step_reaches : (us ms : List UnitView) (e : Event) (r : Reply) → AreReached us → Steps us e (ms, r) → AreReached ms
step_reaches us ms (event.Command n at cdb bytes) r h step = command_reaches us ms at (slice_get us at) n cdb.items bytes.items r refl h step
step_reaches us ms (event.Loss n at) r h step = lost_reaches us ms at (slice_get us at) n r refl h step
step_reaches us ms (event.Reset at) r h step = resets_reach us ms at (slice_get us at) r refl h step

-- THE LAWS
pub power_on_is_reached : PowerOnIsReached
power_on_is_reached device lun units last = record { commands = []; reservations = refl; sorted = tt; few = omega arith }

pub drained_is_reached : DrainedIsReached
drained_is_reached u h = record { commands = h.commands; reservations = h.reservations; sorted = h.sorted; few = h.few }

pub runs_reach : RunsReach
runs_reach us vs [] [] h run = are us vs run h
runs_reach us vs (e ∷ es) (r ∷ rs) h run = runs_reach run.0 vs es rs (step_reaches us run.0 e r h run.1) run.2
runs_reach us vs [] (r ∷ rs) h run = absurd run
runs_reach us vs (e ∷ es) [] h run = absurd run

drains_reach : (us vs : List UnitView) (at : ℕ) (o : Option UnitView) (records : Option (List Record)) → slice_get us at ≡ o → AreReached us → DrainsAt us at o (vs, records) → AreReached vs
drains_reach us vs at None records here h d = are us vs (ap (λ (x : List UnitView × Option (List Record)). x.0) d) h
drains_reach us vs at (Some u) records here h d = are _ vs (ap (λ (x : List UnitView × Option (List Record)). x.0) d.0) (set_reaches us at (drained u) h (drained_is_reached u (h at u here)))

pub all_are_reached : AllAreReached
all_are_reached us (began ms made) lun u here =
    let m = made lun u here in
    subst IsReached (sym m.is) (power_on_is_reached m.device m.lun m.units m.last)
all_are_reached us (ran ms vs es rs came run) lun u here = runs_reach ms vs es rs (all_are_reached ms came) run lun u here
all_are_reached us (drained_one ms vs at records came d) lun u here = drains_reach ms vs at (slice_get ms at) records refl (all_are_reached ms came) d lun u here
