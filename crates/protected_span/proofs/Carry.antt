-- A volume that is carried between a changer and drives, in two runs whose drives are related: it is carried in both or in neither, and the
-- drives are related again.
use Rattle.std.proofs.Common.{◌≡◌, ℕ, Bool, true, false, cond, Option, Some, None, is_some, Result, Ok, Err, refl, ap, subst}
use Rattle.scsi_sense.specs.declared.condition.Condition.{Condition}
use Rattle.scsi_sense.specs.declared.condition.Condition.TheVariants.{InternalTargetFailure}
use Rattle.tape_medium.specs.declared.volume.Volume.{Volume}
use Rattle.tape_medium.specs.declared.volume.VolumeTag.{VolumeTag}
use Rattle.device_server.specs.View.{DeviceView, held_in, taken, put}
use Rattle.device_server.specs.declared.fault.PutFault.{PutFault}
use Rattle.device_server.specs.declared.fault.TakeFault.{TakeFault}
use Rattle.logical_unit.specs.Medium.{taken_out, put_in}
use Rattle.logical_unit.specs.Move.{TwoDrives, condition_of_medium, names_held, given, received, unloaded, passed, carried_by_one, noting, removed, placed, second_placed, both_placed, first_removed, exchanged_by, errand_noted, on_its_way, carried_with_one, carried_one, upward, downward, carried_by_two, carried_two}
use Rattle.logical_unit.specs.Route.{is_upward}
use Rattle.logical_unit.specs.UnitView.{UnitView}
use Rattle.logical_unit.specs.declared.medium_fault.MediumFault.{MediumFault}
use Rattle.logical_unit.specs.declared.route.Errand.{Errand}
use Rattle.logical_unit.specs.declared.route.Errand.TheVariants.{Move, Exchange}
use Rattle.logical_unit.specs.declared.route.ExchangeRoute.{ExchangeRoute}
use Rattle.logical_unit.specs.declared.route.Route.{Route}
use Rattle.logical_unit.proofs.Halves.{received_as, put_down, unloaded_by, taken_up, loaded_by, handed, passed_by}

-- two results: the same fault, or related values
abbrev pub Same : {A E : Type 0} → (A → A → Type 0) → Result A E → Result A E → Type 0
Same R (Ok a) (Ok b) = R a b
Same R (Err x) (Err y) = x ≡ y
Same R a b = ⊥

-- what is carried, the same, beside what is related
abbrev pub With : {X A : Type 0} → (A → A → Type 0) → X × A → X × A → Type 0
With R a b = (a.0 ≡ b.0) × R a.1 b.1

-- a relation of units that a volume's going out and coming in keeps
pub record Takes (D : UnitView → UnitView → Type 0) : Type 0 where
  pub out : (f g : UnitView) → D f g → Same (With D) (taken_out f) (taken_out g)
  pub comes : (f g : UnitView) (v : Volume) → D f g → Same D (put_in f v) (put_in g v)

pub same_self : {A E : Type 0} (R : A → A → Type 0) → ((a : A) → R a a) → (o : Result A E) → Same R o o
same_self R self (Ok a) = self a
same_self R self (Err x) = refl

pub same_as : {A E : Type 0} (R S : A → A → Type 0) → ((a b : A) → R a b → S a b) → (o p : Result A E) → Same R o p → Same S o p
same_as R S weaker (Ok a) (Ok b) h = weaker a b h
same_as R S weaker (Err x) (Err y) h = h
same_as R S weaker (Ok a) (Err y) h = absurd h
same_as R S weaker (Err x) (Ok b) h = absurd h

-- what is carried goes its way alike
on_its_way_alike : {A : Type 0} (R : A → A → Type 0) (r : Errand) (o p : Result (DeviceView × A) Condition) → Same (With R) o p → Same (With R) (on_its_way r o) (on_its_way r p)
on_its_way_alike {A} R r (Ok a) (Ok c) h = (ap (errand_noted r) h.0, h.1)
on_its_way_alike {A} R r (Err x) (Err y) h = h
on_its_way_alike {A} R r (Ok a) (Err y) h = absurd h
on_its_way_alike {A} R r (Err x) (Ok c) h = absurd h

-- a volume that leaves a drive, whose mark names it
module _ (D : UnitView → UnitView → Type 0) (t : Takes D) where
  either_given : (b : Bool) (a c : Volume × UnitView) → With D a c → Same (With D) (cond b (Ok a) (Err InternalTargetFailure)) (cond b (Ok c) (Err InternalTargetFailure))
  either_given true a c h = h
  either_given false a c h = refl

  given_as : (mark : Option VolumeTag) (o p : Result (Volume × UnitView) MediumFault) → Same (With D) o p
      → Same (With D) (elim o [ Ok it ↦ cond (names_held mark (Some it.0.tag)) (Ok it) (Err InternalTargetFailure) | Err fault ↦ Err (condition_of_medium fault) ])
      (elim p [ Ok it ↦ cond (names_held mark (Some it.0.tag)) (Ok it) (Err InternalTargetFailure) | Err fault ↦ Err (condition_of_medium fault) ])
  given_as mark (Ok a) (Ok c) h =
      subst (λ (v : Volume). Same (With D) (cond (names_held mark (Some a.0.tag)) (Ok a) (Err InternalTargetFailure)) (cond (names_held mark (Some v.tag)) (Ok c) (Err InternalTargetFailure))) h.0 (either_given (names_held mark (Some a.0.tag)) a c h)
  given_as mark (Err x) (Err y) h = ap condition_of_medium h
  given_as mark (Ok a) (Err y) h = absurd h
  given_as mark (Err x) (Ok c) h = absurd h

  given_alike : (mark : Option VolumeTag) (f g : UnitView) → D f g → Same (With D) (given mark f) (given mark g)
  given_alike mark f g h = given_as mark (taken_out f) (taken_out g) (t.out f g h)

  received_alike_as : (o p : Result UnitView MediumFault) → Same D o p → Same D (received_as o) (received_as p)
  received_alike_as (Ok a) (Ok c) h = h
  received_alike_as (Err x) (Err y) h = refl
  received_alike_as (Ok a) (Err y) h = absurd h
  received_alike_as (Err x) (Ok c) h = absurd h

  received_alike : (f g : UnitView) (v : Volume) → D f g → Same D (received f v) (received g v)
  received_alike f g v h = received_alike_as (put_in f v) (put_in g v) (t.comes f g v h)

  -- out of a drive into an element of the changer
  put_down_alike : (r : Route) (a c : UnitView) (o : Result DeviceView PutFault) → D a c → Same (With D) (put_down r a o) (put_down r c o)
  put_down_alike r a c (Ok after) h = (refl, h)
  put_down_alike r a c (Err fault) h = refl

  unloaded_alike_as : (changer : DeviceView) (r : Route) (o p : Result (Volume × UnitView) Condition) → Same (With D) o p → Same (With D) (unloaded_by changer r o) (unloaded_by changer r p)
  unloaded_alike_as changer r (Ok a) (Ok c) h =
      subst (λ (v : Volume). Same (With D) (put_down r a.1 (put changer r.destination a.0)) (put_down r c.1 (put changer r.destination v))) h.0 (put_down_alike r a.1 c.1 (put changer r.destination a.0) h.1)
  unloaded_alike_as changer r (Err x) (Err y) h = h
  unloaded_alike_as changer r (Ok a) (Err y) h = absurd h
  unloaded_alike_as changer r (Err x) (Ok c) h = absurd h

  unloaded_alike : (changer : DeviceView) (f g : UnitView) (r : Route) → D f g → Same (With D) (unloaded changer f r) (unloaded changer g r)
  unloaded_alike changer f g r h = unloaded_alike_as changer r (given (held_in changer r.source) f) (given (held_in changer r.source) g) (given_alike (held_in changer r.source) f g h)

  -- out of an element of the changer into a drive
  taken_up_alike : (r : Route) (v : Volume) (mid : DeviceView) (o p : Result UnitView Condition) → Same D o p → Same (With D) (taken_up r v mid o) (taken_up r v mid p)
  taken_up_alike r v mid (Ok a) (Ok c) h = (refl, h)
  taken_up_alike r v mid (Err x) (Err y) h = h
  taken_up_alike r v mid (Ok a) (Err y) h = absurd h
  taken_up_alike r v mid (Err x) (Ok c) h = absurd h

  loaded_alike_as : (f g : UnitView) (r : Route) (o : Result (Volume × DeviceView) TakeFault) → D f g → Same (With D) (loaded_by f r o) (loaded_by g r o)
  loaded_alike_as f g r (Ok it) h = taken_up_alike r it.0 it.1 (received f it.0) (received g it.0) (received_alike f g it.0 h)
  loaded_alike_as f g r (Err fault) h = refl

  by_one_alike : (changer : DeviceView) (f g : UnitView) (r : Route) (from to : Option ℕ) → D f g → Same (With D) (carried_by_one changer f r from to) (carried_by_one changer g r from to)
  by_one_alike changer f g r (Some l) None h = unloaded_alike changer f g r h
  by_one_alike changer f g r None (Some m) h = loaded_alike_as f g r (taken changer r.source) h
  by_one_alike changer f g r None None h = refl
  by_one_alike changer f g r (Some l) (Some m) h = refl

  -- the steps of an exchange: a volume is removed, from a drive or by the changer
  abbrev Removing : Type 0
  Removing = Volume × DeviceView × UnitView

  abbrev Beside : Removing → Removing → Type 0
  Beside a b = (a.0 ≡ b.0) × ((a.1 ≡ b.1) × D a.2 b.2)

  abbrev from_drive : DeviceView → (address : ℕ) → Result (Volume × UnitView) Condition → Result Removing Condition
  from_drive changer address o = elim o [ Ok it ↦ Ok (it.0, noting changer address None, it.1) | Err condition ↦ Err condition ]

  from_drive_alike : (changer : DeviceView) (address : ℕ) (o p : Result (Volume × UnitView) Condition) → Same (With D) o p → Same Beside (from_drive changer address o) (from_drive changer address p)
  from_drive_alike changer address (Ok a) (Ok c) h = (h.0, (refl, h.1))
  from_drive_alike changer address (Err x) (Err y) h = h
  from_drive_alike changer address (Ok a) (Err y) h = absurd h
  from_drive_alike changer address (Err x) (Ok c) h = absurd h

  abbrev by_changer : UnitView → Result (Volume × DeviceView) TakeFault → Result Removing Condition
  by_changer f o = elim o [ Ok it ↦ Ok (it.0, it.1, f) | Err fault ↦ Err InternalTargetFailure ]

  by_changer_alike : (f g : UnitView) (o : Result (Volume × DeviceView) TakeFault) → D f g → Same Beside (by_changer f o) (by_changer g o)
  by_changer_alike f g (Ok it) h = (refl, (refl, h))
  by_changer_alike f g (Err fault) h = refl

  removed_alike : (of_drive : Bool) (changer : DeviceView) (f g : UnitView) (address : ℕ) → D f g → Same Beside (removed changer f of_drive address) (removed changer g of_drive address)
  removed_alike true changer f g address h =
      from_drive_alike changer address (given (held_in changer address) f) (given (held_in changer address) g) (given_alike (held_in changer address) f g h)
  removed_alike false changer f g address h = by_changer_alike f g (taken changer address) h

  -- and placed
  abbrev to_drive : DeviceView → (address : ℕ) → Volume → Result UnitView Condition → Result (DeviceView × UnitView) Condition
  to_drive changer address v o = elim o [ Ok after ↦ Ok (noting changer address (Some v.tag), after) | Err condition ↦ Err condition ]

  to_drive_alike : (changer : DeviceView) (address : ℕ) (v : Volume) (o p : Result UnitView Condition) → Same D o p → Same (With D) (to_drive changer address v o) (to_drive changer address v p)
  to_drive_alike changer address v (Ok a) (Ok c) h = (refl, h)
  to_drive_alike changer address v (Err x) (Err y) h = h
  to_drive_alike changer address v (Ok a) (Err y) h = absurd h
  to_drive_alike changer address v (Err x) (Ok c) h = absurd h

  abbrev to_changer : UnitView → Result DeviceView PutFault → Result (DeviceView × UnitView) Condition
  to_changer f o = elim o [ Ok after ↦ Ok (after, f) | Err fault ↦ Err InternalTargetFailure ]

  to_changer_alike : (f g : UnitView) (o : Result DeviceView PutFault) → D f g → Same (With D) (to_changer f o) (to_changer g o)
  to_changer_alike f g (Ok after) h = (refl, h)
  to_changer_alike f g (Err fault) h = refl

  placed_alike : (of_drive : Bool) (changer : DeviceView) (f g : UnitView) (address : ℕ) (v : Volume) → D f g → Same (With D) (placed changer f of_drive address v) (placed changer g of_drive address v)
  placed_alike true changer f g address v h = to_drive_alike changer address v (received f v) (received g v) (received_alike f g v h)
  placed_alike false changer f g address v h = to_changer_alike f g (put changer address v) h

  second_alike : (second : ℕ) (to : Bool) (other : Volume) (o p : Result (DeviceView × UnitView) Condition) → Same (With D) o p → Same (With D) (second_placed second to other o) (second_placed second to other p)
  second_alike second to other (Ok a) (Ok c) h =
      subst (λ (z : DeviceView). Same (With D) (placed a.0 a.1 to second other) (placed z c.1 to second other)) h.0 (placed_alike to a.0 a.1 c.1 second other h.1)
  second_alike second to other (Err x) (Err y) h = h
  second_alike second to other (Ok a) (Err y) h = absurd h
  second_alike second to other (Err x) (Ok c) h = absurd h

  both_alike : (x : ExchangeRoute) (between to : Bool) (one : Volume) (o p : Result Removing Condition) → Same Beside o p → Same (With D) (both_placed x between to one o) (both_placed x between to one p)
  both_alike x between to one (Ok a) (Ok c) h =
      subst (λ (v : Volume). Same (With D) (both_placed x between to one (Ok a)) (both_placed x between to one (Ok (v, c.1, c.2)))) h.0
      (subst (λ (z : DeviceView). Same (With D) (both_placed x between to one (Ok a)) (both_placed x between to one (Ok (a.0, z, c.2)))) h.1.0
      (second_alike x.second to a.0 (placed a.1 a.2 between x.first one) (placed a.1 c.2 between x.first one) (placed_alike between a.1 a.2 c.2 x.first one h.1.1)))
  both_alike x between to one (Err y) (Err z) h = h
  both_alike x between to one (Ok a) (Err z) h = absurd h
  both_alike x between to one (Err y) (Ok c) h = absurd h

  first_alike : (x : ExchangeRoute) (between to : Bool) (o p : Result Removing Condition) → Same Beside o p → Same (With D) (first_removed x between to o) (first_removed x between to p)
  first_alike x between to (Ok a) (Ok c) h =
      subst (λ (v : Volume). Same (With D) (first_removed x between to (Ok a)) (first_removed x between to (Ok (v, c.1, c.2)))) h.0
      (subst (λ (z : DeviceView). Same (With D) (first_removed x between to (Ok a)) (first_removed x between to (Ok (a.0, z, c.2)))) h.1.0
      (both_alike x between to a.0 (removed a.1 a.2 between x.first) (removed a.1 c.2 between x.first) (removed_alike between a.1 a.2 c.2 x.first h.1.1)))
  first_alike x between to (Err y) (Err z) h = h
  first_alike x between to (Ok a) (Err z) h = absurd h
  first_alike x between to (Err y) (Ok c) h = absurd h

  exchanged_alike : (changer : DeviceView) (f g : UnitView) (x : ExchangeRoute) (from between to : Bool) → D f g → Same (With D) (exchanged_by changer f x from between to) (exchanged_by changer g x from between to)
  exchanged_alike changer f g x from between to h =
      first_alike x between to (removed changer f from x.source) (removed changer g from x.source) (removed_alike from changer f g x.source h)

  with_one_alike : (changer : DeviceView) (f g : UnitView) (q : Errand) → D f g → Same (With D) (carried_with_one changer f q) (carried_with_one changer g q)
  with_one_alike changer f g (Move r) h = by_one_alike changer f g r r.from r.to h
  with_one_alike changer f g (Exchange x) h = exchanged_alike changer f g x (is_some x.from) (is_some x.between) (is_some x.to) h

  -- what names one drive
  pub one_alike : (changer : DeviceView) (f g : UnitView) (o : Option Errand) → D f g → Same (With D) (carried_one changer f o) (carried_one changer g o)
  one_alike changer f g None h = refl
  one_alike changer f g (Some q) h = on_its_way_alike D q (carried_with_one changer f q) (carried_with_one changer g q) (with_one_alike changer f g q h)

-- two drives, each related as its place has it
abbrev pub Handed : (D E : UnitView → UnitView → Type 0) → (a b : DeviceView × UnitView × UnitView) → Type 0
Handed D E a b = (a.0 ≡ b.0) × D a.1 b.1 × E a.2 b.2

abbrev pub BothDrives : (D E : UnitView → UnitView → Type 0) → TwoDrives → TwoDrives → Type 0
BothDrives D E a b = D a.low b.low × E a.high b.high

module _ (D E : UnitView → UnitView → Type 0) (t : Takes D) (s : Takes E) where
  -- out of a drive into another
  handed_alike : (changer : DeviceView) (r : Route) (v : Volume) (a c : UnitView) (o p : Result UnitView Condition) → D a c → Same E o p → Same (Handed D E) (handed changer r v a o) (handed changer r v c p)
  handed_alike changer r v a c (Ok x) (Ok y) d h = (refl, d, h)
  handed_alike changer r v a c (Err x) (Err y) d h = h
  handed_alike changer r v a c (Ok x) (Err y) d h = absurd h
  handed_alike changer r v a c (Err x) (Ok y) d h = absurd h

  passed_alike_as : (changer : DeviceView) (taker other : UnitView) (r : Route) (o p : Result (Volume × UnitView) Condition) → Same (With D) o p → E taker other
      → Same (Handed D E) (passed_by changer taker r o) (passed_by changer other r p)
  passed_alike_as changer taker other r (Ok a) (Ok c) h e =
      subst (λ (v : Volume). Same (Handed D E) (handed changer r a.0 a.1 (received taker a.0)) (handed changer r v c.1 (received other v))) h.0
      (handed_alike changer r a.0 a.1 c.1 (received taker a.0) (received other a.0) h.1 (received_alike E s taker other a.0 e))
  passed_alike_as changer taker other r (Err x) (Err y) h e = h
  passed_alike_as changer taker other r (Ok a) (Err y) h e = absurd h
  passed_alike_as changer taker other r (Err x) (Ok c) h e = absurd h

  pub passed_alike : (changer : DeviceView) (a b c d : UnitView) (r : Route) → D a c → E b d → Same (Handed D E) (passed changer a b r) (passed changer c d r)
  passed_alike changer a b c d r h e = passed_alike_as changer b d r (given (held_in changer r.source) a) (given (held_in changer r.source) c) (given_alike D t (held_in changer r.source) a c h) e

upward_alike : (D E : UnitView → UnitView → Type 0) (o p : Result (DeviceView × UnitView × UnitView) Condition) → Same (Handed D E) o p → Same (With (BothDrives D E)) (upward o) (upward p)
upward_alike D E (Ok a) (Ok c) h = (h.0, (h.1, h.2))
upward_alike D E (Err x) (Err y) h = h
upward_alike D E (Ok a) (Err y) h = absurd h
upward_alike D E (Err x) (Ok c) h = absurd h

downward_alike : (D E : UnitView → UnitView → Type 0) (o p : Result (DeviceView × UnitView × UnitView) Condition) → Same (Handed E D) o p → Same (With (BothDrives D E)) (downward o) (downward p)
downward_alike D E (Ok a) (Ok c) h = (h.0, (h.2, h.1))
downward_alike D E (Err x) (Err y) h = h
downward_alike D E (Ok a) (Err y) h = absurd h
downward_alike D E (Err x) (Ok c) h = absurd h

module _ (D E : UnitView → UnitView → Type 0) (t : Takes D) (s : Takes E) where
  by_way_alike : (changer : DeviceView) (ds es : TwoDrives) (r : Route) (up : Bool) → BothDrives D E ds es
      → Same (With (BothDrives D E)) (cond up (upward (passed changer ds.low ds.high r)) (downward (passed changer ds.high ds.low r))) (cond up (upward (passed changer es.low es.high r)) (downward (passed changer es.high es.low r)))
  by_way_alike changer ds es r true h = upward_alike D E (passed changer ds.low ds.high r) (passed changer es.low es.high r) (passed_alike D E t s changer ds.low ds.high es.low es.high r h.0 h.1)
  by_way_alike changer ds es r false h = downward_alike D E (passed changer ds.high ds.low r) (passed changer es.high es.low r) (passed_alike E D s t changer ds.high ds.low es.high es.low r h.1 h.0)

  -- a move that names two
  pub two_alike : (changer : DeviceView) (ds es : TwoDrives) (o : Option Errand) → BothDrives D E ds es → Same (With (BothDrives D E)) (carried_two changer ds o) (carried_two changer es o)
  two_alike changer ds es None h = refl
  two_alike changer ds es (Some (Exchange x)) h = refl
  two_alike changer ds es (Some (Move r)) h =
      on_its_way_alike (BothDrives D E) (Move r) (carried_by_two changer ds r) (carried_by_two changer es r) (by_way_alike changer ds es r (is_upward r.from r.to) h)
