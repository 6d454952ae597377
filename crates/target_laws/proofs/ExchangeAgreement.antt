-- An exchange that the changer's map and marks allow finds the drive that it names as the marks say: both volumes are carried, or the drive's
-- removal is prevented.
use Rattle.std.proofs.Common.{◌≡◌, ◌==◌, ◌&&◌, ℕ, suc, Bool, true, false, List, [], ◌∷◌, length, Option, Some, None, Result, Ok, Err, refl, sym, ap, ◌∙◌, subst, inl, inr}
use Rattle.std.specs.Prelude.{◌⊎◌, ◌≢◌, cond, not, ◌||◌, is_none, is_some, option_map, slice_get, slice_index_or, IsOk}
use Rattle.std.proofs.lemmas.Bool.{eqb-true}
use Rattle.scsi_cdb.specs.declared.host_request.HostRequest.TheVariants.{ExchangeMedium}
use Rattle.scsi_cdb.specs.declared.kind.Kind.TheVariants as kind
use Rattle.scsi_cdb.specs.declared.request.Request.TheVariants.{Host}
use Rattle.scsi_sense.specs.declared.condition.Condition.{Condition}
use Rattle.scsi_sense.specs.declared.condition.Condition.TheVariants.{InternalTargetFailure}
use Rattle.tape_medium.specs.declared.elements.MapFault.{MapFault}
use Rattle.tape_medium.specs.declared.elements.MapFault.TheVariants.{BadAddress}
use Rattle.tape_medium.specs.declared.volume.Volume.{Volume}
use Rattle.tape_medium.specs.declared.volume.VolumeTag.{VolumeTag}
use Rattle.tape_medium.specs.Elements.{Elements, element_at, tag_held}
use Rattle.element_map.specs.Exchange.{is_drives, are_two_drives, is_exchange, has_drive, fullness, exchange_refused, exchange_refusal}
use Rattle.device_server.specs.Failures.{is_failure, is_exchange_for_drives}
use Rattle.device_server.specs.Marks.{marks}
use Rattle.device_server.specs.View.{DeviceView, Drive, Changer, kind_of, drives_of, held_in, taken, put, performed}
use Rattle.device_server.specs.declared.fault.PutFault.{PutFault}
use Rattle.device_server.specs.declared.fault.TakeFault.{TakeFault}
use Rattle.device_server.proofs.FailureLemmas.{changers_fail_for_drives}
use Rattle.device_server.proofs.MarkLemmas.{drives_give, changers_give}
use Rattle.logical_unit.specs.MoveJudgement.{GivesOnly, GivesAndTakes, TakesOnly, Swaps, HasExchangeWays}
use Rattle.logical_unit.specs.Move.{given, received, noting, first_removed, both_placed, second_placed, exchanged_by}
use Rattle.logical_unit.specs.Route.{drive_at}
use Rattle.logical_unit.specs.UnitView.{UnitView}
use Rattle.logical_unit.specs.declared.route.ExchangeRoute.{ExchangeRoute}
use Rattle.logical_unit.proofs.ExchangeWays.{exchange_ways}
use Rattle.logical_unit.proofs.Halves.{is_out, is_given}
use Rattle.target_core.specs.Faults.{same_mark}
use Rattle.target_core.proofs.Ordered.{both, IsOrdered, drive_of}
use Rattle.target_laws.proofs.Agreement.{held_by, held_is, none_is, mark_at, marked, Gives, gives, Receives, receives, carrying_fails}

-- WHAT THE MAP AND THE TAGS SAY of an exchange that is left to the drives
refused_so : (transport way : Bool) (o : Option MapFault) → cond (transport && way) o (Some BadAddress) ≡ None → (way ≡ true) × (o ≡ None)
refused_so true true o h = (refl, h)
refused_so true false o h = absurd cc
refused_so false way o h = absurd cc

record AreFull (p q r : Option Bool) (same : Bool) : Type 0 where
  source : p ≡ Some true
  first : q ≡ Some true
  second : same ≡ false → r ≡ Some false

full_so : (p q r : Option Bool) (same : Bool) → exchange_refused p q r same ≡ None → AreFull p q r same
full_so None q r same h = absurd cc
full_so (Some p) None r same h = absurd cc
full_so (Some p) (Some q) None same h = absurd cc
full_so (Some false) (Some q) (Some r) same h = absurd cc
full_so (Some true) (Some false) (Some r) same h = absurd cc
full_so (Some true) (Some true) (Some false) same h = record { source = refl; first = refl; second = λ apart. refl }
full_so (Some true) (Some true) (Some true) true h = record { source = refl; first = refl; second = λ apart. absurd cc }
full_so (Some true) (Some true) (Some true) false h = absurd cc

full_by : (o : Option (Option VolumeTag)) → option_map is_some o ≡ Some true → (tag : VolumeTag) × (o ≡ Some (Some tag))
full_by None h = absurd cc
full_by (Some None) h = absurd cc
full_by (Some (Some tag)) h = (tag, refl)

empty_by : (o : Option (Option VolumeTag)) → option_map is_some o ≡ Some false → o ≡ Some None
empty_by None h = absurd cc
empty_by (Some None) h = refl
empty_by (Some (Some tag)) h = absurd cc

pub record IsAllowedExchange (device : DeviceView) (x : ExchangeRoute) : Type 0 where
  pub one : VolumeTag
  pub other : VolumeTag
  pub full : held_in device x.source ≡ Some one
  pub first_full : held_in device x.first ≡ Some other
  pub empty : (x.source == x.second) ≡ false → held_in device x.second ≡ None
  pub ways : HasExchangeWays device x (is_some x.from) (is_some x.between) (is_some x.to)

pub left_allowed_exchange : (device : DeviceView) (transport : ℕ) (x : ExchangeRoute) (inv1 inv2 : Bool) (bytes : List ℕ) → kind_of device ≡ kind.Changer → x.from ≡ drive_at (drives_of device) x.source
    → x.between ≡ drive_at (drives_of device) x.first → x.to ≡ drive_at (drives_of device) x.second
    → is_failure (performed device (Host (ExchangeMedium transport x.source x.first x.second inv1 inv2)) bytes).1.sense ≡ true → IsAllowedExchange device x
left_allowed_exchange (Drive d) transport x inv1 inv2 bytes k from between to left = absurd cc
left_allowed_exchange (Changer v) transport x inv1 inv2 bytes k from between to left =
    let e : Elements = v.elements in
    let refused : Option MapFault = exchange_refusal e transport x.source x.first x.second in
    let names : Bool = has_drive e x.source x.first x.second in
    let is : (is_some v.hosts && (not (inv1 || inv2) && (is_none refused && names))) ≡ true =
    sym (changers_fail_for_drives v (Host (ExchangeMedium transport x.source x.first x.second inv1 inv2)) bytes) ∙ left in
    let for_drives = both (is_none refused) names (both (not (inv1 || inv2)) (is_none refused && names) (both (is_some v.hosts) (not (inv1 || inv2) && (is_none refused && names)) is).1).1 in
    let free : refused ≡ None = none_is refused for_drives.0 in
    let full = full_so (fullness e x.source) (fullness e x.first) (fullness e x.second) (x.source == x.second)
    (refused_so (transport == 0) (is_exchange e x.source x.first x.second) (exchange_refused (fullness e x.source) (fullness e x.first) (fullness e x.second) (x.source == x.second)) free).1 in
    let one = full_by (tag_held e (element_at e x.source)) full.source in
    let other = full_by (tag_held e (element_at e x.first)) full.first in
    record {
      one = one.0;
      other = other.0;
      full = held_is e (element_at e x.source) (Some one.0) one.1;
      first_full = held_is e (element_at e x.first) (Some other.0) other.1;
      empty = λ apart. held_is e (element_at e x.second) None (empty_by (tag_held e (element_at e x.second)) (full.second apart));
      ways = exchange_ways v transport x free for_drives.1 from between to;
    }

-- THE STEPS, each by what it is asked of
abbrev Removing : Type 0
Removing = Volume × DeviceView × UnitView

abbrev from_drive : DeviceView → (address : ℕ) → Result (Volume × UnitView) Condition → Result Removing Condition
from_drive changer address o = elim o [ Ok it ↦ Ok (it.0, noting changer address None, it.1) | Err condition ↦ Err condition ]

abbrev by_changer : UnitView → Result (Volume × DeviceView) TakeFault → Result Removing Condition
by_changer d o = elim o [ Ok it ↦ Ok (it.0, it.1, d) | Err fault ↦ Err InternalTargetFailure ]

abbrev to_drive : DeviceView → (address : ℕ) → Volume → Result UnitView Condition → Result (DeviceView × UnitView) Condition
to_drive changer address v o = elim o [ Ok after ↦ Ok (noting changer address (Some v.tag), after) | Err condition ↦ Err condition ]

abbrev to_changer : UnitView → Result DeviceView PutFault → Result (DeviceView × UnitView) Condition
to_changer d o = elim o [ Ok after ↦ Ok (after, d) | Err fault ↦ Err InternalTargetFailure ]

took : (o : Result (Volume × DeviceView) TakeFault) → IsOk o → (it : Volume × DeviceView) × (o ≡ Ok it)
took (Ok it) h = (it, refl)
took (Err fault) h = absurd cc

laid : (o : Result DeviceView PutFault) → IsOk o → (after : DeviceView) × (o ≡ Ok after)
laid (Ok after) h = (after, refl)
laid (Err fault) h = absurd cc

module _ (c : DeviceView) (d : UnitView) (x : ExchangeRoute) where
  gives_only : GivesOnly c x → Gives (held_in c x.source) d → carrying_fails (exchanged_by c d x true false false) ≡ false
  gives_only ways (inl prevented) = ap (λ (g : Result (Volume × UnitView) Condition). carrying_fails (first_removed x false false (from_drive c x.source g))) prevented
  gives_only ways (inr it) =
      let one = it.0.0 in
      let e = it.0.1 in
      let t = took (taken (noting c x.source None) x.first) ways.first in
      let p = laid (put t.0.1 x.first one) (ways.places t.0.0 one t.0.1 t.1) in
      let q = laid (put p.0 x.second t.0.0) (ways.second t.0.0 one t.0.1 p.0 t.1 p.1) in
      ap (λ (g : Result (Volume × UnitView) Condition). carrying_fails (first_removed x false false (from_drive c x.source g))) it.1
      ∙ ap (λ (g : Result (Volume × DeviceView) TakeFault). carrying_fails (both_placed x false false one (by_changer e g))) t.1
      ∙ ap (λ (g : Result DeviceView PutFault). carrying_fails (second_placed x.second false t.0.0 (to_changer e g))) p.1
      ∙ ap (λ (g : Result DeviceView PutFault). carrying_fails (to_changer e g)) q.1

  swaps : Swaps c x → Gives (held_in c x.source) d → ((it : Volume × UnitView) → given (held_in c x.source) d ≡ Ok it → Receives it.1) → carrying_fails (exchanged_by c d x true false true) ≡ false
  swaps ways (inl prevented) then = ap (λ (g : Result (Volume × UnitView) Condition). carrying_fails (first_removed x false true (from_drive c x.source g))) prevented
  swaps ways (inr it) then =
      let one = it.0.0 in
      let e = it.0.1 in
      let t = took (taken (noting c x.source None) x.first) ways.first in
      let p = laid (put t.0.1 x.first one) (ways.places t.0.0 one t.0.1 t.1) in
      let r = then it.0 it.1 t.0.0 in
      ap (λ (g : Result (Volume × UnitView) Condition). carrying_fails (first_removed x false true (from_drive c x.source g))) it.1
      ∙ ap (λ (g : Result (Volume × DeviceView) TakeFault). carrying_fails (both_placed x false true one (by_changer e g))) t.1
      ∙ ap (λ (g : Result DeviceView PutFault). carrying_fails (second_placed x.second true t.0.0 (to_changer e g))) p.1
      ∙ ap (λ (g : Result UnitView Condition). carrying_fails (to_drive p.0 x.second t.0.0 g)) r.1

  gives_then : (one : Volume) (c1 : DeviceView) → taken c x.source ≡ Ok (one, c1) → GivesAndTakes c x → Gives (held_in c1 x.first) d → ((it : Volume × UnitView) → given (held_in c1 x.first) d ≡ Ok it → Receives it.1)
      → carrying_fails (both_placed x true false one (from_drive c1 x.first (given (held_in c1 x.first) d))) ≡ false
  gives_then one c1 took_up ways (inl prevented) then = ap (λ (g : Result (Volume × UnitView) Condition). carrying_fails (both_placed x true false one (from_drive c1 x.first g))) prevented
  gives_then one c1 took_up ways (inr it) then =
      let r = then it.0 it.1 one in
      let q = laid (put (noting (noting c1 x.first None) x.first (Some one.tag)) x.second it.0.0) (ways.second one it.0.0 c1 took_up) in
      ap (λ (g : Result (Volume × UnitView) Condition). carrying_fails (both_placed x true false one (from_drive c1 x.first g))) it.1
      ∙ ap (λ (g : Result UnitView Condition). carrying_fails (second_placed x.second false it.0.0 (to_drive (noting c1 x.first None) x.first one g))) r.1
      ∙ ap (λ (g : Result DeviceView PutFault). carrying_fails (to_changer r.0 g)) q.1

  gives_and_takes : GivesAndTakes c x → ((one : Volume) (c1 : DeviceView) → taken c x.source ≡ Ok (one, c1) → Gives (held_in c1 x.first) d)
      → ((mark : Option VolumeTag) (it : Volume × UnitView) → given mark d ≡ Ok it → Receives it.1) → carrying_fails (exchanged_by c d x false true false) ≡ false
  gives_and_takes ways first then =
      let t = took (taken c x.source) ways.source in
      ap (λ (g : Result (Volume × DeviceView) TakeFault). carrying_fails (first_removed x true false (by_changer d g))) t.1
      ∙ gives_then t.0.0 t.0.1 t.1 ways (first t.0.0 t.0.1 t.1) (then (held_in t.0.1 x.first))

  takes_only : TakesOnly c x → Receives d → carrying_fails (exchanged_by c d x false false true) ≡ false
  takes_only ways receives_one =
      let t = took (taken c x.source) ways.source in
      let u = took (taken t.0.1 x.first) (ways.first t.0.0 t.0.1 t.1) in
      let p = laid (put u.0.1 x.first t.0.0) (ways.places t.0.0 u.0.0 t.0.1 u.0.1 t.1 u.1) in
      let r = receives_one u.0.0 in
      ap (λ (g : Result (Volume × DeviceView) TakeFault). carrying_fails (first_removed x false true (by_changer d g))) t.1
      ∙ ap (λ (g : Result (Volume × DeviceView) TakeFault). carrying_fails (both_placed x false true t.0.0 (by_changer d g))) u.1
      ∙ ap (λ (g : Result DeviceView PutFault). carrying_fails (second_placed x.second true u.0.0 (to_changer d g))) p.1
      ∙ ap (λ (g : Result UnitView Condition). carrying_fails (to_drive p.0 x.second u.0.0 g)) r.1

-- THE DRIVE, as its mark says
empty_mark : (device : DeviceView) → kind_of device ≡ kind.Drive → marks device ≡ None ∷ [] → held_in device 0 ≡ None
empty_mark (Drive d) k h = cc
empty_mark (Changer e) k h = absurd cc

-- one that gave its volume takes another
emptied : (d : UnitView) (mark : Option VolumeTag) (it : Volume × UnitView) → given mark d ≡ Ok it → Receives it.1
emptied d mark it h =
    let out = is_out d it.1 it.0 (is_given mark d it.1 it.0 h).out in
    let gave = drives_give d.device out.device 0 it.0 out.kind out.taken in
    let is : it.1.device ≡ out.device = ap (λ (u : UnitView). u.device) out.unit in
    let drive : kind_of out.device ≡ kind.Drive = gave.device.kind ∙ out.kind in
    receives None it.1 (ap kind_of is ∙ drive) (ap (λ (z : DeviceView). held_in z 0) is ∙ empty_mark out.device drive gave.empty) refl

other_address : (a b : ℕ) → a ≢ b → (a == b) ≡ false
other_address a b apart = elim (a == b) as (λ (t : Bool). (a == b) ≡ t → t ≡ false) [ true ↦ λ e. absurd (apart (eqb-true a b e)) | false ↦ λ e. refl ] refl

module _ (c : UnitView) (ds : List UnitView) (o : IsOrdered c ds) (x : ExchangeRoute) (a : IsAllowedExchange c.device x) (k : ℕ) (d : UnitView) (there : slice_get ds k ≡ Some d) where
  abbrev at : ℕ → Option ℕ
  at address = drive_at (drives_of c.device) address

  drive : kind_of d.device ≡ kind.Drive
  drive = (drive_of c ds k d o there).kind

  source_gives : at x.source ≡ Some (suc k) → Gives (held_in c.device x.source) d
  source_gives is = gives a.one (held_in c.device x.source) (held_in d.device 0) d drive a.full refl (marked c ds x.source k d o is there)

  -- the changer took up the source's volume, and the mark is the same
  first_gives : at x.first ≡ Some (suc k) → (one : Volume) (c1 : DeviceView) → taken c.device x.source ≡ Ok (one, c1) → Gives (held_in c1 x.first) d
  first_gives is one c1 took_up =
      let keeps = changers_give c.device c1 x.source one o.kind took_up in
      let same : held_in c1 x.first ≡ held_in c.device x.first =
      mark_at c1 x.first k (keeps.device.kind ∙ o.kind) (ap (λ n. drive_at n x.first) keeps.device.drives ∙ is)
      ∙ ap (λ (ms : List (Option VolumeTag)). slice_index_or ms k None) keeps.marks
      ∙ sym (mark_at c.device x.first k o.kind is) in
      subst (λ (m : Option VolumeTag). Gives m d) (sym same)
      (gives a.other (held_in c.device x.first) (held_in d.device 0) d drive a.first_full refl (marked c ds x.first k d o is there))

  second_takes : at x.second ≡ Some (suc k) → (x.source == x.second) ≡ false → Receives d
  second_takes is apart =
      receives (held_in d.device 0) d drive refl (subst (λ (m : Option VolumeTag). same_mark m (held_in d.device 0) ≡ true) (a.empty apart) (marked c ds x.second k d o is there))

  -- whether an end is the drive's
  abbrev pub IsEndOf : Bool → ℕ → Type 0
  IsEndOf true address = at address ≡ Some (suc k)
  IsEndOf false address = at address ≡ None

  pub exchanged_free : (from between to : Bool) → HasExchangeWays c.device x from between to → IsEndOf from x.source → IsEndOf between x.first → IsEndOf to x.second → carrying_fails (exchanged_by c.device d x from between to) ≡ false
  exchanged_free true true t ways is_from is_between is_to = absurd ways
  exchanged_free true false false ways is_from is_between is_to = gives_only c.device d x ways (source_gives is_from)
  exchanged_free true false true ways is_from is_between is_to = swaps c.device d x ways (source_gives is_from) (emptied d (held_in c.device x.source))
  exchanged_free false true false ways is_from is_between is_to = gives_and_takes c.device d x ways (first_gives is_between) (emptied d)
  exchanged_free false true true ways is_from is_between is_to = absurd ways
  exchanged_free false false true ways is_from is_between is_to =
      let apart : x.source ≢ x.second = λ e. let both_ways : ◌≡◌ {A = Option ℕ} None (Some (suc k)) = sym is_from ∙ ap at e ∙ is_to in absurd cc in
      takes_only c.device d x ways (second_takes is_to (other_address x.source x.second apart))
  exchanged_free false false false ways is_from is_between is_to = absurd ways

-- ONE THAT NAMES NO DRIVE alone is none that is left to the drives: where two of its ends are drives', they are one, or it is refused
two_by : (p q same : Bool) → (p && q && not same) ≡ false → p ≡ true → q ≡ true → same ≡ true
two_by true true true h first second = refl
two_by true true false h first second = absurd cc
two_by true false same h first second = absurd cc
two_by false q same h first second = absurd cc

record NoTwo (x y z : Bool) : Type 0 where
  first : x ≡ false
  second : y ≡ false
  third : z ≡ false

no_two : (a b x y z : Bool) → (not a && not b && not (x || y || z)) ≡ true → NoTwo x y z
no_two false false false false false h = record { first = refl; second = refl; third = refl }
no_two true b x y z h = absurd cc
no_two false true x y z h = absurd cc
no_two false false true y z h = absurd cc
no_two false false false true z h = absurd cc
no_two false false false false true h = absurd cc

pub record HasOneDrive (e : Elements) (source first second : ℕ) : Type 0 where
  pub from_first : is_drives e source ≡ true → is_drives e first ≡ true → source ≡ first
  pub first_second : is_drives e first ≡ true → is_drives e second ≡ true → first ≡ second
  pub from_second : is_drives e source ≡ true → is_drives e second ≡ true → source ≡ second

pub one_drive : (e : Elements) (transport source first second : ℕ) → exchange_refusal e transport source first second ≡ None → HasOneDrive e source first second
one_drive e transport source first second h =
    let way = (refused_so (transport == 0) (is_exchange e source first second) (exchange_refused (fullness e source) (fullness e first) (fullness e second) (source == second)) h).0 in
    let none = no_two (source == first) (first == second) (are_two_drives e source first) (are_two_drives e first second) (are_two_drives e source second) way in
    record {
      from_first = λ p q. eqb-true source first (two_by (is_drives e source) (is_drives e first) (source == first) none.first p q);
      first_second = λ p q. eqb-true first second (two_by (is_drives e first) (is_drives e second) (first == second) none.second p q);
      from_second = λ p q. eqb-true source second (two_by (is_drives e source) (is_drives e second) (source == second) none.third p q);
    }
