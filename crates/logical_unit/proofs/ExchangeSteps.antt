-- What the steps of an exchange with a drive come to: why they stop, and what they leave.
use Rattle.std.proofs.Common.{◌≡◌, ℕ, Bool, true, false, Option, Some, None, Result, Ok, Err, refl, sym, ap, ◌∙◌, subst}
use Rattle.std.specs.Prelude.{cond, is_ok, IsOk}
use Rattle.scsi_sense.specs.declared.condition.Condition.{Condition}
use Rattle.scsi_sense.specs.declared.condition.Condition.TheVariants.{InternalTargetFailure}
use Rattle.tape_medium.specs.declared.volume.Volume.{Volume}
use Rattle.tape_medium.specs.declared.volume.VolumeTag.{VolumeTag}
use Rattle.device_server.specs.View.{DeviceView, held_in, taken, put}
use Rattle.device_server.specs.declared.fault.PutFault.{PutFault}
use Rattle.device_server.specs.declared.fault.TakeFault.{TakeFault}
use Rattle.logical_unit.specs.Medium.{taken_out, put_in}
use Rattle.logical_unit.specs.MoveJudgement.{GivesOnly, GivesAndTakes, TakesOnly, Swaps}
use Rattle.logical_unit.specs.Move.{condition_of_medium, names_held, given, received, noting, first_removed, both_placed, second_placed, exchanged_by}
use Rattle.logical_unit.specs.UnitView.{UnitView}
use Rattle.logical_unit.specs.declared.medium_fault.MediumFault.{MediumFault}
use Rattle.logical_unit.specs.declared.route.ExchangeRoute.{ExchangeRoute}
use Rattle.logical_unit.proofs.Halves.{is_given}
use Rattle.logical_unit.proofs.TakesAfter.{takes_after}

abbrev Removing : Type 0
Removing = Volume × DeviceView × UnitView

abbrev from_drive : DeviceView → (address : ℕ) → Result (Volume × UnitView) Condition → Result Removing Condition
from_drive changer address o = elim o [ Ok it ↦ Ok (it.0, noting changer address None, it.1) | Err condition ↦ Err condition ]

abbrev by_changer : UnitView → Result (Volume × DeviceView) TakeFault → Result Removing Condition
by_changer d o = elim o [ Ok it ↦ Ok (it.0, it.1, d) | Err fault ↦ Err InternalTargetFailure ]

abbrev to_drive : DeviceView → (address : ℕ) → Volume → Result UnitView Condition → Result (DeviceView × UnitView) Condition
to_drive changer address v o = elim o [ Ok after ↦ Ok (noting changer address (Some v.tag), after) | Err condition ↦ Err condition ]

abbrev to_changer : UnitView → Result DeviceView PutFault → Result (DeviceView × UnitView) Condition
to_changer d o = elim o [ Ok after ↦ Ok (after, d) | Err fault ↦ Err InternalTargetFailure ]

got : {A E : Type 0} (o : Result A E) → IsOk o → (a : A) × (o ≡ Ok a)
got (Ok a) h = (a, refl)
got (Err e) h = absurd cc

-- what a drive gives is the volume that is taken out of it
given_by : (mark : Option VolumeTag) (o : Result (Volume × UnitView) MediumFault) (it : Volume × UnitView)
    → IsOk (elim o as (λ _. Result (Volume × UnitView) Condition) [ Ok x ↦ cond (names_held mark (Some x.0.tag)) (Ok x) (Err InternalTargetFailure) | Err fault ↦ Err (condition_of_medium fault) ]) → o ≡ Ok it
    → (elim o as (λ _. Result (Volume × UnitView) Condition) [ Ok x ↦ cond (names_held mark (Some x.0.tag)) (Ok x) (Err InternalTargetFailure) | Err fault ↦ Err (condition_of_medium fault) ]) ≡ Ok it
given_by mark (Err fault) it ok is = absurd cc
given_by mark (Ok x) it ok is = let same : x ≡ it = cc in named (names_held mark (Some x.0.tag)) ok same
  where
    named : (b : Bool) → IsOk (cond b (Ok x) (Err InternalTargetFailure)) → x ≡ it → ◌≡◌ {A = Result (Volume × UnitView) Condition} (cond b (Ok x) (Err InternalTargetFailure)) (Ok it)
    named true ok same = ap (λ (y : Volume × UnitView). Ok y) same
    named false ok same = absurd cc

given_is : (mark : Option VolumeTag) (d e : UnitView) (v : Volume) → IsOk (given mark d) → taken_out d ≡ Ok (v, e) → given mark d ≡ Ok (v, e)
given_is mark d e v ok out = given_by mark (taken_out d) (v, e) ok out

received_is : (d e : UnitView) (v : Volume) → put_in d v ≡ Ok e → received d v ≡ Ok e
received_is d e v h = ap (λ (o : Result UnitView MediumFault). elim o as (λ _. Result UnitView Condition) [ Ok after ↦ Ok after | Err fault ↦ Err InternalTargetFailure ]) h

not_received_by : (o : Result UnitView MediumFault) → is_ok o ≡ false → (elim o as (λ _. Result UnitView Condition) [ Ok after ↦ Ok after | Err fault ↦ Err InternalTargetFailure ]) ≡ Err InternalTargetFailure
not_received_by (Ok e) h = absurd cc
not_received_by (Err fault) h = refl

module _ (c : DeviceView) (d : UnitView) (x : ExchangeRoute) where
  abbrev mark : Option VolumeTag
  mark = held_in c x.source

  -- THE DRIVE GIVES THE SOURCE'S VOLUME
  pub out_refused : (to : Bool) (condition : Condition) → given mark d ≡ Err condition → exchanged_by c d x true false to ≡ Err condition
  out_refused to condition h = ap (λ (g : Result (Volume × UnitView) Condition). first_removed x false to (from_drive c x.source g)) h

  pub out_is : (one other : Volume) (e : UnitView) (c2 c3 c4 : DeviceView) → IsOk (given mark d) → taken_out d ≡ Ok (one, e) → taken (noting c x.source None) x.first ≡ Ok (other, c2)
      → put c2 x.first one ≡ Ok c3 → put c3 x.second other ≡ Ok c4 → exchanged_by c d x true false false ≡ Ok (c4, e)
  out_is one other e c2 c3 c4 ok out took down up =
      ap (λ (g : Result (Volume × UnitView) Condition). first_removed x false false (from_drive c x.source g)) (given_is mark d e one ok out)
      ∙ ap (λ (g : Result (Volume × DeviceView) TakeFault). both_placed x false false one (by_changer e g)) took
      ∙ ap (λ (g : Result DeviceView PutFault). second_placed x.second false other (to_changer e g)) down
      ∙ ap (λ (g : Result DeviceView PutFault). to_changer e g) up

  pub out_ok : GivesOnly c x → IsOk (given mark d) → IsOk (exchanged_by c d x true false false)
  out_ok ways ok =
      let it = got (given mark d) ok in
      let out = (is_given mark d it.0.1 it.0.0 it.1).out in
      let t = got (taken (noting c x.source None) x.first) ways.first in
      let p = got (put t.0.1 x.first it.0.0) (ways.places t.0.0 it.0.0 t.0.1 t.1) in
      let q = got (put p.0 x.second t.0.0) (ways.second t.0.0 it.0.0 t.0.1 p.0 t.1 p.1) in
      subst (λ (o : Result (DeviceView × UnitView) Condition). IsOk o) (sym (out_is it.0.0 t.0.0 it.0.1 t.0.1 p.0 q.0 ok out t.1 p.1 q.1)) refl

  -- AND TAKES THE OTHER
  pub swap_is : (one other : Volume) (e f : UnitView) (c2 c3 : DeviceView) → IsOk (given mark d) → taken_out d ≡ Ok (one, e) → taken (noting c x.source None) x.first ≡ Ok (other, c2)
      → put c2 x.first one ≡ Ok c3 → put_in e other ≡ Ok f → exchanged_by c d x true false true ≡ Ok (noting c3 x.second (Some other.tag), f)
  swap_is one other e f c2 c3 ok out took down comes =
      ap (λ (g : Result (Volume × UnitView) Condition). first_removed x false true (from_drive c x.source g)) (given_is mark d e one ok out)
      ∙ ap (λ (g : Result (Volume × DeviceView) TakeFault). both_placed x false true one (by_changer e g)) took
      ∙ ap (λ (g : Result DeviceView PutFault). second_placed x.second true other (to_changer e g)) down
      ∙ ap (λ (g : Result UnitView Condition). to_drive c3 x.second other g) (received_is e f other comes)

  pub swap_ok : Swaps c x → IsOk (given mark d) → IsOk (exchanged_by c d x true false true)
  swap_ok ways ok =
      let it = got (given mark d) ok in
      let out = (is_given mark d it.0.1 it.0.0 it.1).out in
      let t = got (taken (noting c x.source None) x.first) ways.first in
      let p = got (put t.0.1 x.first it.0.0) (ways.places t.0.0 it.0.0 t.0.1 t.1) in
      let q = got (put_in it.0.1 t.0.0) (takes_after d it.0.1 it.0.0 t.0.0 out) in
      subst (λ (o : Result (DeviceView × UnitView) Condition). IsOk o) (sym (swap_is it.0.0 t.0.0 it.0.1 q.0 t.0.1 p.0 ok out t.1 p.1 q.1)) refl

  -- THE DRIVE GIVES THE FIRST DESTINATION'S VOLUME, and takes the source's. The changer takes up the source's first, which leaves the mark
  pub through_refused : GivesAndTakes c x → (condition : Condition) → given (held_in c x.first) d ≡ Err condition → exchanged_by c d x false true false ≡ Err condition
  through_refused ways condition h =
      let t = got (taken c x.source) ways.source in
      let same : given (held_in t.0.1 x.first) d ≡ Err condition = ap (λ (m : Option VolumeTag). given m d) (ways.mark t.0.0 t.0.1 t.1) ∙ h in
      ap (λ (g : Result (Volume × DeviceView) TakeFault). first_removed x true false (by_changer d g)) t.1
      ∙ ap (λ (g : Result (Volume × UnitView) Condition). both_placed x true false t.0.0 (from_drive t.0.1 x.first g)) same

  pub through_is : GivesAndTakes c x → (one other : Volume) (e f : UnitView) (c1 c4 : DeviceView) → IsOk (given (held_in c x.first) d) → taken c x.source ≡ Ok (one, c1) → taken_out d ≡ Ok (other, e)
      → put_in e one ≡ Ok f → put (noting (noting c1 x.first None) x.first (Some one.tag)) x.second other ≡ Ok c4 → exchanged_by c d x false true false ≡ Ok (c4, f)
  through_is ways one other e f c1 c4 ok took out comes up =
      let same : held_in c1 x.first ≡ held_in c x.first = ways.mark one c1 took in
      let gives : given (held_in c1 x.first) d ≡ Ok (other, e) = ap (λ (m : Option VolumeTag). given m d) same ∙ given_is (held_in c x.first) d e other ok out in
      ap (λ (g : Result (Volume × DeviceView) TakeFault). first_removed x true false (by_changer d g)) took
      ∙ ap (λ (g : Result (Volume × UnitView) Condition). both_placed x true false one (from_drive c1 x.first g)) gives
      ∙ ap (λ (g : Result UnitView Condition). second_placed x.second false other (to_drive (noting c1 x.first None) x.first one g)) (received_is e f one comes)
      ∙ ap (λ (g : Result DeviceView PutFault). to_changer f g) up

  pub through_ok : GivesAndTakes c x → IsOk (given (held_in c x.first) d) → IsOk (exchanged_by c d x false true false)
  through_ok ways ok =
      let it = got (given (held_in c x.first) d) ok in
      let out = (is_given (held_in c x.first) d it.0.1 it.0.0 it.1).out in
      let t = got (taken c x.source) ways.source in
      let r = got (put_in it.0.1 t.0.0) (takes_after d it.0.1 it.0.0 t.0.0 out) in
      let q = got (put (noting (noting t.0.1 x.first None) x.first (Some t.0.0.tag)) x.second it.0.0) (ways.second t.0.0 it.0.0 t.0.1 t.1) in
      subst (λ (o : Result (DeviceView × UnitView) Condition). IsOk o) (sym (through_is ways t.0.0 it.0.0 it.0.1 r.0 t.0.1 q.0 ok t.1 out r.1 q.1)) refl

  -- THE DRIVE TAKES THE FIRST DESTINATION'S VOLUME
  pub in_refused : TakesOnly c x → ((volume : Volume) → is_ok (put_in d volume) ≡ false) → exchanged_by c d x false false true ≡ Err InternalTargetFailure
  in_refused ways full =
      let t = got (taken c x.source) ways.source in
      let u = got (taken t.0.1 x.first) (ways.first t.0.0 t.0.1 t.1) in
      let p = got (put u.0.1 x.first t.0.0) (ways.places t.0.0 u.0.0 t.0.1 u.0.1 t.1 u.1) in
      ap (λ (g : Result (Volume × DeviceView) TakeFault). first_removed x false true (by_changer d g)) t.1
      ∙ ap (λ (g : Result (Volume × DeviceView) TakeFault). both_placed x false true t.0.0 (by_changer d g)) u.1
      ∙ ap (λ (g : Result DeviceView PutFault). second_placed x.second true u.0.0 (to_changer d g)) p.1
      ∙ ap (λ (g : Result UnitView Condition). to_drive p.0 x.second u.0.0 g) (not_received_by (put_in d u.0.0) (full u.0.0))

  pub in_is : (one other : Volume) (f : UnitView) (c1 c2 c3 : DeviceView) → taken c x.source ≡ Ok (one, c1) → taken c1 x.first ≡ Ok (other, c2) → put c2 x.first one ≡ Ok c3 → put_in d other ≡ Ok f
      → exchanged_by c d x false false true ≡ Ok (noting c3 x.second (Some other.tag), f)
  in_is one other f c1 c2 c3 took then down comes =
      ap (λ (g : Result (Volume × DeviceView) TakeFault). first_removed x false true (by_changer d g)) took
      ∙ ap (λ (g : Result (Volume × DeviceView) TakeFault). both_placed x false true one (by_changer d g)) then
      ∙ ap (λ (g : Result DeviceView PutFault). second_placed x.second true other (to_changer d g)) down
      ∙ ap (λ (g : Result UnitView Condition). to_drive c3 x.second other g) (received_is d f other comes)

  pub in_ok : TakesOnly c x → ((volume : Volume) → is_ok (put_in d volume) ≡ true) → IsOk (exchanged_by c d x false false true)
  in_ok ways free =
      let t = got (taken c x.source) ways.source in
      let u = got (taken t.0.1 x.first) (ways.first t.0.0 t.0.1 t.1) in
      let p = got (put u.0.1 x.first t.0.0) (ways.places t.0.0 u.0.0 t.0.1 u.0.1 t.1 u.1) in
      let r = got (put_in d u.0.0) (free u.0.0) in
      subst (λ (o : Result (DeviceView × UnitView) Condition). IsOk o) (sym (in_is t.0.0 u.0.0 r.0 t.0.1 u.0.1 p.0 t.1 u.1 p.1 r.1)) refl
