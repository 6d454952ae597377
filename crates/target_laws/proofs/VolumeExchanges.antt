-- Two volumes that an exchange carries: each leaves its element and stands where it goes, and no other moves.
use Rattle.std.proofs.Common.{◌≡◌, ◌≢◌, ℕ, suc, Bool, true, false, ◌==◌, List, ◌∷◌, length, Option, Some, None, Ok, refl, sym, ap, ◌∙◌, subst, arith}
use Rattle.std.proofs.lemmas.Bool.Decides.{nat_tests}
use Rattle.std.proofs.lemmas.List.{length-set}
use Rattle.std.proofs.lemmas.Map.Views.{exact_unsigned_eq}
use Rattle.std.specs.Prelude.{slice_get, slice_set}
use Rattle.tape_medium.specs.declared.volume.Volume.{Volume}
use Rattle.device_server.specs.View.{DeviceView, exchange_journeyed}
use Rattle.device_server.specs.Volumes.{volume_at, SameVolume, SameAt}
use Rattle.device_server.proofs.PlaceLemmas.{takes_one, puts_one, exchanges_that_are_noted_move_nothing}
use Rattle.logical_unit.specs.Move.{exchanged_by}
use Rattle.logical_unit.specs.Route.{drive_at}
use Rattle.logical_unit.specs.UnitView.{UnitView}
use Rattle.logical_unit.specs.declared.route.ExchangeRoute.{ExchangeRoute}
use Rattle.logical_unit.proofs.Halves.{IsRemoved, IsPlaced, is_exchanged}
use Rattle.logical_unit.proofs.NamedDrives.{some_of, drive_within}
use Rattle.target_core.proofs.History.{get-set_same, get-set_other}
use Rattle.target_laws.specs.Volumes.{bay_of, volume_in, AreExchanged}
use Rattle.target_laws.proofs.Parts.{set-same}
use Rattle.target_laws.proofs.VolumePlaces.{by_element, at_drive, at_own, held, same_on}
use Rattle.target_laws.proofs.VolumeStill.{noting_still, drive_gives_out, drive_takes_in}

-- A STEP, by what is seen at each address before and after it: a volume leaves an element, or comes to one
pub record Leaves (before after : ℕ → Option Volume) (address : ℕ) (v : Volume) : Type 0 where
  pub full : SameAt SameVolume (before address) (Some v)
  pub empty : after address ≡ None
  pub others : (other : ℕ) → other ≢ address → after other ≡ before other

pub record Comes (before after : ℕ → Option Volume) (address : ℕ) (v : Volume) : Type 0 where
  pub empty : before address ≡ None
  pub full : SameAt SameVolume (Some v) (after address)
  pub others : (other : ℕ) → other ≢ address → after other ≡ before other

-- THE FOUR STEPS of an exchange
pub record Crossed (before after : ℕ → Option Volume) (source first second : ℕ) : Type 0 where
  pub one : Volume
  pub other : Volume
  pub apart : (source ≢ first) × (first ≢ second)
  pub full : before source ≡ Some one
  pub first_full : before first ≡ Some other
  pub empty : second ≢ source → before second ≡ None
  pub left : second ≢ source → after source ≡ None
  pub first_there : SameAt SameVolume (Some one) (after first)
  pub there : SameAt SameVolume (Some other) (after second)
  pub others : (address : ℕ) → address ≢ source → address ≢ first → address ≢ second → after address ≡ before address

module _ (f0 f1 f2 f3 f4 : ℕ → Option Volume) (source first second : ℕ) (one other : Volume) (a : Leaves f0 f1 source one) (b : Leaves f1 f2 first other) (c : Comes f2 f3 first one) (d : Comes f3 f4 second other) where
  not_source : first ≢ source
  not_source e = subst (λ (o : Option Volume). SameAt SameVolume o (Some other)) (ap f1 e ∙ a.empty) b.full

  not_first : second ≢ first
  not_first e = subst (λ (o : Option Volume). SameAt SameVolume (Some one) o) (ap f3 (sym e) ∙ d.empty) c.full

  pub crossed : Crossed f0 f4 source first second
  crossed =
      let w = held (f0 source) one a.full in
      let x = held (f0 first) other (subst (λ (o : Option Volume). SameAt SameVolume o (Some other)) (a.others first not_source) b.full) in
      record {
        one = w.volume;
        other = x.volume;
        apart = (λ e. not_source (sym e), λ e. not_first (sym e));
        full = w.is;
        first_full = x.is;
        empty = λ apart. sym (a.others second apart) ∙ sym (b.others second not_first) ∙ sym (c.others second not_first) ∙ d.empty;
        left = λ apart. d.others source (λ e. apart (sym e)) ∙ c.others source (λ e. not_source (sym e)) ∙ b.others source (λ e. not_source (sym e)) ∙ a.empty;
        first_there = subst (λ (o : Option Volume). SameAt SameVolume (Some w.volume) o) (sym (d.others first (λ e. not_first (sym e)))) (same_on w.volume one (f3 first) w.same c.full);
        there = same_on x.volume other (f4 second) x.same d.full;
        others = λ address from between to. d.others address to ∙ c.others address between ∙ b.others address between ∙ a.others address from;
      }

other_place : (j k : ℕ) → (j == k) ≡ false → k ≢ j
other_place j k is = grind (arith, nat_tests)

-- THE CHANGER AND THE DRIVE in their place, as each step leaves them
module _ (c : UnitView) (ds : List UnitView) (k : ℕ) (d : UnitView) (there : slice_get ds k ≡ Some d) where
  abbrev pub seen : DeviceView → UnitView → ℕ → Option Volume
  seen device x address = volume_in (record c { device = device } ∷ slice_set ds k x) address

  size : (x : UnitView) → length (slice_set ds k x) ≡ length ds
  size x = length-set ds k x

  at_k : (device : DeviceView) (x : UnitView) (address : ℕ) → drive_at (length ds) address ≡ Some (suc k) → seen device x address ≡ volume_at x.device 0
  at_k device x address at = at_drive (record c { device = device }) (slice_set ds k x) address k x (ap (λ n. drive_at n address) (size x) ∙ at) (get-set_same ds k x d there)

  at_c : (device : DeviceView) (x : UnitView) (address : ℕ) → drive_at (length ds) address ≡ None → seen device x address ≡ volume_at device address
  at_c device x address at = at_own (record c { device = device }) (slice_set ds k x) address (ap (λ n. drive_at n address) (size x) ∙ at)

  bays : (x y : UnitView) (j : ℕ) → (j ≡ k → volume_at y.device 0 ≡ volume_at x.device 0) → bay_of (slice_get (slice_set ds k y) j) ≡ bay_of (slice_get (slice_set ds k x) j)
  bays x y j same = (elim (j == k) as (λ (b : Bool). (j == k) ≡ b → bay_of (slice_get (slice_set ds k y) j) ≡ bay_of (slice_get (slice_set ds k x) j)) [
    | true ↦ λ is.
        let at : j ≡ k = exact_unsigned_eq j k is in
        ap (λ (i : ℕ). bay_of (slice_get (slice_set ds k y) i)) at
        ∙ ap bay_of (get-set_same ds k y d there)
        ∙ same at
        ∙ sym (ap bay_of (get-set_same ds k x d there))
        ∙ sym (ap (λ (i : ℕ). bay_of (slice_get (slice_set ds k x) i)) at)
    | false ↦ λ is. ap bay_of (get-set_other ds k j y (other_place j k is)) ∙ sym (ap bay_of (get-set_other ds k j x (other_place j k is)))
  ]) refl

  -- where neither the drive's volume nor the changer's own changed
  others : (before after : DeviceView) (x y : UnitView) (address : ℕ) → (drive_at (length ds) address ≡ None → volume_at after address ≡ volume_at before address)
      → (drive_at (length ds) address ≡ Some (suc k) → volume_at y.device 0 ≡ volume_at x.device 0) → seen after y address ≡ seen before x address
  others before after x y address own drive =
      let same : drive_at (length (slice_set ds k x)) address ≡ drive_at (length ds) address = ap (λ n. drive_at n address) (size x) in
      by_element (λ p q. q ≡ p) (record c { device = before }) (record c { device = after }) (slice_set ds k x) (slice_set ds k y) address (size y ∙ sym (size x))
      (λ j at. bays x y j (λ is. drive (sym same ∙ at ∙ ap (λ i. some_of (suc i)) is)))
      (λ none. own (sym same ∙ none))

  same_place : (a b : ℕ) → drive_at (length ds) a ≡ Some (suc k) → drive_at (length ds) b ≡ Some (suc k) → a ≡ b
  same_place a b first second = (drive_within (length ds) a (suc k) first).2 ∙ sym (drive_within (length ds) b (suc k) second).2

  -- whether an end is the drive's
  abbrev pub IsEnd : (of_drive : Bool) → (address : ℕ) → Type 0
  IsEnd true address = drive_at (length ds) address ≡ Some (suc k)
  IsEnd false address = drive_at (length ds) address ≡ None

  leaves : (of_drive : Bool) (before after : DeviceView) (x y : UnitView) (address : ℕ) (v : Volume) → IsEnd of_drive address → IsRemoved of_drive before x address v after y
      → Leaves (seen before x) (seen after y) address v
  leaves true before after x y address v at is =
      let out = drive_gives_out x y v is.gives.out in
      record {
        full = subst (λ (o : Option Volume). SameAt SameVolume o (Some v)) (sym (at_k before x address at)) out.full;
        empty = at_k after y address at ∙ out.empty;
        others = λ other apart. others before after x y other (λ none. ap (λ (z : DeviceView). volume_at z other) is.marks ∙ noting_still before address None other)
            (λ drive. absurd (apart (same_place other address drive at)));
      }
  leaves false before after x y address v at is =
      let out = takes_one before after address v is.takes in
      record {
        full = subst (λ (o : Option Volume). SameAt SameVolume o (Some v)) (sym (at_c before x address at)) out.full;
        empty = at_c after y address at ∙ out.empty;
        others = λ other apart. others before after x y other (λ none. out.others other apart) (λ drive. ap (λ (u : UnitView). volume_at u.device 0) is.same);
      }

  comes : (of_drive : Bool) (before after : DeviceView) (x y : UnitView) (address : ℕ) (v : Volume) → IsEnd of_drive address → IsPlaced of_drive before x address v after y
      → Comes (seen before x) (seen after y) address v
  comes true before after x y address v at is =
      let into = drive_takes_in x y v is.comes in
      record {
        empty = at_k before x address at ∙ into.empty;
        full = subst (λ (o : Option Volume). SameAt SameVolume (Some v) o) (sym (at_k after y address at)) into.full;
        others = λ other apart. others before after x y other (λ none. ap (λ (z : DeviceView). volume_at z other) is.marks ∙ noting_still before address (Some v.tag) other)
            (λ drive. absurd (apart (same_place other address drive at)));
      }
  comes false before after x y address v at is =
      let into = puts_one before after address v is.puts in
      record {
        empty = at_c before x address at ∙ into.empty;
        full = subst (λ (o : Option Volume). SameAt SameVolume (Some v) o) (sym (at_c after y address at)) into.full;
        others = λ other apart. others before after x y other (λ none. into.others other apart) (λ drive. ap (λ (u : UnitView). volume_at u.device 0) is.same);
      }

  comes_as : (f g h : ℕ → Option Volume) (address : ℕ) (v : Volume) → ((place : ℕ) → h place ≡ g place) → Comes f g address v → Comes f h address v
  comes_as f g h address v same it = record {
    empty = it.empty;
    full = subst (λ (o : Option Volume). SameAt SameVolume (Some v) o) (sym (same address)) it.full;
    others = λ other apart. same other ∙ it.others other apart;
  }

  -- the changer is left as unnoted when both volumes are down, and then notes where from
  pub exchange_carries : (v e : UnitView) (x : ExchangeRoute) (from between to : Bool) (unnoted : DeviceView) → v.device ≡ exchange_journeyed unnoted x.source x.first x.second
      → IsEnd from x.source → IsEnd between x.first → IsEnd to x.second → exchanged_by c.device d x from between to ≡ Ok (unnoted, e)
      → AreExchanged (c ∷ ds) (v ∷ slice_set ds k e) x.source x.first x.second
  exchange_carries v e x from between to unnoted notes is_from is_between is_to h =
      let s = is_exchanged c.device d x from between to unnoted e h in
      let f1 : ℕ → Option Volume = seen s.without_one s.drive_one in
      let f2 : ℕ → Option Volume = seen s.without_both s.drive_both in
      let f3 : ℕ → Option Volume = seen s.with_one s.drive_with in
      let f0 : ℕ → Option Volume = λ address. volume_in (c ∷ ds) address in
      let f4 : ℕ → Option Volume = λ address. volume_in (v ∷ slice_set ds k e) address in
      let still : (place : ℕ) → f4 place ≡ seen unnoted e place =
      λ place. by_element (λ p q. q ≡ p) (record c { device = unnoted }) v (slice_set ds k e) (slice_set ds k e) place refl (λ j at. refl)
      (λ none. ap (λ (z : DeviceView). volume_at z place) notes ∙ exchanges_that_are_noted_move_nothing unnoted x.source x.first x.second place) in
      let a : Leaves f0 f1 x.source s.one = subst (λ (xs : List UnitView). Leaves (λ address. volume_in (c ∷ xs) address) f1 x.source s.one) (set-same ds k d there)
      (leaves from c.device s.without_one d s.drive_one x.source s.one is_from s.source) in
      let b : Leaves f1 f2 x.first s.other = leaves between s.without_one s.without_both s.drive_one s.drive_both x.first s.other is_between s.first in
      let p : Comes f2 f3 x.first s.one = comes between s.without_both s.with_one s.drive_both s.drive_with x.first s.one is_between s.places in
      let q : Comes f3 f4 x.second s.other = comes_as f3 (seen unnoted e) f4 x.second s.other still (comes to s.with_one unnoted s.drive_with e x.second s.other is_to s.second) in
      let all = crossed f0 f1 f2 f3 f4 x.source x.first x.second s.one s.other a b p q in
      record {
        one = all.one;
        other = all.other;
        apart = all.apart;
        full = all.full;
        first_full = all.first_full;
        empty = all.empty;
        left = all.left;
        first_there = all.first_there;
        there = all.there;
        others = all.others;
      }
