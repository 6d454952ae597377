-- The cartridges of an exchange with a drive: two leave their elements and come to others.
use Rattle.std.proofs.Common.{◌≡◌, ℕ, zero, suc, Bool, true, false, List, [], ◌∷◌, ◌++◌, IsPermutation, Some, Ok, refl, sym, ap, ◌∙◌, subst}
use Rattle.std.proofs.lemmas.List.Sorted.{IsPermutation-sym, IsPermutation-trans, IsPermutation-middle, IsPermutation-append_left, IsPermutation-append_right}
use Rattle.std.specs.Prelude.{None, is_some, slice_get, slice_set}
use Rattle.scsi_cdb.specs.declared.kind.Kind.TheVariants as kind
use Rattle.tape_medium.specs.declared.volume.Volume.{Volume}
use Rattle.device_server.specs.View.{DeviceView, Drive, Changer, kind_of, exchange_journeyed}
use Rattle.logical_unit.specs.Move.{carried_with_one}
use Rattle.logical_unit.specs.UnitView.{UnitView}
use Rattle.logical_unit.specs.declared.route.Errand.TheVariants.{Exchange}
use Rattle.logical_unit.specs.declared.route.ExchangeRoute.{ExchangeRoute}
use Rattle.logical_unit.proofs.Halves.{IsRemoved, IsPlaced, is_exchanged}
use Rattle.logical_unit.proofs.SameUnits.{removed_same, placed_same}
use Rattle.target_core.proofs.History.{get-set_same}
use Rattle.target_laws.specs.Cartridges.{Cartridge, cartridge_of, cartridges_of, cartridges}
use Rattle.target_laws.proofs.CartridgeDevices.{noting_volumes, drive_gives, drive_gets, changer_gives, changer_gets}
use Rattle.target_laws.proofs.CartridgePlaces.{empties, fills}
use Rattle.target_laws.proofs.Parts.{set-same}

set_set : (xs : List UnitView) (i : ℕ) (x y : UnitView) → slice_set (slice_set xs i x) i y ≡ slice_set xs i y
set_set [] i x y = refl
set_set (z ∷ xs) zero x y = refl
set_set (z ∷ xs) (suc i) x y = ap (λ (ys : List UnitView). z ∷ ys) (set_set xs i x y)

-- two that leave, and then come
crossed : (a b : Cartridge) (all0 all1 all2 all3 all4 : List Cartridge) → IsPermutation all0 (a ∷ all1) → IsPermutation all1 (b ∷ all2) → IsPermutation (a ∷ all2) all3 → IsPermutation (b ∷ all3) all4
    → IsPermutation all0 all4
crossed a b all0 all1 all2 all3 all4 first second third fourth =
    IsPermutation-trans all0 (a ∷ all1) all4 first
    (IsPermutation-trans (a ∷ all1) (a ∷ b ∷ all2) all4 (IsPermutation-append_right (a ∷ []) all1 (b ∷ all2) second)
    (IsPermutation-trans (a ∷ b ∷ all2) (b ∷ a ∷ all2) all4 (IsPermutation-middle (a ∷ []) b all2)
    (IsPermutation-trans (b ∷ a ∷ all2) (b ∷ all3) all4 (IsPermutation-append_right (b ∷ []) (a ∷ all2) all3 third) fourth)))

journeyed_volumes : (device : DeviceView) (source first second : ℕ) → cartridges_of (exchange_journeyed device source first second) ≡ cartridges_of device
journeyed_volumes (Drive d) source first second = refl
journeyed_volumes (Changer c) source first second = refl

module _ (ds : List UnitView) (k : ℕ) (d : UnitView) (there : slice_get ds k ≡ Some d) where
  abbrev drives : UnitView → List Cartridge
  drives x = cartridges (slice_set ds k x)

  abbrev all : DeviceView → UnitView → List Cartridge
  all device x = cartridges_of device ++ drives x

  leaves : (of_drive : Bool) (before after : DeviceView) (x y : UnitView) (address : ℕ) (v : Volume) → kind_of before ≡ kind.Changer → IsRemoved of_drive before x address v after y
      → IsPermutation (all before x) (cartridge_of v ∷ all after y)
  leaves true before after x y address v changer is =
      let one = cartridge_of v in
      let own = cartridges_of before in
      let out = drive_gives x y v is.gives.out in
      let gone : IsPermutation (drives x) (one ∷ drives y) =
      subst (λ (xs : List UnitView). IsPermutation (drives x) (one ∷ cartridges xs)) (set_set ds k x y) (empties (slice_set ds k x) k x y one (get-set_same ds k x d there) out.0 out.1) in
      subst (λ (cs : List Cartridge). IsPermutation (all before x) (one ∷ (cs ++ drives y))) (sym (ap cartridges_of is.marks ∙ noting_volumes before address None))
      (IsPermutation-trans (own ++ drives x) (own ++ one ∷ drives y) (one ∷ (own ++ drives y)) (IsPermutation-append_right own (drives x) (one ∷ drives y) gone) (IsPermutation-middle own one (drives y)))
  leaves false before after x y address v changer is =
      subst (λ (u : UnitView). IsPermutation (all before x) (cartridge_of v ∷ all after u)) (sym is.same)
      (IsPermutation-append_left (drives x) (cartridges_of before) (cartridge_of v ∷ cartridges_of after) (changer_gives before after address v changer is.takes))

  comes : (of_drive : Bool) (before after : DeviceView) (x y : UnitView) (address : ℕ) (v : Volume) → kind_of before ≡ kind.Changer → IsPlaced of_drive before x address v after y
      → IsPermutation (cartridge_of v ∷ all before x) (all after y)
  comes true before after x y address v changer is =
      let one = cartridge_of v in
      let own = cartridges_of before in
      let into = drive_gets x y v is.comes in
      let come : IsPermutation (one ∷ drives x) (drives y) =
      subst (λ (xs : List UnitView). IsPermutation (one ∷ drives x) (cartridges xs)) (set_set ds k x y) (fills (slice_set ds k x) k x y one (get-set_same ds k x d there) into.0 into.1) in
      subst (λ (cs : List Cartridge). IsPermutation (one ∷ all before x) (cs ++ drives y)) (sym (ap cartridges_of is.marks ∙ noting_volumes before address (Some v.tag)))
      (IsPermutation-trans (one ∷ (own ++ drives x)) (own ++ one ∷ drives x) (own ++ drives y)
      (IsPermutation-sym (own ++ one ∷ drives x) (one ∷ (own ++ drives x)) (IsPermutation-middle own one (drives x))) (IsPermutation-append_right own (one ∷ drives x) (drives y) come))
  comes false before after x y address v changer is =
      subst (λ (u : UnitView). IsPermutation (cartridge_of v ∷ all before x) (all after u)) (sym is.same)
      (IsPermutation-append_left (drives x) (cartridge_of v ∷ cartridges_of before) (cartridges_of after) (changer_gets before after address v changer is.puts))

  pub exchange_stay : (c v e : UnitView) (x : ExchangeRoute) → kind_of c.device ≡ kind.Changer → (unnoted : DeviceView) → v.device ≡ exchange_journeyed unnoted x.source x.first x.second
      → carried_with_one c.device d (Exchange x) ≡ Ok (unnoted, e) → IsPermutation (cartridges (c ∷ ds)) (cartridges (v ∷ slice_set ds k e))
  exchange_stay c v e x changer unnoted notes h =
      let from = is_some x.from in
      let between = is_some x.between in
      let to = is_some x.to in
      let s = is_exchanged c.device d x from between to unnoted e h in
      let one = cartridge_of s.one in
      let other = cartridge_of s.other in
      let k1 : kind_of s.without_one ≡ kind.Changer = (removed_same from c.device d x.source s.one s.without_one s.drive_one changer s.source).changer.kind ∙ changer in
      let k2 : kind_of s.without_both ≡ kind.Changer = (removed_same between s.without_one s.drive_one x.first s.other s.without_both s.drive_both k1 s.first).changer.kind ∙ k1 in
      let k3 : kind_of s.with_one ≡ kind.Changer = (placed_same between s.without_both s.drive_both x.first s.one s.with_one s.drive_with k2 s.places).changer.kind ∙ k2 in
      let a = leaves from c.device s.without_one d s.drive_one x.source s.one changer s.source in
      let b = leaves between s.without_one s.without_both s.drive_one s.drive_both x.first s.other k1 s.first in
      let p = comes between s.without_both s.with_one s.drive_both s.drive_with x.first s.one k2 s.places in
      let q = comes to s.with_one unnoted s.drive_with e x.second s.other k3 s.second in
      let is : cartridges_of v.device ≡ cartridges_of unnoted = ap cartridges_of notes ∙ journeyed_volumes unnoted x.source x.first x.second in
      subst (λ (cs : List Cartridge). IsPermutation (cartridges (c ∷ ds)) (cs ++ drives e)) (sym is)
      (subst (λ (xs : List UnitView). IsPermutation (cartridges_of c.device ++ cartridges xs) (all unnoted e)) (set-same ds k d there)
      (crossed one other (all c.device d) (all s.without_one s.drive_one) (all s.without_both s.drive_both) (all s.with_one s.drive_with) (all unnoted e) a b p q))
