-- The units of a target, by place.
use Rattle.std.proofs.Common.{◌≡◌, ◌≤◌, ◌+◌, ◌==◌, ℕ, zero, suc, true, List, [], ◌∷◌, length, Option, Some, None, refl, sym, ap, ◌∙◌, subst, arith}
use Rattle.std.proofs.lemmas.Bool.Decides.{nat_tests}
use Rattle.std.specs.Prelude.{nat_lt, drop, slice_get, is_some}
use Rattle.std.specs.Option.{ForSome, option_map}
use Rattle.scsi_cdb.specs.declared.kind.Kind.TheVariants as kind
use Rattle.device_server.specs.View.{DeviceView, Drive, Changer, kind_of, drives_of}
use Rattle.logical_unit.specs.UnitView.{UnitView, UnitWithRoom}
use Rattle.scsi_cdb.specs.Kinds.{kind_at}
use Rattle.target_core.specs.Faults.{fault_of, profile_in}
use Rattle.target_core.proofs.Ordered.{ordered, has_drives, drive_of}
use Rattle.lun_router.specs.Units.{IsAt}

-- a drive has no data transfer elements
drive_has_none : (device : DeviceView) → kind_of device ≡ kind.Drive → drives_of device ≡ 0
drive_has_none (Drive d) h = refl
drive_has_none (Changer e) h = absurd cc

kind_above : (i : ℕ) → kind_at (i + 1) ≡ kind.Drive
kind_above i = grind (arith, nat_tests)

is_zero : (n : ℕ) → (n == 0) ≡ true → n ≡ 0
is_zero n h = grind (arith, nat_tests)

pub placed : (us : List UnitView) (k : ℕ) (u : UnitView) → fault_of us ≡ None → slice_get us k ≡ Some u → IsAt (profile_in us) k u
placed [] k u whole there = absurd cc
placed (c ∷ ds) zero u whole there =
    let o = ordered c ds whole in
    let is : c ≡ u = cc in
    let count = has_drives c ds o in
    let most = o.few in
    subst (λ (x : UnitView). IsAt (profile_in (c ∷ ds)) 0 x) is (record { kind = o.kind; profile = refl; place = is_zero c.state.lun o.lun; few = omega (arith, count, most) })
placed (c ∷ ds) (suc i) u whole there =
    let o = ordered c ds whole in
    let at = drive_of c ds i u o there in
    let none = drive_has_none u.device at.kind in
    let one : suc i ≡ i + 1 = omega arith in
    subst (λ (k : ℕ). IsAt (profile_in (c ∷ ds)) k u) (sym one) (record { kind = at.kind ∙ sym (kind_above i); profile = at.profile; place = at.lun; few = omega (arith, none) })

-- how many there are
pub enough : (us : List UnitView) → fault_of us ≡ None → 2 ≤ length us
enough [] whole = absurd cc
enough (c ∷ ds) whole = let some = (ordered c ds whole).some in omega (arith, some)

pub few : (us : List UnitView) → fault_of us ≡ None → length us ≤ 5
few [] whole = absurd cc
few (c ∷ ds) whole = let most = (ordered c ds whole).few in omega (arith, most)

-- a unit is at a place exactly if so many are there
pub there_is : (us : List UnitView) (k : ℕ) → is_some (slice_get us k) ≡ nat_lt k (length us)
there_is [] k = grind (arith, nat_tests)
there_is (u ∷ us) zero = grind (arith, nat_tests)
there_is (u ∷ us) (suc k) = there_is us k ∙ grind (arith, nat_tests)

-- the units behind the first
pub behind : (us : List UnitView) (k : ℕ) → slice_get (drop 1 us) k ≡ slice_get us (k + 1)
behind [] k = refl
behind (u ∷ us) k = let one : k + 1 ≡ suc k = omega arith in ap (slice_get (u ∷ us)) (sym one)

-- of a unit that was taken from a place, if there was one
abbrev pub units_in : Option UnitWithRoom → Option UnitView
units_in o = option_map (λ (u : UnitWithRoom). u.unit) o

pub placed_some : (us : List UnitView) (k : ℕ) (o : Option UnitWithRoom) → fault_of us ≡ None → units_in o ≡ slice_get us k → ForSome o
    (λ u. IsAt (profile_in us) k u.unit)
placed_some us k o whole is = λ (u : UnitWithRoom) (has : o ≡ Some u). placed us k u.unit whole (sym is ∙ ap units_in has)

pub is_there : (us : List UnitView) (k : ℕ) (o : Option UnitWithRoom) → units_in o ≡ slice_get us k → is_some o ≡ nat_lt k (length us)
is_there us k None is = ap is_some is ∙ there_is us k
is_there us k (Some u) is = ap is_some is ∙ there_is us k

-- the units that are taken off one by one are those by place
pub record AreBehind (us one two three four : List UnitView) : Type 0 where
  pub first : slice_get one 0 ≡ slice_get us 1
  pub second : slice_get two 0 ≡ slice_get us 2
  pub third : slice_get three 0 ≡ slice_get us 3
  pub fourth : slice_get four 0 ≡ slice_get us 4

step : (us rest : List UnitView) (k : ℕ) → rest ≡ drop 1 us → slice_get rest k ≡ slice_get us (k + 1)
step us rest k is = ap (λ (l : List UnitView). slice_get l k) is ∙ behind us k

pub one_by_one : (us one two three four : List UnitView) → one ≡ drop 1 us → two ≡ drop 1 one → three ≡ drop 1 two → four ≡ drop 1 three →
    AreBehind us one two three four
one_by_one us one two three four a b c d = record {
  first = step us one 0 a;
  second = step one two 0 b ∙ step us one 1 a;
  third = step two three 0 c ∙ step one two 1 b ∙ step us one 2 a;
  fourth = step three four 0 d ∙ step two three 1 c ∙ step one two 2 b ∙ step us one 3 a;
}
