-- A move at the places of the units that it touches, among units with their room.
use Rattle.std.proofs.Common.{◌≡◌, ◌≤◌, ◌<◌, ◌-◌, ℕ, zero, suc, List, [], ◌∷◌, ◌++◌, length, get_or, Option, Some, None, refl, sym, ap, ◌∙◌, subst, arith}
use Rattle.std.proofs.lemmas.List.{length-map}
use Rattle.std.specs.Prelude.{slice_get, slice_set, slice_index_or}
use Rattle.scsi_cdb.specs.declared.profile.CommandSet.{CommandSet}
use Rattle.scsi_nexus.specs.declared.nexus.Nexus.{Nexus}
use Rattle.device_server.specs.View.{commands_of, drives_of}
use Rattle.judgement.specs.declared.reply.Reply.{Reply}
use Rattle.logical_unit.specs.Move.{TwoDrives, MovesOne, MovesTwo}
use Rattle.logical_unit.specs.Route.{named}
use Rattle.logical_unit.specs.Step.{Executes}
use Rattle.logical_unit.specs.UnitView.{UnitView, UnitWithRoom, units_of}
use Rattle.target_core.specs.Faults.{fault_of}
use Rattle.target_core.specs.Run.{AtUnit, AtDrive, AtDrives, MovesWith, MovesBetween, CommandsNaming, NamesAt, Commands}
use Rattle.target_core.proofs.Ordered.{ordered, has_drives, drive_of, one_named, two_named}
use Rattle.target_core.proofs.Places.{placed, units_of-set}

-- the drives that a CDB names, by how many units there are
names_in : (c : UnitView) (ds : List UnitView) (commands : CommandSet) (cdb names : List ℕ) → fault_of (c ∷ ds) ≡ None → commands ≡ commands_of c.device → named commands (length ds) cdb ≡ names → NamesAt (c ∷ ds) cdb names
names_in c ds commands cdb names h same is = ap (λ k. named (commands_of c.device) k cdb) (has_drives c ds (ordered c ds h)) ∙ ap (λ (s : CommandSet). named s (length ds) cdb) (sym same) ∙ is

pub names_at : (z : UnitWithRoom) (back : List UnitWithRoom) (commands : CommandSet) (cdb names : List ℕ) → fault_of (units_of (z ∷ back)) ≡ None → commands ≡ commands_of z.unit.device → named commands (length back) cdb ≡ names → NamesAt (units_of (z ∷ back)) cdb names
names_at z back commands cdb names h same is = names_in z.unit (units_of back) commands cdb names h same (ap (λ k. named commands k cdb) (length-map back (λ (u : UnitWithRoom). u.unit)) ∙ is)

-- and they are among them
pub one_within : (z : UnitWithRoom) (back : List UnitWithRoom) (cdb : List ℕ) (l : ℕ) → fault_of (units_of (z ∷ back)) ≡ None → NamesAt (units_of (z ∷ back)) cdb (l ∷ []) → (1 ≤ l) × (l ≤ length back)
one_within z back cdb l h names =
    let w = one_named z.unit.device cdb l names in
    let count : drives_of z.unit.device ≡ length back = has_drives z.unit (units_of back) (ordered z.unit (units_of back) h) ∙ length-map back (λ (u : UnitWithRoom). u.unit) in
    (w.0, subst (λ k. l ≤ k) count w.1)

pub two_within : (z : UnitWithRoom) (back : List UnitWithRoom) (cdb : List ℕ) (l m : ℕ) → fault_of (units_of (z ∷ back)) ≡ None → NamesAt (units_of (z ∷ back)) cdb (l ∷ m ∷ []) → (1 ≤ l) × (l < m) × (m ≤ length back)
two_within z back cdb l m h names =
    let w = two_named z.unit.device cdb l m [] names in
    let count : drives_of z.unit.device ≡ length back = has_drives z.unit (units_of back) (ordered z.unit (units_of back) h) ∙ length-map back (λ (u : UnitWithRoom). u.unit) in
    (w.0, w.1, subst (λ k. m ≤ k) count w.2)

-- the changer alone
pub alone_moved : (z v : UnitWithRoom) (back : List UnitWithRoom) (n : Nexus) (cdb bytes : List ℕ) (r : Reply) → NamesAt (units_of (z ∷ back)) cdb [] → Executes z.unit n cdb bytes (v.unit, r) → Commands (units_of (z ∷ back)) 0 n cdb bytes (units_of (v ∷ back), r)
alone_moved z v back n cdb bytes r names e =
    let at : AtUnit (units_of (z ∷ back)) 0 (Executes z.unit n cdb bytes) (units_of (v ∷ back), r) = record { unit = v.unit; step = e; units = refl } in
    subst (λ (l : List ℕ). CommandsNaming (units_of (z ∷ back)) z.unit l n cdb bytes (units_of (v ∷ back), r)) (sym names) at

-- the names, by their count
pub empty_is : (xs : List ℕ) → length xs < 1 → xs ≡ []
empty_is [] h = refl
empty_is (x ∷ xs) h = absurd (omega (arith, h))

pub single_is : (xs : List ℕ) → 1 ≤ length xs → length xs < 2 → xs ≡ get_or xs 0 0 ∷ []
single_is [] low high = absurd (omega (arith, low))
single_is (x ∷ []) low high = refl
single_is (x ∷ y ∷ xs) low high = absurd (omega (arith, high))

pub pair_is : (xs : List ℕ) → 2 ≤ length xs → length xs ≤ 2 → xs ≡ get_or xs 0 0 ∷ get_or xs 1 0 ∷ []
pair_is [] low high = absurd (omega (arith, low))
pair_is (x ∷ []) low high = absurd (omega (arith, low))
pair_is (x ∷ y ∷ []) low high = refl
pair_is (x ∷ y ∷ z ∷ xs) low high = absurd (omega (arith, high))

abbrev pub lun_of : ℕ → List ℕ
lun_of l = l ∷ []

abbrev pub luns_of : ℕ → ℕ → List ℕ
luns_of l m = l ∷ m ∷ []

-- a drive that is named has the number of its place
module _ (z : UnitWithRoom) (back : List UnitWithRoom) (h : fault_of (units_of (z ∷ back)) ≡ None) where
  lun_at : (k : ℕ) (d : UnitWithRoom) → k < length back → (slice_index_or back k d).unit.state.lun ≡ suc k
  lun_at k d within = (drive_of z.unit (units_of back) k (slice_index_or back k d).unit (ordered z.unit (units_of back) h) (placed back k d within)).lun ∙ omega arith

  pub one_asked : (cdb : List ℕ) (k : ℕ) (d : UnitWithRoom) → k < length back → NamesAt (units_of (z ∷ back)) cdb (suc k ∷ []) → named (commands_of z.unit.device) (drives_of z.unit.device) cdb ≡ (slice_index_or back k d).unit.state.lun ∷ []
  one_asked cdb k d within names = names ∙ ap lun_of (sym (lun_at k d within))

  pub one_moved : (n : Nexus) (cdb bytes : List ℕ) (k : ℕ) (d v e : UnitWithRoom) (r : Reply) → k < length back → NamesAt (units_of (z ∷ back)) cdb (suc k ∷ [])
      → MovesOne z.unit (slice_index_or back k d).unit n cdb bytes ((v.unit, r), e.unit) → Commands (units_of (z ∷ back)) 0 n cdb bytes (units_of (v ∷ slice_set back k e), r)
  one_moved n cdb bytes k d v e r within names step =
      let us = units_of (z ∷ back) in
      let at : AtDrive us (suc k) (MovesOne z.unit (slice_index_or back k d).unit n cdb bytes) (units_of (v ∷ slice_set back k e), r)
      = record { changer = v.unit; other = e.unit; step = step; units = ap (λ (xs : List UnitView). v.unit ∷ xs) (units_of-set back k e) } in
      subst (λ (l : List ℕ). CommandsNaming us z.unit l n cdb bytes (units_of (v ∷ slice_set back k e), r)) (sym names)
      (subst (λ (o : Option UnitView). MovesWith us z.unit (suc k) o n cdb bytes (units_of (v ∷ slice_set back k e), r)) (sym (placed back k d within)) at)

  pub two_asked : (cdb : List ℕ) (i j : ℕ) (d e : UnitWithRoom) → i < length back → j < length back → NamesAt (units_of (z ∷ back)) cdb (suc i ∷ suc j ∷ [])
      → named (commands_of z.unit.device) (drives_of z.unit.device) cdb ≡ (slice_index_or back i d).unit.state.lun ∷ (slice_index_or back j e).unit.state.lun ∷ []
  two_asked cdb i j d e low high names = names ∙ ap (λ l. luns_of l (suc j)) (sym (lun_at i d low)) ∙ ap (luns_of (slice_index_or back i d).unit.state.lun) (sym (lun_at j e high))

  pub two_moved : (n : Nexus) (cdb bytes : List ℕ) (i j : ℕ) (d e v f g : UnitWithRoom) (r : Reply) → i < length back → j < length back → NamesAt (units_of (z ∷ back)) cdb (suc i ∷ suc j ∷ [])
      → MovesTwo z.unit (record { low = (slice_index_or back i d).unit; high = (slice_index_or back j e).unit }) n cdb bytes ((v.unit, r), record { low = f.unit; high = g.unit })
      → Commands (units_of (z ∷ back)) 0 n cdb bytes (units_of (v ∷ slice_set (slice_set back i f) j g), r)
  two_moved n cdb bytes i j d e v f g r low high names step =
      let us = units_of (z ∷ back) in
      let ms = units_of (v ∷ slice_set (slice_set back i f) j g) in
      let drives : TwoDrives = record { low = (slice_index_or back i d).unit; high = (slice_index_or back j e).unit } in
      let at : AtDrives us (suc i) (suc j) (MovesTwo z.unit drives n cdb bytes) (ms, r)
      = record { changer = v.unit; drives = record { low = f.unit; high = g.unit }; step = step; units = ap (λ (xs : List UnitView). v.unit ∷ xs) (units_of-set (slice_set back i f) j g ∙ ap (λ (xs : List UnitView). slice_set xs j g.unit) (units_of-set back i f)) } in
      subst (λ (l : List ℕ). CommandsNaming us z.unit l n cdb bytes (ms, r)) (sym names)
      (subst (λ (o : Option UnitView). MovesBetween us z.unit (suc i) (suc j) o (slice_get us (suc j)) n cdb bytes (ms, r)) (sym (placed back i d low))
      (subst (λ (o : Option UnitView). MovesBetween us z.unit (suc i) (suc j) (Some drives.low) o n cdb bytes (ms, r)) (sym (placed back j e high)) at))

  -- places counted from 1
  pub at_lun : (cdb : List ℕ) (lun : ℕ) → 1 ≤ lun → NamesAt (units_of (z ∷ back)) cdb (lun ∷ []) → NamesAt (units_of (z ∷ back)) cdb (suc (lun - 1) ∷ [])
  at_lun cdb lun low names = let same : lun ≡ suc (lun - 1) = omega (arith, low) in subst (λ l. NamesAt (units_of (z ∷ back)) cdb (l ∷ [])) same names

  pub at_luns : (cdb : List ℕ) (low high : ℕ) → 1 ≤ low → low < high → NamesAt (units_of (z ∷ back)) cdb (low ∷ high ∷ []) → NamesAt (units_of (z ∷ back)) cdb (suc (low - 1) ∷ suc (high - 1) ∷ [])
  at_luns cdb low high place rising names =
      let one : low ≡ suc (low - 1) = omega (arith, place) in
      let two : high ≡ suc (high - 1) = omega (arith, place, rising) in
      subst (λ l. NamesAt (units_of (z ∷ back)) cdb (suc (low - 1) ∷ l ∷ [])) two (subst (λ l. NamesAt (units_of (z ∷ back)) cdb (l ∷ high ∷ [])) one names)

-- drives in two parts
pub part_low : (xs ys : List UnitWithRoom) (i : ℕ) (d : UnitWithRoom) → i < length xs → slice_index_or (xs ++ ys) i d ≡ slice_index_or xs i d
part_low [] ys i d h = absurd (omega (arith, h))
part_low (x ∷ xs) ys zero d h = refl
part_low (x ∷ xs) ys (suc i) d h = part_low xs ys i d (omega (arith, h))

pub part_high : (xs ys : List UnitWithRoom) (j : ℕ) (d : UnitWithRoom) → length xs ≡ j → slice_index_or (xs ++ ys) j d ≡ slice_index_or ys 0 d
part_high [] ys zero d h = refl
part_high [] ys (suc j) d h = absurd cc
part_high (x ∷ xs) ys zero d h = absurd cc
part_high (x ∷ xs) ys (suc j) d h = part_high xs ys j d (let e : suc (length xs) ≡ suc j = h in cc)

set_behind : (xs ys : List UnitWithRoom) (j : ℕ) (g : UnitWithRoom) → length xs ≡ j → slice_set (xs ++ ys) j g ≡ xs ++ slice_set ys 0 g
set_behind [] ys zero g h = refl
set_behind [] ys (suc j) g h = absurd cc
set_behind (x ∷ xs) ys zero g h = absurd cc
set_behind (x ∷ xs) ys (suc j) g h = ap (λ (zs : List UnitWithRoom). x ∷ zs) (set_behind xs ys j g (let e : suc (length xs) ≡ suc j = h in cc))

-- both are set in their own part
pub parts_set : (xs ys : List UnitWithRoom) (i j : ℕ) (f g : UnitWithRoom) → i < length xs → length xs ≡ j → slice_set (slice_set (xs ++ ys) i f) j g ≡ slice_set xs i f ++ slice_set ys 0 g
parts_set [] ys i j f g low same = absurd (omega (arith, low))
parts_set (x ∷ xs) ys zero zero f g low same = absurd cc
parts_set (x ∷ xs) ys zero (suc j) f g low same = ap (λ (zs : List UnitWithRoom). f ∷ zs) (set_behind xs ys j g (let e : suc (length xs) ≡ suc j = same in cc))
parts_set (x ∷ xs) ys (suc i) zero f g low same = absurd cc
parts_set (x ∷ xs) ys (suc i) (suc j) f g low same = ap (λ (zs : List UnitWithRoom). x ∷ zs) (parts_set xs ys i j f g (omega (arith, low)) (let e : suc (length xs) ≡ suc j = same in cc))

-- drives in two parts, the higher of two at the head of the second
pub asked_in_parts : (z : UnitWithRoom) (all lower upper : List UnitWithRoom) (cdb : List ℕ) (low high : ℕ) (d e : UnitWithRoom) → fault_of (units_of (z ∷ all)) ≡ None → all ≡ lower ++ upper → length lower ≡ high - 1
    → 1 ≤ low → low < high → high ≤ length all → NamesAt (units_of (z ∷ all)) cdb (low ∷ high ∷ [])
    → named (commands_of z.unit.device) (drives_of z.unit.device) cdb ≡ (slice_index_or lower (low - 1) d).unit.state.lun ∷ (slice_index_or upper 0 e).unit.state.lun ∷ []
asked_in_parts z all lower upper cdb low high d e h parts front place rising within names =
    let first : low - 1 < length all = omega (arith, place, rising, within) in
    let second : high - 1 < length all = omega (arith, place, rising, within) in
    let inner : low - 1 < length lower = omega (arith, place, rising, front) in
    two_asked z all h cdb (low - 1) (high - 1) d e first second (at_luns z all h cdb low high place rising names)
    ∙ ap (λ (x : UnitWithRoom). luns_of x.unit.state.lun (slice_index_or all (high - 1) e).unit.state.lun) (ap (λ (xs : List UnitWithRoom). slice_index_or xs (low - 1) d) parts ∙ part_low lower upper (low - 1) d inner)
    ∙ ap (λ (x : UnitWithRoom). luns_of (slice_index_or lower (low - 1) d).unit.state.lun x.unit.state.lun) (ap (λ (xs : List UnitWithRoom). slice_index_or xs (high - 1) e) parts ∙ part_high lower upper (high - 1) e front)

abbrev pub drives_are : UnitWithRoom → UnitWithRoom → TwoDrives
drives_are x y = record { low = x.unit; high = y.unit }

pub moved_in_parts : (z : UnitWithRoom) (all lower upper : List UnitWithRoom) (n : Nexus) (cdb bytes : List ℕ) (low high : ℕ) (d e v f g : UnitWithRoom) (r : Reply) → fault_of (units_of (z ∷ all)) ≡ None → all ≡ lower ++ upper → length lower ≡ high - 1
    → 1 ≤ low → low < high → high ≤ length all → NamesAt (units_of (z ∷ all)) cdb (low ∷ high ∷ [])
    → MovesTwo z.unit (record { low = (slice_index_or lower (low - 1) d).unit; high = (slice_index_or upper 0 e).unit }) n cdb bytes ((v.unit, r), record { low = f.unit; high = g.unit })
    → Commands (units_of (z ∷ all)) 0 n cdb bytes (units_of (v ∷ (slice_set lower (low - 1) f ++ slice_set upper 0 g)), r)
moved_in_parts z all lower upper n cdb bytes low high d e v f g r h parts front place rising within names step =
    let first : low - 1 < length all = omega (arith, place, rising, within) in
    let second : high - 1 < length all = omega (arith, place, rising, within) in
    let inner : low - 1 < length lower = omega (arith, place, rising, front) in
    let low_is : slice_index_or all (low - 1) d ≡ slice_index_or lower (low - 1) d = ap (λ (xs : List UnitWithRoom). slice_index_or xs (low - 1) d) parts ∙ part_low lower upper (low - 1) d inner in
    let high_is : slice_index_or all (high - 1) e ≡ slice_index_or upper 0 e = ap (λ (xs : List UnitWithRoom). slice_index_or xs (high - 1) e) parts ∙ part_high lower upper (high - 1) e front in
    let drives : drives_are (slice_index_or lower (low - 1) d) (slice_index_or upper 0 e) ≡ drives_are (slice_index_or all (low - 1) d) (slice_index_or all (high - 1) e)
    = ap (λ (x : UnitWithRoom). drives_are x (slice_index_or upper 0 e)) (sym low_is) ∙ ap (drives_are (slice_index_or all (low - 1) d)) (sym high_is) in
    let moved = two_moved z all h n cdb bytes (low - 1) (high - 1) d e v f g r first second (at_luns z all h cdb low high place rising names)
    (subst (λ (ds : TwoDrives). MovesTwo z.unit ds n cdb bytes ((v.unit, r), drives_are f g)) drives step) in
    let sets : slice_set (slice_set all (low - 1) f) (high - 1) g ≡ slice_set lower (low - 1) f ++ slice_set upper 0 g
    = ap (λ (xs : List UnitWithRoom). slice_set (slice_set xs (low - 1) f) (high - 1) g) parts ∙ parts_set lower upper (low - 1) (high - 1) f g inner front in
    subst (λ (xs : List UnitWithRoom). Commands (units_of (z ∷ all)) 0 n cdb bytes (units_of (v ∷ xs), r)) sets moved

-- a target has a first unit
pub some_units : (xs : List UnitWithRoom) → fault_of (units_of xs) ≡ None → 1 ≤ length xs
some_units [] h = absurd cc
some_units (x ∷ xs) h = omega arith

-- the first unit apart
pub first_asked : (all first back : List UnitWithRoom) (d : UnitWithRoom) → all ≡ first ++ back → length first ≡ 1 → fault_of (units_of all) ≡ None → fault_of (units_of (slice_index_or first 0 d ∷ back)) ≡ None
first_asked all [] back d parts one h = absurd cc
first_asked all (z ∷ []) back d parts one h = sym (ap (λ (xs : List UnitWithRoom). fault_of (units_of xs)) parts) ∙ h
first_asked all (z ∷ y ∷ more) back d parts one h = absurd (omega (arith, one))

pub first_moved : (all first back after : List UnitWithRoom) (n : Nexus) (cdb bytes : List ℕ) (d v : UnitWithRoom) (r : Reply) → all ≡ first ++ back → length first ≡ 1
    → Commands (units_of (slice_index_or first 0 d ∷ back)) 0 n cdb bytes (units_of (v ∷ after), r) → Commands (units_of all) 0 n cdb bytes (units_of (slice_set first 0 v ++ after), r)
first_moved all [] back after n cdb bytes d v r parts one h = absurd cc
first_moved all (z ∷ []) back after n cdb bytes d v r parts one h = subst (λ (xs : List UnitWithRoom). Commands (units_of xs) 0 n cdb bytes (units_of (v ∷ after), r)) (sym parts) h
first_moved all (z ∷ y ∷ more) back after n cdb bytes d v r parts one h = absurd (omega (arith, one))
