-- Units that make a target: a changer, and then drives by place, with the marks that are true of them.
use Rattle.std.proofs.Common.{◌≡◌, ◌≤◌, ◌<◌, ◌+◌, ◌==◌, ◌&&◌, ℕ, zero, suc, Bool, true, false, List, [], ◌∷◌, length, Option, Some, None, refl, sym, ap, ◌∙◌, subst, inl, inr, arith}
use Rattle.std.proofs.lemmas.Bool.Decides.{nat_tests}
use Rattle.std.specs.Prelude.{cond, nat_le, nat_eq, drop, slice_get, ◌⊎◌}
use Rattle.scsi_cdb.specs.declared.request.Request.{Request}
use Rattle.scsi_cdb.specs.declared.kind.Kind.{Kind}
use Rattle.scsi_cdb.specs.declared.kind.Kind.TheVariants as kind
use Rattle.scsi_cdb.specs.declared.profile.Profile.{Profile}
use Rattle.scsi_cdb.specs.declared.profile.Profile.TheVariants.{Spec, Hosts}
use Rattle.tape_medium.specs.declared.volume.VolumeTag.{VolumeTag}
use Rattle.device_server.specs.Marks.{marks}
use Rattle.device_server.specs.View.{DeviceView, Drive, Changer, kind_of, profile_of, commands_of, drives_of, held_in}
use Rattle.logical_unit.specs.Route.{drive_at, named_among, named_in, named}
use Rattle.logical_unit.specs.UnitView.{UnitView, UnitWithRoom, units_of}
use Rattle.logical_unit.specs.declared.route.Errand.{Errand}
use Rattle.logical_unit.specs.declared.route.Errand.TheVariants.{Move, Exchange}
use Rattle.logical_unit.proofs.NamedDrives.{Asks, BothNamed, IsAt, has_errand, has_route, drive_within, named_one, named_two, named_alone}
use Rattle.target_core.specs.Faults.{is_drive, is_drive_of, same_profile, is_changer, are_drives, is_in_order, same_mark, agree, fault_of, profile_in}
use Rattle.target_core.specs.declared.order.CoreFault.TheVariants.{Count, Order, Disagree}

-- a conjunction, by its parts
pub both : (a b : Bool) → (a && b) ≡ true → (a ≡ true) × (b ≡ true)
both true b h = (refl, h)
both false b h = absurd cc

pub record IsOrdered (c : UnitView) (ds : List UnitView) : Type 0 where
  pub some : 1 ≤ length ds
  pub few : length ds ≤ 4
  pub kind : kind_of c.device ≡ kind.Changer
  pub lun : (c.state.lun == 0) ≡ true
  pub units : (c.state.units == length ds + 1) ≡ true
  pub places : are_drives (profile_of c.device) ds 1 (length ds + 1) ≡ true
  pub marked : agree (marks c.device) ds ≡ true

no_fault : (count order marked : Bool) → cond count (cond order (cond marked None (Some Disagree)) (Some Order)) (Some Count) ≡ None → (count ≡ true) × (order ≡ true) × (marked ≡ true)
no_fault true true true h = (refl, refl, refl)
no_fault true true false h = absurd cc
no_fault true false marked h = absurd cc
no_fault false order marked h = absurd cc

changer_is : (k : Kind) → is_changer k ≡ true → k ≡ kind.Changer
changer_is kind.Changer h = refl
changer_is kind.Drive h = absurd cc

pub drive_is : (k : Kind) → is_drive k ≡ true → k ≡ kind.Drive
drive_is kind.Drive h = refl
drive_is kind.Changer h = absurd cc

pub profile_is : (p q : Profile) → same_profile p q ≡ true → q ≡ p
profile_is Spec Spec h = refl
profile_is Hosts Hosts h = refl
profile_is Spec Hosts h = absurd cc
profile_is Hosts Spec h = absurd cc

pub ordered : (c : UnitView) (ds : List UnitView) → fault_of (c ∷ ds) ≡ None → IsOrdered c ds
ordered c ds h =
    let tests = no_fault (nat_le 1 (length ds) && nat_le (length ds) 4) (is_in_order c ds (length ds + 1)) (agree (marks c.device) ds) h in
    let count = both (nat_le 1 (length ds)) (nat_le (length ds) 4) tests.0 in
    let order = both (is_changer (kind_of c.device)) (c.state.lun == 0 && (c.state.units == length ds + 1 && are_drives (profile_of c.device) ds 1 (length ds + 1))) tests.1 in
    let number = both (c.state.lun == 0) (c.state.units == length ds + 1 && are_drives (profile_of c.device) ds 1 (length ds + 1)) order.1 in
    let units = both (c.state.units == length ds + 1) (are_drives (profile_of c.device) ds 1 (length ds + 1)) number.1 in
    let one = count.0 in
    let four = count.1 in
    record {
      some = grind (arith, nat_tests);
      few = grind (arith, nat_tests);
      kind = changer_is (kind_of c.device) order.0;
      lun = number.0;
      units = units.0;
      places = units.1;
      marked = tests.2;
    }

-- as many marks as drives
agree_length : (ms : List (Option VolumeTag)) (ds : List UnitView) → agree ms ds ≡ true → length ms ≡ length ds
agree_length [] [] h = refl
agree_length (m ∷ ms) (d ∷ ds) h = ap suc (agree_length ms ds (both (same_mark m (held_in d.device 0)) (agree ms ds) h).1)
agree_length [] (d ∷ ds) h = absurd cc
agree_length (m ∷ ms) [] h = absurd cc

pub marks_length : (device : DeviceView) → kind_of device ≡ kind.Changer → length (marks device) ≡ drives_of device
marks_length (Drive d) h = absurd cc
marks_length (Changer e) h = refl

pub has_drives : (c : UnitView) (ds : List UnitView) → IsOrdered c ds → drives_of c.device ≡ length ds
has_drives c ds o = sym (marks_length c.device o.kind) ∙ agree_length (marks c.device) ds o.marked

-- the drive at a place, of a profile, with its number
pub record IsDriveAt (p : Profile) (d : UnitView) (place : ℕ) : Type 0 where
  pub profile : profile_of d.device ≡ p
  pub kind : kind_of d.device ≡ kind.Drive
  pub lun : d.state.lun ≡ place

drive_at_place : (p : Profile) (ds : List UnitView) (i from count : ℕ) (d : UnitView) → are_drives p ds from count ≡ true → slice_get ds i ≡ Some d → IsDriveAt p d (from + i)
drive_at_place p [] i from count d h there = absurd cc
drive_at_place p (z ∷ ds) zero from count d h there =
    let is : z ≡ d = cc in
    let k = both (is_drive_of p (commands_of z.device)) (z.state.lun == from && (z.state.units == count && are_drives p ds (from + 1) count)) h in
    let l = (both (z.state.lun == from) (z.state.units == count && are_drives p ds (from + 1) count) k.1).0 in
    let number : z.state.lun ≡ from = grind (arith, nat_tests) in
    let own = both (is_drive (kind_of z.device)) (same_profile p (profile_of z.device)) k.0 in
    record { profile = ap (λ (u : UnitView). profile_of u.device) (sym is) ∙ profile_is p (profile_of z.device) own.1; kind = ap (λ (u : UnitView). kind_of u.device) (sym is) ∙ drive_is (kind_of z.device) own.0; lun = ap (λ (u : UnitView). u.state.lun) (sym is) ∙ number ∙ omega arith }
drive_at_place p (z ∷ ds) (suc i) from count d h there =
    let k = both (is_drive_of p (commands_of z.device)) (z.state.lun == from && (z.state.units == count && are_drives p ds (from + 1) count)) h in
    let l = (both (z.state.lun == from) (z.state.units == count && are_drives p ds (from + 1) count) k.1).1 in
    let rest = (both (z.state.units == count) (are_drives p ds (from + 1) count) l).1 in
    let at = drive_at_place p ds i (from + 1) count d rest there in
    record { profile = at.profile; kind = at.kind; lun = at.lun ∙ omega arith }

pub drive_of : (c : UnitView) (ds : List UnitView) (i : ℕ) (d : UnitView) → IsOrdered c ds → slice_get ds i ≡ Some d → IsDriveAt (profile_of c.device) d (i + 1)
drive_of c ds i d o there =
    let at = drive_at_place (profile_of c.device) ds i 1 (length ds + 1) d o.places there in
    record { profile = at.profile; kind = at.kind; lun = at.lun ∙ omega arith }

-- each unit has the profile of the changer
pub one_profile : (us : List UnitView) (k : ℕ) (u : UnitView) → fault_of us ≡ None → slice_get us k ≡ Some u → profile_of u.device ≡ profile_in us
one_profile [] k u h there = absurd cc
one_profile (c ∷ ds) zero u h there = let is : c ≡ u = cc in ap (λ (x : UnitView). profile_of x.device) (sym is)
one_profile (c ∷ ds) (suc k) u h there = (drive_of c ds k u (ordered c ds h) there).profile

pub first_profile : (us : List UnitWithRoom) (u : UnitWithRoom) → Some u ≡ slice_get us 0 → profile_in (units_of us) ≡ profile_of u.unit.device
first_profile [] u there = absurd cc
first_profile (c ∷ us) u there = let is : u ≡ c = cc in ap (λ (x : UnitWithRoom). profile_of x.unit.device) (sym is)

-- the drives that are named are there
one_within : (from to : Option ℕ) (drives source destination l : ℕ) → (from ≡ Some l) ⊎ (to ≡ Some l) → from ≡ drive_at drives source → to ≡ drive_at drives destination → (1 ≤ l) × (l ≤ drives)
one_within from to drives source destination l (inl is) f t = let w = drive_within drives source l (sym f ∙ is) in (w.0, w.1)
one_within from to drives source destination l (inr is) f t = let w = drive_within drives destination l (sym t ∙ is) in (w.0, w.1)

alone_within : (drive other another : Option ℕ) (drives address first second l : ℕ) → IsAt drive l → IsAt other l → IsAt another l → drive ≡ drive_at drives address → other ≡ drive_at drives first
    → another ≡ drive_at drives second → named_among drive other another ≡ l ∷ [] → (1 ≤ l) × (l ≤ drives)
alone_within drive other another drives address first second l (inr is) q p f g h names = let w = drive_within drives address l (sym f ∙ is) in (w.0, w.1)
alone_within drive other another drives address first second l (inl none) (inr is) p f g h names = let w = drive_within drives first l (sym g ∙ is) in (w.0, w.1)
alone_within drive other another drives address first second l (inl none) (inl off) (inr is) f g h names = let w = drive_within drives second l (sym h ∙ is) in (w.0, w.1)
alone_within drive other another drives address first second l (inl none) (inl off) (inl nor) f g h names =
    let empty : named_among None None None ≡ l ∷ [] =
    sym (ap (λ (x : Option ℕ). named_among x other another) none ∙ ap (λ (x : Option ℕ). named_among None x another) off ∙ ap (λ (x : Option ℕ). named_among None None x) nor) ∙ names in
    absurd cc

errand_within : (drives : ℕ) (q : Request) (e : Errand) (l : ℕ) → Asks drives q e → named_in (Some e) ≡ l ∷ [] → (1 ≤ l) × (l ≤ drives)
errand_within drives q (Move r) l a names = one_within r.from r.to drives r.source r.destination l (named_one r.from r.to l names) a.from a.to
errand_within drives q (Exchange x) l a names =
    let s = named_alone x.from x.between x.to l [] names in
    alone_within x.from x.between x.to drives x.source x.first x.second l s.from_is s.between_is s.to_is a.from a.between a.to names

pub one_named : (device : DeviceView) (cdb : List ℕ) (l : ℕ) → named (commands_of device) (drives_of device) cdb ≡ l ∷ [] → (1 ≤ l) × (l ≤ drives_of device)
one_named device cdb l h =
    let r = has_errand device cdb l [] h in
    errand_within (drives_of device) r.decodes.request r.errand l r.asks r.names

two_within : (from to : Option ℕ) (drives source destination l m : ℕ) → BothNamed from to l m → from ≡ drive_at drives source → to ≡ drive_at drives destination → (1 ≤ l) × (l < m) × (m ≤ drives)
two_within from to drives source destination l m (less, inl up) f t =
    let low = drive_within drives source l (sym f ∙ up.from_is) in
    let high = drive_within drives destination m (sym t ∙ up.to_is) in
    (low.0, less, high.1)
two_within from to drives source destination l m (less, inr down) f t =
    let high = drive_within drives source m (sym f ∙ down.from_is) in
    let low = drive_within drives destination l (sym t ∙ down.to_is) in
    (low.0, less, high.1)

pub two_named : (device : DeviceView) (cdb : List ℕ) (l m : ℕ) (more : List ℕ) → named (commands_of device) (drives_of device) cdb ≡ l ∷ m ∷ more → (1 ≤ l) × (l < m) × (m ≤ drives_of device)
two_named device cdb l m more h =
    let r = has_route device cdb l m more h in
    two_within r.route.from r.route.to (drives_of device) r.route.source r.route.destination l m (named_two r.route.from r.route.to l m more r.names) r.from r.to

-- no marks are left where there are as many drives
pub agree_end : (ms : List (Option VolumeTag)) (k : ℕ) → k ≤ length ms → nat_eq k (length ms) ≡ agree (drop k ms) []
agree_end [] zero h = refl
agree_end [] (suc k) h = absurd (omega (arith, h))
agree_end (m ∷ ms) zero h = grind arith
agree_end (m ∷ ms) (suc k) h = let same : nat_eq (suc k) (suc (length ms)) ≡ nat_eq k (length ms) = grind (arith, nat_tests) in same ∙ agree_end ms k (omega (arith, h))

pub drives_end : (device : DeviceView) (k drives : ℕ) → kind_of device ≡ kind.Changer → drives ≡ drives_of device → k ≤ drives_of device → nat_eq k drives ≡ agree (drop k (marks device)) []
drives_end device k drives changer count within =
    let l = marks_length device changer in
    ap (nat_eq k) (count ∙ sym l) ∙ agree_end (marks device) k (subst (λ n. k ≤ n) (sym l) within)

pub none_left : (xs : List UnitWithRoom) → length xs < 1 → units_of xs ≡ []
none_left [] h = refl
none_left (x ∷ xs) h = absurd (omega (arith, h))
