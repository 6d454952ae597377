-- The order of the units along steps, and the marks of the changer, which stay true of the drives.
use Rattle.std.proofs.Common.{◌≡◌, ◌≢◌, ◌≤◌, ◌+◌, ◌-◌, ◌&&◌, ◌==◌, ℕ, zero, suc, Bool, true, false, List, [], ◌∷◌, length, Option, Some, None, is_some, Result, Ok, Err, refl, sym, ap, ◌∙◌, subst, inl, inr, arith}
use Rattle.std.proofs.lemmas.Bool.Decides.{nat_tests}
use Rattle.std.proofs.lemmas.List.{length-set}
use Rattle.std.specs.Prelude.{◌⊎◌, cond, nat_le, nat_eq, slice_get, slice_set, IsOk}
use Rattle.std.specs.Cmp.Lexicographic.{pointwise}
use Rattle.scsi_cdb.specs.declared.profile.CommandSet.{CommandSet}
use Rattle.scsi_cdb.specs.declared.profile.Profile.{Profile}
use Rattle.scsi_cdb.specs.declared.kind.Kind.TheVariants as kind
use Rattle.scsi_cdb.specs.declared.request.Request.{Request}
use Rattle.scsi_nexus.specs.declared.nexus.Nexus.{Nexus}
use Rattle.scsi_sense.specs.declared.condition.Condition.{Condition}
use Rattle.audit_log.specs.declared.record.Record.{Record}
use Rattle.tape_medium.specs.declared.volume.Volume.{Volume}
use Rattle.tape_medium.specs.declared.volume.VolumeTag.{VolumeTag}
use Rattle.device_server.specs.Marks.{marks, KeepsMarks}
use Rattle.device_server.specs.View.{DeviceView, Drive, Changer, kind_of, profile_of, commands_of, drives_of, held_in, marked}
use Rattle.device_server.specs.declared.fault.BadPlace.{BadPlace}
use Rattle.device_server.proofs.SameDevice.{same_commands}
use Rattle.device_server.proofs.MarkLemmas.{drives_give, drives_get, changers_give, changers_get, marks_one, each_is_marked, journeys_keep_marks, exchanges_keep_marks}
use Rattle.judgement.specs.declared.reply.Reply.{Reply}
use Rattle.logical_unit.specs.Move.{TwoDrives, noting, unloaded, loaded, passed, carried_by_one, exchanged_by, errand_noted, carried_with_one, carried_one, upward, downward, carried_two, errand_at, MovesOne, MovesTwo, IsSameUnit}
use Rattle.logical_unit.specs.Medium.{taken_out, put_in}
use Rattle.logical_unit.specs.Route.{drive_at, is_upward, named_by, named_among, named_in, named}
use Rattle.logical_unit.specs.Step.{Executes, drained}
use Rattle.logical_unit.specs.UnitView.{UnitView}
use Rattle.logical_unit.specs.declared.route.Errand.{Errand}
use Rattle.logical_unit.specs.declared.route.Errand.TheVariants.{Move, Exchange}
use Rattle.logical_unit.specs.declared.route.ExchangeRoute.{ExchangeRoute}
use Rattle.logical_unit.specs.declared.route.Route.{Route}
use Rattle.logical_unit.proofs.Halves.{is_out, is_in, is_unloaded, is_loaded, is_passed, IsRemoved, IsPlaced, is_exchanged, came}
use Rattle.logical_unit.proofs.History.{executes_stays, executes_marks}
use Rattle.logical_unit.proofs.Moved.{Became, one_became, two_became}
use Rattle.logical_unit.proofs.NamedDrives.{Asks, HasRoute, AreNamed, IsAt, has_errand, has_route, drive_within, named_two, named_alone}
use Rattle.logical_unit.proofs.SameUnits.{noting_same, one_same, two_same}
use Rattle.target_core.proofs.Places.{same_some}
use Rattle.target_core.specs.Faults.{is_drive_of, is_changer, are_drives, same_mark, agree, fault_of}
use Rattle.target_core.specs.Run.{AtUnit, AtDrive, AtDrives, MovesWith, MovesBetween, CommandsNaming, CommandsAt, LosesAt, ResetsAt, DrainsAt}
use Rattle.target_core.specs.declared.order.CoreFault.TheVariants.{Count, Order, Disagree}
use Rattle.target_core.proofs.History.{get-set_other, loss_commands, reset_commands, loss_marks, reset_marks}
use Rattle.target_core.proofs.Ordered.{both, IsOrdered, ordered, one_named, two_named}
use Rattle.target_core.proofs.SamePlace.{place_of, executes_place, loss_place, reset_place}

-- what the order of units looks at: the commands of each, its number, and how many units it was made with
abbrev look_of : UnitView → CommandSet × (ℕ × ℕ)
look_of u = (commands_of u.device, place_of u.state)

-- a unit that looks as the one whose place it takes leaves the order of the drives
set_drives : (p : Profile) (us : List UnitView) (i : ℕ) (w x : UnitView) (from count : ℕ) → slice_get us i ≡ Some w → look_of x ≡ look_of w → are_drives p (slice_set us i x) from count ≡ are_drives p us from count
set_drives p [] i w x from count here same = refl
set_drives p (z ∷ us) zero w x from count here same =
    ap (λ (l : CommandSet × (ℕ × ℕ)). is_drive_of p l.0 && (l.1.0 == from && (l.1.1 == count && are_drives p us (from + 1) count))) (same ∙ ap look_of (sym (same_some z w here)))
set_drives p (z ∷ us) (suc i) w x from count here same =
    ap (λ b. is_drive_of p (commands_of z.device) && (z.state.lun == from && (z.state.units == count && b))) (set_drives p us i w x (from + 1) count here same)

-- two units that are set, in either order
pub set_swap : (xs : List UnitView) (i j : ℕ) (x y : UnitView) → i ≢ j → slice_set (slice_set xs i x) j y ≡ slice_set (slice_set xs j y) i x
set_swap [] i j x y apart = refl
set_swap (z ∷ xs) zero zero x y apart = absurd (apart refl)
set_swap (z ∷ xs) zero (suc j) x y apart = refl
set_swap (z ∷ xs) (suc i) zero x y apart = refl
set_swap (z ∷ xs) (suc i) (suc j) x y apart = ap (λ (ys : List UnitView). z ∷ ys) (set_swap xs i j x y (λ e. apart (ap suc e)))

-- THE MARKS
tag_is : (bytes : List ℕ) → pointwise nat_eq bytes bytes ≡ true
tag_is [] = refl
tag_is (b ∷ bytes) = let same : nat_eq b b ≡ true = grind arith in ap (λ t. t && pointwise nat_eq bytes bytes) same ∙ tag_is bytes

pub true_mark : (tag : VolumeTag) → same_mark (Some tag) (Some tag) ≡ true
true_mark tag = tag_is tag.0

-- a mark and a drive that are set together
agree_set : (ms : List (Option VolumeTag)) (ds : List UnitView) (i : ℕ) (m : Option VolumeTag) (e : UnitView) → agree ms ds ≡ true → same_mark m (held_in e.device 0) ≡ true → agree (slice_set ms i m) (slice_set ds i e) ≡ true
agree_set [] [] i m e h same = refl
agree_set (x ∷ ms) (d ∷ ds) zero m e h same = let rest = (both (same_mark x (held_in d.device 0)) (agree ms ds) h).1 in ap (λ b. b && agree ms ds) same ∙ rest
agree_set (x ∷ ms) (d ∷ ds) (suc i) m e h same =
    let parts = both (same_mark x (held_in d.device 0)) (agree ms ds) h in
    ap (λ b. b && agree (slice_set ms i m) (slice_set ds i e)) parts.0 ∙ agree_set ms ds i m e parts.1 same
agree_set [] (d ∷ ds) i m e h same = absurd cc
agree_set (x ∷ ms) [] i m e h same = absurd cc

-- the same where the drive was set before
agree_again : (ms : List (Option VolumeTag)) (ds : List UnitView) (i : ℕ) (m : Option VolumeTag) (d e : UnitView) → agree ms (slice_set ds i d) ≡ true → same_mark m (held_in e.device 0) ≡ true → agree (slice_set ms i m) (slice_set ds i e) ≡ true
agree_again [] [] i m d e h same = refl
agree_again (x ∷ ms) (z ∷ ds) zero m d e h same = let rest = (both (same_mark x (held_in d.device 0)) (agree ms ds) h).1 in ap (λ b. b && agree ms ds) same ∙ rest
agree_again (x ∷ ms) (z ∷ ds) (suc i) m d e h same =
    let parts = both (same_mark x (held_in z.device 0)) (agree ms (slice_set ds i d)) h in
    ap (λ b. b && agree (slice_set ms i m) (slice_set ds i e)) parts.0 ∙ agree_again ms ds i m d e parts.1 same
agree_again [] (z ∷ ds) zero m d e h same = absurd cc
agree_again [] (z ∷ ds) (suc i) m d e h same = absurd cc
agree_again (x ∷ ms) [] i m d e h same = absurd cc

-- a drive with the same in its bay
agree_drive : (ms : List (Option VolumeTag)) (ds : List UnitView) (i : ℕ) (d e : UnitView) → slice_get ds i ≡ Some d → held_in e.device 0 ≡ held_in d.device 0 → agree ms (slice_set ds i e) ≡ agree ms ds
agree_drive ms [] i d e there same = refl
agree_drive [] (z ∷ ds) zero d e there same = refl
agree_drive [] (z ∷ ds) (suc i) d e there same = refl
agree_drive (m ∷ ms) (z ∷ ds) zero d e there same = ap (λ (held : Option VolumeTag). same_mark m held && agree ms ds) (same ∙ ap (λ (u : UnitView). held_in u.device 0) (sym (same_some z d there)))
agree_drive (m ∷ ms) (z ∷ ds) (suc i) d e there same = ap (λ b. same_mark m (held_in z.device 0) && b) (agree_drive ms ds i d e there same)

-- what a drive's marks tell of its bay
pub bay_marked : (device : DeviceView) (m : Option VolumeTag) → kind_of device ≡ kind.Drive → marks device ≡ m ∷ [] → held_in device 0 ≡ m
bay_marked (Drive d) m k h = cc
bay_marked (Changer v) m k h = absurd cc

pub bay_kept : (a b : DeviceView) → KeepsMarks a b → held_in b 0 ≡ held_in a 0
bay_kept (Drive d) (Drive e) k = let m = k.marks in cc
bay_kept (Changer d) (Changer e) k = refl
bay_kept (Drive d) (Changer e) k = let same = k.device.kind in absurd cc
bay_kept (Changer d) (Drive e) k = let same = k.device.kind in absurd cc

-- A TARGET AGAIN
fault_none : (count order marked : Bool) → count ≡ true → order ≡ true → marked ≡ true → cond count (cond order (cond marked None (Some Disagree)) (Some Order)) (Some Count) ≡ None
fault_none true true true a b c = refl
fault_none true true false a b c = absurd cc
fault_none true false marked a b c = absurd cc
fault_none false order marked a b c = absurd cc

pub no_fault : (c : UnitView) (ds : List UnitView) → IsOrdered c ds → fault_of (c ∷ ds) ≡ None
no_fault c ds o =
    let one : nat_le 1 (length ds) ≡ true = let h = o.some in grind (arith, nat_tests) in
    let four : nat_le (length ds) 4 ≡ true = let h = o.few in grind (arith, nat_tests) in
    fault_none (nat_le 1 (length ds) && nat_le (length ds) 4) _ (agree (marks c.device) ds) (ap (λ b. b && nat_le (length ds) 4) one ∙ four)
    (ap (λ k. is_changer k && (c.state.lun == 0 && (c.state.units == length ds + 1 && are_drives (profile_of c.device) ds 1 (length ds + 1)))) o.kind
    ∙ ap (λ b. b && (c.state.units == length ds + 1 && are_drives (profile_of c.device) ds 1 (length ds + 1))) o.lun ∙ ap (λ b. b && are_drives (profile_of c.device) ds 1 (length ds + 1)) o.units ∙ o.places)
    o.marked

-- other units that look the same, with marks that are true
pub ordered_set : (c v : UnitView) (ds es : List UnitView) → IsOrdered c ds → look_of v ≡ look_of c → length es ≡ length ds → are_drives (profile_of c.device) es 1 (length ds + 1) ≡ true → agree (marks v.device) es ≡ true → IsOrdered v es
ordered_set c v ds es o look l places marked = record {
  some = let h = o.some in subst (λ n. 1 ≤ n) (sym l) h;
  few = let h = o.few in subst (λ n. n ≤ 4) (sym l) h;
  kind = ap (λ (x : CommandSet × (ℕ × ℕ)). x.0.kind) look ∙ o.kind;
  lun = ap (λ (x : CommandSet × (ℕ × ℕ)). x.1.0 == 0) look ∙ o.lun;
  units = ap (λ n. v.state.units == n + 1) l ∙ ap (λ (x : CommandSet × (ℕ × ℕ)). x.1.1 == length ds + 1) look ∙ o.units;
  places = ap (λ (x : CommandSet × (ℕ × ℕ)). are_drives x.0.profile es 1 (length es + 1)) look ∙ ap (λ n. are_drives (profile_of c.device) es 1 (n + 1)) l ∙ places;
  marked = marked;
}

drive_set : (c v : UnitView) (ds : List UnitView) (i : ℕ) (d e : UnitView) → IsOrdered c ds → slice_get ds i ≡ Some d → look_of v ≡ look_of c → look_of e ≡ look_of d → agree (marks v.device) (slice_set ds i e) ≡ true → IsOrdered v (slice_set ds i e)
drive_set c v ds i d e o there look same marked = ordered_set c v ds (slice_set ds i e) o look (length-set ds i e) (set_drives (profile_of c.device) ds i d e 1 (length ds + 1) there same ∙ o.places) marked

drives_set : (c v : UnitView) (ds : List UnitView) (i j : ℕ) (d e f g : UnitView) → IsOrdered c ds → i ≢ j → slice_get ds i ≡ Some d → slice_get ds j ≡ Some f → look_of v ≡ look_of c → look_of e ≡ look_of d → look_of g ≡ look_of f
    → agree (marks v.device) (slice_set (slice_set ds i e) j g) ≡ true → IsOrdered v (slice_set (slice_set ds i e) j g)
drives_set c v ds i j d e f g o apart first second look one two marked =
    ordered_set c v ds (slice_set (slice_set ds i e) j g) o look (length-set (slice_set ds i e) j g ∙ length-set ds i e)
    (set_drives (profile_of c.device) (slice_set ds i e) j f g 1 (length ds + 1) (get-set_other ds i j e apart ∙ second) two ∙ set_drives (profile_of c.device) ds i d e 1 (length ds + 1) first one ∙ o.places) marked

same_look : (u v : UnitView) → IsSameUnit u v → look_of v ≡ look_of u
same_look u v s = ap (λ k. (k, place_of v.state)) (same_commands u.device v.device s.device) ∙ ap (λ l. (commands_of u.device, (l, v.state.units))) s.lun ∙ ap (λ n. (commands_of u.device, (u.state.lun, n))) s.units

-- ONE UNIT CHANGES, and its marks stay
unit_changed : (us : List UnitView) (at : ℕ) (w x : UnitView) → slice_get us at ≡ Some w → look_of x ≡ look_of w → KeepsMarks w.device x.device → fault_of us ≡ None → fault_of (slice_set us at x) ≡ None
unit_changed [] at w x there look state h = absurd cc
unit_changed (c ∷ ds) zero w x there look state h =
    let o = ordered c ds h in
    let is : c ≡ w = same_some c w there in
    no_fault x ds (ordered_set c x ds ds o (look ∙ ap look_of (sym is)) refl o.places (ap (λ ms. agree ms ds) (state.marks ∙ ap (λ (u : UnitView). marks u.device) (sym is)) ∙ o.marked))
unit_changed (c ∷ ds) (suc k) w x there look state h =
    let o = ordered c ds h in
    no_fault c (slice_set ds k x) (drive_set c c ds k w x o there refl look (agree_drive (marks c.device) ds k w x there (bay_kept w.device x.device state) ∙ o.marked))

changed : (us ms : List UnitView) (at : ℕ) (w x : UnitView) → slice_get us at ≡ Some w → ms ≡ slice_set us at x → look_of x ≡ look_of w → KeepsMarks w.device x.device → fault_of us ≡ None → fault_of ms ≡ None
changed us ms at w x there is look state h = ap fault_of is ∙ unit_changed us at w x there look state h

alone_order : (us ms : List UnitView) (at : ℕ) (w : UnitView) (n : Nexus) (cdb bytes : List ℕ) (r : Reply) → slice_get us at ≡ Some w → AtUnit us at (Executes w n cdb bytes) (ms, r) → fault_of us ≡ None → fault_of ms ≡ None
alone_order us ms at w n cdb bytes r there a h =
    let stays = executes_stays w a.unit n cdb bytes r a.step in
    changed us ms at w a.unit there a.units (ap (λ k. (k, place_of a.unit.state)) (same_commands w.device a.unit.device stays.device) ∙ ap (λ p. (commands_of w.device, p)) (executes_place w a.unit n cdb bytes r a.step)) (executes_marks w a.unit n cdb bytes r a.step) h

-- A MOVE sets the marks that it makes true
noted_mark : (device : DeviceView) (k : ℕ) (tag : Option VolumeTag) (o : Result DeviceView BadPlace) → marked device (suc k + 0xFF) tag ≡ o → IsOk o → marks (elim o [ Ok after ↦ after | Err fault ↦ device ]) ≡ slice_set (marks device) k tag
noted_mark device k tag (Ok after) h ok =
    let same : suc k + 0xFF - 0x100 ≡ k = omega arith in
    (marks_one device after (suc k + 0xFF) tag h).marks ∙ ap (λ i. slice_set (marks device) i tag) same
noted_mark device k tag (Err fault) h ok = absurd cc

noting_mark : (device : DeviceView) (address k : ℕ) (tag : Option VolumeTag) → address ≡ suc k + 0xFF → suc k ≤ drives_of device → marks (noting device address tag) ≡ slice_set (marks device) k tag
noting_mark device address k tag is high =
    ap (λ a. marks (noting device a tag)) is ∙ noted_mark device k tag (marked device (suc k + 0xFF) tag) refl (each_is_marked device (suc k + 0xFF) tag (omega arith) (omega (arith, high)))

-- what is in a bay that gave its volume, and in one that took it
given_bay : (d e : UnitView) (v : Volume) → taken_out d ≡ Ok (v, e) → held_in e.device 0 ≡ None
given_bay d e v h =
    let out = is_out d e v h in
    let g = drives_give d.device out.device 0 v out.kind out.taken in
    ap (λ (u : UnitView). held_in u.device 0) out.unit ∙ bay_marked out.device None (g.device.kind ∙ out.kind) g.empty

taken_bay : (d e : UnitView) (v : Volume) → put_in d v ≡ Ok e → held_in e.device 0 ≡ Some v.tag
taken_bay d e v h =
    let come = is_in d e v h in
    let g = drives_get d.device come.device 0 v come.kind come.put in
    ap (λ (u : UnitView). held_in u.device 0) come.unit ∙ bay_marked come.device (Some v.tag) (g.device.kind ∙ come.kind) g.full

module _ (c : UnitView) (ds : List UnitView) (o : IsOrdered c ds) (r : Route) where
  unloaded_agrees : (k : ℕ) (d e : UnitView) (device : DeviceView) → r.source ≡ suc k + 0xFF → suc k ≤ drives_of c.device → unloaded c.device d r ≡ Ok (device, e) → agree (marks device) (slice_set ds k e) ≡ true
  unloaded_agrees k d e device source within h =
      let u = is_unloaded c.device d r device e h in
      let mid = changers_get c.device u.mid r.destination u.volume o.kind u.puts in
      let is : marks device ≡ slice_set (marks c.device) k None =
      ap marks u.marks ∙ noting_mark u.mid r.source k None source (subst (λ n. suc k ≤ n) (sym mid.device.drives) within) ∙ ap (λ (ms : List (Option VolumeTag)). slice_set ms k None) mid.marks in
      ap (λ (ms : List (Option VolumeTag)). agree ms (slice_set ds k e)) is ∙ agree_set (marks c.device) ds k None e o.marked (ap (same_mark None) (given_bay d e u.volume u.gives.out))

  loaded_agrees : (k : ℕ) (d e : UnitView) (device : DeviceView) → r.destination ≡ suc k + 0xFF → suc k ≤ drives_of c.device → loaded c.device d r ≡ Ok (device, e) → agree (marks device) (slice_set ds k e) ≡ true
  loaded_agrees k d e device destination within h =
      let u = is_loaded c.device d r device e h in
      let mid = changers_give c.device u.mid r.source u.volume o.kind u.takes in
      let is : marks device ≡ slice_set (marks c.device) k (Some u.volume.tag) =
      ap marks u.marks ∙ noting_mark u.mid r.destination k (Some u.volume.tag) destination (subst (λ n. suc k ≤ n) (sym mid.device.drives) within)
      ∙ ap (λ (ms : List (Option VolumeTag)). slice_set ms k (Some u.volume.tag)) mid.marks in
      ap (λ (ms : List (Option VolumeTag)). agree ms (slice_set ds k e)) is
      ∙ agree_set (marks c.device) ds k (Some u.volume.tag) e o.marked (ap (same_mark (Some u.volume.tag)) (taken_bay d e u.volume u.comes) ∙ true_mark u.volume.tag)

  passed_agrees : (i j : ℕ) (g t e f : UnitView) (device : DeviceView) → r.source ≡ suc i + 0xFF → r.destination ≡ suc j + 0xFF → suc i ≤ drives_of c.device → suc j ≤ drives_of c.device → passed c.device g t r ≡ Ok (device, e, f)
      → agree (marks device) (slice_set (slice_set ds i e) j f) ≡ true
  passed_agrees i j g t e f device source destination from to h =
      let u = is_passed c.device g t r device e f h in
      let first = noting c.device r.source None in
      let size = noting_same c.device r.source None in
      let one : marks first ≡ slice_set (marks c.device) i None = noting_mark c.device r.source i None source from in
      let is : marks device ≡ slice_set (slice_set (marks c.device) i None) j (Some u.volume.tag) =
      ap marks u.marks ∙ noting_mark first r.destination j (Some u.volume.tag) destination (subst (λ n. suc j ≤ n) (sym size.drives) to)
      ∙ ap (λ (ms : List (Option VolumeTag)). slice_set ms j (Some u.volume.tag)) one in
      let given = agree_set (marks c.device) ds i None e o.marked (ap (same_mark None) (given_bay g e u.volume u.gives.out)) in
      ap (λ (ms : List (Option VolumeTag)). agree ms (slice_set (slice_set ds i e) j f)) is
      ∙ agree_set (slice_set (marks c.device) i None) (slice_set ds i e) j (Some u.volume.tag) f given (ap (same_mark (Some u.volume.tag)) (taken_bay t f u.volume u.comes) ∙ true_mark u.volume.tag)

  by_one_agrees : (k : ℕ) (d e : UnitView) (device : DeviceView) (from to : Option ℕ) → from ≡ drive_at (drives_of c.device) r.source → to ≡ drive_at (drives_of c.device) r.destination → named_by from to ≡ suc k ∷ []
      → carried_by_one c.device d r from to ≡ Ok (device, e) → agree (marks device) (slice_set ds k e) ≡ true
  by_one_agrees k d e device (Some a) None f t names h =
      let w = drive_within (drives_of c.device) r.source a (sym f) in
      let is : a ≡ suc k = cc in
      unloaded_agrees k d e device (w.2 ∙ ap (λ n. n + 0xFF) is) (subst (λ n. n ≤ drives_of c.device) is w.1) h
  by_one_agrees k d e device None (Some b) f t names h =
      let w = drive_within (drives_of c.device) r.destination b (sym t) in
      let is : b ≡ suc k = cc in
      loaded_agrees k d e device (w.2 ∙ ap (λ n. n + 0xFF) is) (subst (λ n. n ≤ drives_of c.device) is w.1) h
  by_one_agrees k d e device None None f t names h = absurd cc
  by_one_agrees k d e device (Some a) (Some b) f t names h = absurd cc

  upward_agrees : (i j : ℕ) (ds' es : TwoDrives) (device : DeviceView) (p : Result (DeviceView × UnitView × UnitView) Condition) → r.source ≡ suc i + 0xFF → r.destination ≡ suc j + 0xFF → suc i ≤ drives_of c.device → suc j ≤ drives_of c.device
      → passed c.device ds'.low ds'.high r ≡ p → upward p ≡ Ok (device, es) → agree (marks device) (slice_set (slice_set ds i es.low) j es.high) ≡ true
  upward_agrees i j ds' es device (Ok it) source destination from to h e =
      let is : ◌≡◌ {A = DeviceView × TwoDrives} (it.0, record { low = it.1; high = it.2 }) (device, es) = cc in
      subst (λ (x : DeviceView × TwoDrives). agree (marks x.0) (slice_set (slice_set ds i x.1.low) j x.1.high) ≡ true) is (passed_agrees i j ds'.low ds'.high it.1 it.2 it.0 source destination from to h)
  upward_agrees i j ds' es device (Err condition) source destination from to h e = absurd cc

  downward_agrees : (i j : ℕ) (ds' es : TwoDrives) (device : DeviceView) (p : Result (DeviceView × UnitView × UnitView) Condition) → i ≢ j → r.source ≡ suc j + 0xFF → r.destination ≡ suc i + 0xFF → suc i ≤ drives_of c.device → suc j ≤ drives_of c.device
      → passed c.device ds'.high ds'.low r ≡ p → downward p ≡ Ok (device, es) → agree (marks device) (slice_set (slice_set ds i es.low) j es.high) ≡ true
  downward_agrees i j ds' es device (Ok it) apart source destination low high h e =
      let is : ◌≡◌ {A = DeviceView × TwoDrives} (it.0, record { low = it.2; high = it.1 }) (device, es) = cc in
      subst (λ (x : DeviceView × TwoDrives). agree (marks x.0) (slice_set (slice_set ds i x.1.low) j x.1.high) ≡ true) is
      (ap (λ (xs : List UnitView). agree (marks it.0) xs) (set_swap ds i j it.2 it.1 apart) ∙ passed_agrees j i ds'.high ds'.low it.1 it.2 it.0 source destination high low h)
  downward_agrees i j ds' es device (Err condition) apart source destination low high h e = absurd cc

-- AN EXCHANGE with one drive, by its steps: the changer is of the same size, and its marks are true of the drives
module _ (c : UnitView) (ds : List UnitView) (k : ℕ) where
  record IsTrue (device : DeviceView) (d : UnitView) : Type 0 where
    kind : kind_of device ≡ kind.Changer
    size : drives_of device ≡ drives_of c.device
    agrees : agree (marks device) (slice_set ds k d) ≡ true

  removed_true : (of_drive : Bool) (device : DeviceView) (d : UnitView) (address : ℕ) (v : Volume) (after : DeviceView) (e : UnitView)
      → (of_drive ≡ true → (address ≡ suc k + 0xFF) × (suc k ≤ drives_of c.device)) → IsTrue device d → IsRemoved of_drive device d address v after e → IsTrue after e
  removed_true true device d address v after e at is step =
      let size = noting_same device address None in
      let place = at refl in
      let marks_are : marks after ≡ slice_set (marks device) k None =
      ap marks step.marks ∙ noting_mark device address k None place.0 (subst (λ n. suc k ≤ n) (sym is.size) place.1) in
      record {
        kind = ap kind_of step.marks ∙ size.kind ∙ is.kind;
        size = ap drives_of step.marks ∙ size.drives ∙ is.size;
        agrees = ap (λ (ms : List (Option VolumeTag)). agree ms (slice_set ds k e)) marks_are
            ∙ agree_again (marks device) ds k None d e is.agrees (ap (same_mark None) (given_bay d e v step.gives.out));
      }
  removed_true false device d address v after e at is step =
      let m = changers_give device after address v is.kind step.takes in
      record {
        kind = m.device.kind ∙ is.kind;
        size = m.device.drives ∙ is.size;
        agrees = ap (λ (ms : List (Option VolumeTag)). agree ms (slice_set ds k e)) m.marks ∙ ap (λ (u : UnitView). agree (marks device) (slice_set ds k u)) step.same ∙ is.agrees;
      }

  placed_true : (of_drive : Bool) (device : DeviceView) (d : UnitView) (address : ℕ) (v : Volume) (after : DeviceView) (e : UnitView)
      → (of_drive ≡ true → (address ≡ suc k + 0xFF) × (suc k ≤ drives_of c.device)) → IsTrue device d → IsPlaced of_drive device d address v after e → IsTrue after e
  placed_true true device d address v after e at is step =
      let size = noting_same device address (Some v.tag) in
      let place = at refl in
      let marks_are : marks after ≡ slice_set (marks device) k (Some v.tag) =
      ap marks step.marks ∙ noting_mark device address k (Some v.tag) place.0 (subst (λ n. suc k ≤ n) (sym is.size) place.1) in
      record {
        kind = ap kind_of step.marks ∙ size.kind ∙ is.kind;
        size = ap drives_of step.marks ∙ size.drives ∙ is.size;
        agrees = ap (λ (ms : List (Option VolumeTag)). agree ms (slice_set ds k e)) marks_are
            ∙ agree_again (marks device) ds k (Some v.tag) d e is.agrees (ap (same_mark (Some v.tag)) (taken_bay d e v step.comes) ∙ true_mark v.tag);
      }
  placed_true false device d address v after e at is step =
      let m = changers_get device after address v is.kind step.puts in
      record {
        kind = m.device.kind ∙ is.kind;
        size = m.device.drives ∙ is.size;
        agrees = ap (λ (ms : List (Option VolumeTag)). agree ms (slice_set ds k e)) m.marks ∙ ap (λ (u : UnitView). agree (marks device) (slice_set ds k u)) step.same ∙ is.agrees;
      }

  at_place : (drive : Option ℕ) (address : ℕ) → drive ≡ drive_at (drives_of c.device) address → IsAt drive (suc k) → is_some drive ≡ true
      → (address ≡ suc k + 0xFF) × (suc k ≤ drives_of c.device)
  at_place drive address is (inl none) some = let no : false ≡ true = sym (ap (λ (o : Option ℕ). is_some o) none) ∙ some in absurd cc
  at_place drive address is (inr one) some = let w = drive_within (drives_of c.device) address (suc k) (sym is ∙ one) in (w.2, w.1)

  exchanged_agrees : (o : IsOrdered c ds) (x : ExchangeRoute) (d e : UnitView) (device : DeviceView) → slice_get ds k ≡ Some d → x.from ≡ drive_at (drives_of c.device) x.source
      → x.between ≡ drive_at (drives_of c.device) x.first → x.to ≡ drive_at (drives_of c.device) x.second → named_among x.from x.between x.to ≡ suc k ∷ []
      → exchanged_by c.device d x (is_some x.from) (is_some x.between) (is_some x.to) ≡ Ok (device, e) → agree (marks device) (slice_set ds k e) ≡ true
  exchanged_agrees o x d e device there from between to names h =
      let s = is_exchanged c.device d x (is_some x.from) (is_some x.between) (is_some x.to) device e h in
      let n = named_alone x.from x.between x.to (suc k) [] names in
      let at_source = at_place x.from x.source from n.from_is in
      let at_first = at_place x.between x.first between n.between_is in
      let at_second = at_place x.to x.second to n.to_is in
      let start : IsTrue c.device d = record { kind = o.kind; size = refl; agrees = agree_drive (marks c.device) ds k d d there refl ∙ o.marked } in
      let a = removed_true (is_some x.from) c.device d x.source s.one s.without_one s.drive_one at_source start s.source in
      let b = removed_true (is_some x.between) s.without_one s.drive_one x.first s.other s.without_both s.drive_both at_first a s.first in
      let p = placed_true (is_some x.between) s.without_both s.drive_both x.first s.one s.with_one s.drive_with at_first b s.places in
      (placed_true (is_some x.to) s.with_one s.drive_with x.second s.other device e at_second p s.second).agrees

-- what is noted of either leaves the marks
noted_marks : (errand : Errand) (device : DeviceView) → marks (errand_noted errand device) ≡ marks device
noted_marks (Move r) device = (journeys_keep_marks device r.source r.destination).marks
noted_marks (Exchange x) device = (exchanges_keep_marks device x.source x.first x.second).marks

errand_agrees : (c : UnitView) (ds : List UnitView) (o : IsOrdered c ds) (k : ℕ) (d e : UnitView) (device : DeviceView) (q : Request) (errand : Errand) → slice_get ds k ≡ Some d
    → Asks (drives_of c.device) q errand → named_in (Some errand) ≡ suc k ∷ [] → carried_with_one c.device d errand ≡ Ok (device, e) → agree (marks device) (slice_set ds k e) ≡ true
errand_agrees c ds o k d e device q (Move r) there a names h = by_one_agrees c ds o r k d e device r.from r.to a.from a.to names h
errand_agrees c ds o k d e device q (Exchange x) there a names h = exchanged_agrees c ds k o x d e device there a.from a.between a.to names h

-- WITH THE DRIVES THAT ARE NAMED
module _ (c : UnitView) (ds : List UnitView) (o : IsOrdered c ds) (n : Nexus) (cdb bytes : List ℕ) (r : Reply) where
  one_marked : (k : ℕ) (d v e : UnitView) → slice_get ds k ≡ Some d → named (commands_of c.device) (drives_of c.device) cdb ≡ suc k ∷ [] → Became c v n cdb bytes r d e (carried_one c.device d (errand_at c cdb)) → agree (marks v.device) (slice_set ds k e) ≡ true
  one_marked k d v e there names (inl alone) =
      ap (λ (ms : List (Option VolumeTag)). agree ms (slice_set ds k e)) (executes_marks c v n cdb bytes r alone.0).marks
      ∙ agree_drive (marks c.device) ds k d e there (ap (λ (u : UnitView). held_in u.device 0) alone.1) ∙ o.marked
  one_marked k d v e there names (inr (inl halted)) =
      ap (λ (x : UnitView × Reply). agree (marks x.0.device) (slice_set ds k e)) halted.ends.unit
      ∙ agree_drive (marks c.device) ds k d e there (ap (λ (u : UnitView). held_in u.device 0) halted.drives_stay) ∙ o.marked
  one_marked k d v e there names (inr (inr moved)) =
      let q = has_errand c.device cdb (suc k) [] names in
      let w = came q.errand (carried_with_one c.device d q.errand) moved.device e (sym (ap (carried_one c.device d) q.is) ∙ moved.is) in
      ap (λ (x : UnitView × Reply). agree (marks x.0.device) (slice_set ds k e)) moved.ends.unit
      ∙ ap (λ (x : DeviceView). agree (marks x) (slice_set ds k e)) w.notes
      ∙ ap (λ (ms : List (Option VolumeTag)). agree ms (slice_set ds k e)) (noted_marks q.errand w.mid)
      ∙ errand_agrees c ds o k d e w.mid q.decodes.request q.errand there q.asks q.names w.carries

  one_order : (k : ℕ) (d : UnitView) (ms : List UnitView) → slice_get ds k ≡ Some d → named (commands_of c.device) (drives_of c.device) cdb ≡ suc k ∷ [] → AtDrive (c ∷ ds) (suc k) (MovesOne c d n cdb bytes) (ms, r) → fault_of ms ≡ None
  one_order k d ms there names a =
      let same = one_same c d a.changer a.other n cdb bytes r (suc k) [] names a.step in
      ap fault_of a.units
      ∙ no_fault a.changer (slice_set ds k a.other)
      (drive_set c a.changer ds k d a.other o there (same_look c a.changer same.0) (same_look d a.other same.1) (one_marked k d a.changer a.other there names (one_became c d a.changer a.other n cdb bytes r (suc k) [] names a.step)))

  abbrev pub by_way : TwoDrives → Route → Bool → Result (DeviceView × TwoDrives) Condition
  by_way ds' q up = cond up (upward (passed c.device ds'.low ds'.high q)) (downward (passed c.device ds'.high ds'.low q))

  by_ways : (i j : ℕ) (ds' es : TwoDrives) (device : DeviceView) (more : List ℕ) (q : HasRoute c.device cdb (suc i) (suc j) more) → i ≢ j
      → AreNamed q.route.from q.route.to (suc i) (suc j) true ⊎ AreNamed q.route.from q.route.to (suc j) (suc i) false
      → by_way ds' q.route (is_upward q.route.from q.route.to) ≡ Ok (device, es) → agree (marks device) (slice_set (slice_set ds i es.low) j es.high) ≡ true
  by_ways i j ds' es device more q apart (inl up) h =
      let low = drive_within (drives_of c.device) q.route.source (suc i) (sym q.from ∙ up.from_is) in
      let high = drive_within (drives_of c.device) q.route.destination (suc j) (sym q.to ∙ up.to_is) in
      upward_agrees c ds o q.route i j ds' es device (passed c.device ds'.low ds'.high q.route) low.2 high.2 low.1 high.1 refl (sym (ap (by_way ds' q.route) up.way) ∙ h)
  by_ways i j ds' es device more q apart (inr down) h =
      let high = drive_within (drives_of c.device) q.route.source (suc j) (sym q.from ∙ down.from_is) in
      let low = drive_within (drives_of c.device) q.route.destination (suc i) (sym q.to ∙ down.to_is) in
      downward_agrees c ds o q.route i j ds' es device (passed c.device ds'.high ds'.low q.route) apart high.2 low.2 low.1 high.1 refl (sym (ap (by_way ds' q.route) down.way) ∙ h)

  module _ (i j : ℕ) (ds' : TwoDrives) (low : slice_get ds i ≡ Some ds'.low) (high : slice_get ds j ≡ Some ds'.high) (more : List ℕ) (names : named (commands_of c.device) (drives_of c.device) cdb ≡ suc i ∷ suc j ∷ more) where
    apart : i ≢ j
    apart = λ e.
        let q = has_route c.device cdb (suc i) (suc j) more names in
        let less = (named_two q.route.from q.route.to (suc i) (suc j) more q.names).0 in
        absurd (omega (arith, e, less))

    -- drives that are as they were
    agree_both : (es : TwoDrives) → held_in es.low.device 0 ≡ held_in ds'.low.device 0 → held_in es.high.device 0 ≡ held_in ds'.high.device 0 → agree (marks c.device) (slice_set (slice_set ds i es.low) j es.high) ≡ true
    agree_both es first second =
        agree_drive (marks c.device) (slice_set ds i es.low) j ds'.high es.high (get-set_other ds i j es.low apart ∙ high) second ∙ agree_drive (marks c.device) ds i ds'.low es.low low first ∙ o.marked

    two_marked : (v : UnitView) (es : TwoDrives) → Became c v n cdb bytes r ds' es (carried_two c.device ds' (errand_at c cdb)) → agree (marks v.device) (slice_set (slice_set ds i es.low) j es.high) ≡ true
    two_marked v es (inl alone) =
        ap (λ (ms : List (Option VolumeTag)). agree ms (slice_set (slice_set ds i es.low) j es.high)) (executes_marks c v n cdb bytes r alone.0).marks
        ∙ agree_both es (ap (λ (x : TwoDrives). held_in x.low.device 0) alone.1) (ap (λ (x : TwoDrives). held_in x.high.device 0) alone.1)
    two_marked v es (inr (inl halted)) =
        ap (λ (x : UnitView × Reply). agree (marks x.0.device) (slice_set (slice_set ds i es.low) j es.high)) halted.ends.unit
        ∙ agree_both es (ap (λ (x : TwoDrives). held_in x.low.device 0) halted.drives_stay) (ap (λ (x : TwoDrives). held_in x.high.device 0) halted.drives_stay)
    two_marked v es (inr (inr moved)) =
        let q = has_route c.device cdb (suc i) (suc j) more names in
        let w = came (Move q.route) (by_way ds' q.route (is_upward q.route.from q.route.to)) moved.device es (sym (ap (carried_two c.device ds') q.is) ∙ moved.is) in
        ap (λ (x : UnitView × Reply). agree (marks x.0.device) (slice_set (slice_set ds i es.low) j es.high)) moved.ends.unit
        ∙ ap (λ (x : DeviceView). agree (marks x) (slice_set (slice_set ds i es.low) j es.high)) w.notes
        ∙ ap (λ (ms : List (Option VolumeTag)). agree ms (slice_set (slice_set ds i es.low) j es.high)) (noted_marks (Move q.route) w.mid)
        ∙ by_ways i j ds' es w.mid more q apart (named_two q.route.from q.route.to (suc i) (suc j) more q.names).1 w.carries

    two_order : (ms : List UnitView) → AtDrives (c ∷ ds) (suc i) (suc j) (MovesTwo c ds' n cdb bytes) (ms, r) → fault_of ms ≡ None
    two_order ms a =
        let same = two_same c a.changer ds' a.drives n cdb bytes r (suc i) (suc j ∷ more) names a.step in
        ap fault_of a.units
        ∙ no_fault a.changer (slice_set (slice_set ds i a.drives.low) j a.drives.high)
        (drives_set c a.changer ds i j ds'.low a.drives.low ds'.high a.drives.high o apart low high (same_look c a.changer same.0) (same_look ds'.low a.drives.low same.1) (same_look ds'.high a.drives.high same.2)
        (two_marked a.changer a.drives (two_became c a.changer ds' a.drives n cdb bytes r (suc i) (suc j ∷ more) names a.step)))

-- a move with one drive, which is at its place or isn't there
with_order : (c : UnitView) (ds ms : List UnitView) (l : ℕ) (n : Nexus) (cdb bytes : List ℕ) (r : Reply) (d : Option UnitView) → slice_get (c ∷ ds) l ≡ d → named (commands_of c.device) (drives_of c.device) cdb ≡ l ∷ [] → MovesWith (c ∷ ds) c l d n cdb bytes (ms, r) → fault_of (c ∷ ds) ≡ None → fault_of ms ≡ None
with_order c ds ms l n cdb bytes r None there names step h = alone_order (c ∷ ds) ms 0 c n cdb bytes r refl step h
with_order c ds ms zero n cdb bytes r (Some d) there names step h = let w = one_named c.device cdb zero names in absurd (omega (arith, w.0))
with_order c ds ms (suc k) n cdb bytes r (Some d) there names step h = one_order c ds (ordered c ds h) n cdb bytes r k d ms there names step

between_order : (c : UnitView) (ds ms : List UnitView) (l m : ℕ) (more : List ℕ) (n : Nexus) (cdb bytes : List ℕ) (r : Reply) (d e : Option UnitView) → slice_get (c ∷ ds) l ≡ d → slice_get (c ∷ ds) m ≡ e → named (commands_of c.device) (drives_of c.device) cdb ≡ l ∷ m ∷ more
    → MovesBetween (c ∷ ds) c l m d e n cdb bytes (ms, r) → fault_of (c ∷ ds) ≡ None → fault_of ms ≡ None
between_order c ds ms zero m more n cdb bytes r d e first second names step h = let w = two_named c.device cdb zero m more names in absurd (omega (arith, w.0))
between_order c ds ms (suc i) zero more n cdb bytes r d e first second names step h = let w = two_named c.device cdb (suc i) zero more names in absurd (omega (arith, w.1))
between_order c ds ms (suc i) (suc j) more n cdb bytes r (Some d) (Some e) first second names step h = two_order c ds (ordered c ds h) n cdb bytes r i j (record { low = d; high = e }) first second more names ms step
between_order c ds ms (suc i) (suc j) more n cdb bytes r None e first second names step h = alone_order (c ∷ ds) ms 0 c n cdb bytes r refl step h
between_order c ds ms (suc i) (suc j) more n cdb bytes r (Some d) None first second names step h = alone_order (c ∷ ds) ms 0 c n cdb bytes r refl step h

naming_order : (c : UnitView) (ds ms : List UnitView) (names : List ℕ) (n : Nexus) (cdb bytes : List ℕ) (r : Reply) → named (commands_of c.device) (drives_of c.device) cdb ≡ names → CommandsNaming (c ∷ ds) c names n cdb bytes (ms, r) → fault_of (c ∷ ds) ≡ None → fault_of ms ≡ None
naming_order c ds ms [] n cdb bytes r is step h = alone_order (c ∷ ds) ms 0 c n cdb bytes r refl step h
naming_order c ds ms (l ∷ []) n cdb bytes r is step h = with_order c ds ms l n cdb bytes r (slice_get (c ∷ ds) l) refl is step h
naming_order c ds ms (l ∷ m ∷ more) n cdb bytes r is step h = between_order c ds ms l m more n cdb bytes r (slice_get (c ∷ ds) l) (slice_get (c ∷ ds) m) refl refl is step h

-- THE STEPS
pub commands_order : (us ms : List UnitView) (at : ℕ) (n : Nexus) (cdb bytes : List ℕ) (r : Reply) (o : Option UnitView) → slice_get us at ≡ o → CommandsAt us at o n cdb bytes (ms, r) → fault_of us ≡ None → fault_of ms ≡ None
commands_order us ms at n cdb bytes r None there step h = ap fault_of step.0 ∙ h
commands_order us ms (suc k) n cdb bytes r (Some w) there step h = alone_order us ms (suc k) w n cdb bytes r there step h
commands_order [] ms zero n cdb bytes r (Some w) there step h = absurd cc
commands_order (c ∷ ds) ms zero n cdb bytes r (Some w) there step h =
    let is : w ≡ c = same_some w c (sym there) in
    naming_order c ds ms (named (commands_of c.device) (drives_of c.device) cdb) n cdb bytes r refl (subst (λ (u : UnitView). CommandsNaming (c ∷ ds) u (named (commands_of u.device) (drives_of u.device) cdb) n cdb bytes (ms, r)) is step) h

pub loses_order : (us ms : List UnitView) (at : ℕ) (n : Nexus) (r : Reply) (o : Option UnitView) → slice_get us at ≡ o → LosesAt us at o n (ms, r) → fault_of us ≡ None → fault_of ms ≡ None
loses_order us ms at n r None there step h = ap (λ (x : List UnitView × Reply). fault_of x.0) step ∙ h
loses_order us ms at n r (Some w) there step h =
    changed us ms at w step.unit there step.units (ap (λ k. (k, place_of step.unit.state)) (loss_commands w step.unit n r step.step) ∙ ap (λ p. (commands_of w.device, p)) (loss_place w step.unit n r step.step)) (loss_marks w step.unit n r step.step) h

pub resets_order : (us ms : List UnitView) (at : ℕ) (r : Reply) (o : Option UnitView) → slice_get us at ≡ o → ResetsAt us at o (ms, r) → fault_of us ≡ None → fault_of ms ≡ None
resets_order us ms at r None there step h = ap (λ (x : List UnitView × Reply). fault_of x.0) step ∙ h
resets_order us ms at r (Some w) there step h =
    changed us ms at w step.unit there step.units (ap (λ k. (k, place_of step.unit.state)) (reset_commands w step.unit r step.step) ∙ ap (λ p. (commands_of w.device, p)) (reset_place w step.unit r step.step)) (reset_marks w step.unit r step.step) h

pub drains_order : (us ms : List UnitView) (at : ℕ) (entries : Option (List Record)) (o : Option UnitView) → slice_get us at ≡ o → DrainsAt us at o (ms, entries) → fault_of us ≡ None → fault_of ms ≡ None
drains_order us ms at entries None there step h = ap (λ (x : List UnitView × Option (List Record)). fault_of x.0) step ∙ h
drains_order us ms at entries (Some w) there step h =
    changed us ms at w (drained w) there (ap (λ (x : List UnitView × Option (List Record)). x.0) step.0) refl (record { device = record { kind = refl; profile = refl; identity = refl; drives = refl }; marks = refl }) h
