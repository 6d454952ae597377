-- The rows of a move with a drive, by computing, and what isn't such a move, by one field of what it says.
use Rattle.std.proofs.Common.{◌≡◌, ◌≢◌, ℕ, true, false, List, [], ◌∷◌, get_or, Option, Some, None, Result, Ok, inl, inr, refl, sym, ap, ◌∙◌, subst, arith}
use Rattle.std.specs.Prelude.{◌⊎◌, slice_get}
use Rattle.scsi_cdb.specs.Commands as commands
use Rattle.scsi_cdb.specs.declared.request.Request.TheVariants as request
use Rattle.scsi_nexus.specs.declared.nexus.Nexus.{Nexus}
use Rattle.scsi_sense.specs.declared.condition.Condition.{Condition}
use Rattle.scsi_sense.specs.declared.status.Status.TheVariants.{Good, CheckCondition, Busy}
use Rattle.pr_core.specs.State.{keys_after, power_on}
use Rattle.pr_core.specs.declared.verdict.Verdict.TheVariants.{Allowed}
use Rattle.tape_medium.specs.declared.volume.Volume.{Volume}
use Rattle.tape_medium.specs.declared.volume.VolumeTag.{VolumeTag}
use Rattle.device_server.specs.View.{DeviceView, commands_of, drives_of, held_in, profile_of, journeyed}
use Rattle.device_server.specs.declared.fault.TakeFault.{TakeFault}
use Rattle.judgement.specs.Readings.{verdict_of}
use Rattle.judgement.specs.Replies.{check}
use Rattle.judgement.specs.declared.command.Command.{Command}
use Rattle.judgement.specs.declared.command.Command.TheVariants as command
use Rattle.judgement.specs.declared.reply.Reply.{Reply}
use Rattle.unit_laws.specs.Check.{ComesToTheCheck}
use Rattle.unit_laws.specs.MoveRows.{first_tag, second_tag, move, drive_1, slot_1, slot_2, changer_of, empty_drive}
use Rattle.unit_laws.specs.Rows.{a, b, volume, drive_prevented}
use Rattle.logical_unit.specs.Medium.{put_in}
use Rattle.logical_unit.specs.Move.{MovesOne, is_left, noting, moved_one, errand_at}
use Rattle.logical_unit.specs.Route.{named, records_of}
use Rattle.logical_unit.specs.UnitView.{UnitView}
use Rattle.logical_unit.specs.declared.medium_fault.MediumFault.{MediumFault}
use Rattle.logical_unit.specs.declared.route.Errand.{Errand}
use Rattle.logical_unit.specs.declared.route.Errand.TheVariants.{Move}
use Rattle.logical_unit.specs.declared.route.Route.{Route}
use Rattle.target_core.proofs.Places.{same_some}
use Rattle.target_core.specs.Run.{AtDrive, CommandsNaming}
use Rattle.target_laws.specs.CarriedRows.{inward, device_by, before, after, changer_with, drive_with, at_first, moved, IsServedSo, GoesInward, VolumeGoes, VolumeDoesNotGo, MoveIsNotServed, prevented, sense, checked, changer_checking, MoveStops, NoDriveMoves}
use Rattle.target_laws.specs.Headline.{AreThere, IsWithDrives, behind, HasEnd, IsCarriedOut, IsStopped, IsServed}
use Rattle.target_laws.specs.LibraryRows.{test_unit_ready}
use Rattle.target_laws.specs.Rows.{good_with}
use Rattle.target_laws.proofs.CommandInARun.{is_served}
use Rattle.target_laws.proofs.MoveWays.{one_goes}
use Rattle.target_laws.proofs.WorkedHeadline.{is_answered_so}

-- THE MOVE
abbrev pub Three : Type 0
Three = (UnitView × Reply) × UnitView

moves : ◌≡◌ {A = Three} ((changer_with after, good_with 1), drive_with first_tag) (moved_one (changer_of before) (empty_drive 1) a (move slot_1 drive_1) [])
unfolding commands.command_of profile_of keys_after
moves = refl

names : named (commands_of before) (drives_of before) (move slot_1 drive_1) ≡ 1 ∷ []
unfolding commands.command_of profile_of
names = refl

asks : errand_at (changer_of before) (move slot_1 drive_1) ≡ Some (Move inward)
unfolding commands.command_of profile_of
asks = refl

asks_none : errand_at (changer_of before) test_unit_ready ≡ None
unfolding commands.command_of profile_of
asks_none = refl

served : IsServedSo moved
served =
    let at : AtDrive at_first 1 (MovesOne (changer_of before) (empty_drive 1) a (move slot_1 drive_1) []) (moved, good_with 1) =
    record { changer = changer_with after; other = drive_with first_tag; step = inr (refl, omega arith, λ carried. let one : records_of (errand_at (changer_of before) (move slot_1 drive_1)) ≡ 1 = ap records_of asks in omega (arith, one), moves); units = refl } in
    is_served power_on at_first moved 0 (changer_of before) a (move slot_1 drive_1) [] (good_with 1) refl refl
    (subst (λ (l : List ℕ). CommandsNaming at_first (changer_of before) l a (move slot_1 drive_1) [] (moved, good_with 1)) (sym names) at)

goes : GoesInward moved after
goes = record {
  volume = volume first_tag;
  without = device_by None None None;
  gives = refl;
  with_it = device_by None None None;
  takes = (record { was = empty_drive 1; is = drive_with first_tag; there = refl; stays = refl; takes = refl }, refl);
  marks = refl;
  others = (one_goes at_first moved before after inward 1 (empty_drive 1) (drive_with first_tag) refl refl refl refl).others;
}

pub volume_goes : VolumeGoes
volume_goes = record {
  goes = goes;
  served = served;
  drive = record { changer = refl; good = refl; way = Move inward; asked = asks; end = inr refl; goes = goes };
}

-- the changer with the mark of a volume, and the way that it went
abbrev noted : DeviceView → VolumeTag → DeviceView
noted device tag = journeyed (noting device 0x100 (Some tag)) 0x400 0x100

-- WHAT GOES INWARD: the first volume, into the empty drive; and what it leaves
module _ (us : List UnitView) (device : DeviceView) (g : GoesInward us device) where
  gives : ◌≡◌ {A = Volume × DeviceView} (volume first_tag, device_by None None None) (g.volume, g.without)
  gives = let it : ◌≡◌ {A = Result (Volume × DeviceView) TakeFault} (Ok (volume first_tag, device_by None None None)) (Ok (g.volume, g.without)) = g.gives in cc

  first : g.volume ≡ volume first_tag
  first = sym (ap (λ (x : Volume × DeviceView). x.0) gives)

  into : (d : UnitView) → slice_get us 1 ≡ Some d → put_in (empty_drive 1) (volume first_tag) ≡ Ok d
  into d there =
      let it = g.takes.0 in
      let was : it.was ≡ empty_drive 1 = same_some it.was (empty_drive 1) (sym it.there) in
      let is : it.is ≡ d = same_some it.is d (sym it.stays ∙ there) in
      subst (λ (u : UnitView). put_in u (volume first_tag) ≡ Ok d) was (subst (λ (v : Volume). put_in it.was v ≡ Ok d) first (subst (λ (u : UnitView). put_in it.was g.volume ≡ Ok u) is it.takes))

  leaves : device ≡ after
  leaves =
      let without : g.without ≡ device_by None None None = sym (ap (λ (x : Volume × DeviceView). x.1) gives) in
      let with_it : g.with_it ≡ device_by None None None = g.takes.1 ∙ without in
      g.marks ∙ ap (λ (v : Volume). noted g.with_it v.tag) first ∙ ap (λ (x : DeviceView). noted x first_tag) with_it

-- the two tags differ in their sixth byte
abbrev sixth : VolumeTag → ℕ
sixth tag = get_or tag.0 5 0

pub other_tag : second_tag ≢ first_tag
other_tag h = let bytes : 0x32 ≡ 0x31 = ap sixth h in absurd (omega (arith, bytes))

-- the tag in a drive's bay, and what a changer's elements show
abbrev bay : UnitView → Option VolumeTag
bay u = held_in u.device 0

abbrev mark_1 : DeviceView → Option VolumeTag
mark_1 device = held_in device 0x100

arrives : (d : UnitView) (g : GoesInward (changer_with after ∷ d ∷ []) after) → drive_with first_tag ≡ d
arrives d g =
    let e : ◌≡◌ {A = Result UnitView MediumFault} (Ok (drive_with first_tag)) (Ok d) = into (changer_with after ∷ d ∷ []) after g d refl in
    cc

other_volume : ¬ GoesInward (changer_with after ∷ drive_with second_tag ∷ []) after
other_volume g = other_tag (sym (same_some first_tag second_tag (ap bay (arrives (drive_with second_tag) g))))

nowhere : ¬ GoesInward (changer_with after ∷ empty_drive 1 ∷ []) after
nowhere g = let no : ◌≡◌ {A = Option VolumeTag} (Some first_tag) None = ap bay (arrives (empty_drive 1) g) in cc

stays_too : (us : List UnitView) → ¬ GoesInward us (device_by (Some first_tag) (Some (volume first_tag)) None)
stays_too us g =
    let e = leaves us (device_by (Some first_tag) (Some (volume first_tag)) None) g in
    let no : ◌≡◌ {A = Option VolumeTag} (Some first_tag) None = ap (λ (x : DeviceView). held_in x 0x400) e in
    cc

another_comes : (us : List UnitView) → ¬ GoesInward us (device_by (Some first_tag) None (Some (volume second_tag)))
another_comes us g =
    let e = leaves us (device_by (Some first_tag) None (Some (volume second_tag))) g in
    let no : ◌≡◌ {A = Option VolumeTag} (Some second_tag) None = ap (λ (x : DeviceView). held_in x 0x401) e in
    cc

pub volume_does_not_go : VolumeDoesNotGo
volume_does_not_go = record {
  other_volume = other_volume;
  nowhere = nowhere;
  stays_too = stays_too moved;
  another_comes = another_comes moved;
  other_mark = λ g. other_tag (same_some second_tag first_tag (ap mark_1 (leaves moved (device_by (Some second_tag) None None) g)));
  no_mark = λ g. let no : ◌≡◌ {A = Option VolumeTag} None (Some first_tag) = ap mark_1 (leaves moved (device_by None None None) g) in cc;
  other_source = λ g. let gives = g.gives in cc;
}

-- SO IT ISN'T SERVED
abbrev asked : Command
asked = command.Device (request.MoveMedium 0 0x400 0x100 false)

comes : ComesToTheCheck (changer_of before) a (move slot_1 drive_1) [] asked
unfolding commands.command_of profile_of
comes = record { decodes = refl; ready = refl }

allowed : verdict_of power_on a asked ≡ Allowed
allowed = refl

left_open : is_left (behind (changer_of before) a asked []).2.sense ≡ true
unfolding profile_of
left_open = refl

with_drives : IsWithDrives at_first 0 (changer_of before) (move slot_1 drive_1)
with_drives = record { changer = refl; some = λ e. let no = sym names ∙ e in cc; there = subst (AreThere at_first) (sym names) (refl, tt) }

-- what is served of a move that was left to the drives, they decide
module _ (mid us : List UnitView) (c v : UnitView) (n : Nexus) (cdb : List ℕ) (asked : Command) (r : Reply) (way : Errand) (there : slice_get mid 0 ≡ Some c) (stays : slice_get us 0 ≡ Some v) (free : r.status ≢ Busy) (comes : ComesToTheCheck c n cdb [] asked)
    (allowed : verdict_of power_on n asked ≡ Allowed) (left_open : is_left (behind c n asked []).2.sense ≡ true) (with_drives : IsWithDrives mid 0 c cdb) (asks : errand_at c cdb ≡ Some way) where
  pub by_drives : IsServed power_on mid us 0 n cdb [] r → IsCarriedOut mid us c v n [] asked r way ⊎ IsStopped mid c v n [] asked r way
  by_drives h =
      let it = is_answered_so power_on mid us 0 c v n cdb [] r there stays free h in
      let into = (it.decided asked comes).let_in allowed in
      elim into.goes_on [
        | inl own ↦ let no : true ≡ false = sym left_open ∙ own.not_left with_drives in absurd cc
        | inr by ↦ subst (λ (w : Errand). IsCarriedOut mid us c v n [] asked r w ⊎ IsStopped mid c v n [] asked r w) (same_some by.way way (sym by.asked ∙ asks)) by.ends
      ]

goes_served : (v d : UnitView) → IsServedSo (v ∷ d ∷ []) → GoesInward (v ∷ d ∷ []) v.device
goes_served v d h =
    let us = v ∷ d ∷ [] in
    elim (by_drives at_first us (changer_of before) v a (move slot_1 drive_1) asked (good_with 1) (Move inward) refl refl (λ e. cc) comes allowed left_open with_drives asks h) [
      | inl carried ↦ subst (λ (x : DeviceView). GoesInward us x) (sym (ap (λ (x : UnitView × Reply). x.0.device) carried.ends)) carried.goes
      | inr stopped ↦ let no : Good ≡ CheckCondition = ap (λ (x : UnitView × Reply). x.1.status) stopped.ends in absurd cc
    ]

-- the move out of a drive where removal is prevented
abbrev outward : Route
outward = record { source = 0x100; destination = 0x401; from = Some 1; to = None }

abbrev asked_out : Command
asked_out = command.Device (request.MoveMedium 0 0x100 0x401 false)

comes_out : ComesToTheCheck (changer_of after) b (move drive_1 slot_2) [] asked_out
unfolding commands.command_of profile_of
comes_out = record { decodes = refl; ready = refl }

allowed_out : verdict_of power_on b asked_out ≡ Allowed
allowed_out = refl

left_out : is_left (behind (changer_of after) b asked_out []).2.sense ≡ true
unfolding profile_of
left_out = refl

names_out : named (commands_of after) (drives_of after) (move drive_1 slot_2) ≡ 1 ∷ []
unfolding commands.command_of profile_of
names_out = refl

asks_out : errand_at (changer_of after) (move drive_1 slot_2) ≡ Some (Move outward)
unfolding commands.command_of profile_of
asks_out = refl

with_out : IsWithDrives prevented 0 (changer_of after) (move drive_1 slot_2)
with_out = record { changer = refl; some = λ e. let no = sym names_out ∙ e in cc; there = subst (AreThere prevented) (sym names_out) (refl, tt) }

stops : ◌≡◌ {A = Three} ((changer_checking b after (sense 5 0x53 0x02), checked (sense 5 0x53 0x02)), drive_prevented first_tag) (moved_one (changer_of after) (drive_prevented first_tag) b (move drive_1 slot_2) [])
unfolding commands.command_of profile_of keys_after
stops = refl

served_stopped : IsServed power_on prevented (changer_checking b after (sense 5 0x53 0x02) ∷ drive_prevented first_tag ∷ []) 0 b (move drive_1 slot_2) [] (checked (sense 5 0x53 0x02))
served_stopped =
    let us = changer_checking b after (sense 5 0x53 0x02) ∷ drive_prevented first_tag ∷ [] in
    let at : AtDrive prevented 1 (MovesOne (changer_of after) (drive_prevented first_tag) b (move drive_1 slot_2) []) (us, checked (sense 5 0x53 0x02)) =
    record { changer = changer_checking b after (sense 5 0x53 0x02); other = drive_prevented first_tag; step = inr (refl, omega arith, λ carried. let one : records_of (errand_at (changer_of after) (move drive_1 slot_2)) ≡ 1 = ap records_of asks_out in omega (arith, one), stops); units = refl } in
    is_served power_on prevented us 0 (changer_of after) b (move drive_1 slot_2) [] (checked (sense 5 0x53 0x02)) refl refl
    (subst (λ (l : List ℕ). CommandsNaming prevented (changer_of after) l b (move drive_1 slot_2) [] (us, checked (sense 5 0x53 0x02))) (sym names_out) at)

abbrev pub asc_of : Reply → ℕ
asc_of r = elim r.sense [ Some it ↦ it.asc | None ↦ 0 ]

other_sense : ¬ IsServed power_on prevented (changer_checking b after (sense 4 0x44 0x00) ∷ drive_prevented first_tag ∷ []) 0 b (move drive_1 slot_2) [] (checked (sense 4 0x44 0x00))
other_sense h =
    let v = changer_checking b after (sense 4 0x44 0x00) in
    elim (by_drives prevented (v ∷ drive_prevented first_tag ∷ []) (changer_of after) v b (move drive_1 slot_2) asked_out (checked (sense 4 0x44 0x00)) (Move outward) refl refl (λ e. cc) comes_out allowed_out left_out with_out asks_out h) [
      | inl carried ↦ let no : CheckCondition ≡ Good = ap (λ (x : UnitView × Reply). x.1.status) carried.ends in cc
      | inr stopped ↦ let no : 0x44 ≡ 0x53 = ap (λ (x : UnitView × Reply). asc_of x.1) stopped.ends ∙ ap (λ (condition : Condition). asc_of (check condition)) stopped.reported in absurd (omega (arith, no))
    ]

for_nothing : ¬ IsServed power_on at_first (changer_checking a before (sense 4 0x44 0x00) ∷ empty_drive 1 ∷ []) 0 a (move slot_1 drive_1) [] (checked (sense 4 0x44 0x00))
for_nothing h =
    let v = changer_checking a before (sense 4 0x44 0x00) in
    elim (by_drives at_first (v ∷ empty_drive 1 ∷ []) (changer_of before) v a (move slot_1 drive_1) asked (checked (sense 4 0x44 0x00)) (Move inward) refl refl (λ e. cc) comes allowed left_open with_drives asks h) [
      | inl carried ↦ let no : CheckCondition ≡ Good = ap (λ (x : UnitView × Reply). x.1.status) carried.ends in cc
      | inr stopped ↦ stopped.none moved after goes
    ]

pub move_stops : MoveStops
move_stops = record { served = served_stopped; other_sense = other_sense; for_nothing = for_nothing; free = refl; inward = refl }

pub move_is_not_served : MoveIsNotServed
move_is_not_served = record {
  other_volume = λ h. other_volume (goes_served (changer_with after) (drive_with second_tag) h);
  nowhere = λ h. nowhere (goes_served (changer_with after) (empty_drive 1) h);
  stays_too = λ h.
      let v = changer_with (device_by (Some first_tag) (Some (volume first_tag)) None) in
      let us = v ∷ drive_with first_tag ∷ [] in
      stays_too us (goes_served v (drive_with first_tag) h);
  another_comes = λ h.
      let v = changer_with (device_by (Some first_tag) None (Some (volume second_tag))) in
      let us = v ∷ drive_with first_tag ∷ [] in
      another_comes us (goes_served v (drive_with first_tag) h);
}

pub no_drive_moves : NoDriveMoves
no_drive_moves = record {
  other_command = λ m. let no = sym asks_none ∙ m.asked in cc;
  not_good = λ m. let no = m.good in cc;
  at_a_drive = λ m. let no = m.changer in cc;
  other_drive = λ m.
      let way : m.way ≡ Move inward = same_some m.way (Move inward) (sym m.asked ∙ asks) in
      let end : HasEnd (Move inward) 2 = subst (λ (w : Errand). HasEnd w 2) way m.end in
      elim end [
        | inl e ↦ let no : ◌≡◌ {A = Option ℕ} None (Some 2) = e in cc
        | inr e ↦ let no : ◌≡◌ {A = Option ℕ} (Some 1) (Some 2) = e in cc
      ];
}
