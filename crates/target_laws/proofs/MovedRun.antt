-- The worked run of moves, by computing.
use Rattle.std.proofs.Common.{◌≡◌, ◌+◌, ◌^◌, ◌∙◌, ltb, ℕ, zero, suc, Bool, true, List, [], ◌∷◌, get_or, Option, Some, None, inr, refl, sym, ap, subst, arith}
use Rattle.std.proofs.lemmas.Bool.{ltb-true}
use Rattle.std.proofs.lemmas.List.Elements.{All-nil, All-cons, All-head}
use Rattle.std.proofs.lemmas.List.Sorted.{length_permutation, All-permutation}
use Rattle.std.specs.Prelude.{◌&&◌, slice_get, if◌then◌else◌}
use Rattle.scsi_cdb.specs.Commands as commands
use Rattle.scsi_cdb.specs.declared.kind.Kind.TheVariants as kind
use Rattle.scsi_cdb.specs.declared.profile.Profile.TheVariants.{Spec}
use Rattle.scsi_cdb.specs.Kinds as cdb_kinds
use Rattle.pr_core.specs.State.{keys_after}
use Rattle.tape_medium.specs.declared.volume.Volume.{Volume}
use Rattle.tape_medium.specs.declared.volume.VolumeTag.{VolumeTag}
use Rattle.scsi_sense.specs.CarriedOut.{is_carried_out}
use Rattle.device_server.specs.View.{commands_of, drives_of, profile_of}
use Rattle.judgement.specs.declared.reply.Reply.{Reply}
use Rattle.judgement.specs.Commands.{decoded_command}
use Rattle.judgement.specs.UnitState.{has_room}
use Rattle.judgement.specs.History.{is_good}
use Rattle.logical_unit.specs.Move.{MovesOne, moved_one, errand_at}
use Rattle.unit_laws.specs.MoveRows.{first_tag, second_tag, move, drive_1, slot_1, slot_2, empty_drive}
use Rattle.unit_laws.specs.Rows.{a, volume}
use Rattle.logical_unit.specs.Route.{named, records_of}
use Rattle.logical_unit.specs.Step.{Executes, HasNumbers, answered}
use Rattle.logical_unit.specs.UnitView.{UnitView, last_number}
use Rattle.target_core.specs.declared.event.Event.{Event}
use Rattle.target_core.specs.declared.event.Event.TheVariants as event
use Rattle.target_laws.specs.Cartridges.{Cartridge}
use Rattle.target_laws.specs.LibraryRows.{Sending, Sends, AllSend, test_unit_ready, write, sent, sent_out, stocked, disagreeing, ways, writings, cartridge, IsMovedRun, NotKept, OtherCartridges, IsFailedRun}
use Rattle.target_core.specs.Run.{AtUnit, AtDrive, CommandsNaming, Steps, Runs}
use Rattle.target_laws.specs.Volumes.{Way, way_of, carried_by, writes, is_written}

-- ONE COMMAND OF A: to the drive, to the changer alone, and to it with the drive
module _ (c d : UnitView) where
  to_drive : (e : Event) (cdb bytes : List ℕ) → Sends e (1, cdb, bytes) → has_room d.state a ≡ true → ltb (last_number d + 1) (2 ^ 64) ≡ true
      → Steps (c ∷ d ∷ []) e (c ∷ (answered d a cdb bytes).0 ∷ [], (answered d a cdb bytes).1)
  to_drive (event.Command n lun cdb bytes) asked with_it h room number =
      let x = answered d a asked with_it in
      rw (h.0, h.1, h.2, h.3) (record { unit = x.0; step = inr (room, ltb-true (last_number d + 1) (2 ^ 64) number, refl); units = refl })
  to_drive (event.Loss n lun) asked with_it h room number = absurd h
  to_drive (event.Reset lun) asked with_it h room number = absurd h

  to_changer : (e : Event) (cdb bytes : List ℕ) → Sends e (0, cdb, bytes) → named (commands_of c.device) (drives_of c.device) cdb ≡ [] → has_room c.state a ≡ true → ltb (last_number c + 1) (2 ^ 64) ≡ true
      → Steps (c ∷ d ∷ []) e ((answered c a cdb bytes).0 ∷ d ∷ [], (answered c a cdb bytes).1)
  to_changer (event.Command n lun cdb bytes) asked with_it h names room number =
      let us = c ∷ d ∷ [] in
      let x = answered c a asked with_it in
      let at : AtUnit us 0 (Executes c a asked with_it) (x.0 ∷ d ∷ [], x.1) = record { unit = x.0; step = inr (room, ltb-true (last_number c + 1) (2 ^ 64) number, refl); units = refl } in
      rw (h.0, h.1, h.2, h.3) (subst (λ (l : List ℕ). CommandsNaming us c l a asked with_it (x.0 ∷ d ∷ [], x.1)) (sym names) at)
  to_changer (event.Loss n lun) asked with_it h names room number = absurd h
  to_changer (event.Reset lun) asked with_it h names room number = absurd h

  with_drive : (e : Event) (cdb bytes : List ℕ) → Sends e (0, cdb, bytes) → named (commands_of c.device) (drives_of c.device) cdb ≡ 1 ∷ [] → has_room c.state a ≡ true → ltb (last_number c + 1) (2 ^ 64) ≡ true → ltb (last_number d + 1) (2 ^ 64) ≡ true → records_of (errand_at c cdb) ≡ 1
      → let x = moved_one c d a cdb bytes in Steps (c ∷ d ∷ []) e (x.0.0 ∷ x.1 ∷ [], x.0.1)
  with_drive (event.Command n lun cdb bytes) asked with_it h names room number other one =
      let us = c ∷ d ∷ [] in
      let x = moved_one c d a asked with_it in
      let at : AtDrive us 1 (MovesOne c d a asked with_it) (x.0.0 ∷ x.1 ∷ [], x.0.1) =
      record { changer = x.0.0; other = x.1; step = inr (room, ltb-true (last_number c + 1) (2 ^ 64) number, λ carried. subst (HasNumbers d) (sym one) (ltb-true (last_number d + 1) (2 ^ 64) other), refl); units = refl } in
      rw (h.0, h.1, h.2, h.3) (subst (λ (l : List ℕ). CommandsNaming us c l a asked with_it (x.0.0 ∷ x.1 ∷ [], x.0.1)) (sym names) at)
  with_drive (event.Loss n lun) asked with_it h names room number other one = absurd h
  with_drive (event.Reset lun) asked with_it h names room number other one = absurd h

-- what it carried, and whether it wrote
abbrev carried_as : (lun : ℕ) → (cdb bytes : List ℕ) → Reply → Option Way
carried_as zero cdb bytes r = if is_good r.status then way_of (decoded_command (cdb_kinds.commands Spec kind.Changer) cdb bytes) else None
carried_as (suc k) cdb bytes r = None

way_sent : (e : Event) (s : Sending) (r : Reply) → Sends e s → carried_by Spec e r ≡ carried_as s.0 s.1 s.2 r
way_sent (event.Command n zero cdb bytes) s r h = ap (λ x. carried_as 0 x bytes.items r) h.2 ∙ ap (λ x. carried_as 0 s.1 x r) h.3 ∙ ap (λ lun. carried_as lun s.1 s.2 r) h.1
way_sent (event.Command n (suc k) cdb bytes) s r h = ap (λ lun. carried_as lun s.1 s.2 r) h.1
way_sent (event.Loss n lun) s r h = absurd h
way_sent (event.Reset lun) s r h = absurd h

writing_sent : (e : Event) (s : Sending) (r : Reply) → Sends e s → is_written Spec e r ≡ (is_carried_out r.status r.sense && writes (decoded_command (cdb_kinds.commands Spec kind.Drive) s.1 s.2))
writing_sent (event.Command n lun cdb bytes) s r h =
    ap (λ x. is_carried_out r.status r.sense && writes (decoded_command (cdb_kinds.commands Spec kind.Drive) x bytes.items)) h.2 ∙ ap (λ x. is_carried_out r.status r.sense && writes (decoded_command (cdb_kinds.commands Spec kind.Drive) s.1 x)) h.3
writing_sent (event.Loss n lun) s r h = absurd h
writing_sent (event.Reset lun) s r h = absurd h

each : {X : Type 0} (x y : X) (xs ys : List X) → x ≡ y → xs ≡ ys → x ∷ xs ≡ y ∷ ys
each x y xs ys p q = cc

abbrev ways_of : List Sending → List Reply → List (Option Way)
ways_of (s ∷ l) (r ∷ rs) = carried_as s.0 s.1 s.2 r ∷ ways_of l rs
ways_of l rs = []

abbrev writings_of : List Sending → List Reply → List Bool
writings_of (s ∷ l) (r ∷ rs) = (is_carried_out r.status r.sense && writes (decoded_command (cdb_kinds.commands Spec kind.Drive) s.1 s.2)) ∷ writings_of l rs
writings_of l rs = []

ways_sent : (es : List Event) (l : List Sending) (rs : List Reply) → AllSend es l → ways es rs ≡ ways_of l rs
ways_sent [] [] rs h = refl
ways_sent (e ∷ es) (s ∷ l) [] h = refl
ways_sent (e ∷ es) (s ∷ l) (r ∷ rs) h = each (carried_by Spec e r) (carried_as s.0 s.1 s.2 r) (ways es rs) (ways_of l rs) (way_sent e s r h.0) (ways_sent es l rs h.1)
ways_sent [] (s ∷ l) rs h = absurd h
ways_sent (e ∷ es) [] rs h = absurd h

writings_sent : (es : List Event) (l : List Sending) (rs : List Reply) → AllSend es l → writings es rs ≡ writings_of l rs
writings_sent [] [] rs h = refl
writings_sent (e ∷ es) (s ∷ l) [] h = refl
writings_sent (e ∷ es) (s ∷ l) (r ∷ rs) h = each (is_written Spec e r) (is_carried_out r.status r.sense && writes (decoded_command (cdb_kinds.commands Spec kind.Drive) s.1 s.2)) (writings es rs) (writings_of l rs) (writing_sent e s r h.0) (writings_sent es l rs h.1)
writings_sent [] (s ∷ l) rs h = absurd h
writings_sent (e ∷ es) [] rs h = absurd h

-- THE RUN, event by event
abbrev stock : UnitView
stock = elim (slice_get stocked 0) [ Some c ↦ c | None ↦ empty_drive 0 ]

abbrev loaded : (UnitView × Reply) × UnitView
loaded = moved_one stock (empty_drive 1) a (move slot_1 drive_1) []

abbrev told : UnitView × Reply
told = answered loaded.1 a test_unit_ready []

abbrev wrote : UnitView × Reply
wrote = answered told.0 a write (7 ∷ 8 ∷ [])

abbrev refused : UnitView × Reply
refused = answered loaded.0.0 a (move slot_1 slot_2) []

abbrev unloaded : (UnitView × Reply) × UnitView
unloaded = moved_one refused.0 wrote.0 a (move drive_1 slot_2) []

abbrev replies_are : List Reply
replies_are = loaded.0.1 ∷ told.1 ∷ wrote.1 ∷ refused.1 ∷ unloaded.0.1 ∷ []

first_run : (e f g : Event) → AllSend (e ∷ f ∷ g ∷ []) ((0, move slot_1 drive_1, []) ∷ (1, test_unit_ready, []) ∷ (1, write, 7 ∷ 8 ∷ []) ∷ [])
    → Runs stocked (e ∷ f ∷ g ∷ []) (loaded.0.1 ∷ told.1 ∷ wrote.1 ∷ []) (loaded.0.0 ∷ wrote.0 ∷ [])
unfolding commands.command_of profile_of keys_after
first_run e f g h = (
  loaded.0.0 ∷ loaded.1 ∷ [],
  with_drive stock (empty_drive 1) e (move slot_1 drive_1) [] h.0 refl refl refl refl refl,
  (
    loaded.0.0 ∷ told.0 ∷ [],
    to_drive loaded.0.0 loaded.1 f test_unit_ready [] h.1.0 refl refl,
    (loaded.0.0 ∷ wrote.0 ∷ [], to_drive loaded.0.0 told.0 g write (7 ∷ 8 ∷ []) h.1.1.0 refl refl, refl),
  ),
)

last_run : (e f : Event) → AllSend (e ∷ f ∷ []) ((0, move slot_1 slot_2, []) ∷ (0, move drive_1 slot_2, []) ∷ []) → Runs (loaded.0.0 ∷ wrote.0 ∷ []) (e ∷ f ∷ []) (refused.1 ∷ unloaded.0.1 ∷ []) (unloaded.0.0 ∷ unloaded.1 ∷ [])
unfolding commands.command_of profile_of keys_after
last_run e f h = (
  refused.0 ∷ wrote.0 ∷ [],
  to_changer loaded.0.0 wrote.0 e (move slot_1 slot_2) [] h.0 refl refl refl,
  (unloaded.0.0 ∷ unloaded.1 ∷ [], with_drive refused.0 wrote.0 f (move drive_1 slot_2) [] h.1.0 refl refl refl refl refl, refl),
)

pub moved_run : (es : List Event) → AllSend es sent → IsMovedRun es
unfolding commands.command_of profile_of keys_after
moved_run (e ∷ f ∷ g ∷ i ∷ j ∷ []) h = record {
  replies = replies_are;
  written = loaded.0.0 ∷ wrote.0 ∷ [];
  last = unloaded.0.0 ∷ unloaded.1 ∷ [];
  first = first_run e f g (h.0, (h.1.0, (h.1.1.0, tt)));
  rest = last_run i j (h.1.1.1.0, (h.1.1.1.1.0, tt));
  target = refl;
  statuses = refl;
  ways = ways_sent (e ∷ f ∷ g ∷ i ∷ j ∷ []) sent replies_are h;
  writings = writings_sent (e ∷ f ∷ g ∷ i ∷ j ∷ []) sent replies_are h;
  at_first = refl;
  at_write = refl;
  at_last = refl;
  cartridges = refl;
}
moved_run [] h = absurd h
moved_run (e ∷ []) h = absurd h.1
moved_run (e ∷ f ∷ []) h = absurd h.1.1
moved_run (e ∷ f ∷ g ∷ []) h = absurd h.1.1.1
moved_run (e ∷ f ∷ g ∷ i ∷ []) h = absurd h.1.1.1.1
moved_run (e ∷ f ∷ g ∷ i ∷ j ∷ k ∷ es) h = absurd h.1.1.1.1.1

-- A target that disagrees
abbrev false_stock : UnitView
false_stock = elim (slice_get disagreeing 0) [ Some c ↦ c | None ↦ empty_drive 0 ]

abbrev failed : (UnitView × Reply) × UnitView
failed = moved_one false_stock (empty_drive 1) a (move drive_1 slot_2) []

pub failed_run : (es : List Event) → AllSend es sent_out → IsFailedRun es
unfolding commands.command_of profile_of keys_after
failed_run (e ∷ []) h = record {
  no_target = refl;
  reply = failed.0.1;
  last = failed.0.0 ∷ failed.1 ∷ [];
  run = (failed.0.0 ∷ failed.1 ∷ [], with_drive false_stock (empty_drive 1) e (move drive_1 slot_2) [] h.0 refl refl refl refl refl, refl);
  fails = refl;
}
failed_run [] h = absurd h
failed_run (e ∷ f ∷ es) h = absurd h.1

-- the two tags differ in their sixth byte
abbrev sixth : VolumeTag → ℕ
sixth tag = get_or tag.0 5 0

other_tag : second_tag ≡ first_tag → ⊥
other_tag h = let bytes : 0x32 ≡ 0x31 = ap sixth h in absurd (omega (arith, bytes))

pub not_kept : NotKept
not_kept = record {
  gone = λ h. h 0x400;
  elsewhere = λ h. h 0x400;
  made = λ h. h 0x401;
  another = λ h. other_tag (ap (λ (v : Volume). v.tag) (h 0x400));
  written = λ h. let objects = h.objects in cc;
  twice = λ h. let left = h.left in cc;
  lost = λ h. h.there;
  exchanged = λ h.
      let volume : volume first_tag ≡ h.volume = let full = h.full in cc in
      other_tag (h.there.cartridge.tag ∙ sym (ap (λ (v : Volume). v.tag) volume));
}

pub other_cartridges : OtherCartridges
other_cartridges = record {
  lost = λ h. let length = length_permutation _ _ h in absurd cc;
  doubled = λ h. let length = length_permutation _ _ h in absurd cc;
  exchanged = λ h.
      let P : Cartridge → Type 0 = λ x. x.tag ≡ first_tag in
      let all = All-permutation P (cartridge first_tag ∷ []) (cartridge second_tag ∷ []) h (All-cons P (cartridge first_tag) [] refl (All-nil P)) in
      other_tag (All-head P (cartridge second_tag) [] all);
}
