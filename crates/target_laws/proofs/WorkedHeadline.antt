-- The rows of the headline, by computing, and what isn't so, by one field of what it says.
use Rattle.std.proofs.Common.{◌≡◌, ◌≢◌, ℕ, Bool, true, List, [], ◌∷◌, get_or, Option, Some, None, Ok, is_some, inl, inr, refl, sym, ap, ◌∙◌, subst, arith}
use Rattle.std.specs.Prelude.{map, slice_get}
use Rattle.std.specs.Option.{option_map}
use Rattle.permit_tables.specs.declared.cell.Cell.{Cell}
use Rattle.permit_tables.specs.declared.key_rule.KeyRule.{KeyRule}
use Rattle.permit_tables.specs.declared.role.Role.{Role}
use Rattle.permit_tables.specs.declared.role.Role.TheVariants.{Holder, Other}
use Rattle.scsi_cdb.specs.Commands as commands
use Rattle.scsi_cdb.specs.declared.action.InServiceAction.TheVariants.{ReadReservation}
use Rattle.scsi_cdb.specs.declared.request.Request.TheVariants as request
use Rattle.scsi_nexus.specs.declared.nexus.Nexus.{Nexus}
use Rattle.scsi_sense.specs.declared.status.Status.{Status}
use Rattle.scsi_sense.specs.declared.status.Status.TheVariants.{Busy}
use Rattle.pr_core.specs.State.{State, keys_after, power_on}
use Rattle.pr_core.specs.declared.verdict.Verdict.TheVariants.{Allowed}
use Rattle.tape_medium.specs.Object.{Object, Block}
use Rattle.tape_medium.specs.declared.volume.VolumeTag.{VolumeTag}
use Rattle.unit_attention.specs.declared.kind.Kind.{Kind}
use Rattle.audit_log.specs.declared.record.Record.{Record}
use Rattle.device_server.specs.View.{DeviceView, Drive, Changer, commands_of, profile_of}
use Rattle.judgement.specs.Commands.{act_of_command, decoded_command}
use Rattle.judgement.specs.Readings.{verdict_of}
use Rattle.judgement.specs.UnitState.{has_room}
use Rattle.judgement.specs.UnitStateView.{UnitStateView}
use Rattle.judgement.specs.declared.command.Command.{Command}
use Rattle.judgement.specs.declared.command.Command.TheVariants as command
use Rattle.judgement.specs.declared.reply.Reply.{Reply}
use Rattle.unit_laws.specs.Check.{ComesToTheCheck}
use Rattle.logical_unit.specs.Step.{HasNumber, recorded, answered}
use Rattle.logical_unit.specs.UnitView.{Base, UnitView}
use Rattle.target_core.proofs.Places.{same_some}
use Rattle.target_core.specs.Run.{CommandsAt, Steps, Runs}
use Rattle.target_laws.specs.Headline.{IsBarred, behind, IsWithDrives, IsLetIn, IsDecidedBy, IsAnswered, IsServed}
use Rattle.target_laws.specs.HeadlineRows.{block, unit, entry_allowed, entry_denied, at_first, at_1, at_2, at_3, at_4, beside, conflict_with, shown_with, writes, registers, reads, Bytes, Spells, sent_by, FourAreAsked, AreDecided, NotRefused, NotDecided, NotServed}
use Rattle.target_laws.specs.Rows.{a, b, test_unit_ready, write, reserve_out, parameters, read_reservation, changer, drive, held, with_slots, good_with}
use Rattle.target_laws.proofs.CommandInARun.{decided, is_served}

-- what a command that is served says of the unit before and after it, if it isn't BUSY
pub is_answered_so : (h : State) (mid next : List UnitView) (lun : ℕ) (now left : UnitView) (n : Nexus) (cdb bytes : List ℕ) (r : Reply) → slice_get mid lun ≡ Some now → slice_get next lun ≡ Some left → r.status ≢ Busy → IsServed h mid next lun n cdb bytes r
    → IsAnswered h mid next lun now left n cdb bytes r
is_answered_so h mid next lun now left n cdb bytes r there stays free served =
    let was : served.now ≡ now = same_some served.now now (sym served.there ∙ there) in
    let is : served.left ≡ left = same_some served.left left (sym served.stays ∙ stays) in
    elim served.answer [
      | inl busy ↦ absurd (free (ap (λ (x : Reply). x.status) busy.reply))
      | inr it ↦ subst (λ (x : UnitView). IsAnswered h mid next lun x left n cdb bytes r) was (subst (λ (x : UnitView). IsAnswered h mid next lun served.now x n cdb bytes r) is it)
    ]

-- no drive is named at a drive
alone : (mid : List UnitView) (now : UnitView) (cdb : List ℕ) → ¬ IsWithDrives mid 1 now cdb
alone mid now cdb w = let no = w.changer in cc

-- THE FOUR COMMANDS
comes_a : (tag : VolumeTag) → ComesToTheCheck (at_first tag) a write block writes
unfolding commands.command_of profile_of
comes_a tag = record { decodes = refl; ready = refl }

comes_b : (tag : VolumeTag) → ComesToTheCheck (at_1 tag) b write block writes
unfolding commands.command_of profile_of
comes_b tag = record { decodes = refl; ready = refl }

comes_key : (tag : VolumeTag) → ComesToTheCheck (at_2 tag) b (reserve_out 0 0) (parameters 5 2) registers
unfolding commands.command_of profile_of
comes_key tag = record { decodes = refl; ready = refl }

comes_read : (tag : VolumeTag) → ComesToTheCheck (at_3 tag) b read_reservation [] reads
unfolding commands.command_of profile_of
comes_read tag = record { decodes = refl; ready = refl }

abbrev pub Pair : Type 0
Pair = UnitView × Reply

answers_1 : (tag : VolumeTag) → ◌≡◌ {A = Pair} (at_1 tag, good_with 1) (answered (at_first tag) a write block)
unfolding commands.command_of profile_of keys_after
answers_1 tag = refl

answers_2 : (tag : VolumeTag) → ◌≡◌ {A = Pair} (at_2 tag, conflict_with 2) (answered (at_1 tag) b write block)
unfolding commands.command_of profile_of keys_after
answers_2 tag = refl

answers_3 : (tag : VolumeTag) → ◌≡◌ {A = Pair} (at_3 tag, conflict_with 3) (answered (at_2 tag) b (reserve_out 0 0) (parameters 5 2))
unfolding commands.command_of profile_of keys_after
answers_3 tag = refl

answers_4 : (tag : VolumeTag) → ◌≡◌ {A = Pair} (at_4 tag, shown_with 1 1) (answered (at_3 tag) b read_reservation [])
unfolding commands.command_of profile_of keys_after
answers_4 tag = refl

-- a command that is answered so is made so, and served
module _ (u v : UnitView) (n : Nexus) (cdb bytes : List ℕ) (r : Reply) (is : ◌≡◌ {A = Pair} (v, r) (answered u n cdb bytes)) (room : has_room u.state n ≡ true) (number : HasNumber u) where
  makes : CommandsAt (beside u) 1 (Some u) n cdb bytes (beside v, r)
  makes = record { unit = v; step = inr (room, number, is); units = refl }

  serves : IsServed u.state.reservations (beside u) (beside v) 1 n cdb bytes r
  serves = is_served u.state.reservations (beside u) (beside v) 1 u n cdb bytes r refl refl makes

  decides : (command : Command) → ComesToTheCheck u n cdb bytes command → IsDecidedBy u.state.reservations (beside u) (beside v) 1 u v n cdb bytes command r
  decides command comes = decided u.state.reservations (beside u) (beside v) 1 u v n cdb bytes r refl is (λ w. absurd (alone (beside u) u cdb w)) command comes

  event_makes : (x : Bytes) → Spells x cdb bytes → Steps (beside u) (sent_by n x) (beside v, r)
  event_makes x spells = rw (spells.cdb_is, spells.bytes_are) makes

allowed_a : verdict_of held a writes ≡ Allowed
allowed_a = refl

barred_b : verdict_of held b writes ≢ Allowed
barred_b e = cc

barred_key : verdict_of held b registers ≢ Allowed
barred_key e = cc

allowed_read : verdict_of held b reads ≡ Allowed
allowed_read = refl

pub four_are_decided : (tag : VolumeTag) → AreDecided tag
four_are_decided tag =
    let one = decides (at_first tag) (at_1 tag) a write block (good_with 1) (answers_1 tag) refl (omega arith) writes (comes_a tag) in
    let two = decides (at_1 tag) (at_2 tag) b write block (conflict_with 2) (answers_2 tag) refl (omega arith) writes (comes_b tag) in
    let three = decides (at_2 tag) (at_3 tag) b (reserve_out 0 0) (parameters 5 2) (conflict_with 3) (answers_3 tag) refl (omega arith) registers (comes_key tag) in
    let four = decides (at_3 tag) (at_4 tag) b read_reservation [] (shown_with 1 1) (answers_4 tag) refl (omega arith) reads (comes_read tag) in
    record {
      allowed = serves (at_first tag) (at_1 tag) a write block (good_with 1) (answers_1 tag) refl (omega arith);
      allowed_by = one;
      let_in = one.let_in allowed_a;
      denied = serves (at_1 tag) (at_2 tag) b write block (conflict_with 2) (answers_2 tag) refl (omega arith);
      denied_by = two;
      refused = two.refused barred_b;
      broken = serves (at_2 tag) (at_3 tag) b (reserve_out 0 0) (parameters 5 2) (conflict_with 3) (answers_3 tag) refl (omega arith);
      broken_by = three;
      barred = three.refused barred_key;
      read = serves (at_3 tag) (at_4 tag) b read_reservation [] (shown_with 1 1) (answers_4 tag) refl (omega arith);
      read_by = four;
      shows = four.let_in allowed_read;
    }

-- THEIR RUN, at each of them
run_of_four : (tag : VolumeTag) (w x y z : Bytes) → Spells w write block → Spells x write block → Spells y (reserve_out 0 0) (parameters 5 2) → Spells z read_reservation []
    → Runs (beside (at_first tag)) (sent_by a w ∷ sent_by b x ∷ sent_by b y ∷ sent_by b z ∷ []) (good_with 1 ∷ conflict_with 2 ∷ conflict_with 3 ∷ shown_with 1 1 ∷ []) (beside (at_4 tag))
run_of_four tag w x y z p q s t = (
  beside (at_1 tag),
  event_makes (at_first tag) (at_1 tag) a write block (good_with 1) (answers_1 tag) refl (omega arith) w p,
  (
    beside (at_2 tag),
    event_makes (at_1 tag) (at_2 tag) b write block (conflict_with 2) (answers_2 tag) refl (omega arith) x q,
    (
      beside (at_3 tag),
      event_makes (at_2 tag) (at_3 tag) b (reserve_out 0 0) (parameters 5 2) (conflict_with 3) (answers_3 tag) refl (omega arith) y s,
      (beside (at_4 tag), event_makes (at_3 tag) (at_4 tag) b read_reservation [] (shown_with 1 1) (answers_4 tag) refl (omega arith) z t, refl),
    ),
  ),
)

pub four_are_asked : FourAreAsked
four_are_asked tag w x y z p q s t =
    let run = run_of_four tag w x y z p q s t in
    record {
      allowed = record { place = refl; there = refl; run = run };
      denied = record { place = refl; there = refl; run = run };
      broken = record { place = refl; there = refl; run = run };
      read = record { place = refl; there = refl; run = run };
    }

-- WHAT ISN'T SO, by what is read off what it says
abbrev status_of : Reply → Status
status_of r = r.status

abbrev objects_of : DeviceView → List Object
objects_of (Drive d) = elim d.bay [ Some v ↦ v.tape.objects | None ↦ [] ]
objects_of (Changer e) = []

abbrev keys_of : State → List (Nexus × ℕ)
keys_of v = v.keys

abbrev waiting_of : UnitStateView → List (List Kind)
waiting_of k = map (λ (s : Nexus × List Kind). s.1) k.slots

abbrev roles_of : List Record → List (Option Role)
roles_of es = map (λ (e : Record). option_map (λ (c : Cell). c.role) e.cell) es

abbrev rules_of : List Record → List (Option KeyRule)
rules_of es = map (λ (e : Record). e.rule) es

abbrev senders_of : List Record → List Bool
senders_of es = map (λ (e : Record). is_some e.nexus) es

abbrev records_at : ℕ → List UnitView → List Record
records_at lun us = elim (slice_get us lun) [ Some u ↦ u.records | None ↦ [] ]

abbrev byte_at : (i : ℕ) → List ℕ → ℕ
byte_at i xs = get_or xs i 0

pub not_refused : (tag : VolumeTag) → NotRefused tag
not_refused tag = record {
  status = λ h. let e = ap status_of h.reply in cc;
  payload = λ h. let e = ap (λ (r : Reply). r.payload) h.reply in cc;
  number = λ h. let e : 0 ≡ 2 = ap (λ (r : Reply). r.number) h.reply in absurd (omega (arith, e));
  device = λ h. let e = ap objects_of h.device in cc;
  registration = λ h. let e = ap keys_of h.reservations in cc;
  attention = λ h. let e = ap waiting_of h.contact in cc;
  prevention = λ h. let e = ap (λ (k : UnitStateView). k.preventers) h.contact in cc;
  base = λ h. let e : 1 ≡ 0 = ap (λ (x : Base). x.last) h.base in absurd (omega (arith, e));
  cell = λ h. let e = ap roles_of h.entry in cc;
  sender = λ h. let e = ap senders_of h.entry in cc;
  none = λ h. let e = ap rules_of h.entry in cc;
  second = λ h. let e = ap rules_of h.entry in cc;
  gone = λ h. let e = ap rules_of h.entry in cc;
  no_rule = λ h. let e = ap rules_of h.entry in cc;
  other_rule = λ h. let e = ap rules_of h.entry in cc;
}

-- what is let in at a drive is answered by the drive alone
module _ (h : State) (mid next : List UnitView) (now left : UnitView) (n : Nexus) (cdb bytes : List ℕ) (command : Command) (r : Reply) (it : IsLetIn h mid next 1 now left n cdb bytes command r) where
  by_itself : ◌≡◌ {A = Pair} (left, r) (recorded now n (act_of_command command) (behind now n command bytes))
  by_itself = elim it.goes_on [
    | inl own ↦ own.ends
    | inr by ↦ absurd (alone mid now cdb by.with_drives)
  ]

-- A's WRITE(6) writes its block
written : (tag : VolumeTag) → objects_of (recorded (at_first tag) a (act_of_command writes) (behind (at_first tag) a writes block)).0.device ≡ Block block ∷ []
unfolding profile_of
written tag = refl

unwritten : (tag : VolumeTag) → ¬ IsLetIn held (beside (at_first tag)) (beside (unit tag [] (entry_allowed ∷ []))) 1 (at_first tag) (unit tag [] (entry_allowed ∷ [])) a write block writes (good_with 1)
unwritten tag it =
    let e = ap (λ (x : Pair). objects_of x.0.device) (by_itself held (beside (at_first tag)) (beside (unit tag [] (entry_allowed ∷ []))) (at_first tag) (unit tag [] (entry_allowed ∷ [])) a write block writes (good_with 1) it)
    ∙ written tag in
    cc

pub not_decided : (tag : VolumeTag) → NotDecided tag
not_decided tag = record {
  allowed_refused = λ h. h.conflicts.0 refl allowed_a;
  allowed_unwritten = λ h. unwritten tag (h.let_in allowed_a);
  denied_let_in = λ h. let e = h.conflicts.1 barred_b in cc;
  denied_elsewhere = λ h. let e = ap roles_of (h.refused barred_b).entry in cc;
  other_key = λ h. let e : 2 ≡ 1 = ap (byte_at 15) (h.shows ReadReservation 255 refl refl) in absurd (omega (arith, e));
  other_history = λ h. let e : 1 ≡ 2 = ap (byte_at 3) (h.shows ReadReservation 255 refl refl) in absurd (omega (arith, e));
}

-- the first command of A is told of the power on, and doesn't come to the check
decodes_ready : (tag : VolumeTag) → decoded_command (commands_of (drive tag).device) test_unit_ready [] ≡ Ok (command.Device request.TestUnitReady)
unfolding commands.command_of profile_of
decodes_ready tag = refl

not_there : (tag : VolumeTag) → ¬ IsBarred power_on (drive tag) a test_unit_ready []
not_there tag it =
    let same = sym it.comes.decodes ∙ decodes_ready tag in
    let is : it.command ≡ command.Device request.TestUnitReady = cc in
    let ready : ComesToTheCheck (drive tag) a test_unit_ready [] (command.Device request.TestUnitReady) = subst (ComesToTheCheck (drive tag) a test_unit_ready []) is it.comes in
    let no = ready.ready in
    cc

pub not_served : (tag : VolumeTag) → NotServed tag
not_served tag = record {
  history = λ h.
      let was : h.now ≡ at_first tag = same_some h.now (at_first tag) (sym h.there) in
      let e = ap keys_of (sym h.history ∙ ap (λ (u : UnitView). u.state.reservations) was) in
      cc;
  others = λ h. elim (h.others 0 (λ e. cc)) [
    | inl same ↦ let e = ap (λ (u : UnitView). u.records) (same_some (record changer { records = entry_allowed ∷ [] }) changer same) in cc
    | inr moved ↦ let no = moved.changer in cc
  ];
  busy = λ h. elim h.answer [
    | inl it ↦ let e = ap (records_at 1) it.units in cc
    | inr it ↦ it.not_busy refl
  ];
  let_in = λ h.
      let left = unit tag (Block block ∷ Block block ∷ []) (entry_allowed ∷ entry_denied Other ∷ []) in
      let it = is_answered_so held (beside (at_1 tag)) (beside left) 1 (at_1 tag) left b write block (good_with 2) refl refl (λ e. cc) h in
      let e = (it.decided writes (comes_b tag)).conflicts.1 barred_b in
      cc;
  cell = λ h.
      let left = unit tag (Block block ∷ []) (entry_allowed ∷ entry_denied Holder ∷ []) in
      let it = is_answered_so held (beside (at_1 tag)) (beside left) 1 (at_1 tag) left b write block (conflict_with 2) refl refl (λ e. cc) h in
      let e = ap roles_of ((it.decided writes (comes_b tag)).refused barred_b).entry in
      cc;
  conflict = λ left h.
      let it = is_answered_so power_on (beside (drive tag)) (beside left) 1 (drive tag) left a test_unit_ready [] (conflict_with 1) refl refl (λ e. cc) h in
      not_there tag (it.only_there refl);
  full = λ left h.
      let it = is_answered_so power_on (beside (with_slots 128)) (beside left) 1 (with_slots 128) left a test_unit_ready [] (good_with 1) refl refl (λ e. cc) h in
      let e = it.room in
      cc;
}
