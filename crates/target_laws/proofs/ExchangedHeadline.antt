-- The rows of an exchange with a drive, by computing, and what isn't such an exchange, by one field of what it says.
use Rattle.std.proofs.Common.{◌≡◌, ℕ, true, false, List, [], ◌∷◌, Option, Some, None, Result, Ok, Err, inl, inr, refl, sym, ap, ◌∙◌, subst, arith}
use Rattle.std.specs.Prelude.{slice_get, slice_index_or}
use Rattle.scsi_cdb.specs.Commands as commands
use Rattle.scsi_cdb.specs.declared.host_request.HostRequest.TheVariants.{ExchangeMedium}
use Rattle.scsi_cdb.specs.declared.kind.Kind.TheVariants.{Changer as of_changer}
use Rattle.scsi_cdb.specs.declared.profile.Profile.TheVariants.{Spec, Hosts}
use Rattle.scsi_cdb.specs.declared.request.Request.TheVariants.{Host}
use Rattle.scsi_cdb.specs.Kinds.{commands as command_set}
use Rattle.scsi_sense.specs.declared.condition.Condition.{Condition}
use Rattle.scsi_sense.specs.declared.condition.Condition.TheVariants.{MediumRemovalPrevented}
use Rattle.scsi_sense.specs.declared.status.Status.TheVariants.{Good, CheckCondition}
use Rattle.pr_core.specs.State.{keys_after, power_on}
use Rattle.pr_core.specs.declared.verdict.Verdict.TheVariants.{Allowed}
use Rattle.tape_medium.specs.declared.volume.Volume.{Volume}
use Rattle.tape_medium.specs.declared.volume.VolumeTag.{VolumeTag}
use Rattle.device_server.specs.HostChangerRows.{library}
use Rattle.device_server.specs.View.{DeviceView, Drive, Changer, commands_of, drives_of, held_in, profile_of, exchange_journeyed}
use Rattle.judgement.specs.Commands.{decoded_command}
use Rattle.judgement.specs.Readings.{verdict_of}
use Rattle.judgement.specs.Replies.{check}
use Rattle.judgement.specs.declared.command.Command.{Command}
use Rattle.judgement.specs.declared.command.Command.TheVariants as command
use Rattle.judgement.specs.declared.reply.Reply.{Reply}
use Rattle.unit_laws.specs.Check.{ComesToTheCheck}
use Rattle.unit_laws.specs.ExchangeRows.{changer_of, drive_of, drive_with, full_with, stocked}
use Rattle.unit_laws.specs.MoveRows.{first_tag, second_tag}
use Rattle.unit_laws.specs.Rows.{a, b, volume}
use Rattle.logical_unit.specs.Move.{MovesOne, is_left, moved_one, errand_at, exchanged_by}
use Rattle.logical_unit.specs.Route.{named, records_of}
use Rattle.logical_unit.specs.UnitView.{UnitView}
use Rattle.logical_unit.specs.declared.route.Errand.TheVariants.{Exchange}
use Rattle.target_core.proofs.Places.{same_some}
use Rattle.target_core.specs.Faults.{fault_of}
use Rattle.target_core.specs.Run.{AtDrive, CommandsNaming}
use Rattle.target_laws.specs.CarriedRows.{sense, checked}
use Rattle.target_laws.specs.ExchangeRows.{outward, asked, after, changer_with, drive_after, at_first, exchanged, CrossesSo, VolumesCross, VolumesDoNotCross, VolumesNotExchanged, drive_prevented, prevented, changer_checking, IsStoppedSo, ExchangeStops}
use Rattle.target_laws.specs.Headline.{AreThere, IsWithDrives, behind, IsServed}
use Rattle.target_laws.specs.Rows.{good_with}
use Rattle.target_laws.specs.Volumes.{way_of, Exchanged}
use Rattle.target_laws.proofs.CarriedHeadline.{by_drives, asc_of, other_tag}
use Rattle.target_laws.proofs.CommandInARun.{is_served}
use Rattle.target_laws.proofs.MoveWays.{errand_goes}
use Rattle.target_laws.proofs.VolumeExchanges.{exchange_carries}

-- THE EXCHANGE
abbrev Three : Type 0
Three = (UnitView × Reply) × UnitView

-- before the changer notes the sources
abbrev unnoted : DeviceView
unnoted = library (Some first_tag) None None (Some (volume second_tag)) (Some 0x401) None None None

crossed : ◌≡◌ {A = Three} ((changer_with after, good_with 1), drive_after first_tag) (moved_one (changer_of stocked) (drive_of (full_with second_tag)) a asked [])
unfolding commands.command_of profile_of keys_after
crossed = refl

names : named (commands_of stocked) (drives_of stocked) asked ≡ 1 ∷ []
unfolding commands.command_of profile_of
names = refl

asks : errand_at (changer_of stocked) asked ≡ Some (Exchange outward)
unfolding commands.command_of profile_of
asks = refl

two_records : records_of (errand_at (changer_of stocked) asked) ≡ 2
two_records = ap records_of asks

served : IsServed power_on at_first exchanged 0 a asked [] (good_with 1)
served =
    let at : AtDrive at_first 1 (MovesOne (changer_of stocked) (drive_of (full_with second_tag)) a asked []) (exchanged, good_with 1) =
    record { changer = changer_with after; other = drive_after first_tag; step = inr (refl, omega arith, λ carried. let two = two_records in omega (arith, two), crossed); units = refl } in
    is_served power_on at_first exchanged 0 (changer_of stocked) a asked [] (good_with 1) refl refl
    (subst (λ (l : List ℕ). CommandsNaming at_first (changer_of stocked) l a asked [] (exchanged, good_with 1)) (sym names) at)

crosses : CrossesSo exchanged after
crosses = errand_goes at_first exchanged stocked after (Exchange outward) 1 (drive_of (full_with second_tag)) (drive_after first_tag) refl refl refl refl

decodes : way_of (decoded_command (command_set Hosts of_changer) asked []) ≡ Some (Exchanged 0x400 0x100 0x402)
unfolding commands.command_of
decodes = refl

decodes_nowhere : way_of (decoded_command (command_set Spec of_changer) asked []) ≡ None
unfolding commands.command_of
decodes_nowhere = refl

target : fault_of at_first ≡ None
unfolding profile_of
target = refl

last_target : fault_of exchanged ≡ None
unfolding profile_of
last_target = refl

pub volumes_cross : VolumesCross
volumes_cross = record {
  target = target;
  way = decodes;
  default_profile = decodes_nowhere;
  crosses = crosses;
  served = served;
  drive = record { changer = refl; good = refl; way = Exchange outward; asked = asks; end = inr (inl refl); goes = crosses };
  last_target = last_target;
  volumes =
      exchange_carries (changer_of stocked) (drive_of (full_with second_tag) ∷ []) 0 (drive_of (full_with second_tag)) refl (changer_with after) (drive_after first_tag) outward false true false unnoted refl refl refl refl refl;
  places_before = refl;
  places_after = refl;
  cartridges_before = refl;
  cartridges_after = refl;
}

-- WHAT CROSSES SO: the drive takes the first volume, and the changer is left with the second one in 0402h
abbrev by_steps : UnitView → Result (DeviceView × UnitView) Condition
by_steps was = exchanged_by stocked was outward false true false

module _ (us : List UnitView) (device : DeviceView) (g : CrossesSo us device) where
  alone : g.drive ≡ 1
  alone = let names : ◌≡◌ {A = List ℕ} (1 ∷ []) (g.drive ∷ []) = g.alone in cc

  was : g.was ≡ drive_of (full_with second_tag)
  was = same_some g.was (drive_of (full_with second_tag)) (sym g.there ∙ ap (λ i. slice_get at_first i) alone)

  left : ◌≡◌ {A = DeviceView × UnitView} (unnoted, drive_after first_tag) (g.unnoted, g.is)
  left = let both : ◌≡◌ {A = Result (DeviceView × UnitView) Condition} (Ok (unnoted, drive_after first_tag)) (Ok (g.unnoted, g.is)) = sym (ap by_steps was) ∙ g.steps in cc

  into : (d : UnitView) → slice_get us 1 ≡ Some d → d ≡ drive_after first_tag
  into d there =
      let is : g.is ≡ d = same_some g.is d (sym g.stays ∙ ap (λ i. slice_get us i) alone ∙ there) in
      sym is ∙ sym (ap (λ (x : DeviceView × UnitView). x.1) left)

  leaves : device ≡ after
  leaves = g.marks ∙ ap (λ (x : DeviceView × UnitView). exchange_journeyed x.0 0x400 0x100 0x402) (sym left)

-- the tag in a drive's bay, and what a changer's elements hold
abbrev bay : UnitView → Option VolumeTag
bay u = held_in u.device 0

abbrev at_element : (address : ℕ) → DeviceView → Option VolumeTag
at_element address device = held_in device address

drive_keeps : ¬ CrossesSo (changer_with after ∷ drive_after second_tag ∷ []) after
drive_keeps g = other_tag (same_some second_tag first_tag (ap bay (into (changer_with after ∷ drive_after second_tag ∷ []) after g (drive_after second_tag) refl)))

drive_empty : ¬ CrossesSo (changer_with after ∷ drive_of (drive_with None false) ∷ []) after
drive_empty g =
    let d = drive_of (drive_with None false) in
    let no : ◌≡◌ {A = Option VolumeTag} None (Some first_tag) = ap bay (into (changer_with after ∷ d ∷ []) after g d refl) in
    absurd cc

-- the source that is noted of what a changer's last element holds
abbrev last_source : DeviceView → Option ℕ
last_source (Drive d) = None
last_source (Changer c) = elim c.hosts [ None ↦ None | Some h ↦ slice_index_or h.sources.storage 2 None ]

pub volumes_do_not_cross : VolumesDoNotCross
volumes_do_not_cross = record {
  drive_keeps = drive_keeps;
  drive_empty = drive_empty;
  stays_too = λ g. let no : ◌≡◌ {A = Option VolumeTag} (Some first_tag) None = ap (at_element 0x400) (leaves exchanged _ g) in absurd cc;
  lost = λ g. let no : ◌≡◌ {A = Option VolumeTag} None (Some second_tag) = ap (at_element 0x402) (leaves exchanged _ g) in absurd cc;
  other_element = λ g. let no : ◌≡◌ {A = Option VolumeTag} (Some second_tag) None = ap (at_element 0x401) (leaves exchanged _ g) in absurd cc;
  other_mark = λ g. other_tag (same_some second_tag first_tag (ap (at_element 0x100) (leaves exchanged _ g)));
  not_noted = λ g. let no : ◌≡◌ {A = Option ℕ} None (Some 0x401) = ap last_source (leaves exchanged _ g) in absurd cc;
  other_source = λ g. let steps = g.steps in absurd cc;
}

pub volumes_not_exchanged : VolumesNotExchanged
volumes_not_exchanged = record {
  lost = λ h. h.there;
  doubled = λ h. let left : ◌≡◌ {A = Option Volume} (Some (volume first_tag)) None = h.left (λ e. absurd (omega (arith, e))) in absurd cc;
  same_one = λ h.
      let other : volume second_tag ≡ h.other = let full = h.first_full in cc in
      other_tag (ap (λ (v : Volume). v.tag) other ∙ sym h.there.cartridge.tag);
  kept = λ h. let left : ◌≡◌ {A = Option Volume} (Some (volume first_tag)) None = h.left (λ e. absurd (omega (arith, e))) in absurd cc;
  elsewhere = λ h. h.there;
}

-- AN EXCHANGE THAT IS STOPPED
abbrev the_command : Command
the_command = command.Device (Host (ExchangeMedium 0 0x400 0x100 0x402 false false))

comes : ComesToTheCheck (changer_of stocked) b asked [] the_command
unfolding commands.command_of profile_of
comes = record { decodes = refl; ready = refl }

allowed : verdict_of power_on b the_command ≡ Allowed
allowed = refl

left_open : is_left (behind (changer_of stocked) b the_command []).2.sense ≡ true
unfolding profile_of
left_open = refl

with_drives : IsWithDrives prevented 0 (changer_of stocked) asked
with_drives = record { changer = refl; some = λ e. let no = sym names ∙ e in cc; there = subst (AreThere prevented) (sym names) (refl, tt) }

stops : ◌≡◌ {A = Three} ((changer_checking (sense 5 0x53 0x02), checked (sense 5 0x53 0x02)), drive_prevented) (moved_one (changer_of stocked) drive_prevented b asked [])
unfolding commands.command_of profile_of keys_after
stops = refl

served_stopped : IsStoppedSo (sense 5 0x53 0x02)
served_stopped =
    let us = changer_checking (sense 5 0x53 0x02) ∷ drive_prevented ∷ [] in
    let at : AtDrive prevented 1 (MovesOne (changer_of stocked) drive_prevented b asked []) (us, checked (sense 5 0x53 0x02)) =
    record { changer = changer_checking (sense 5 0x53 0x02); other = drive_prevented; step = inr (refl, omega arith, λ carried. let two = two_records in omega (arith, two), stops); units = refl } in
    is_served power_on prevented us 0 (changer_of stocked) b asked [] (checked (sense 5 0x53 0x02)) refl refl
    (subst (λ (l : List ℕ). CommandsNaming prevented (changer_of stocked) l b asked [] (us, checked (sense 5 0x53 0x02))) (sym names) at)

other_sense : ¬ IsStoppedSo (sense 4 0x44 0x00)
other_sense h =
    let v = changer_checking (sense 4 0x44 0x00) in
    elim (by_drives prevented (v ∷ drive_prevented ∷ []) (changer_of stocked) v b asked the_command (checked (sense 4 0x44 0x00)) (Exchange outward) refl refl (λ e. cc) comes allowed left_open with_drives asks h) [
      | inl carried ↦ let no : CheckCondition ≡ Good = ap (λ (x : UnitView × Reply). x.1.status) carried.ends in absurd cc
      | inr stopped ↦
          let it = stopped.reported in
          let alone : it.drive ≡ 1 = let names : ◌≡◌ {A = List ℕ} (1 ∷ []) (it.drive ∷ []) = it.alone in cc in
          let was : it.was ≡ drive_prevented = same_some it.was drive_prevented (sym it.there ∙ ap (λ i. slice_get prevented i) alone) in
          let reported : ◌≡◌ {A = Result (DeviceView × UnitView) Condition} (Err MediumRemovalPrevented) (Err stopped.condition) = sym (ap by_steps was) ∙ it.steps in
          let same : stopped.condition ≡ MediumRemovalPrevented = cc in
          let no : 0x44 ≡ 0x53 = ap (λ (x : UnitView × Reply). asc_of x.1) stopped.ends ∙ ap (λ (condition : Condition). asc_of (check condition)) same in
          absurd (omega (arith, no))
    ]

pub exchange_stops : ExchangeStops
exchange_stops = record { served = served_stopped; other_sense = other_sense }
