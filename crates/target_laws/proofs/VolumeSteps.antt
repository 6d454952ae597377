-- Each event of a run keeps the volumes of the target, each at its place, but for one that it carries.
use Rattle.std.proofs.Common.{◌≡◌, ◌≢◌, ℕ, zero, suc, Bool, true, false, ◌&&◌, List, [], ◌∷◌, length, Option, Some, None, Result, Ok, Err, refl, sym, ap, ◌∙◌, subst, inl, inr}
use Rattle.std.specs.Prelude.{◌⊎◌, cond, slice_get, slice_set}
use Rattle.scsi_cdb.specs.declared.kind.Kind.{Kind}
use Rattle.scsi_cdb.specs.declared.profile.CommandSet.{CommandSet}
use Rattle.scsi_cdb.specs.declared.profile.Profile.{Profile}
use Rattle.scsi_cdb.specs.declared.kind.Kind.TheVariants as kind
use Rattle.scsi_cdb.specs.Kinds.{commands}
use Rattle.scsi_cdb.specs.declared.host_request.HostRequest.{HostRequest}
use Rattle.scsi_cdb.specs.declared.host_request.HostRequest.TheVariants as host
use Rattle.scsi_cdb.specs.declared.request.Request.{Request}
use Rattle.scsi_cdb.specs.declared.request.Request.TheVariants as request
use Rattle.scsi_nexus.specs.declared.nexus.Nexus.{Nexus}
use Rattle.scsi_sense.specs.declared.condition.Condition.{Condition}
use Rattle.scsi_sense.specs.declared.sense.Sense.{Sense}
use Rattle.scsi_sense.specs.declared.status.Status.{Status}
use Rattle.scsi_sense.specs.declared.status.Status.TheVariants.{Good, CheckCondition, Busy, ReservationConflict}
use Rattle.std.specs.Global.{Vec}
use Rattle.arrayvec.specs.ArrayVec.{ArrayVec}
use Rattle.unit_attention.specs.Queues.{has_slot}
use Rattle.tape_medium.specs.declared.volume.Volume.{Volume}
use Rattle.device_server.specs.View.{DeviceView, Drive, Changer, kind_of, profile_of, commands_of, drives_of, performed, reset_of}
use Rattle.scsi_sense.specs.CarriedOut.{is_carried_out}
use Rattle.device_server.specs.Volumes.{volume_at, SameVolume, SameAt, Carries, Exchanges, is_write}
use Rattle.device_server.proofs.MoveLemmas.{changers_stay, moves_carry_one, exchanges_carry_two}
use Rattle.device_server.proofs.TapeLemmas.{drives_keep_their_volume, drives_keep_their_tape, resets_keep_volumes}
use Rattle.judgement.specs.declared.reply.Reply.{Reply}
use Rattle.judgement.specs.Commands.{decoded_command}
use Rattle.judgement.specs.declared.command.Command.{Command}
use Rattle.judgement.specs.declared.command.Command.TheVariants.{Device}
use Rattle.judgement.specs.History.{is_good}
use Rattle.logical_unit.specs.Move.{TwoDrives, errand_at, carried_one, carried_two, MovesOne, MovesTwo}
use Rattle.logical_unit.specs.Route.{drive_at, named}
use Rattle.logical_unit.specs.Step.{Executes, LosesAs, IsLost, IsReset}
use Rattle.logical_unit.specs.UnitView.{UnitView}
use Rattle.logical_unit.proofs.History.{executes_stays}
use Rattle.logical_unit.proofs.Moved.{Became, carried_to, one_became, two_became}
use Rattle.logical_unit.specs.declared.route.Errand.{Errand}
use Rattle.logical_unit.specs.declared.route.Errand.TheVariants.{Move, Exchange}
use Rattle.logical_unit.proofs.NamedDrives.{Asks, has_errand, errand_asked}
use Rattle.target_core.specs.declared.event.Event.{Event}
use Rattle.target_core.specs.declared.event.Event.TheVariants as event
use Rattle.target_core.specs.Faults.{fault_of, profile_in}
use Rattle.target_core.specs.Run.{LosesAt, ResetsAt, Steps}
use Rattle.target_laws.specs.Volumes.{volume_in, Way, Carried, Exchanged, way_of, carried_by, lun_of, is_to, writes, is_written, StaysSame, IsCarriedBy, KeepsVolumes, VolumesStay}
use Rattle.target_laws.proofs.CommandWays.{Goes, goes}
use Rattle.target_laws.proofs.Devices.{Does, executed}
use Rattle.target_core.proofs.Ordered.{IsOrdered, ordered, has_drives, drive_of}
use Rattle.target_laws.proofs.Parts.{parts, set-same}
use Rattle.target_laws.proofs.StaysTarget.{run_order}
use Rattle.target_laws.proofs.VolumeCarries.{way, one_carries, two_carry}
use Rattle.target_laws.proofs.VolumePlaces.{by_element, at_own, own_place, stays, equal_stays, changer_same, drive_keeps}

-- A DRIVE'S OWN COMMAND leaves its volume, and what is on that unless it is a WRITE, WRITE FILEMARKS or ERASE that is carried out
step_keeps : (device : DeviceView) (q : Request) (bytes : List ℕ) (status : Status) (sense : Option Sense) (done write : Bool) → kind_of device ≡ kind.Drive → status ≡ (performed device q bytes).1.status
    → sense ≡ (performed device q bytes).1.sense → is_carried_out status sense ≡ done → is_write q ≡ write
    → SameAt (StaysSame true (done && write)) (volume_at device 0) (volume_at (performed device q bytes).0 0)
step_keeps device q bytes status sense true true k is so d w = drives_keep_their_volume device q bytes k 0
step_keeps device q bytes status sense true false k is so d w = drives_keep_their_tape device q bytes k (inl w) 0
step_keeps device q bytes status sense false write k is so d w =
    let not_done : is_carried_out (performed device q bytes).1.status (performed device q bytes).1.sense ≡ false =
    sym (ap (λ (s : Status). is_carried_out s sense) is ∙ ap (λ (o : Option Sense). is_carried_out (performed device q bytes).1.status o) so) ∙ d in
    drives_keep_their_tape device q bytes k (inr not_done) 0

pub drive_does : (before after : DeviceView) (c : Result Command Condition) (bytes : List ℕ) (status : Status) (sense : Option Sense) → kind_of before ≡ kind.Drive → Does before c bytes after status sense
    → SameAt (StaysSame true (is_carried_out status sense && writes c)) (volume_at before 0) (volume_at after 0)
drive_does before after (Ok (Device q)) bytes status sense k (inl unreached) =
    equal_stays true (is_carried_out status sense && is_write q) (volume_at before 0) (volume_at after 0) (ap (λ (x : DeviceView). volume_at x 0) unreached.device)
drive_does before after (Ok (Device q)) bytes status sense k (inr step) =
    subst (λ (x : DeviceView). SameAt (StaysSame true (is_carried_out status sense && is_write q)) (volume_at before 0) (volume_at x 0)) (sym step.device)
    (step_keeps before q bytes status sense (is_carried_out status sense) (is_write q) k step.ends step.reports refl refl)
drive_does before after (Err condition) bytes status sense k does =
    equal_stays true (is_carried_out status sense && false) (volume_at before 0) (volume_at after 0) (ap (λ (x : DeviceView). volume_at x 0) does.device)
drive_does before after (Ok c) bytes status sense k does =
    equal_stays true (is_carried_out status sense && writes (Ok c)) (volume_at before 0) (volume_at after 0) (ap (λ (x : DeviceView). volume_at x 0) does.device)

-- THE CHANGER'S OWN leaves it as it is, but a move that is GOOD
abbrev pub CarriesBy : DeviceView → DeviceView → Option Way → Type 0
CarriesBy before after None = after ≡ before
CarriesBy before after (Some (Carried source destination)) = Carries before after source destination
CarriesBy before after (Some (Exchanged source first second)) = Exchanges before after source first second

host_does : (before after : DeviceView) (command : HostRequest) (bytes : List ℕ) (sense : Option Sense) → kind_of before ≡ kind.Changer → Does before (Ok (Device (request.Host command))) bytes after Good sense
    → CarriesBy before after (way_of (Ok (Device (request.Host command))))
host_does before after (host.ExchangeMedium transport source first second inv1 inv2) bytes sense k (inl unreached) = absurd (unreached.refused refl)
host_does before after (host.ExchangeMedium transport source first second inv1 inv2) bytes sense k (inr step) =
    subst (λ (x : DeviceView). Exchanges before x source first second) (sym step.device) (exchanges_carry_two before transport source first second inv1 inv2 bytes (sym step.ends))
host_does before after command bytes sense k (inl unreached) = unreached.device
host_does before after command bytes sense k (inr step) = step.device ∙ changers_stay before (request.Host command) bytes k (inl refl)

good_does : (before after : DeviceView) (c : Result Command Condition) (bytes : List ℕ) (sense : Option Sense) → kind_of before ≡ kind.Changer → Does before c bytes after Good sense → CarriesBy before after (way_of c)
good_does before after (Ok (Device (request.MoveMedium transport source destination invert))) bytes sense k (inl unreached) = absurd (unreached.refused refl)
good_does before after (Ok (Device (request.MoveMedium transport source destination invert))) bytes sense k (inr step) =
    subst (λ (x : DeviceView). Carries before x source destination) (sym step.device) (moves_carry_one before transport source destination invert bytes (sym step.ends))
good_does before after (Ok (Device (request.Host command))) bytes sense k does = host_does before after command bytes sense k does
good_does before after (Ok (Device q)) bytes sense k (inl unreached) = unreached.device
good_does before after (Ok (Device q)) bytes sense k (inr step) = step.device ∙ changers_stay before q bytes k (inl refl)
good_does before after (Err condition) bytes sense k does = does.device
good_does before after (Ok c) bytes sense k does = does.device

other_does : (before after : DeviceView) (c : Result Command Condition) (bytes : List ℕ) (status : Status) (sense : Option Sense) → status ≢ Good → kind_of before ≡ kind.Changer → Does before c bytes after status sense → after ≡ before
other_does before after (Ok (Device q)) bytes status sense bad k (inl unreached) = unreached.device
other_does before after (Ok (Device q)) bytes status sense bad k (inr step) = step.device ∙ changers_stay before q bytes k (inr (λ e. bad (step.ends ∙ e)))
other_does before after (Err condition) bytes status sense bad k does = does.device
other_does before after (Ok c) bytes status sense bad k does = does.device

pub changer_does : (before after : DeviceView) (c : Result Command Condition) (bytes : List ℕ) (status : Status) (sense : Option Sense) → kind_of before ≡ kind.Changer → Does before c bytes after status sense
    → CarriesBy before after (cond (is_good status) (way_of c) None)
changer_does before after c bytes Good sense k does = good_does before after c bytes sense k does
changer_does before after c bytes CheckCondition sense k does = other_does before after c bytes CheckCondition sense (λ e. cc) k does
changer_does before after c bytes Busy sense k does = other_does before after c bytes Busy sense (λ e. cc) k does
changer_does before after c bytes ReservationConflict sense k does = other_does before after c bytes ReservationConflict sense (λ e. cc) k does

-- where the changer alone carried a volume, both ends are its own elements
module _ (c v : UnitView) (ds : List UnitView) (o : IsOrdered c ds) where
  own : (device : DeviceView) (address : ℕ) (x : Option ℕ) → drives_of device ≡ drives_of c.device → drive_at (drives_of device) address ≡ x → drive_at (length ds) address ≡ x
  own device address x size at = sym (ap (λ n. drive_at n address) (size ∙ has_drives c ds o)) ∙ at

  own_carries : (source destination : ℕ) → kind_of v.device ≡ kind.Changer → drives_of v.device ≡ drives_of c.device → Carries c.device v.device source destination
      → IsCarriedBy (c ∷ ds) (v ∷ ds) (Carried source destination)
  own_carries source destination k size h =
      let from : drive_at (length ds) source ≡ None = own c.device source None refl (own_place c.device source h.volume o.kind h.full) in
      let to : drive_at (length ds) destination ≡ None = own v.device destination None size (own_place v.device destination h.volume k h.there) in
      record {
        volume = h.volume;
        full = at_own c ds source from ∙ h.full;
        empty = at_own c ds destination to ∙ h.empty;
        left = at_own v ds source from ∙ h.left;
        there = subst (λ (x : Option Volume). SameAt SameVolume (Some h.volume) x) (sym (at_own v ds destination to ∙ h.there)) (stays true false (Some h.volume));
        others = λ address not_source not_destination. by_element (λ before after. after ≡ before) c v ds ds address refl (λ j at. refl) (λ none. h.others address not_source not_destination);
      }

  own_exchanges : (source first second : ℕ) → kind_of v.device ≡ kind.Changer → drives_of v.device ≡ drives_of c.device → Exchanges c.device v.device source first second
      → IsCarriedBy (c ∷ ds) (v ∷ ds) (Exchanged source first second)
  own_exchanges source first second k size h =
      let from : drive_at (length ds) source ≡ None = own c.device source None refl (own_place c.device source h.one o.kind h.full) in
      let between : drive_at (length ds) first ≡ None = own c.device first None refl (own_place c.device first h.other o.kind h.first_full) in
      let to : drive_at (length ds) second ≡ None = own v.device second None size (own_place v.device second h.other k h.there) in
      record {
        one = h.one;
        other = h.other;
        apart = h.apart;
        full = at_own c ds source from ∙ h.full;
        first_full = at_own c ds first between ∙ h.first_full;
        empty = λ apart. at_own c ds second to ∙ h.empty apart;
        left = λ apart. at_own v ds source from ∙ h.left apart;
        first_there = subst (λ (x : Option Volume). SameAt SameVolume (Some h.one) x) (sym (at_own v ds first between ∙ h.first_there)) (stays true false (Some h.one));
        there = subst (λ (x : Option Volume). SameAt SameVolume (Some h.other) x) (sym (at_own v ds second to ∙ h.there)) (stays true false (Some h.other));
        others = λ address not_source not_first not_second. by_element (λ before after. after ≡ before) c v ds ds address refl (λ j at. refl) (λ none. h.others address not_source not_first not_second);
      }

  by_carries : (e : Event) (r : Reply) (w : Option Way) → kind_of v.device ≡ kind.Changer → drives_of v.device ≡ drives_of c.device → CarriesBy c.device v.device w → KeepsVolumes (c ∷ ds) (v ∷ ds) e r w
  by_carries e r None k size is = λ address. equal_stays (is_to e address) (is_written (profile_of c.device) e r) (volume_in (c ∷ ds) address) (volume_in (v ∷ ds) address) (changer_same c v ds address is)
  by_carries e r (Some (Carried source destination)) k size h = own_carries source destination k size h
  by_carries e r (Some (Exchanged source first second)) k size h = own_exchanges source first second k size h

-- what is asked of volumes is the way that they go
way_asked : (drives : ℕ) (q : Request) (e : Errand) → Asks drives q e → way_of (Ok (Device q)) ≡ Some (way e)
way_asked drives q (Move r) a = ap (λ (x : Request). way_of (Ok (Device x))) a.is
way_asked drives q (Exchange x) a = ap (λ (y : Request). way_of (Ok (Device y))) a.is

-- A COMMAND
module _ (c : UnitView) (ds : List UnitView) (o : IsOrdered c ds) (n : Nexus) (cdb : ArrayVec ℕ) (bytes : Vec ℕ) (r : Reply) where
  abbrev pub asked : ℕ → Event
  asked at = event.Command n at cdb bytes

  -- at the changer alone
  alone_keeps : (v : UnitView) → Executes c n cdb.items bytes.items (v, r) → KeepsVolumes (c ∷ ds) (v ∷ ds) (asked 0) r (carried_by (profile_of c.device) (asked 0) r)
  alone_keeps v step =
      let same = (executes_stays c v n cdb.items bytes.items r step).device in
      let does = executed c v n cdb.items bytes.items r step in
      by_carries c v ds o (asked 0) r (carried_by (profile_of c.device) (asked 0) r) (same.kind ∙ o.kind) same.drives
      (subst (λ (x : Kind). CarriesBy c.device v.device (cond (is_good r.status) (way_of (decoded_command (commands (profile_of c.device) x) cdb.items bytes.items)) None)) o.kind
      (changer_does c.device v.device (decoded_command (commands_of c.device) cdb.items bytes.items) bytes.items r.status r.sense o.kind does))

  -- at a drive
  own_keeps : (k : ℕ) (d x : UnitView) → slice_get ds k ≡ Some d → Executes d n cdb.items bytes.items (x, r) → KeepsVolumes (c ∷ ds) (c ∷ slice_set ds k x) (asked (suc k)) r None
  own_keeps k d x there step =
      let at = drive_of c ds k d o there in
      let drive = at.kind in
      let own : commands_of d.device ≡ commands (profile_of c.device) kind.Drive =
      ap (λ (p : Profile). commands p (kind_of d.device)) at.profile ∙ ap (λ (y : Kind). commands (profile_of c.device) y) drive in
      drive_keeps c ds k d x (asked (suc k)) r there refl
      (subst (λ (y : CommandSet). SameAt (StaysSame true (is_carried_out r.status r.sense && writes (decoded_command y cdb.items bytes.items))) (volume_at d.device 0) (volume_at x.device 0)) own
      (drive_does d.device x.device (decoded_command (commands_of d.device) cdb.items bytes.items) bytes.items r.status r.sense drive (executed d x n cdb.items bytes.items r step)))

  -- at the changer with drives: alone, with nothing carried, or with a volume carried
  carried_way : (l : ℕ) (more : List ℕ) (names : named (commands_of c.device) (drives_of c.device) cdb.items ≡ l ∷ more) → r.status ≡ Good → carried_by (profile_of c.device) (asked 0) r ≡ Some (way (has_errand c.device cdb.items l more names).errand)
  carried_way l more names good =
      let q = has_errand c.device cdb.items l more names in
      ap (λ (s : Status). cond (is_good s) (way_of (decoded_command (commands (profile_of c.device) kind.Changer) cdb.items bytes.items)) None) good
      ∙ ap (λ (x : Kind). way_of (decoded_command (commands (profile_of c.device) x) cdb.items bytes.items)) (sym q.changer)
      ∙ ap way_of (errand_asked c.device cdb.items bytes.items l more q)
      ∙ way_asked (drives_of c.device) q.decodes.request q.errand q.asks

  halted_keeps : (v : UnitView) → v.device ≡ c.device → r.status ≡ CheckCondition → KeepsVolumes (c ∷ ds) (v ∷ ds) (asked 0) r (carried_by (profile_of c.device) (asked 0) r)
  halted_keeps v same bad =
      subst (KeepsVolumes (c ∷ ds) (v ∷ ds) (asked 0) r) (sym (ap (λ (s : Status). cond (is_good s) (way_of (decoded_command (commands (profile_of c.device) kind.Changer) cdb.items bytes.items)) None) bad))
      (λ address. equal_stays (is_to (asked 0) address) (is_written (profile_of c.device) (asked 0) r) (volume_in (c ∷ ds) address) (volume_in (v ∷ ds) address) (changer_same c v ds address same))

  move_keeps : {A : Type 0} (v : UnitView) (drives after : A) (carried : Result (DeviceView × A) Condition) (set : A → List UnitView) (l : ℕ) (more : List ℕ) (names : named (commands_of c.device) (drives_of c.device) cdb.items ≡ l ∷ more) → set drives ≡ ds
      → (carried ≡ Ok (v.device, after) → IsCarriedBy (c ∷ ds) (v ∷ set after) (way (has_errand c.device cdb.items l more names).errand))
      → Became c v n cdb.items bytes.items r drives after carried → KeepsVolumes (c ∷ ds) (v ∷ set after) (asked 0) r (carried_by (profile_of c.device) (asked 0) r)
  move_keeps v drives after carried set l more names same carries (inl alone) =
      subst (λ (xs : List UnitView). KeepsVolumes (c ∷ ds) (v ∷ xs) (asked 0) r (carried_by (profile_of c.device) (asked 0) r)) (sym (ap set alone.1 ∙ same)) (alone_keeps v alone.0)
  move_keeps v drives after carried set l more names same carries (inr (inl halted)) =
      subst (λ (xs : List UnitView). KeepsVolumes (c ∷ ds) (v ∷ xs) (asked 0) r (carried_by (profile_of c.device) (asked 0) r)) (sym (ap set halted.drives_stay ∙ same))
      (halted_keeps v (ap (λ (x : UnitView × Reply). x.0.device) halted.ends.unit) (ap (λ (x : UnitView × Reply). x.1.status) halted.ends.unit))
  move_keeps {A} v drives after carried set l more names same carries (inr (inr moved)) =
      let device : v.device ≡ moved.device = ap (λ (x : UnitView × Reply). x.0.device) moved.ends.unit in
      subst (KeepsVolumes (c ∷ ds) (v ∷ set after) (asked 0) r) (sym (carried_way l more names (ap (λ (x : UnitView × Reply). x.1.status) moved.ends.unit)))
      (carries (moved.is ∙ ap (λ (x : DeviceView). carried_to x after) (sym device)))

  one_keeps : (k : ℕ) (d v e : UnitView) → slice_get ds k ≡ Some d → named (commands_of c.device) (drives_of c.device) cdb.items ≡ suc k ∷ [] → MovesOne c d n cdb.items bytes.items ((v, r), e)
      → KeepsVolumes (c ∷ ds) (v ∷ slice_set ds k e) (asked 0) r (carried_by (profile_of c.device) (asked 0) r)
  one_keeps k d v e there names step =
      move_keeps v d e (carried_one c.device d (errand_at c cdb.items)) (λ (x : UnitView). slice_set ds k x) (suc k) [] names (set-same ds k d there) (λ h. one_carries c v ds o cdb.items k d e names there h)
      (one_became c d v e n cdb.items bytes.items r (suc k) [] names step)

  two_keep : (i j : ℕ) (more : List ℕ) (ds' es : TwoDrives) (v : UnitView) → slice_get ds i ≡ Some ds'.low → slice_get ds j ≡ Some ds'.high → named (commands_of c.device) (drives_of c.device) cdb.items ≡ suc i ∷ suc j ∷ more
      → MovesTwo c ds' n cdb.items bytes.items ((v, r), es) → KeepsVolumes (c ∷ ds) (v ∷ slice_set (slice_set ds i es.low) j es.high) (asked 0) r (carried_by (profile_of c.device) (asked 0) r)
  two_keep i j more ds' es v low high names step =
      move_keeps v ds' es (carried_two c.device ds' (errand_at c cdb.items)) (λ (x : TwoDrives). slice_set (slice_set ds i x.low) j x.high) (suc i) (suc j ∷ more) names
      (ap (λ (xs : List UnitView). slice_set xs j ds'.high) (set-same ds i ds'.low low) ∙ set-same ds j ds'.high high) (λ h. two_carry c v ds o cdb.items i j more ds' es names low high h)
      (two_became c v ds' es n cdb.items bytes.items r (suc i) (suc j ∷ more) names step)

  absent_keeps : (at : ℕ) → slice_get (c ∷ ds) at ≡ None → KeepsVolumes (c ∷ ds) (c ∷ ds) (asked at) r (carried_by (profile_of c.device) (asked at) r)
  absent_keeps zero gone = absurd cc
  absent_keeps (suc k) gone = λ address. stays (is_to (asked (suc k)) address) (is_written (profile_of c.device) (asked (suc k)) r) (volume_in (c ∷ ds) address)

  commands_keep : (ms : List UnitView) (at : ℕ) → Goes c ds n cdb.items bytes.items ms r at → KeepsVolumes (c ∷ ds) ms (asked at) r (carried_by (profile_of c.device) (asked at) r)
  commands_keep ms at (inl it) = subst (λ (xs : List UnitView). KeepsVolumes (c ∷ ds) xs (asked at) r (carried_by (profile_of c.device) (asked at) r)) (sym it.units) (absent_keeps at it.gone)
  commands_keep ms at (inr (inl it)) =
      subst (λ i. KeepsVolumes (c ∷ ds) ms (asked i) r (carried_by (profile_of c.device) (asked i) r)) (sym it.lun)
      (subst (λ (xs : List UnitView). KeepsVolumes (c ∷ ds) xs (asked (suc it.place)) r None) (sym it.step.units) (own_keeps it.place it.drive it.step.unit it.there it.step.step))
  commands_keep ms at (inr (inr (inl it))) =
      subst (λ i. KeepsVolumes (c ∷ ds) ms (asked i) r (carried_by (profile_of c.device) (asked i) r)) (sym it.lun)
      (subst (λ (xs : List UnitView). KeepsVolumes (c ∷ ds) xs (asked 0) r (carried_by (profile_of c.device) (asked 0) r)) (sym it.step.units) (alone_keeps it.step.unit it.step.step))
  commands_keep ms at (inr (inr (inr (inl it)))) =
      subst (λ i. KeepsVolumes (c ∷ ds) ms (asked i) r (carried_by (profile_of c.device) (asked i) r)) (sym it.lun)
      (subst (λ (xs : List UnitView). KeepsVolumes (c ∷ ds) xs (asked 0) r (carried_by (profile_of c.device) (asked 0) r)) (sym it.step.units) (one_keeps it.place it.drive it.step.changer it.step.other it.there it.names it.step.step))
  commands_keep ms at (inr (inr (inr (inr it)))) =
      subst (λ i. KeepsVolumes (c ∷ ds) ms (asked i) r (carried_by (profile_of c.device) (asked i) r)) (sym it.lun)
      (subst (λ (xs : List UnitView). KeepsVolumes (c ∷ ds) xs (asked 0) r (carried_by (profile_of c.device) (asked 0) r)) (sym it.step.units)
      (two_keep it.low it.high it.more it.drives it.step.drives it.step.changer it.low_there it.high_there it.names it.step.step))

-- A LOSS AND A RESET
lost_as : (u v : UnitView) (n : Nexus) (number : Option ℕ) (known : Bool) → LosesAs known u n (v, number) → v.device ≡ u.device
lost_as u v n number false is = ap (λ (x : UnitView × Option ℕ). x.0.device) is
lost_as u v n number true is = ap (λ (x : UnitView × Option ℕ). x.0.device) is.1

pub lost_device : (u v : UnitView) (n : Nexus) (r : Reply) → IsLost u n (v, r) → v.device ≡ u.device
lost_device u v n r (inl busy) = ap (λ (x : UnitView × Reply). x.0.device) busy.0
lost_device u v n r (inr lost) = lost_as u v n lost.0 (has_slot u.state.slots n) lost.1

pub reset_device : (u v : UnitView) (r : Reply) → IsReset u (v, r) → (v.device ≡ u.device) ⊎ (v.device ≡ reset_of u.device)
reset_device u v r (inl busy) = inl (ap (λ (x : UnitView × Reply). x.0.device) busy)
reset_device u v r (inr was) = inr (ap (λ (x : UnitView × ℕ). x.0.device) was.1.1)

changer_reset : (device after : DeviceView) → kind_of device ≡ kind.Changer → (after ≡ device) ⊎ (after ≡ reset_of device) → after ≡ device
changer_reset device after k (inl same) = same
changer_reset (Changer e) after k (inr was) = was
changer_reset (Drive d) after k (inr was) = absurd cc

drive_reset : (device after : DeviceView) → (after ≡ device) ⊎ (after ≡ reset_of device) → SameAt (StaysSame true false) (volume_at device 0) (volume_at after 0)
drive_reset device after (inl same) = equal_stays true false (volume_at device 0) (volume_at after 0) (ap (λ (x : DeviceView). volume_at x 0) same)
drive_reset device after (inr was) = subst (λ (x : DeviceView). SameAt (StaysSame true false) (volume_at device 0) (volume_at x 0)) (sym was) (resets_keep_volumes device 0)

-- an event that isn't a command
module _ (c : UnitView) (ds : List UnitView) (o : IsOrdered c ds) (e : Event) (r : Reply) (unwritten : is_written (profile_of c.device) e r ≡ false) where
  same_keeps : (ms : List UnitView) → ms ≡ c ∷ ds → KeepsVolumes (c ∷ ds) ms e r None
  same_keeps ms is = λ address. equal_stays (is_to e address) (is_written (profile_of c.device) e r) (volume_in (c ∷ ds) address) (volume_in ms address) (ap (λ (xs : List UnitView). volume_in xs address) is)

  unit_keeps : (at : ℕ) (w x : UnitView) → lun_of e ≡ at → slice_get (c ∷ ds) at ≡ Some w → (kind_of w.device ≡ kind.Changer → x.device ≡ w.device) → SameAt (StaysSame true false) (volume_at w.device 0) (volume_at x.device 0)
      → KeepsVolumes (c ∷ ds) (slice_set (c ∷ ds) at x) e r None
  unit_keeps zero w x lun there changer drive =
      let is : c ≡ w = cc in
      let same : x.device ≡ c.device = changer (ap (λ (u : UnitView). kind_of u.device) (sym is) ∙ o.kind) ∙ ap (λ (u : UnitView). u.device) (sym is) in
      λ address. equal_stays (is_to e address) (is_written (profile_of c.device) e r) (volume_in (c ∷ ds) address) (volume_in (x ∷ ds) address) (changer_same c x ds address same)
  unit_keeps (suc k) w x lun there changer drive =
      drive_keeps c ds k w x e r there lun (subst (λ b. SameAt (StaysSame true b) (volume_at w.device 0) (volume_at x.device 0)) (sym unwritten) drive)

loses_keep : (c : UnitView) (ds ms : List UnitView) (at : ℕ) (n : Nexus) (r : Reply) (w : Option UnitView) → IsOrdered c ds → slice_get (c ∷ ds) at ≡ w → LosesAt (c ∷ ds) at w n (ms, r) → KeepsVolumes (c ∷ ds) ms (event.Loss n at) r None
loses_keep c ds ms at n r None o there step = same_keeps c ds o (event.Loss n at) r refl ms (ap (λ (x : List UnitView × Reply). x.0) step)
loses_keep c ds ms at n r (Some w) o there step =
    let same = lost_device w step.unit n r step.step in
    subst (λ (xs : List UnitView). KeepsVolumes (c ∷ ds) xs (event.Loss n at) r None) (sym step.units)
    (unit_keeps c ds o (event.Loss n at) r refl at w step.unit refl there (λ k. same) (drive_reset w.device step.unit.device (inl same)))

resets_keep : (c : UnitView) (ds ms : List UnitView) (at : ℕ) (r : Reply) (w : Option UnitView) → IsOrdered c ds → slice_get (c ∷ ds) at ≡ w → ResetsAt (c ∷ ds) at w (ms, r) → KeepsVolumes (c ∷ ds) ms (event.Reset at) r None
resets_keep c ds ms at r None o there step = same_keeps c ds o (event.Reset at) r refl ms (ap (λ (x : List UnitView × Reply). x.0) step)
resets_keep c ds ms at r (Some w) o there step =
    let was = reset_device w step.unit r step.step in
    subst (λ (xs : List UnitView). KeepsVolumes (c ∷ ds) xs (event.Reset at) r None) (sym step.units)
    (unit_keeps c ds o (event.Reset at) r refl at w step.unit refl there (λ k. changer_reset w.device step.unit.device k was) (drive_reset w.device step.unit.device was))

-- THE STEPS
pub step_keeps_volumes : (us ms : List UnitView) (e : Event) (r : Reply) → fault_of us ≡ None → Steps us e (ms, r) → KeepsVolumes us ms e r (carried_by (profile_in us) e r)
step_keeps_volumes [] ms e r h step = absurd cc
step_keeps_volumes (c ∷ ds) ms (event.Command n at cdb bytes) r h step =
    let o = ordered c ds h in
    commands_keep c ds o n cdb bytes r ms at (goes c ds n cdb.items bytes.items ms r o at (slice_get (c ∷ ds) at) refl step)
step_keeps_volumes (c ∷ ds) ms (event.Loss n at) r h step = loses_keep c ds ms at n r (slice_get (c ∷ ds) at) (ordered c ds h) refl step
step_keeps_volumes (c ∷ ds) ms (event.Reset at) r h step = resets_keep c ds ms at r (slice_get (c ∷ ds) at) (ordered c ds h) refl step

pub volumes_stay : VolumesStay
volumes_stay us vs before after rs qs e r h same run =
    let p = parts us vs before (e ∷ after) rs (r ∷ qs) same run in
    let next = p.rest.0 in
    (p.mid, next, p.first, p.rest.1, p.rest.2, step_keeps_volumes p.mid next e r (run_order us p.mid before rs h p.first) p.rest.1)
