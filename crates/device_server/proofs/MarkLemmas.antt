-- The marks of a device, through each command and wherever a volume goes in or out.
use Rattle.std.proofs.Common.{◌≡◌, ℕ, ◌+◌, ◌-◌, ◌<◌, ◌≤◌, ◌==◌, Bool, true, false, List, [], ◌∷◌, length, length-set, Option, Some, None, Result, Ok, Err, refl, sym, ap, ◌∙◌, subst, arith}
use Rattle.std.specs.Prelude.{cond}
use Rattle.std.proofs.lemmas.Bool.Decides.{nat_tests}
use Rattle.std.specs.Option.{option_map}
use Rattle.scsi_cdb.specs.declared.host_request.HostRequest.{HostRequest}
use Rattle.scsi_cdb.specs.declared.host_request.HostRequest.TheVariants as host
use Rattle.scsi_cdb.specs.declared.kind.Kind.TheVariants.{Drive as drive_kind}
use Rattle.scsi_cdb.specs.declared.profile.Profile.TheVariants.{Spec, Hosts}
use Rattle.scsi_cdb.specs.declared.request.Request.{Request}
use Rattle.scsi_cdb.specs.declared.request.Request.TheVariants as request
use Rattle.scsi_sense.specs.declared.condition.Condition.{Condition}
use Rattle.scsi_sense.specs.declared.condition.Condition.TheVariants.{InitializingCommandRequired}
use Rattle.tape_medium.specs.declared.volume.Volume.{Volume}
use Rattle.tape_medium.specs.Elements.{Elements, Element, is_among, first_data_transfer, first_import_export, first_storage, element_at, tag_of, holding}
use Rattle.tape_medium.specs.TapeView.{TapeView}
use Rattle.tape_medium.specs.Limits.{most_block}
use Rattle.mode_pages.specs.Select as mode
use Rattle.mode_pages.specs.declared.request.HeaderForm.TheVariants.{Six, Ten}
use Rattle.mode_pages.specs.declared.values.ModeValues.{ModeValues}
use Rattle.log_pages.specs.LogSelect as log
use Rattle.log_pages.specs.declared.change.LogChange.{LogChange}
use Rattle.device_server.specs.declared.host_drive.HostDrive.{HostDrive}
use Rattle.device_server.specs.declared.outcome.Outcome.{Outcome}
use Rattle.device_server.specs.Outcomes.{refused}
use Rattle.device_server.specs.Drive.{DriveView, on_tape, in_volume, in_bay, loads, drive_step, rewound}
use Rattle.device_server.specs.Hosts.{log_select}
use Rattle.device_server.specs.HostChanger.{ChangerView}
use Rattle.device_server.specs.HostDrive.{mode_of, host_selects, host_loads, not_ready, host_on_tape, host_in_volume, host_in_bay, host_log_selects, host_command_step, host_drive_step}
use Rattle.device_server.specs.View.{DeviceView, Drive, Changer, field_fault, drive_stepped, stepped}
use Rattle.device_server.specs.Ends.{IsSameDevice}
use Rattle.device_server.specs.Marks.{marks, KeepsMarks, GivesVolume, GetsVolume, SetsMark, CommandsKeepMarks, ResetsKeepMarks, JourneysKeepMarks, ExchangesKeepMarks, DrivesGive, DrivesGet, ChangersGive, ChangersGet, MarksOne, EachIsMarked}
use Rattle.device_server.proofs.InAndOut.{drive_taken, drive_put, changer_taken, changer_put, marked_one, marks_at}
use Rattle.device_server.proofs.SameDevice.{same_device, stepped_drives, performed_same, reset_same, journey_same, exchange_same}
use Rattle.device_server.proofs.PlaceLemmas.{holding_drives}

-- COMMANDS

ready_tag : (d : DriveView) (v : Volume) (loaded : Bool) (step : TapeView × Outcome) (other : Outcome) → d.bay ≡ Some v
    → tag_of (cond loaded (in_volume d v step) (d, other)).0.bay ≡ tag_of d.bay
ready_tag d v true step other h = sym (ap tag_of h)
ready_tag d v false step other h = refl

in_bay_tag : (d : DriveView) (o : Option Volume) (r : Request) (bytes : List ℕ) → d.bay ≡ o → tag_of (in_bay d o r bytes).0.bay ≡ tag_of d.bay
in_bay_tag d None r bytes h = refl
in_bay_tag d (Some v) r bytes h = ready_tag d v d.loaded (on_tape Spec d.block_length v.protected v.tape r bytes) (refused InitializingCommandRequired) h

loads_tag : (d : DriveView) (o : Option Volume) (load : Bool) → d.bay ≡ o → tag_of (loads d o load).0.bay ≡ tag_of d.bay
loads_tag d None load h = refl
loads_tag d (Some v) load h = sym (ap tag_of h)

drive_tag : (d : DriveView) (r : Request) (bytes : List ℕ) → tag_of (drive_step d r bytes).0.bay ≡ tag_of d.bay
drive_tag d request.ReadBlockLimits bytes = refl
drive_tag d (request.ModeSelect sp l) bytes = refl
drive_tag d (request.ModeSense dbd pc page subpage l) bytes = refl
drive_tag d (request.LoadUnload hold eot load) bytes = loads_tag d d.bay load refl
drive_tag d r bytes = in_bay_tag d d.bay r bytes refl

-- of the hosts' profile
either_tag : (d : DriveView) (b : Bool) (x y : DriveView × Outcome) → tag_of x.0.bay ≡ tag_of d.bay → tag_of y.0.bay ≡ tag_of d.bay → tag_of (cond b x y).0.bay ≡ tag_of d.bay
either_tag d true x y p q = p
either_tag d false x y p q = q

host_bay_tag : (d : DriveView) (h : HostDrive) (o : Option Volume) (r : Request) (bytes : List ℕ) → d.bay ≡ o → tag_of (host_in_bay d h o r bytes).0.bay ≡ tag_of d.bay
host_bay_tag d h None r bytes is = refl
host_bay_tag d h (Some v) r bytes is =
    either_tag d d.loaded (host_in_volume d h v r (host_on_tape d.block_length v.protected v.tape r bytes)) (d, refused (not_ready h.held)) (sym (ap tag_of is)) refl

host_loads_tag : (d : DriveView) (h : HostDrive) (o : Option Volume) (hold load : Bool) → d.bay ≡ o → tag_of (host_loads d h o hold load).0.bay ≡ tag_of d.bay
host_loads_tag d h None hold load is = refl
host_loads_tag d h (Some v) hold load is = sym (ap tag_of is)

selects_tag : (d : DriveView) (h : HostDrive) (values : Result ModeValues Condition) → tag_of (host_selects d h values).0.bay ≡ tag_of d.bay
selects_tag d h (Ok values) = refl
selects_tag d h (Err condition) = refl

log_selects_tag : (d : DriveView) (h : HostDrive) (change : Result LogChange Condition) → tag_of (host_log_selects d h change).0.bay ≡ tag_of d.bay
log_selects_tag d h (Ok change) = refl
log_selects_tag d h (Err condition) = refl

host_command_tag : (d : DriveView) (h : HostDrive) (command : HostRequest) (bytes : List ℕ) → tag_of (host_command_step d h command bytes).0.bay ≡ tag_of d.bay
host_command_tag d h (host.LogSelect pcr sp pc page subpage l) bytes = log_selects_tag d h (log.selected drive_kind (log_select pcr sp page subpage l) (length bytes))
host_command_tag d h (host.ModeSelect10 sp l) bytes = selects_tag d h (mode.selected (mode_of d h) (most_block Hosts) Ten sp l bytes)
host_command_tag d h command bytes = refl

host_drive_tag : (d : DriveView) (h : HostDrive) (r : Request) (bytes : List ℕ) → tag_of (host_drive_step d h r bytes).0.bay ≡ tag_of d.bay
host_drive_tag d h request.ReadBlockLimits bytes = refl
host_drive_tag d h (request.ModeSelect sp l) bytes = selects_tag d h (mode.selected (mode_of d h) (most_block Hosts) Six sp l bytes)
host_drive_tag d h (request.ModeSense dbd pc page subpage l) bytes = refl
host_drive_tag d h (request.LoadUnload hold eot load) bytes = host_loads_tag d h d.bay hold load refl
host_drive_tag d h (request.Host command) bytes = host_command_tag d h command bytes
host_drive_tag d h r bytes = host_bay_tag d h d.bay r bytes refl

stepped_tag : (o : Option HostDrive) (d : DriveView) (r : Request) (bytes : List ℕ) → tag_of (drive_stepped o d r bytes).0.bay ≡ tag_of d.bay
stepped_tag None d r bytes = drive_tag d r bytes
stepped_tag (Some h) d r bytes = host_drive_tag d h r bytes

stepped_marks : (d : DeviceView) (r : Request) (bytes : List ℕ) → marks (stepped d r bytes).0 ≡ marks d
stepped_marks (Drive d) r bytes = ap (λ tag. tag ∷ []) (stepped_tag d.hosts d r bytes)
stepped_marks (Changer c) r bytes = stepped_drives c r bytes

pub commands_keep_marks : CommandsKeepMarks
commands_keep_marks d r bytes = record {
  device = performed_same d r bytes;
  marks = elim (field_fault d r bytes) as (λ (o : Option Condition). let step : DeviceView × Outcome = elim o [ Some condition ↦ (d, refused condition) | None ↦ stepped d r bytes ] in marks step.0 ≡ marks d) [
    | Some condition ↦ refl
    | None ↦ stepped_marks d r bytes
  ];
}

reset_tag : (o : Option Volume) → tag_of (elim o [ None ↦ None | Some v ↦ Some (rewound v) ]) ≡ tag_of o
reset_tag None = refl
reset_tag (Some v) = refl

pub resets_keep_marks : ResetsKeepMarks
resets_keep_marks (Drive d) = record { device = reset_same (Drive d); marks = ap (λ tag. tag ∷ []) (reset_tag d.bay) }
resets_keep_marks (Changer c) = record { device = reset_same (Changer c); marks = refl }

pub journeys_keep_marks : JourneysKeepMarks
journeys_keep_marks (Drive d) source destination = record { device = journey_same (Drive d) source destination; marks = refl }
journeys_keep_marks (Changer c) source destination = record { device = journey_same (Changer c) source destination; marks = refl }

pub exchanges_keep_marks : ExchangesKeepMarks
exchanges_keep_marks (Drive d) source first second = record { device = exchange_same (Drive d) source first second; marks = refl }
exchanges_keep_marks (Changer c) source first second = record { device = exchange_same (Changer c) source first second; marks = refl }

-- VOLUMES IN AND OUT

same_drive : (d : DriveView) (after : DriveView) → after.hosts ≡ d.hosts → IsSameDevice (Drive d) (Drive after)
same_drive d after same = same_device (Drive d) (Drive after) refl (ap (option_map (λ (h : HostDrive). h.identity)) same) refl

pub drives_give : DrivesGive
drives_give (Drive d) after place v k h =
    let out = drive_taken d place v after h in
    subst (λ (x : DeviceView). GivesVolume (Drive d) x v) out.left
    (record { device = same_drive d _ refl; full = ap (λ held. tag_of held ∷ []) out.full ∙ ap (λ (x : Volume). Some x.tag ∷ []) out.volume; empty = refl })
drives_give (Changer c) after place v k h = absurd cc

pub drives_get : DrivesGet
drives_get (Drive d) after place v k h =
    let into = drive_put d place v after h in
    subst (λ (x : DeviceView). GetsVolume (Drive d) x v) into.left
    (record { device = same_drive d _ refl; empty = ap (λ held. tag_of held ∷ []) into.empty; full = refl })
drives_get (Changer c) after place v k h = absurd cc

held_marks : (c : ChangerView) (at : Element) (held : Option Volume) → KeepsMarks (Changer c) (Changer (record c { elements = holding c.elements at held }))
held_marks c at held = record {
  device = same_device (Changer c) (Changer (record c { elements = holding c.elements at held })) refl refl (ap length (holding_drives c.elements at held));
  marks = holding_drives c.elements at held;
}

pub changers_give : ChangersGive
changers_give (Drive d) after place v k h = absurd cc
changers_give (Changer c) after place v k h =
    subst (λ (x : DeviceView). KeepsMarks (Changer c) x) (changer_taken c place v after h).left (held_marks c (element_at c.elements place) None)

pub changers_get : ChangersGet
changers_get (Drive d) after place v k h = absurd cc
changers_get (Changer c) after place v k h =
    subst (λ (x : DeviceView). KeepsMarks (Changer c) x) (changer_put c place v after h).left (held_marks c (element_at c.elements place) (Some v))

-- MARKING

among_first : (first count address : ℕ) → is_among first count address ≡ true → first ≤ address
among_first first count address h = grind (arith, nat_tests)

among_last : (first count address : ℕ) → is_among first count address ≡ true → address < first + count
among_last first count address h = grind (arith, nat_tests)

pub marks_one : MarksOne
marks_one (Drive d) after place tag h = absurd cc
marks_one (Changer c) after place tag h =
    let at = marked_one c place tag after h in
    let e : Elements = c.elements in
    subst (λ (x : DeviceView). SetsMark (Changer c) x place tag) at.rest (record {
      device = same_device (Changer c) _ refl refl (length-set e.data_transfer (place - first_data_transfer) tag);
      first = among_first first_data_transfer (length e.data_transfer) place at.is_drive;
      last = among_last first_data_transfer (length e.data_transfer) place at.is_drive;
      marks = refl;
    })

within_among : (first count address : ℕ) → first ≤ address → address < first + count → is_among first count address ≡ true
within_among first count address low high = grind (arith, nat_tests)

not_transport : (address : ℕ) → first_data_transfer ≤ address → (address == 0) ≡ false
not_transport address low = grind (arith, nat_tests)

pub each_is_marked : EachIsMarked
each_is_marked (Drive d) place tag low high = absurd (omega arith)
each_is_marked (Changer c) place tag low high =
    let e : Elements = c.elements in
    marks_at c (place == 0) (is_among first_data_transfer (length e.data_transfer) place)
    (is_among first_import_export (length e.import_export) place) (is_among first_storage (length e.storage) place)
    (place - first_data_transfer) (place - first_import_export) (place - first_storage) tag
    (not_transport place low) (within_among first_data_transfer (length e.data_transfer) place low high)
