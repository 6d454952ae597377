-- A drive's volume through each of its commands.
use Rattle.std.proofs.Common.{◌≡◌, ℕ, ◌+◌, ◌*◌, pos, negsuc, ◌==◌, Bool, true, false, List, [], ◌∷◌, length, inl, inr, Option, Some, None, Result, Ok, Err, refl, sym, ap, subst}
use Rattle.std.specs.Prelude.{cond, ◌&&◌, ◌/◌, ℤ, IfOk}
use Rattle.scsi_cdb.specs.declared.host_request.HostRequest.{HostRequest}
use Rattle.scsi_cdb.specs.declared.host_request.HostRequest.TheVariants as host
use Rattle.scsi_cdb.specs.declared.kind.Kind.TheVariants.{Drive as drive_kind}
use Rattle.scsi_cdb.specs.declared.profile.Profile.{Profile}
use Rattle.scsi_cdb.specs.declared.profile.Profile.TheVariants.{Spec, Hosts}
use Rattle.scsi_cdb.specs.declared.request.Request.{Request}
use Rattle.scsi_cdb.specs.declared.request.Request.TheVariants as request
use Rattle.scsi_sense.specs.declared.condition.Condition.{Condition}
use Rattle.scsi_sense.specs.declared.condition.Condition.TheVariants.{InitializingCommandRequired, InvalidFieldInCdb, WriteProtected}
use Rattle.scsi_sense.specs.CarriedOut.{is_carried_out}
use Rattle.scsi_sense.specs.declared.status.Status.{Status}
use Rattle.scsi_sense.specs.declared.status.Status.TheVariants.{Good}
use Rattle.tape_medium.specs.declared.fault.TapeFault.{TapeFault}
use Rattle.tape_medium.specs.declared.fault.TapeFault.TheVariants.{BlockLength, Overflow}
use Rattle.tape_medium.specs.declared.space.SpaceCode.{SpaceCode}
use Rattle.tape_medium.specs.declared.space.SpaceCode.TheVariants.{Blocks, Marks, EndOfData}
use Rattle.tape_medium.specs.declared.volume.Volume.{Volume}
use Rattle.tape_medium.specs.Object.{Object, Block}
use Rattle.tape_medium.specs.TapeView.{TapeView}
use Rattle.tape_medium.specs.Tape.{moved_to, ahead, object_at, passed, erased, fits, written, writes, is_block_length, is_whole, blocks, writes_block, writes_blocks, marks, writes_marks}
use Rattle.tape_medium.specs.Space.{spaced}
use Rattle.tape_medium.specs.Limits.{most_block}
use Rattle.mode_pages.specs.Select as mode
use Rattle.mode_pages.specs.declared.request.HeaderForm.TheVariants.{Six, Ten}
use Rattle.mode_pages.specs.declared.values.ModeValues.{ModeValues}
use Rattle.log_pages.specs.LogSelect as log
use Rattle.log_pages.specs.declared.change.LogChange.{LogChange}
use Rattle.device_server.specs.declared.host_drive.HostDrive.{HostDrive}
use Rattle.device_server.specs.declared.outcome.Outcome.{Outcome}
use Rattle.device_server.specs.EarlyWarning.{early_warning, is_warned, warned}
use Rattle.device_server.specs.Outcomes.{done, ended, refused}
use Rattle.device_server.specs.Drive.{DriveView, reads, run, behind_run, reads_fixed, wrote, unless_protected, unless_nothing, is_fixed_transfer, space_code, on_tape, in_volume, in_bay, rewound, loads, drive_step}
use Rattle.device_server.specs.Hosts.{log_select}
use Rattle.device_server.specs.HostDrive.{mode_of, host_selects, host_loads, not_ready, host_on_tape, host_in_volume, host_in_bay, host_log_selects, host_command_step, host_drive_step}
use Rattle.device_server.specs.View.{DeviceView, Drive, Changer, field_fault, drive_stepped, stepped, performed}
use Rattle.device_server.specs.Volumes.{volume_at, SameCartridge, SameVolume, SameAt, Keeps, is_write, WritesNothing, DrivesKeepTheirVolume, DrivesKeepTheirTape, ResetsKeepVolumes}

-- THE TAPE

-- the same but for its position
record SameTape (before after : TapeView) : Type 0 where
  objects : after.objects ≡ before.objects
  capacity : after.capacity ≡ before.capacity

either_same : (t : TapeView) (b : Bool) (x y : TapeView × Outcome) → SameTape t x.0 → SameTape t y.0 → SameTape t (cond b x y).0
either_same t true x y p q = p
either_same t false x y p q = q

same : (t : TapeView) → SameTape t t
same t = record { objects = refl; capacity = refl }

passed_same : (o : Option Object) (t : TapeView) → SameTape t (passed o t)
passed_same None t = same t
passed_same (Some object) t = record { objects = refl; capacity = refl }

-- behind a run of blocks, or behind what ended it
behind_same : (t : TapeView) (whole : Bool) (p : ℕ) (o : Option Object) → SameTape t (cond whole (moved_to t p) (passed o (moved_to t p)))
behind_same t true p o = record { objects = refl; capacity = refl }
behind_same t false p None = record { objects = refl; capacity = refl }
behind_same t false p (Some object) = record { objects = refl; capacity = refl }

fixed_same : (m count : ℕ) (t : TapeView) → SameTape t (reads_fixed m count t).0
fixed_same m count t =
    let blocks = run m (ahead t) count in
    behind_same t (length blocks == count) (t.position + length blocks) (object_at (behind_run t blocks))

spaced_same : (code : SpaceCode) (t : TapeView) (count : ℤ) → SameTape t (spaced code t count).0
spaced_same EndOfData t count = record { objects = refl; capacity = refl }
spaced_same Blocks t (pos n) = record { objects = refl; capacity = refl }
spaced_same Blocks t (negsuc n) = record { objects = refl; capacity = refl }
spaced_same Marks t (pos n) = record { objects = refl; capacity = refl }
spaced_same Marks t (negsuc n) = record { objects = refl; capacity = refl }

-- of a command: the capacity stays, and what is on the tape too unless it is one that writes and is carried out
record IsKept (r : Request) (t : TapeView) (x : TapeView × Outcome) : Type 0 where
  capacity : x.0.capacity ≡ t.capacity
  objects : WritesNothing r x.1 → x.0.objects ≡ t.objects

reads_only : (r : Request) (t : TapeView) (x : TapeView × Outcome) → SameTape t x.0 → IsKept r t x
reads_only r t x h = record { capacity = h.capacity; objects = λ nothing. h.objects }

changes : (r : Request) (t : TapeView) (x : TapeView × Outcome) → is_write r ≡ true → x.1.status ≡ Good → x.0.capacity ≡ t.capacity → IsKept r t x
changes r t x writes good same = record {
  capacity = same;
  objects = λ nothing. elim nothing [ inl none ↦ absurd cc | inr failed ↦ let done : is_carried_out x.1.status x.1.sense ≡ true = ap (λ (s : Status). is_carried_out s x.1.sense) good in absurd cc ];
}

either_kept : (r : Request) (t : TapeView) (b : Bool) (x y : TapeView × Outcome) → IsKept r t x → IsKept r t y → IsKept r t (cond b x y)
either_kept r t true x y p q = p
either_kept r t false x y p q = q

stands : (r : Request) (t : TapeView) (outcome : Outcome) → IsKept r t (t, outcome)
stands r t outcome = reads_only r t (t, outcome) (same t)

-- WRITES

abbrev HasCapacity : TapeView → Result TapeView TapeFault → Type 0
HasCapacity t written = IfOk written (λ new. new.capacity ≡ t.capacity)

either_capacity : (t : TapeView) (b : Bool) (x y : Result TapeView TapeFault) → HasCapacity t x → HasCapacity t y → HasCapacity t (cond b x y)
either_capacity t true x y p q = p
either_capacity t false x y p q = q

writes_capacity : (p : Profile) (t : TapeView) (more : List Object) → HasCapacity t (writes p t more)
writes_capacity p t more = either_capacity t (fits p t more) (Ok (written t more)) (Err Overflow) refl tt

wrote_kept : (r : Request) (t : TapeView) (told : ℕ) (written : Result TapeView TapeFault) → is_write r ≡ true → HasCapacity t written → IsKept r t (wrote t told written)
wrote_kept r t told (Ok new) w h = changes r t (new, done []) w refl h
wrote_kept r t told (Err fault) w h = reads_only r t (wrote t told (Err fault)) (same t)

-- with the tests before a write
tested_kept : (r : Request) (t : TapeView) (told : ℕ) (protected : Bool) (x : TapeView × Outcome) → IsKept r t x → IsKept r t (unless_nothing told t (unless_protected protected t x))
tested_kept r t told protected x h =
    either_kept r t (told == 0) (t, done []) (unless_protected protected t x) (stands r t (done []))
    (either_kept r t protected (t, refused WriteProtected) x (stands r t (refused WriteProtected)) h)

tape_kept : (p : Profile) (m : ℕ) (protected : Bool) (t : TapeView) (r : Request) (bytes : List ℕ) → IsKept r t (on_tape p m protected t r bytes)
tape_kept p m protected t request.Rewind bytes = reads_only request.Rewind t (moved_to t 0, done []) (record { objects = refl; capacity = refl })
tape_kept p m protected t (request.Read sili false asked) bytes =
    let step = reads sili m asked t in
    reads_only (request.Read sili false asked) t (unless_nothing asked t step) (either_same t (asked == 0) (t, done []) step (same t) (passed_same (object_at t) t))
tape_kept p m protected t (request.Read sili true count) bytes =
    let step = reads_fixed m count t in
    reads_only (request.Read sili true count) t (cond (is_fixed_transfer p m count) (unless_nothing count t step) (t, refused InvalidFieldInCdb))
    (either_same t (is_fixed_transfer p m count) (unless_nothing count t step) (t, refused InvalidFieldInCdb)
    (either_same t (count == 0) (t, done []) step (same t) (fixed_same m count t)) (same t))
tape_kept p m protected t (request.Write false asked) bytes =
    let r = request.Write false asked in
    tested_kept r t asked protected (wrote t asked (writes_block p t bytes)) (wrote_kept r t asked (writes_block p t bytes) refl
    (either_capacity t (is_block_length p (length bytes)) (writes p t (Block bytes ∷ [])) (Err BlockLength) (writes_capacity p t (Block bytes ∷ [])) tt))
tape_kept p m protected t (request.Write true count) bytes =
    let r = request.Write true count in
    let more = blocks m (length bytes / m) bytes in
    let step = wrote t count (writes_blocks p t bytes m) in
    either_kept r t (is_fixed_transfer p m count && length bytes == count * m) (unless_nothing count t (unless_protected protected t step)) (t, refused InvalidFieldInCdb)
    (tested_kept r t count protected step (wrote_kept r t count (writes_blocks p t bytes m) refl
    (either_capacity t (is_block_length p m && is_whole m bytes) (cond (length bytes == 0) (Ok t) (writes p t more)) (Err BlockLength)
    (either_capacity t (length bytes == 0) (Ok t) (writes p t more) refl (writes_capacity p t more)) tt)))
    (stands r t (refused InvalidFieldInCdb))
tape_kept p m protected t (request.WriteFilemarks wsmk immed count) bytes =
    let r = request.WriteFilemarks wsmk immed count in
    tested_kept r t count protected (wrote t count (writes_marks p t count)) (wrote_kept r t count (writes_marks p t count) refl
    (either_capacity t (count == 0) (Ok t) (writes p t (marks count)) refl (writes_capacity p t (marks count))))
tape_kept p m protected t (request.Space code count) bytes =
    reads_only (request.Space code count) t (on_tape p m protected t (request.Space code count) bytes) (spaced_same (space_code code) t count)
tape_kept p m protected t request.Erase bytes =
    either_kept request.Erase t protected (t, refused WriteProtected) (erased t, done []) (stands request.Erase t (refused WriteProtected))
    (changes request.Erase t (erased t, done []) refl refl refl)
tape_kept p m protected t (request.Locate bt cp object partition) bytes =
    reads_only (request.Locate bt cp object partition) t (on_tape p m protected t (request.Locate bt cp object partition) bytes) (record { objects = refl; capacity = refl })
tape_kept p m protected t r bytes = reads_only r t (on_tape p m protected t r bytes) (record { objects = refl; capacity = refl })

-- in the hosts' profile a write may be warned, which is then carried out too
either_warned : (r : Request) (t : TapeView) (is : Bool) (x : TapeView × Outcome) → IsKept r t x → IsKept r t (cond is (x.0, ended early_warning []) x)
either_warned r t true x kept = record {
  capacity = kept.capacity;
  objects = λ nothing. elim nothing [ inl none ↦ kept.objects (inl none) | inr failed ↦ absurd cc ];
}
either_warned r t false x kept = kept

warned_kept : (r : Request) (t : TapeView) (told : ℕ) (x : TapeView × Outcome) → IsKept r t x → IsKept r t (warned told x)
warned_kept r t told x kept = either_warned r t (is_warned told x.1.status x.0) x kept

host_tape_kept : (m : ℕ) (protected : Bool) (t : TapeView) (r : Request) (bytes : List ℕ) → IsKept r t (host_on_tape m protected t r bytes)
host_tape_kept m protected t (request.Write fixed told) bytes =
    let r = request.Write fixed told in
    warned_kept r t told (on_tape Hosts m protected t r bytes) (tape_kept Hosts m protected t r bytes)
host_tape_kept m protected t (request.WriteFilemarks wsmk immed count) bytes =
    let r = request.WriteFilemarks wsmk immed count in
    warned_kept r t count (on_tape Hosts m protected t r bytes) (tape_kept Hosts m protected t r bytes)
host_tape_kept m protected t request.ReadPosition bytes = stands request.ReadPosition t _
host_tape_kept m protected t r bytes = tape_kept Hosts m protected t r bytes

-- THE BAY

-- of a command: the volume stays in the bay, and what is on its tape too unless that is written
record IsBayKept (r : Request) (before : Option Volume) (x : DriveView × Outcome) : Type 0 where
  cartridge : SameAt SameCartridge before x.0.bay
  volume : WritesNothing r x.1 → SameAt SameVolume before x.0.bay

pub same_volume : (v : Volume) → SameVolume v v
same_volume v = record { cartridge = record { tag = refl; protected = refl; capacity = refl }; objects = refl }

pub rewound_same : (v : Volume) → SameVolume v (rewound v)
rewound_same v = record { cartridge = record { tag = refl; protected = refl; capacity = refl }; objects = refl }

held_cartridge : (o : Option Volume) → SameAt SameCartridge o o
held_cartridge None = tt
held_cartridge (Some v) = (same_volume v).cartridge

held_volume : (o : Option Volume) → SameAt SameVolume o o
held_volume None = tt
held_volume (Some v) = same_volume v

-- the bay isn't touched
untouched : (r : Request) (d : DriveView) (o : Option Volume) (outcome : Outcome) → d.bay ≡ o → IsBayKept r o (d, outcome)
untouched r d o outcome h = record {
  cartridge = subst (λ (x : Option Volume). SameAt SameCartridge o x) (sym h) (held_cartridge o);
  volume = λ nothing. subst (λ (x : Option Volume). SameAt SameVolume o x) (sym h) (held_volume o);
}

ready_kept : (r : Request) (d : DriveView) (v : Volume) (loaded : Bool) (step : TapeView × Outcome) → d.bay ≡ Some v → IsKept r v.tape step
    → IsBayKept r (Some v) (cond loaded (in_volume d v step) (d, refused InitializingCommandRequired))
ready_kept r d v true step h kept = record {
  cartridge = record { tag = refl; protected = refl; capacity = kept.capacity };
  volume = λ nothing. record { cartridge = record { tag = refl; protected = refl; capacity = kept.capacity }; objects = kept.objects nothing };
}
ready_kept r d v false step h kept = untouched r d (Some v) (refused InitializingCommandRequired) h

in_bay_kept : (d : DriveView) (o : Option Volume) (r : Request) (bytes : List ℕ) → d.bay ≡ o → IsBayKept r o (in_bay d o r bytes)
in_bay_kept d None r bytes h = untouched r d None _ h
in_bay_kept d (Some v) r bytes h =
    ready_kept r d v d.loaded (on_tape Spec d.block_length v.protected v.tape r bytes) h (tape_kept Spec d.block_length v.protected v.tape r bytes)

loads_kept : (d : DriveView) (o : Option Volume) (r : Request) (load : Bool) → d.bay ≡ o → IsBayKept r o (loads d o load)
loads_kept d None r load h = untouched r d None _ h
loads_kept d (Some v) r load h = record { cartridge = (rewound_same v).cartridge; volume = λ nothing. rewound_same v }

drive_kept : (d : DriveView) (r : Request) (bytes : List ℕ) → IsBayKept r d.bay (drive_step d r bytes)
drive_kept d request.ReadBlockLimits bytes = untouched request.ReadBlockLimits d d.bay _ refl
drive_kept d (request.ModeSelect sp l) bytes = record { cartridge = held_cartridge d.bay; volume = λ nothing. held_volume d.bay }
drive_kept d (request.ModeSense dbd pc page subpage l) bytes = untouched (request.ModeSense dbd pc page subpage l) d d.bay _ refl
drive_kept d (request.LoadUnload hold eot load) bytes = loads_kept d d.bay (request.LoadUnload hold eot load) load refl
drive_kept d r bytes = in_bay_kept d d.bay r bytes refl

-- of the hosts' profile
either_bay : (r : Request) (before : Option Volume) (b : Bool) (x y : DriveView × Outcome) → IsBayKept r before x → IsBayKept r before y → IsBayKept r before (cond b x y)
either_bay r before true x y p q = p
either_bay r before false x y p q = q

counted_kept : (r : Request) (d : DriveView) (h : HostDrive) (v : Volume) (step : TapeView × Outcome) → IsKept r v.tape step
    → IsBayKept r (Some v) (host_in_volume d h v r step)
counted_kept r d h v step kept = record {
  cartridge = record { tag = refl; protected = refl; capacity = kept.capacity };
  volume = λ nothing. record { cartridge = record { tag = refl; protected = refl; capacity = kept.capacity }; objects = kept.objects nothing };
}

host_bay_kept : (d : DriveView) (h : HostDrive) (o : Option Volume) (r : Request) (bytes : List ℕ) → d.bay ≡ o → IsBayKept r o (host_in_bay d h o r bytes)
host_bay_kept d h None r bytes is = untouched r d None _ is
host_bay_kept d h (Some v) r bytes is =
    either_bay r (Some v) d.loaded (host_in_volume d h v r (host_on_tape d.block_length v.protected v.tape r bytes)) (d, refused (not_ready h.held))
    (counted_kept r d h v (host_on_tape d.block_length v.protected v.tape r bytes) (host_tape_kept d.block_length v.protected v.tape r bytes))
    (untouched r d (Some v) (refused (not_ready h.held)) is)

host_loads_kept : (r : Request) (d : DriveView) (h : HostDrive) (o : Option Volume) (hold load : Bool) → d.bay ≡ o → IsBayKept r o (host_loads d h o hold load)
host_loads_kept r d h None hold load is = untouched r d None _ is
host_loads_kept r d h (Some v) hold load is = record { cartridge = (rewound_same v).cartridge; volume = λ nothing. rewound_same v }

selects_kept : (r : Request) (d : DriveView) (h : HostDrive) (values : Result ModeValues Condition) → IsBayKept r d.bay (host_selects d h values)
selects_kept r d h (Ok values) = record { cartridge = held_cartridge d.bay; volume = λ nothing. held_volume d.bay }
selects_kept r d h (Err condition) = untouched r d d.bay _ refl

log_selects_kept : (r : Request) (d : DriveView) (h : HostDrive) (change : Result LogChange Condition) → IsBayKept r d.bay (host_log_selects d h change)
log_selects_kept r d h (Ok change) = record { cartridge = held_cartridge d.bay; volume = λ nothing. held_volume d.bay }
log_selects_kept r d h (Err condition) = untouched r d d.bay _ refl

host_command_kept : (r : Request) (d : DriveView) (h : HostDrive) (command : HostRequest) (bytes : List ℕ) → IsBayKept r d.bay (host_command_step d h command bytes)
host_command_kept r d h (host.LogSelect pcr sp pc page subpage l) bytes =
    log_selects_kept r d h (log.selected drive_kind (log_select pcr sp page subpage l) (length bytes))
host_command_kept r d h (host.ModeSelect10 sp l) bytes = selects_kept r d h (mode.selected (mode_of d h) (most_block Hosts) Ten sp l bytes)
host_command_kept r d h command bytes = untouched r d d.bay _ refl

host_drive_kept : (d : DriveView) (h : HostDrive) (r : Request) (bytes : List ℕ) → IsBayKept r d.bay (host_drive_step d h r bytes)
host_drive_kept d h request.ReadBlockLimits bytes = untouched request.ReadBlockLimits d d.bay _ refl
host_drive_kept d h (request.ModeSelect sp l) bytes = selects_kept (request.ModeSelect sp l) d h (mode.selected (mode_of d h) (most_block Hosts) Six sp l bytes)
host_drive_kept d h (request.ModeSense dbd pc page subpage l) bytes = untouched (request.ModeSense dbd pc page subpage l) d d.bay _ refl
host_drive_kept d h (request.LoadUnload hold eot load) bytes = host_loads_kept (request.LoadUnload hold eot load) d h d.bay hold load refl
host_drive_kept d h (request.Host command) bytes = host_command_kept (request.Host command) d h command bytes
host_drive_kept d h r bytes = host_bay_kept d h d.bay r bytes refl

by_profile_kept : (o : Option HostDrive) (d : DriveView) (r : Request) (bytes : List ℕ) → IsBayKept r d.bay (drive_stepped o d r bytes)
by_profile_kept None d r bytes = drive_kept d r bytes
by_profile_kept (Some h) d r bytes = host_drive_kept d h r bytes

-- EACH PLACE

-- at place 0 the bay, and elsewhere nothing
here_kept : (Same : Volume → Volume → Type 0) (before after : Option Volume) (here : Bool) → SameAt Same before after → SameAt Same (cond here before None) (cond here after None)
here_kept Same before after true h = h
here_kept Same before after false h = tt

-- of a command at a drive
record IsDriveKept (r : Request) (before : DeviceView) (x : DeviceView × Outcome) : Type 0 where
  cartridge : Keeps SameCartridge before x.0
  volume : WritesNothing r x.1 → Keeps SameVolume before x.0

stepped_kept : (d : DriveView) (r : Request) (bytes : List ℕ) → IsDriveKept r (Drive d) (stepped (Drive d) r bytes)
stepped_kept d r bytes =
    let step = drive_stepped d.hosts d r bytes in
    let kept = by_profile_kept d.hosts d r bytes in
    record {
      cartridge = λ place. here_kept SameCartridge d.bay step.0.bay (place == 0) kept.cartridge;
      volume = λ nothing place. here_kept SameVolume d.bay step.0.bay (place == 0) (kept.volume nothing);
    }

drive_performed : (d : DriveView) (r : Request) (bytes : List ℕ) → IsDriveKept r (Drive d) (performed (Drive d) r bytes)
drive_performed d r bytes =
    elim (field_fault (Drive d) r bytes) as (λ (o : Option Condition). IsDriveKept r (Drive d) (elim o [ Some condition ↦ (Drive d, refused condition) | None ↦ stepped (Drive d) r bytes ])) [
      | Some condition ↦ record {
        cartridge = λ place. held_cartridge (volume_at (Drive d) place);
        volume = λ nothing place. held_volume (volume_at (Drive d) place);
      }
      | None ↦ stepped_kept d r bytes
    ]

pub drives_keep_their_volume : DrivesKeepTheirVolume
drives_keep_their_volume (Drive d) r bytes k = (drive_performed d r bytes).cartridge
drives_keep_their_volume (Changer e) r bytes k = absurd cc

pub drives_keep_their_tape : DrivesKeepTheirTape
drives_keep_their_tape (Drive d) r bytes k nothing = (drive_performed d r bytes).volume nothing
drives_keep_their_tape (Changer e) r bytes k nothing = absurd cc

-- A RESET

reset_bay : (o : Option Volume) → SameAt SameVolume o (elim o [ None ↦ None | Some v ↦ Some (rewound v) ])
reset_bay None = tt
reset_bay (Some v) = rewound_same v

pub resets_keep_volumes : ResetsKeepVolumes
resets_keep_volumes (Drive d) place = here_kept SameVolume d.bay _ (place == 0) (reset_bay d.bay)
resets_keep_volumes (Changer e) place = held_volume (volume_at (Changer e) place)
