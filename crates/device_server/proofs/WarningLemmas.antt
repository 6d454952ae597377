-- No command of a drive of the default profile ends at early warning.
use Rattle.std.proofs.Common.{◌≡◌, ℕ, Bool, true, false, List, [], Option, Some, None, Result, Ok, Err, refl}
use Rattle.std.specs.Prelude.{cond, take, length, ◌==◌, ◌||◌, ◌&&◌, ◌-◌, ◌*◌, nat_le, unsigned_abs}
use Rattle.std.specs.List.{flat_map}
use Rattle.scsi_cdb.specs.declared.profile.Profile.{Profile}
use Rattle.scsi_cdb.specs.declared.profile.Profile.TheVariants.{Spec}
use Rattle.scsi_cdb.specs.declared.request.Request.{Request}
use Rattle.scsi_cdb.specs.declared.request.Request.TheVariants as request
use Rattle.scsi_sense.specs.declared.condition.Condition.TheVariants.{InitializingCommandRequired, InvalidFieldInCdb, WriteProtected, EndOfDataDetected}
use Rattle.tape_medium.specs.Object.{Object, Block, Mark}
use Rattle.tape_medium.specs.TapeView.{TapeView}
use Rattle.tape_medium.specs.Tape.{ahead, object_at, erased, writes_block, writes_blocks, writes_marks}
use Rattle.tape_medium.specs.Space.{spaced}
use Rattle.tape_medium.specs.declared.fault.TapeFault.{TapeFault}
use Rattle.tape_medium.specs.declared.item.Item.{Item}
use Rattle.tape_medium.specs.declared.item.Item.TheVariants as item
use Rattle.tape_medium.specs.declared.space.Stop.{Stop}
use Rattle.tape_medium.specs.declared.space.Stop.TheVariants.{Done, AtMark, AtEnd, AtStart}
use Rattle.tape_medium.specs.declared.volume.Volume.{Volume}
use Rattle.device_server.specs.declared.outcome.Outcome.{Outcome}
use Rattle.device_server.specs.Outcomes.{done, refused}
use Rattle.device_server.specs.Drive.{DriveView, read_of, reads, run, bytes_of_object, ended_by, end_of_run, reads_fixed, wrote, unless_protected, unless_nothing, is_fixed_transfer, stopped, space_code, on_tape, in_volume, in_bay, loads, drive_step}
use Rattle.scsi_sense.specs.CarriedOut.{is_early_warning}
use Rattle.device_server.specs.ByProfile.{DrivesOfSpecNeverWarn}

-- an end that doesn't warn
abbrev IsSilent : {A : Type 0} → A × Outcome → Type 0
IsSilent x = is_early_warning x.1.sense ≡ false

either : {A : Type 0} (b : Bool) (x y : A × Outcome) → IsSilent x → IsSilent y → IsSilent (cond b x y)
either true x y p q = p
either false x y p q = q

either_end : (b : Bool) (x y : Outcome) → is_early_warning x.sense ≡ false → is_early_warning y.sense ≡ false → is_early_warning (cond b x y).sense ≡ false
either_end true x y p q = p
either_end false x y p q = q

read_silent : (sili : Bool) (m asked : ℕ) (o : Option Object) → is_early_warning (read_of sili m asked o).sense ≡ false
read_silent sili m asked None = refl
read_silent sili m asked (Some Mark) = refl
read_silent sili m asked (Some (Block bytes)) = either_end (length bytes == asked || sili && (nat_le (length bytes) asked || m == 0)) (done (take asked bytes)) _ refl refl

run_silent : (left : ℕ) (o : Option Item) (bytes : List ℕ) → is_early_warning (end_of_run left o bytes).sense ≡ false
run_silent left None bytes = refl
run_silent left (Some item.End) bytes = refl
run_silent left (Some item.Mark) bytes = refl
run_silent left (Some (item.Block had)) bytes = refl

wrote_silent : (t : TapeView) (told : ℕ) (r : Result TapeView TapeFault) → IsSilent (wrote t told r)
wrote_silent t told (Ok new) = refl
wrote_silent t told (Err fault) = refl

writing_silent : (protected : Bool) (t : TapeView) (told : ℕ) (r : Result TapeView TapeFault) → IsSilent (unless_nothing told t (unless_protected protected t (wrote t told r)))
writing_silent protected t told r =
    either (told == 0) (t, done []) (unless_protected protected t (wrote t told r)) refl
    (either protected (t, refused WriteProtected) (wrote t told r) refl (wrote_silent t told r))

stopped_silent : (left : ℕ) (stop : Stop) → is_early_warning (stopped left stop).sense ≡ false
stopped_silent left Done = refl
stopped_silent left AtMark = refl
stopped_silent left AtEnd = refl
stopped_silent left AtStart = refl

fixed_silent : (m count : ℕ) (t : TapeView) → IsSilent (reads_fixed m count t)
fixed_silent m count t =
    let blocks = run m (ahead t) count in
    run_silent (count - length blocks) (ended_by t count blocks) (flat_map bytes_of_object blocks)

tape_silent : (p : Profile) (m : ℕ) (protected : Bool) (t : TapeView) (r : Request) (bytes : List ℕ) → IsSilent (on_tape p m protected t r bytes)
tape_silent p m protected t (request.Read sili false asked) bytes = either (asked == 0) (t, done []) (reads sili m asked t) refl (read_silent sili m asked (object_at t))
tape_silent p m protected t (request.Read sili true count) bytes =
    either (is_fixed_transfer p m count) (unless_nothing count t (reads_fixed m count t)) (t, refused InvalidFieldInCdb)
    (either (count == 0) (t, done []) (reads_fixed m count t) refl (fixed_silent m count t)) refl
tape_silent p m protected t (request.Write false asked) bytes = writing_silent protected t asked (writes_block p t bytes)
tape_silent p m protected t (request.Write true count) bytes =
    either (is_fixed_transfer p m count && length bytes == count * m) (unless_nothing count t (unless_protected protected t (wrote t count (writes_blocks p t bytes m)))) (t, refused InvalidFieldInCdb)
    (writing_silent protected t count (writes_blocks p t bytes m)) refl
tape_silent p m protected t (request.WriteFilemarks wsmk immed count) bytes = writing_silent protected t count (writes_marks p t count)
tape_silent p m protected t (request.Space code count) bytes =
    let moved = spaced (space_code code) t count in
    stopped_silent (unsigned_abs count - moved.1.moved) moved.1.stop
tape_silent p m protected t request.Erase bytes = either protected (t, refused WriteProtected) (erased t, done []) refl refl
tape_silent p m protected t (request.Locate bt cp object partition) bytes = either_end (nat_le object (length t.objects)) (done []) (refused EndOfDataDetected) refl refl
tape_silent p m protected t r bytes = refl

bay_silent : (d : DriveView) (o : Option Volume) (r : Request) (bytes : List ℕ) → IsSilent (in_bay d o r bytes)
bay_silent d None r bytes = refl
bay_silent d (Some v) r bytes =
    either d.loaded (in_volume d v (on_tape Spec d.block_length v.protected v.tape r bytes)) (d, refused InitializingCommandRequired) (tape_silent Spec d.block_length v.protected v.tape r bytes) refl

loads_silent : (d : DriveView) (o : Option Volume) (load : Bool) → IsSilent (loads d o load)
loads_silent d None load = refl
loads_silent d (Some v) load = refl

drive_silent : (d : DriveView) (r : Request) (bytes : List ℕ) → IsSilent (drive_step d r bytes)
drive_silent d request.ReadBlockLimits bytes = refl
drive_silent d (request.ModeSelect sp l) bytes = refl
drive_silent d (request.ModeSense dbd pc page subpage l) bytes = refl
drive_silent d (request.LoadUnload hold eot load) bytes = loads_silent d d.bay load
drive_silent d r bytes = bay_silent d d.bay r bytes

pub drives_of_spec_never_warn : DrivesOfSpecNeverWarn
drives_of_spec_never_warn d r bytes = drive_silent d r bytes
