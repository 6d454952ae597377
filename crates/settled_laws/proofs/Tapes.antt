-- A command on a tape is the same, however many of its objects count as unchanged: the outcome is, and so is the tape but for that.
use Rattle.std.proofs.Common.{◌≡◌, ℕ, Bool, true, false, ◌&&◌, ◌==◌, ◌*◌, ◌/◌, List, [], ◌∷◌, length, Option, Some, None, Result, Ok, Err}
use Rattle.std.proofs.Common.{ℤ, pos, negsuc, not, refl, sym, ap, ◌∙◌, subst}
use Rattle.std.specs.Prelude.{if◌then◌else◌, unsigned_abs}
use Rattle.scsi_cdb.specs.declared.profile.Profile.{Profile}
use Rattle.scsi_cdb.specs.declared.profile.Profile.TheVariants.{Hosts}
use Rattle.scsi_cdb.specs.declared.request.Request.{Request}
use Rattle.scsi_cdb.specs.declared.request.Request.TheVariants as request
use Rattle.scsi_sense.specs.declared.status.Status.{Status}
use Rattle.scsi_sense.specs.declared.status.Status.TheVariants.{Good, CheckCondition, Busy, ReservationConflict}
use Rattle.tape_medium.specs.Object.{Object, Block}
use Rattle.tape_medium.specs.TapeView.{TapeView}
use Rattle.tape_medium.specs.Tape.{settled, passed, object_at, fits, written, writes, writes_block, writes_blocks, writes_marks}
use Rattle.tape_medium.specs.Tape.{is_block_length, is_whole, blocks, marks, ahead}
use Rattle.tape_medium.specs.Space.{spaced}
use Rattle.tape_medium.specs.declared.fault.TapeFault.{TapeFault}
use Rattle.tape_medium.specs.declared.fault.TapeFault.TheVariants.{BlockLength, Overflow}
use Rattle.tape_medium.specs.declared.space.SpaceCode.{SpaceCode}
use Rattle.tape_medium.specs.declared.space.SpaceCode.TheVariants as code
use Rattle.device_server.specs.declared.outcome.Outcome.{Outcome}
use Rattle.device_server.specs.Drive.{on_tape, wrote, unless_protected, unless_nothing, is_fixed_transfer, reads, reads_run, behind_run}
use Rattle.device_server.specs.Drive.{run, space_code, space_ended}
use Rattle.device_server.specs.EarlyWarning.{early_warning, is_in_zone, is_warned, warned}
use Rattle.device_server.specs.HostDrive.{host_on_tape}
use Rattle.device_server.specs.Outcomes.{ended}

abbrev pub Same : (t u : TapeView) → Type 0
Same t u = settled t 0 ≡ settled u 0

abbrev pub Alike : (a b : TapeView × Outcome) → Type 0
Alike a b = Same a.0 b.0 × (a.1 ≡ b.1)

either : (c : Bool) (a b x y : TapeView × Outcome) → Alike a x → Alike b y → Alike (if c then a else b) (if c then x else y)
either true a b x y one two = one
either false a b x y one two = two

either_tape : (c : Bool) (a b x y : TapeView) → Same a x → Same b y → Same (if c then a else b) (if c then x else y)
either_tape true a b x y one two = one
either_tape false a b x y one two = two

passed_same : (o : Option Object) (t : TapeView) (k : ℕ) → Same (passed o t) (passed o (settled t k))
passed_same None t k = refl
passed_same (Some object) t k = refl

-- WRITES

abbrev ResultAlike : (r s : Result TapeView TapeFault) → Type 0
ResultAlike (Ok t) (Ok u) = Same t u
ResultAlike (Ok t) (Err fault) = ⊥
ResultAlike (Err fault) (Ok u) = ⊥
ResultAlike (Err one) (Err two) = Unit {0}

either_result : (c : Bool) (a b x y : Result TapeView TapeFault) → ResultAlike a x → ResultAlike b y
    → ResultAlike (if c then a else b) (if c then x else y)
either_result true a b x y one two = one
either_result false a b x y one two = two

writes_alike : (p : Profile) (t : TapeView) (k : ℕ) (more : List Object) → ResultAlike (writes p t more) (writes p (settled t k) more)
writes_alike p t k more =
    either_result (fits p t more) (Ok (written t more)) (Err Overflow) (Ok (written (settled t k) more)) (Err Overflow) refl tt

block_alike : (p : Profile) (t : TapeView) (k : ℕ) (bytes : List ℕ) → ResultAlike (writes_block p t bytes) (writes_block p (settled t k) bytes)
block_alike p t k bytes =
    let one : List Object = Block bytes ∷ [] in
    either_result (is_block_length p (length bytes)) (writes p t one) (Err BlockLength) (writes p (settled t k) one) (Err BlockLength)
    (writes_alike p t k one) tt

blocks_alike : (p : Profile) (t : TapeView) (k : ℕ) (bytes : List ℕ) (size : ℕ)
    → ResultAlike (writes_blocks p t bytes size) (writes_blocks p (settled t k) bytes size)
blocks_alike p t k bytes size =
    let all : List Object = blocks size (length bytes / size) bytes in
    let u : TapeView = settled t k in
    let some : Bool = length bytes == 0 in
    either_result (is_block_length p size && is_whole size bytes) (if some then Ok t else writes p t all) (Err BlockLength)
    (if some then Ok u else writes p u all) (Err BlockLength)
    (either_result some (Ok t) (writes p t all) (Ok u) (writes p u all) refl (writes_alike p t k all)) tt

marks_alike : (p : Profile) (t : TapeView) (k count : ℕ) → ResultAlike (writes_marks p t count) (writes_marks p (settled t k) count)
marks_alike p t k count =
    either_result (count == 0) (Ok t) (writes p t (marks count)) (Ok (settled t k)) (writes p (settled t k) (marks count)) refl
    (writes_alike p t k (marks count))

wrote_alike : (t : TapeView) (k told : ℕ) (r s : Result TapeView TapeFault) → ResultAlike r s
    → Alike (wrote t told r) (wrote (settled t k) told s)
wrote_alike t k told (Ok one) (Ok two) same = (same, refl)
wrote_alike t k told (Ok one) (Err fault) same = absurd same
wrote_alike t k told (Err fault) (Ok two) same = absurd same
wrote_alike t k told (Err one) (Err two) same = (refl, refl)

unprotected : (protected : Bool) (t : TapeView) (k : ℕ) (a b : TapeView × Outcome) → Alike a b
    → Alike (unless_protected protected t a) (unless_protected protected (settled t k) b)
unprotected protected t k a b same = either protected _ _ _ _ (refl, refl) same

not_nothing : (told : ℕ) (t : TapeView) (k : ℕ) (a b : TapeView × Outcome) → Alike a b
    → Alike (unless_nothing told t a) (unless_nothing told (settled t k) b)
not_nothing told t k a b same = either (told == 0) _ _ _ _ (refl, refl) same

-- READS AND MOVES

read_alike : (sili : Bool) (size asked : ℕ) (t : TapeView) (k : ℕ) → Alike (reads sili size asked t) (reads sili size asked (settled t k))
read_alike sili size asked t k = (passed_same (object_at t) t k, refl)

run_alike : (t : TapeView) (k count : ℕ) (blocks : List Object) → Alike (reads_run t count blocks) (reads_run (settled t k) count blocks)
run_alike t k count blocks =
    (either_tape (length blocks == count) _ _ _ _ refl (passed_same (object_at (behind_run t blocks)) (behind_run t blocks) k), refl)

spaced_alike : (c : SpaceCode) (t : TapeView) (k told : ℕ) (count : ℤ)
    → Alike (space_ended told (spaced c t count)) (space_ended told (spaced c (settled t k) count))
spaced_alike code.EndOfData t k told count = (refl, refl)
spaced_alike code.Blocks t k told (pos n) = (refl, refl)
spaced_alike code.Blocks t k told (negsuc n) = (refl, refl)
spaced_alike code.Marks t k told (pos n) = (refl, refl)
spaced_alike code.Marks t k told (negsuc n) = (refl, refl)

pub on_tape_alike : (p : Profile) (size : ℕ) (protected : Bool) (t : TapeView) (k : ℕ) (r : Request) (bytes : List ℕ)
    → Alike (on_tape p size protected t r bytes) (on_tape p size protected (settled t k) r bytes)
on_tape_alike p size protected t k (request.Read sili false asked) bytes = not_nothing asked t k _ _ (read_alike sili size asked t k)
on_tape_alike p size protected t k (request.Read sili true count) bytes =
    either (is_fixed_transfer p size count) _ _ _ _ (not_nothing count t k _ _ (run_alike t k count (run size (ahead t) count))) (refl, refl)
on_tape_alike p size protected t k (request.Write false asked) bytes =
    not_nothing asked t k _ _ (unprotected protected t k _ _ (wrote_alike t k asked _ _ (block_alike p t k bytes)))
on_tape_alike p size protected t k (request.Write true count) bytes =
    either (is_fixed_transfer p size count && length bytes == count * size) _ _ _ _
    (not_nothing count t k _ _ (unprotected protected t k _ _ (wrote_alike t k count _ _ (blocks_alike p t k bytes size)))) (refl, refl)
on_tape_alike p size protected t k (request.WriteFilemarks wsmk immed count) bytes =
    not_nothing count t k _ _ (unprotected protected t k _ _ (wrote_alike t k count _ _ (marks_alike p t k count)))
on_tape_alike p size protected t k (request.Space c count) bytes = spaced_alike (space_code c) t k (unsigned_abs count) count
on_tape_alike p size protected t k request.Erase bytes = unprotected protected t k _ _ (refl, refl)
on_tape_alike p size protected t k r bytes = (refl, refl)

-- IN THE HOSTS' PROFILE a write is warned by where it leaves the tape
warned_same : (told : ℕ) (status : Status) (t u : TapeView) → Same t u → is_warned told status t ≡ is_warned told status u
warned_same told Good t u same = ap (λ (x : TapeView). not (told == 0) && is_in_zone x) same
warned_same told CheckCondition t u same = refl
warned_same told Busy t u same = refl
warned_same told ReservationConflict t u same = refl

warned_alike : (told : ℕ) (a b : TapeView × Outcome) → Alike a b → Alike (warned told a) (warned told b)
warned_alike told a b alike =
    let is : is_warned told a.1.status a.0 ≡ is_warned told b.1.status b.0 =
    warned_same told a.1.status a.0 b.0 alike.0 ∙ ap (λ (o : Outcome). is_warned told o.status b.0) alike.1 in
    subst (λ (c : Bool). Alike (if c then (a.0, ended early_warning []) else a) (warned told b)) (sym is)
    (either (is_warned told b.1.status b.0) (a.0, ended early_warning []) a (b.0, ended early_warning []) b (alike.0, refl) alike)

pub host_on_tape_alike : (size : ℕ) (protected : Bool) (t : TapeView) (k : ℕ) (r : Request) (bytes : List ℕ)
    → Alike (host_on_tape size protected t r bytes) (host_on_tape size protected (settled t k) r bytes)
host_on_tape_alike size protected t k (request.Write fixed told) bytes =
    warned_alike told _ _ (on_tape_alike Hosts size protected t k (request.Write fixed told) bytes)
host_on_tape_alike size protected t k (request.WriteFilemarks wsmk immed count) bytes =
    warned_alike count _ _ (on_tape_alike Hosts size protected t k (request.WriteFilemarks wsmk immed count) bytes)
host_on_tape_alike size protected t k request.ReadPosition bytes = (refl, refl)
host_on_tape_alike size protected t k r bytes = on_tape_alike Hosts size protected t k r bytes
