-- A run of blocks of one size: so far, one block more, and its end.
use Rattle.std.proofs.Common.{rules, ◌≡◌, ℕ, Bool, cond, ◌+◌, ◌-◌, ◌*◌, ◌<◌, ◌≤◌, zero, suc, true, false, List, [], ◌∷◌, ◌++◌, length, drop, sym, refl, arith, Option, Some, None, length-append, append_assoc, eqb}
use Rattle.std.specs.Prelude.{slice_get, is_some}
use Rattle.std.specs.List.{flat_map}
use Rattle.std.proofs.Math.Nat.{suc-mul}
use Rattle.std.proofs.lemmas.List.{append-nil, flat_map_more}
use Rattle.std.proofs.lemmas.Grind.{common_steps}
use Rattle.tape_medium.specs.Object.{Object, Block, Mark}
use Rattle.tape_medium.specs.TapeView.{TapeView}
use Rattle.tape_medium.specs.Tape.{ahead, object_at, moved_to, item_of, passed}
use Rattle.tape_medium.specs.declared.item.Item.{Item}
use Rattle.device_server.specs.Drive.{run, bytes_of_object, ended_by, after_run}
use Rattle.tape_server.specs.Steps.{is_block_of, met, whole_bytes}

-- a block of the size that lies ahead is the first of the run
run-more : (size count : ℕ) (objects : List Object) (position : ℕ) (object : Object) → slice_get objects position ≡ Some object → is_block_of size (Some object) ≡ true → run size (drop position objects) (suc count) ≡ object ∷ run size (drop (suc position) objects) count
run-more size count [] position object here whole = cc
run-more size count (Mark ∷ objects) zero object here whole =
    let is : object ≡ Mark = cc in
    let no : false ≡ true = rw is at whole in
    cc
run-more size count (Block bytes ∷ objects) zero object here whole =
    let is : object ≡ Block bytes = cc in
    let same : eqb (length bytes) size ≡ true = rw is at whole in
    rw (is, same) refl
run-more size count (other ∷ objects) (suc position) object here whole = run-more size count objects position object here whole

-- anything else ends it
run-ends : (size count : ℕ) (objects : List Object) (position : ℕ) → is_block_of size (slice_get objects position) ≡ false → run size (drop position objects) count ≡ []
run-ends size zero objects position other = grind arith
run-ends size (suc count) [] zero other = refl
run-ends size (suc count) [] (suc position) other = refl
run-ends size (suc count) (Mark ∷ objects) zero other = refl
run-ends size (suc count) (Block bytes ∷ objects) zero other = let no : eqb (length bytes) size ≡ false = other in rw no refl
run-ends size (suc count) (first ∷ objects) (suc position) other = run-ends size (suc count) objects position other

-- so far `done` blocks were read, and the rest of the run lies ahead
pub record RunSoFar (size count : ℕ) (old now : TapeView) (done : ℕ) (first bytes : List ℕ) : Type 0 where
  pub blocks : List Object
  pub long : length blocks ≡ done
  pub run_is : run size (ahead old) count ≡ blocks ++ run size (drop (old.position + done) old.objects) (count - done)
  pub told : bytes ≡ first ++ flat_map bytes_of_object blocks
  pub tape : now ≡ moved_to old (old.position + done)

-- the bytes of a block of the size are as many, and other objects have none
pub length-whole_bytes : (size : ℕ) (object : Option Object) → length (whole_bytes size object) ≤ size
length-whole_bytes size None = omega arith
length-whole_bytes size (Some Mark) = omega arith
length-whole_bytes size (Some (Block bytes)) = grind (arith, common_steps)

whole_bytes-other : (size : ℕ) (object : Option Object) → is_block_of size object ≡ false → whole_bytes size object ≡ []
whole_bytes-other size None other = refl
whole_bytes-other size (Some Mark) other = refl
whole_bytes-other size (Some (Block bytes)) other = let no : eqb (length bytes) size ≡ false = other in rw no refl

-- one block more, which is read whole
more : (size count : ℕ) (old now : TapeView) (done : ℕ) (first bytes : List ℕ) (block : List ℕ) → slice_get old.objects (old.position + done) ≡ Some (Block block) → eqb (length block) size ≡ true → done < count → RunSoFar size count old now done first bytes → RunSoFar size count old (moved_to old (old.position + (done + 1))) (done + 1) first (bytes ++ block)
more size count old now done first bytes block here same within so =
    let left : count - done ≡ suc (count - (done + 1)) = omega arith in
    let next : old.position + (done + 1) ≡ suc (old.position + done) = omega arith in
    let rest : run size (drop (old.position + done) old.objects) (count - done) ≡ Block block ∷ run size (drop (old.position + (done + 1)) old.objects) (count - (done + 1)) = rw (left, next) (run-more size (count - (done + 1)) old.objects (old.position + done) (Block block) here same) in
    record {
      blocks = so.blocks ++ Block block ∷ [];
      long = rw (length-append, so.long) refl;
      run_is = rw (so.run_is, rest, append_assoc) refl;
      told = rw so.told (flat_map_more bytes_of_object first so.blocks (Block block));
      tape = refl;
    }

run-step : (size count : ℕ) (old now : TapeView) (done : ℕ) (first bytes : List ℕ) (object : Option Object) → object ≡ object_at now → is_block_of size object ≡ true → done < count → RunSoFar size count old now done first bytes → RunSoFar size count old (passed object now) (done + 1) first (bytes ++ whole_bytes size object)
run-step size count old now done first bytes None here whole within so = let no : false ≡ true = whole in cc
run-step size count old now done first bytes (Some Mark) here whole within so = let no : false ≡ true = whole in cc
run-step size count old now done first bytes (Some (Block block)) here whole within so =
    let same : eqb (length block) size ≡ true = whole in
    let lies : slice_get old.objects (old.position + done) ≡ Some (Block block) = sym (rw so.tape at here) in
    let next : (old.position + done) + 1 ≡ old.position + (done + 1) = omega arith in
    rw (same, so.tape, next) (more size count old now done first bytes block lies same within so)

-- what a run that is over tells
pub record RunEnded (size count : ℕ) (old now : TapeView) (count_done : ℕ) (told : Option Item) (first all : List ℕ) : Type 0 where
  pub bytes : all ≡ first ++ flat_map bytes_of_object (run size (ahead old) count)
  pub within : count_done ≤ count
  pub done : count_done ≡ length (run size (ahead old) count)
  pub met : told ≡ ended_by old count (run size (ahead old) count)
  pub after : now ≡ after_run old count (run size (ahead old) count)

-- something else was met
run-stop : (size count : ℕ) (old now : TapeView) (done : ℕ) (first bytes : List ℕ) (object : Option Object) → object ≡ object_at now → is_block_of size object ≡ false → done < count → RunSoFar size count old now done first bytes → RunEnded size count old (passed object now) done (Some (item_of object)) first (bytes ++ whole_bytes size object)
run-stop size count old now done first bytes object here other within so =
    let lies : object ≡ slice_get old.objects (old.position + done) = rw so.tape at here in
    let over : run size (drop (old.position + done) old.objects) (count - done) ≡ [] = run-ends size (count - done) old.objects (old.position + done) (rw lies at other) in
    let run_is : run size (ahead old) count ≡ so.blocks = rw (so.run_is, over, append-nil) refl in
    let no : eqb (length so.blocks) count ≡ false = rw so.long (search rules) in
    record {
      bytes = rw (whole_bytes-other size object other, append-nil, run_is) so.told;
      within = omega arith;
      done = rw run_is (sym so.long);
      met = rw (run_is, no, so.long, lies) refl;
      after = rw (run_is, no, so.long, lies, so.tape) refl;
    }

-- room for what is left of a run is room for its next block, and then for the rest
pub room-next : (done count size : ℕ) → done < count → size + (count - (done + 1)) * size ≡ (count - done) * size
room-next done count size within =
    let left : count - done ≡ suc (count - (done + 1)) = omega arith in
    rw left (omega (arith, suc-mul (count - (done + 1)) size))

-- what a test of what was met says of the object
other-of-met : (size : ℕ) (object : Option Object) (told : Option Item) → told ≡ met size object → is_some told ≡ true → (is_block_of size object ≡ false) × (told ≡ Some (item_of object))
other-of-met size None told is some = (refl, is)
other-of-met size (Some Mark) told is some = (refl, is)
other-of-met size (Some (Block bytes)) told is some = grind (arith, common_steps)

block-of-met : (size : ℕ) (object : Option Object) (told : Option Item) → told ≡ met size object → is_some told ≡ false → is_block_of size object ≡ true
block-of-met size None told is none = let no : true ≡ false = rw is at none in cc
block-of-met size (Some Mark) told is none = let no : true ≡ false = rw is at none in cc
block-of-met size (Some (Block bytes)) told is none = grind (arith, common_steps)

pub run-stopped : (size count : ℕ) (old now : TapeView) (done : ℕ) (first bytes : List ℕ) (told : Option Item) (next : TapeView) (all : List ℕ) → told ≡ met size (object_at now) → is_some told ≡ true → next ≡ passed (object_at now) now → all ≡ bytes ++ whole_bytes size (object_at now) → done < count → RunSoFar size count old now done first bytes → RunEnded size count old next done told first all
run-stopped size count old now done first bytes told next all is some after has within so =
    let other = other-of-met size (object_at now) told is some in
    rw (other.1, after, has) (run-stop size count old now done first bytes (object_at now) refl other.0 within so)

pub run-stepped : (size count : ℕ) (old now : TapeView) (done : ℕ) (first bytes : List ℕ) (told : Option Item) (next : TapeView) (all : List ℕ) → told ≡ met size (object_at now) → is_some told ≡ false → next ≡ passed (object_at now) now → all ≡ bytes ++ whole_bytes size (object_at now) → done < count → RunSoFar size count old now done first bytes → RunSoFar size count old next (done + 1) first all
run-stepped size count old now done first bytes told next all is none after has within so =
    rw (after, has) (run-step size count old now done first bytes (object_at now) refl (block-of-met size (object_at now) told is none) within so)

block-fits : (b : Bool) (bytes rest : List ℕ) (size count : ℕ) → (b ≡ true → length bytes ≡ size) → length rest ≤ count * size → length (cond b (bytes ++ rest) []) ≤ suc count * size
block-fits false bytes rest size count same fits = omega arith
block-fits true bytes rest size count same fits = omega (arith, length-append bytes rest, same refl, suc-mul count size)

-- a run has no more bytes than were asked for
pub length-run : (size count : ℕ) (objects : List Object) → length (flat_map bytes_of_object (run size objects count)) ≤ count * size
length-run size zero objects = grind arith
length-run size (suc count) [] = omega arith
length-run size (suc count) (Mark ∷ objects) = omega arith
length-run size (suc count) (Block bytes ∷ objects) =
    let rest = length-run size count objects in
    elim (eqb (length bytes) size) as (λ b. eqb (length bytes) size ≡ b → length (flat_map bytes_of_object (cond b (Block bytes ∷ run size objects count) [])) ≤ suc count * size) [
      | true ↦ λ e. block-fits true bytes (flat_map bytes_of_object (run size objects count)) size count (λ _. grind (arith, common_steps)) rest
      | false ↦ λ e. omega arith
    ] refl
