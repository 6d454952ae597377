-- A part that is passed is read.
use Rattle.std.proofs.Common.{◌≡◌, ℕ, ◌+◌, List, [], ◌++◌, drop, Some, refl, subst, arith}
use Rattle.std.proofs.lemmas.List.{drop-append-le}
use Rattle.tape_image.specs.Parts.{PartValue, Partial, Complete, Gap, End, Invalid, image_part}
use Rattle.tape_image.specs.Reading.{Placed, Stop, Waiting, Ended, Broken, Reads, partial, ended, faulty, gap, object}
use Rattle.tape_image.specs.Walking.{part_count, part_objects, stop_at}
use Rattle.tape_image.proofs.Images.{stays, known_some}

nothing_passed : (o : ℕ) (b : List ℕ) (ys : List Placed) (s : Stop) → Reads (o + 0) b ys s → Reads o b ys s
nothing_passed o b ys s more = let none : o + 0 ≡ o = omega arith in subst (λ (k : ℕ). Reads k b ys s) none more

passed_by : (o : ℕ) (b more : List ℕ) (p : PartValue) (ys : List Placed) (s : Stop) → image_part b ≡ p
    → Reads (o + part_count p) (drop (part_count p) b ++ more) ys s → Reads o (b ++ more) (part_objects o p ++ ys) s
passed_by o b more (Partial w) ys s e r = nothing_passed o (b ++ more) ys s r
passed_by o b more End ys s e r = nothing_passed o (b ++ more) ys s r
passed_by o b more (Invalid f) ys s e r = nothing_passed o (b ++ more) ys s r
passed_by o b more Gap ys s e r =
    gap o (b ++ more) ys s (stays b more Gap e tt) (rw (drop-append-le 4 b more (known_some b Gap e)) r)
passed_by o b more (Complete x n) ys s e r =
    let some = known_some b (Complete x n) e in
    object o (b ++ more) x n ys s (stays b more (Complete x n) e tt) (rw (drop-append-le n b more some.1) r)

pub passed_is_read : (o : ℕ) (b more : List ℕ) (ys : List Placed) (s : Stop)
    → Reads (o + part_count (image_part b)) (drop (part_count (image_part b)) b ++ more) ys s → Reads o (b ++ more) (part_objects o (image_part b) ++ ys) s
passed_is_read o b more ys s r = passed_by o b more (image_part b) ys s refl r

same_stop : (s t : Stop) → Some s ≡ Some t → s ≡ t
same_stop s t e = cc

stopped_by : (o : ℕ) (b : List ℕ) (p : PartValue) (s : Stop) → image_part b ≡ p → stop_at o b p ≡ Some s → Reads o b [] s
stopped_by o b (Partial w) s e is = subst (Reads o b []) (same_stop (Waiting o b) s is) (partial o b w e)
stopped_by o b End s e is = subst (Reads o b []) (same_stop (Ended o) s is) (ended o b e)
stopped_by o b (Invalid f) s e is = subst (Reads o b []) (same_stop (Broken o f) s is) (faulty o b f e)
stopped_by o b Gap s e is = absurd cc
stopped_by o b (Complete x n) s e is = absurd cc

pub stopped_is_read : (o : ℕ) (b : List ℕ) (s : Stop) → stop_at o b (image_part b) ≡ Some s → Reads o b [] s
stopped_is_read o b s is = stopped_by o b (image_part b) s refl is
