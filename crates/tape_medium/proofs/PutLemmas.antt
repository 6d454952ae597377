-- A store, over its pieces and places.
use Rattle.std.proofs.Common.{◌≡◌, ◌≢◌, ℕ, suc, ◌+◌, ◌*◌, ◌/◌, ◌%◌, ◌<◌, ◌≤◌, List, [], ◌∷◌, ◌++◌, length, take, get_or, replicate, sym, ap, ◌∙◌, arith, Some, eqb}
use Rattle.std.specs.Prelude.{slice_range, slice_get}
use Rattle.tape_medium.specs.Object.{Object, Block, Mark}
use Rattle.tape_medium.specs.Tape.{is_mark, bytes_in, blocks, marks}
use Rattle.tape_medium.specs.declared.index.Place.{Place}
use Rattle.tape_medium.specs.Pieces.{PieceView, contents, IsHome, IsPut}
use Rattle.tape_medium.specs.Store.{objects_in, end_after, IsKept, IsIndex, ends_of, home_after, block_places, AreHoused}
use Rattle.tape_medium.proofs.StoreLemmas.{within-ends, below-ends, bytes-behind, objects_in-take, objects_in-agree, IsIndex-take, found-mark, found-block, is_mark-shown, end-order, cut-at}
use Rattle.tape_medium.proofs.PieceLemmas.{front-agrees, front-homes}
use Rattle.tape_medium.proofs.WriteLemmas.{kept-block, shown-block, kept-blocks, shown-blocks, kept-marks, shown-marks, whole-blocks}
use Rattle.tape_medium.proofs.PlaceLemmas.{ends_of-take, ends_of-append, length-ends_of, get_or-ends_of, ends_of-blocks, ends_of-marks, home-before, home-at, housed-take, housed-stay, housed-put, housed-block, housed-blocks, housed-marked}

-- what a store keeps, and shows
abbrev pub IsStore : List PieceView → List Place → Type 0
IsStore ps places = IsKept (contents ps) (ends_of places) × AreHoused ps 0 0 places

abbrev pub shown_in : List PieceView → List Place → List Object
shown_in ps places = objects_in (contents ps) 0 (ends_of places)

-- PLACES

pub within-places : (ps : List PieceView) (places : List Place) (at : ℕ) (os : List Object) → shown_in ps places ≡ os → at ≤ length os → at ≤ length places
within-places ps places at os is le = omega (arith, within-ends (contents ps) (ends_of places) at os is le, length-ends_of places)

pub below-places : (ps : List PieceView) (places : List Place) (at : ℕ) (os : List Object) → shown_in ps places ≡ os → at < length os → at < length places
below-places ps places at os is le = omega (arith, below-ends (contents ps) (ends_of places) at os is le, length-ends_of places)

pub bytes-before : (ps : List PieceView) (places : List Place) (at : ℕ) (os : List Object) → shown_in ps places ≡ os → IsStore ps places
    → end_after 0 (ends_of (take at places)) ≡ bytes_in (take at os)
bytes-before ps places at os is kept = ap (end_after 0) (ends_of-take at places) ∙ sym (bytes-behind (contents ps) (ends_of places) at os is kept.0)

-- CUTTING

-- the first objects, in the pieces up to that of the last of them
pub store-cut : (ps : List PieceView) (places : List Place) (at h : ℕ) → IsStore ps places → h ≡ home_after 0 (take at places) → IsStore (take (suc h) ps) (take at places)
store-cut ps places at h kept home =
    let k : ℕ = end_after 0 (ends_of (take at places)) in
    let there : IsHome ps h k k = rw home (home-before ps at places kept.1 kept.0.ordered) in
    let ordered : IsIndex 0 (ends_of (take at places)) = rw (ends_of-take at places) (IsIndex-take 0 at (ends_of places) kept.0.ordered) in (
      record { ordered = ordered; whole = there.to },
      housed-stay ps (take (suc h) ps) h k 0 0 (take at places) (λ j s e le short lies. front-homes ps h j s e le lies) (housed-take ps 0 0 at places kept.1) ordered (omega arith) (omega arith),
    )

pub shown-cut : (ps : List PieceView) (places : List Place) (at h : ℕ) (os : List Object) → shown_in ps places ≡ os → IsStore ps places → h ≡ home_after 0 (take at places)
    → shown_in (take (suc h) ps) (take at places) ≡ take at os
shown-cut ps places at h os is kept home =
    let k : ℕ = end_after 0 (ends_of (take at places)) in
    let there : IsHome ps h k k = rw home (home-before ps at places kept.1 kept.0.ordered) in
    let ordered : IsIndex 0 (ends_of (take at places)) = rw (ends_of-take at places) (IsIndex-take 0 at (ends_of places) kept.0.ordered) in
    let agree : shown_in (take (suc h) ps) (take at places) ≡ shown_in ps (take at places) =
    objects_in-agree (contents (take (suc h) ps)) (contents ps) 0 k (ends_of (take at places)) (front-agrees ps h k there.to) ordered (omega arith) in
    agree ∙ ap (objects_in (contents ps) 0) (ends_of-take at places) ∙ objects_in-take (contents ps) 0 at (ends_of places) ∙ ap (take at) is

-- READING one

starts-at : (at s : ℕ) (places : List Place) → s ≡ end_after 0 (ends_of (take at places)) → s ≡ end_after 0 (take at (ends_of places))
starts-at at s places is = is ∙ ap (end_after 0) (ends_of-take at places)

ends-at : (at : ℕ) (places : List Place) (p : Place) → p ≡ get_or places at p → at < length places → p.end ≡ get_or (ends_of places) at p.end
ends-at at places p there below = ap (λ (q : Place). q.end) there ∙ sym (get_or-ends_of places at p.end p below)

below-end : (at : ℕ) (places : List Place) → at < length places → at < length (ends_of places)
below-end at places below = omega (arith, length-ends_of places)

pub mark-at : (ps : List PieceView) (places : List Place) (at s : ℕ) (p : Place) (os : List Object) → shown_in ps places ≡ os → at < length places
    → s ≡ end_after 0 (ends_of (take at places)) → p ≡ get_or places at p → p.end ≡ s → slice_get os at ≡ Some Mark
mark-at ps places at s p os is below starts there mark =
    found-mark (contents ps) (ends_of places) at s p.end os is (below-end at places below) (starts-at at s places starts) (ends-at at places p there below) mark

pub block-at : (ps : List PieceView) (places : List Place) (at s : ℕ) (p : Place) (os : List Object) → shown_in ps places ≡ os → at < length places
    → s ≡ end_after 0 (ends_of (take at places)) → p ≡ get_or places at p → p.end ≢ s → slice_get os at ≡ Some (Block (slice_range (contents ps) s p.end))
block-at ps places at s p os is below starts there differs =
    found-block (contents ps) (ends_of places) at s p.end os is (below-end at places below) (starts-at at s places starts) (ends-at at places p there below) differs

pub is-mark-at : (ps : List PieceView) (places : List Place) (at s : ℕ) (p : Place) (os : List Object) → shown_in ps places ≡ os → at < length places
    → s ≡ end_after 0 (ends_of (take at places)) → p ≡ get_or places at p → eqb p.end s ≡ is_mark (get_or os at Mark)
is-mark-at ps places at s p os is below starts there =
    is_mark-shown (contents ps) (ends_of places) at s p.end os is (below-end at places below) (starts-at at s places starts) (ends-at at places p there below)

pub order-at : (ps : List PieceView) (places : List Place) (at s : ℕ) (p : Place) → IsStore ps places → at < length places
    → s ≡ end_after 0 (ends_of (take at places)) → p ≡ get_or places at p → s ≤ p.end
order-at ps places at s p kept below starts there =
    omega (arith, end-order 0 at (ends_of places) p.end kept.0.ordered (below-end at places below), starts-at at s places starts, ends-at at places p there below)

pub lies-at : (ps : List PieceView) (places : List Place) (at s : ℕ) (p : Place) → IsStore ps places → at < length places
    → s ≡ end_after 0 (ends_of (take at places)) → p ≡ get_or places at p → IsHome ps p.home s p.end
lies-at ps places at s p kept below starts there = rw (starts, there) (home-at ps 0 0 at places p kept.1 below)

-- WRITING

pub lies-before : (ps : List PieceView) (places : List Place) (at k h : ℕ) (os : List Object) → shown_in ps places ≡ os → IsStore ps places → k ≡ bytes_in (take at os)
    → h ≡ home_after 0 (take at places) → IsHome ps h k k
lies-before ps places at k h os is kept start home = rw (home, start ∙ sym (bytes-before ps places at os is kept)) (home-before ps at places kept.1 kept.0.ordered)

ends-put : (at : ℕ) (places fs : List Place) → ends_of (take at places ++ fs) ≡ take at (ends_of places) ++ ends_of fs
ends-put at places fs = ends_of-append (take at places) fs ∙ ap (λ (es : List ℕ). es ++ ends_of fs) (ends_of-take at places)

pub block-put : (ps qs : List PieceView) (places : List Place) (at k h h' end : ℕ) (os : List Object) (block : List ℕ) → shown_in ps places ≡ os → IsStore ps places
    → k ≡ bytes_in (take at os) → h ≡ home_after 0 (take at places) → IsPut ps qs h k h' block → 0 < length block → end ≡ k + length block
    → IsStore qs (take at places ++ record { end = end; home = h' } ∷ []) × (shown_in qs (take at places ++ record { end = end; home = h' } ∷ []) ≡ take at os ++ Block block ∷ [])
block-put ps qs places at k h h' end os block is kept start home put some ends =
    let k-is : k ≡ end_after 0 (take at (ends_of places)) = cut-at (contents ps) (ends_of places) at k os is kept.0 start in
    let from : k ≡ end_after 0 (ends_of (take at places)) = start ∙ sym (bytes-before ps places at os is kept) in
    let there : IsHome qs h' k end = rw (← ends) at put.put in (
      (
        rw (ends-put at places (record { end = end; home = h' } ∷ []), put.bytes) (kept-block (contents ps) block (ends_of places) at k end kept.0 k-is ends),
        housed-put ps qs h k h' at block places (record { end = end; home = h' } ∷ []) kept.1 kept.0.ordered home from put (housed-block qs k end h h' there put.order),
      ),
      rw (ends-put at places (record { end = end; home = h' } ∷ []), put.bytes) (shown-block (contents ps) block (ends_of places) at k end os is kept.0 k-is some ends),
    )

pub blocks-put : (ps qs : List PieceView) (places : List Place) (at k h h' size : ℕ) (os : List Object) (more : List ℕ) → shown_in ps places ≡ os → IsStore ps places
    → k ≡ bytes_in (take at os) → h ≡ home_after 0 (take at places) → IsPut ps qs h k h' more → 0 < size → length more % size ≡ 0
    → IsStore qs (take at places ++ block_places size (length more / size) k h') × (shown_in qs (take at places ++ block_places size (length more / size) k h') ≡ take at os ++ blocks size (length more / size) more)
blocks-put ps qs places at k h h' size os more is kept start home put some whole =
    let count : ℕ = length more / size in
    let k-is : k ≡ end_after 0 (take at (ends_of places)) = cut-at (contents ps) (ends_of places) at k os is kept.0 start in
    let from : k ≡ end_after 0 (ends_of (take at places)) = start ∙ sym (bytes-before ps places at os is kept) in
    let all : length more ≡ count * size = whole-blocks (length more) size some whole in (
      (
        rw (ends-put at places (block_places size count k h'), ends_of-blocks size count k h', put.bytes) (kept-blocks (contents ps) more (ends_of places) at k size count kept.0 k-is all),
        housed-put ps qs h k h' at more places (block_places size count k h') kept.1 kept.0.ordered home from put
            (housed-blocks qs size count k (k + length more) k h h' put.put put.order (omega arith) (omega (arith, all))),
      ),
      rw (ends-put at places (block_places size count k h'), ends_of-blocks size count k h', put.bytes) (shown-blocks (contents ps) more (ends_of places) at k size count os is kept.0 k-is some),
    )

pub marks-put : (ps : List PieceView) (places : List Place) (at count : ℕ) (place : Place) (os : List Object) → shown_in ps places ≡ os → IsStore ps places
    → place.end ≡ bytes_in (take at os) → place.home ≡ home_after 0 (take at places)
    → IsStore ps (take at places ++ replicate count place) × (shown_in ps (take at places ++ replicate count place) ≡ take at os ++ marks count)
marks-put ps places at count place os is kept start home =
    let k-is : place.end ≡ end_after 0 (take at (ends_of places)) = cut-at (contents ps) (ends_of places) at place.end os is kept.0 start in
    let from : place.end ≡ end_after 0 (ends_of (take at places)) = start ∙ sym (bytes-before ps places at os is kept) in (
      (
        rw (ends-put at places (replicate count place), ends_of-marks place count) (kept-marks (contents ps) (ends_of places) at place.end count kept.0 k-is),
        housed-marked ps place at count places kept.1 kept.0.ordered home from,
      ),
      rw (ends-put at places (replicate count place), ends_of-marks place count) (shown-marks (contents ps) (ends_of places) at place.end count os is kept.0 k-is),
    )
