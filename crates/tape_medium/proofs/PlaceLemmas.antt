use Rattle.std.proofs.Common.{◌≡◌, ℕ, ◌+◌, ◌-◌, ◌*◌, ◌<◌, ◌≤◌, zero, suc, List, [], ◌∷◌, ◌++◌, length, take, get_or, replicate, refl, ap, arith}
use Rattle.tape_medium.specs.declared.index.Place.{Place}
use Rattle.tape_medium.specs.Pieces.{PieceView, begin, IsHome, IsPut}
use Rattle.tape_medium.specs.Store.{ends_of, end_after, home_after, block_ends, block_places, IsIndex, AreHoused}
use Rattle.tape_medium.proofs.StoreLemmas.{IsIndex-le, IsIndex-take}

pub ends_of-take : (at : ℕ) (places : List Place) → ends_of (take at places) ≡ take at (ends_of places)
ends_of-take zero places = refl
ends_of-take (suc at) [] = refl
ends_of-take (suc at) (p ∷ places) = ap (λ (es : List ℕ). p.end ∷ es) (ends_of-take at places)

pub ends_of-append : (places more : List Place) → ends_of (places ++ more) ≡ ends_of places ++ ends_of more
ends_of-append [] more = refl
ends_of-append (p ∷ places) more = ap (λ (es : List ℕ). p.end ∷ es) (ends_of-append places more)

pub length-ends_of : (places : List Place) → length (ends_of places) ≡ length places
length-ends_of [] = refl
length-ends_of (p ∷ places) = ap suc (length-ends_of places)

pub get_or-ends_of : (places : List Place) (at e : ℕ) (d : Place) → at < length places → get_or (ends_of places) at e ≡ (get_or places at d).end
get_or-ends_of [] at e d h = absurd (omega arith)
get_or-ends_of (p ∷ places) zero e d h = refl
get_or-ends_of (p ∷ places) (suc at) e d h = get_or-ends_of places at e d (omega arith)

pub ends_of-blocks : (size count start home : ℕ) → ends_of (block_places size count start home) ≡ block_ends size count start
ends_of-blocks size zero start home = refl
ends_of-blocks size (suc count) start home = ap (λ (es : List ℕ). (start + size) ∷ es) (ends_of-blocks size count (start + size) home)

pub ends_of-marks : (place : Place) (count : ℕ) → ends_of (replicate count place) ≡ replicate count place.end
ends_of-marks place zero = refl
ends_of-marks place (suc count) = ap (λ (es : List ℕ). place.end ∷ es) (ends_of-marks place count)

-- the object before is the last of the first ones
pub end_after-before : (s at : ℕ) (places : List Place) (d : Place) → at < length places → end_after s (ends_of (take (suc at) places)) ≡ (get_or places at d).end
end_after-before s at [] d h = absurd (omega arith)
end_after-before s zero (p ∷ places) d h = refl
end_after-before s (suc at) (p ∷ places) d h = end_after-before p.end at places d (omega arith)

pub home_after-before : (s at : ℕ) (places : List Place) (d : Place) → at < length places → home_after s (take (suc at) places) ≡ (get_or places at d).home
home_after-before s at [] d h = absurd (omega arith)
home_after-before s zero (p ∷ places) d h = refl
home_after-before s (suc at) (p ∷ places) d h = home_after-before p.home at places d (omega arith)

pub end_after-prior : (s at : ℕ) (places : List Place) (d : Place) → 0 < at → at ≤ length places → end_after s (ends_of (take at places)) ≡ (get_or places (at - 1) d).end
end_after-prior s zero places d p h = absurd (omega arith)
end_after-prior s (suc at) places d p h = let e : suc at - 1 ≡ at = omega arith in rw e (end_after-before s at places d (omega arith))

pub home_after-prior : (s at : ℕ) (places : List Place) (d : Place) → 0 < at → at ≤ length places → home_after s (take at places) ≡ (get_or places (at - 1) d).home
home_after-prior s zero places d p h = absurd (omega arith)
home_after-prior s (suc at) places d p h = let e : suc at - 1 ≡ at = omega arith in rw e (home_after-before s at places d (omega arith))

-- PIECES OF OBJECTS

-- the piece of the last object lies behind that of each other
home_after-le : (ps : List PieceView) (s low : ℕ) (places : List Place) → AreHoused ps s low places → low ≤ home_after low places
home_after-le ps s low [] housed = omega arith
home_after-le ps s low (p ∷ places) housed = omega (arith, housed.0, home_after-le ps p.end p.home places housed.2)

pub housed-take : (ps : List PieceView) (s low at : ℕ) (places : List Place) → AreHoused ps s low places → AreHoused ps s low (take at places)
housed-take ps s low zero places housed = tt
housed-take ps s low (suc at) [] housed = tt
housed-take ps s low (suc at) (p ∷ places) housed = (housed.0, housed.1, housed-take ps p.end p.home at places housed.2)

housed-append : (ps : List PieceView) (s low : ℕ) (places more : List Place) → AreHoused ps s low places → AreHoused ps (end_after s (ends_of places)) (home_after low places) more
    → AreHoused ps s low (places ++ more)
housed-append ps s low [] more housed behind = behind
housed-append ps s low (p ∷ places) more housed behind = (housed.0, housed.1, housed-append ps p.end p.home places more housed.2 behind)

-- they stay where they are
abbrev pub Stay : (old new : List PieceView) (h end : ℕ) → Type 0
Stay old new h end = (j start stop : ℕ) → j ≤ h → stop ≤ end → IsHome old j start stop → IsHome new j start stop

pub housed-stay : (old new : List PieceView) (h end s low : ℕ) (places : List Place) → Stay old new h end → AreHoused old s low places
    → IsIndex s (ends_of places) → home_after low places ≤ h → end_after s (ends_of places) ≤ end → AreHoused new s low places
housed-stay old new h end s low [] stay housed ordered within short = tt
housed-stay old new h end s low (p ∷ places) stay housed ordered within short = (
  housed.0,
  stay p.home s p.end (omega (arith, home_after-le old p.end p.home places housed.2)) (omega (arith, IsIndex-le p.end (ends_of places) ordered.1)) housed.1,
  housed-stay old new h end p.end p.home places stay housed.2 ordered.1 within short,
)

-- the last object ends in its piece
last-home : (ps : List PieceView) (s low : ℕ) (places : List Place) → IsHome ps low s s → AreHoused ps s low places → IsIndex s (ends_of places)
    → IsHome ps (home_after low places) (end_after s (ends_of places)) (end_after s (ends_of places))
last-home ps s low [] here housed ordered = here
last-home ps s low (p ∷ places) here housed ordered =
    let from : begin ps p.home ≤ s = housed.1.from in
    last-home ps p.end p.home places (record { within = housed.1.within; from = omega (arith, ordered.0); to = housed.1.to }) housed.2 ordered.1

first-home : (ps : List PieceView) → IsHome ps 0 0 0
first-home ps = record { within = omega arith; from = omega arith; to = omega arith }

pub home-before : (ps : List PieceView) (at : ℕ) (places : List Place) → AreHoused ps 0 0 places → IsIndex 0 (ends_of places)
    → IsHome ps (home_after 0 (take at places)) (end_after 0 (ends_of (take at places))) (end_after 0 (ends_of (take at places)))
home-before ps at places housed ordered =
    last-home ps 0 0 (take at places) (first-home ps) (housed-take ps 0 0 at places housed) (rw (ends_of-take at places) (IsIndex-take 0 at (ends_of places) ordered))

-- an object lies in its piece
pub home-at : (ps : List PieceView) (s low at : ℕ) (places : List Place) (d : Place) → AreHoused ps s low places → at < length places
    → IsHome ps (get_or places at d).home (end_after s (ends_of (take at places))) (get_or places at d).end
home-at ps s low at [] d housed below = absurd (omega arith)
home-at ps s low zero (p ∷ places) d housed below = housed.1
home-at ps s low (suc at) (p ∷ places) d housed below = home-at ps p.end p.home at places d housed.2 (omega arith)

-- what is put behind the first objects
pub housed-put : (old new : List PieceView) (h end h' at : ℕ) (more : List ℕ) (places fs : List Place) → AreHoused old 0 0 places → IsIndex 0 (ends_of places)
    → h ≡ home_after 0 (take at places) → end ≡ end_after 0 (ends_of (take at places)) → IsPut old new h end h' more → AreHoused new end h fs → AreHoused new 0 0 (take at places ++ fs)
housed-put old new h end h' at more places fs housed ordered home start put behind =
    let first : AreHoused new 0 0 (take at places) = housed-stay old new h end 0 0 (take at places) put.stay (housed-take old 0 0 at places housed) (rw (ends_of-take at places) (IsIndex-take 0 at (ends_of places) ordered)) (omega arith) (omega arith) in
    housed-append new 0 0 (take at places) fs first (rw (← home, ← start) behind)

pub housed-block : (ps : List PieceView) (start end low home : ℕ) → IsHome ps home start end → low ≤ home → AreHoused ps start low (record { end = end; home = home } ∷ [])
housed-block ps start end low home there order = (order, there, tt)

pub housed-blocks : (ps : List PieceView) (size count start end from low home : ℕ) → IsHome ps home from end → low ≤ home → from ≤ start → start + count * size ≤ end
    → AreHoused ps start low (block_places size count start home)
housed-blocks ps size zero start end from low home there order least most = tt
housed-blocks ps size (suc count) start end from low home there order least most =
    let more : start + size + count * size ≡ start + suc count * size = grind arith in (
      order,
      record { within = there.within; from = omega (arith, there.from); to = omega (arith, there.to) },
      housed-blocks ps size count (start + size) end from home home there (omega arith) (omega arith) (omega arith),
    )

pub housed-marks : (ps : List PieceView) (place : Place) (count : ℕ) → IsHome ps place.home place.end place.end → AreHoused ps place.end place.home (replicate count place)
housed-marks ps place zero there = tt
housed-marks ps place (suc count) there = (omega arith, there, housed-marks ps place count there)

-- filemarks put behind the first objects
pub housed-marked : (ps : List PieceView) (place : Place) (at count : ℕ) (places : List Place) → AreHoused ps 0 0 places → IsIndex 0 (ends_of places)
    → place.home ≡ home_after 0 (take at places) → place.end ≡ end_after 0 (ends_of (take at places)) → AreHoused ps 0 0 (take at places ++ replicate count place)
housed-marked ps place at count places housed ordered home start =
    let here : IsHome ps place.home place.end place.end = rw (home, start) (home-before ps at places housed ordered) in
    housed-append ps 0 0 (take at places) (replicate count place) (housed-take ps 0 0 at places housed) (rw (← home, ← start) (housed-marks ps place count here))

-- one block more
block_places-push : (size count from home : ℕ) → block_places size (suc count) from home ≡ block_places size count from home ++ record { end = from + count * size + size; home = home } ∷ []
block_places-push size zero from home =
    let same : from + size ≡ from + 0 * size + size = omega arith in
    ap (λ (n : ℕ). record { end = n; home = home } ∷ []) same
block_places-push size (suc count) from home =
    let next : from + size + count * size + size ≡ from + suc count * size + size = grind arith in
    let rest : block_places size (suc count) (from + size) home ≡ block_places size count (from + size) home ++ record { end = from + size + count * size + size; home = home } ∷ [] = block_places-push size count (from + size) home in
    ap (λ (ps : List Place). record { end = from + size; home = home } ∷ ps) (rw (← next) rest)

pub block_places-more : (size count from home : ℕ) → block_places size (count + 1) from home ≡ block_places size count from home ++ record { end = from + count * size + size; home = home } ∷ []
block_places-more size count from home = let e : count + 1 ≡ suc count = omega arith in rw e (block_places-push size count from home)
