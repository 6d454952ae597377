-- The ranges of a seat, and room for more.
use Rattle.std.specs.Prelude.{◌≡◌, ℕ, ◌+◌, ◌≤◌, List, ◌++◌, drop}
use Rattle.std.specs.Vec.{vec_len, vec_capacity}
use Rattle.logical_unit.specs.declared.entry.Entry.{Entry}
use Rattle.lun_router.specs.declared.handing_over.UnitRanges.{UnitRanges}
use Rattle.kept_unit.specs.Listing.{listed_at}
use Rattle.kept_unit.specs.Ranges.{numbers_in_ranges}
use Rattle.lun_router.specs.Seats.{SettledRanges, drained_count}

abbrev pub ranges_of : UnitRanges → SettledRanges
ranges_of r = record { zero = r.zero.items; one = r.one.items; two = r.two.items; three = r.three.items; four = r.four.items }

-- room for as many ranges of each unit as others are
pub record HasRoom (r more : UnitRanges) : Type 0 where
  pub zero : vec_len r.zero + vec_len more.zero ≤ vec_capacity r.zero
  pub one : vec_len r.one + vec_len more.one ≤ vec_capacity r.one
  pub two : vec_len r.two + vec_len more.two ≤ vec_capacity r.two
  pub three : vec_len r.three + vec_len more.three ≤ vec_capacity r.three
  pub four : vec_len r.four + vec_len more.four ≤ vec_capacity r.four

-- the longest drained beginning has left the list, and its numbers stand behind those of the ranges
pub record SettlesAll (drained : List ℕ) (es : List Entry) (r : SettledRanges) (es' : List Entry) (r' : SettledRanges) : Type 0 where
  pub listed : es' ≡ drop (drained_count drained es) es
  pub zero : numbers_in_ranges r'.zero ++ listed_at 0 es' ≡ numbers_in_ranges r.zero ++ listed_at 0 es
  pub one : numbers_in_ranges r'.one ++ listed_at 1 es' ≡ numbers_in_ranges r.one ++ listed_at 1 es
  pub two : numbers_in_ranges r'.two ++ listed_at 2 es' ≡ numbers_in_ranges r.two ++ listed_at 2 es
  pub three : numbers_in_ranges r'.three ++ listed_at 3 es' ≡ numbers_in_ranges r.three ++ listed_at 3 es
  pub four : numbers_in_ranges r'.four ++ listed_at 4 es' ≡ numbers_in_ranges r.four ++ listed_at 4 es
