-- What a seat hands over: the first ranges of each unit go to the unit, the others stay, and the seat's share counts those alone.
use Rattle.std.proofs.Common.{◌≡◌, ℕ, zero, suc, ◌+◌, ◌-◌, ◌≤◌, List, [], ◌∷◌, ◌++◌, length, Bool, true, false, Option, Some, None, refl, sym, ap, ◌∙◌, subst, arith, append_assoc, append-nil, length-append, take, drop, take-append-drop}
use Rattle.std.specs.Prelude.{nat_lt, sum_by, if◌then◌else◌}
use Rattle.std.proofs.lemmas.Grind.{flat_map-append}
use Rattle.logical_unit.specs.declared.entry.Entry.{Entry}
use Rattle.logical_unit.specs.Answers.{count_at}
use Rattle.settled_numbers.specs.declared.number_range.NumberRange.{NumberRange}
use Rattle.kept_unit.specs.Agreeing.{rises}
use Rattle.kept_unit.specs.Listing.{NotesValue, numbers_in, listed_at}
use Rattle.kept_unit.specs.Ranges.{span, numbers_between, numbers_in_ranges, rise_to}
use Rattle.kept_unit.proofs.Rises.{settled_rises}
use Rattle.lun_router.specs.declared.handing_over.UnitNumbers.{UnitNumbers}
use Rattle.lun_router.specs.HandingOver.{GoesOver}
use Rattle.lun_router.specs.Seats.{HandsOver, SeatValue, Settles, SettlesEntries, end_of, notes_at, told_at}

end_append : (low : ℕ) (xs ys : List ℕ) → end_of low (xs ++ ys) ≡ end_of (end_of low xs) ys
end_append low [] ys = refl
end_append low (x ∷ xs) ys = end_append x xs ys

end_span : (first k : ℕ) → end_of first (span first k) ≡ first + k
end_span first zero = omega arith
end_span first (suc k) = let rest = end_span (first + 1) k in omega (arith, rest)

end_between : (low : ℕ) (r : NumberRange) → end_of low (numbers_between r) ≡ r.last
end_between low r =
    let ordered : r.first ≤ r.last = r.ordered in
    let spanned = end_span r.first (r.last - r.first) in
    omega (arith, ordered, spanned)

-- the end of ranges that rise is their last number
rise_step : (b : Bool) (low last : ℕ) (r : NumberRange) (rs : List NumberRange)
    → (rise_to r.last rs ≡ Some last → end_of r.last (numbers_in_ranges rs) ≡ last) → (if b then rise_to r.last rs else None) ≡ Some last
    → end_of low (numbers_between r ++ numbers_in_ranges rs) ≡ last
rise_step true low last r rs later e =
    end_append low (numbers_between r) (numbers_in_ranges rs)
    ∙ ap (λ (k : ℕ). end_of k (numbers_in_ranges rs)) (end_between low r)
    ∙ later e
rise_step false low last r rs later e = absurd (cc)

rise_end : (rs : List NumberRange) (low last : ℕ) → rise_to low rs ≡ Some last → end_of low (numbers_in_ranges rs) ≡ last
rise_end [] low last e = cc
rise_end (r ∷ rs) low last e = rise_step (nat_lt low r.first) low last r rs (rise_end rs r.last last) e

rises_alone : (rs : List NumberRange) (low last : ℕ) → rise_to low rs ≡ Some last → rises low (numbers_in_ranges rs) ≡ true
rises_alone rs low last e = ap (rises low) (sym (append-nil (numbers_in_ranges rs))) ∙ settled_rises rs low last [] e

-- ranges are their first ones and the others
both : (n : ℕ) (rs : List NumberRange) → numbers_in_ranges (take n rs) ++ numbers_in_ranges (drop n rs) ≡ numbers_in_ranges rs
both n rs = sym (flat_map-append numbers_between (take n rs) (drop n rs)) ∙ ap numbers_in_ranges (take-append-drop n rs)

parted : (n : ℕ) (rs rs' : List NumberRange) (ns : List ℕ) → rs' ≡ drop n rs
    → numbers_in_ranges rs ++ ns ≡ numbers_in_ranges (take n rs) ++ (numbers_in_ranges rs' ++ ns)
parted n rs rs' ns left =
    ap (λ (l : List ℕ). l ++ ns) (sym (both n rs))
    ∙ append_assoc (numbers_in_ranges (take n rs)) (numbers_in_ranges (drop n rs)) ns
    ∙ ap (λ (l : List NumberRange). numbers_in_ranges (take n rs) ++ (numbers_in_ranges l ++ ns)) (sym left)

-- from what was settled before (s) to what stays (t), over the ranges that were ready (m)
pub hands_over : (lun a a' : ℕ) (s m t : NotesValue) → numbers_in lun m ≡ numbers_in lun s → m.handed_over ≡ s.handed_over → t.listed ≡ m.listed
    → GoesOver m.settled m.handed_over a t.settled t.handed_over a' → HandsOver lun s t
hands_over lun a a' s m t numbers same listed g = record {
  gone = numbers_in_ranges (take g.count m.settled);
  numbers =
      sym numbers
      ∙ parted g.count m.settled t.settled (listed_at lun m.listed) g.left
      ∙ ap (λ (es : List Entry). numbers_in_ranges (take g.count m.settled) ++ (numbers_in_ranges t.settled ++ listed_at lun es)) (sym listed);
  rise = ap (λ (low : ℕ). rises low (numbers_in_ranges (take g.count m.settled))) (sym same) ∙ rises_alone (take g.count m.settled) m.handed_over t.handed_over g.rise;
  last = sym (rise_end (take g.count m.settled) m.handed_over t.handed_over g.rise) ∙ ap (λ (low : ℕ). end_of low (numbers_in_ranges (take g.count m.settled))) same;
}

-- the share counts what stays
pub counts_rest : (lun low last a a' : ℕ) (rs rs' : List NumberRange) (es : List Entry) → GoesOver rs low a rs' last a' → a ≡ told_at lun rs es → a' ≡ told_at lun rs' es
counts_rest lun low last a a' rs rs' es g counted =
    let gone = numbers_in_ranges (take g.count rs) in
    let lengths : length gone + length (numbers_in_ranges rs') ≡ length (numbers_in_ranges rs) =
    ap (λ (l : List NumberRange). length gone + length (numbers_in_ranges l)) g.left
    ∙ sym (length-append gone (numbers_in_ranges (drop g.count rs)))
    ∙ ap length (both g.count rs) in
    let went = g.amount in
    omega (arith, lengths, went, counted)

pub told_of : (lun a : ℕ) (rs : List NumberRange) (es : List Entry) → a ≡ told_at lun rs es → length (numbers_in_ranges rs) ≤ a
told_of lun a rs es counted = omega (arith, counted)

-- a seat whose entries were settled, and which then handed over what it could
pub settles_over : (drained : List ℕ) (s m t : SeatValue) → SettlesEntries drained s m → t.entries ≡ m.entries
    → GoesOver m.settled.zero m.handed_over.zero m.amounts.zero t.settled.zero t.handed_over.zero t.amounts.zero
    → GoesOver m.settled.one m.handed_over.one m.amounts.one t.settled.one t.handed_over.one t.amounts.one
    → GoesOver m.settled.two m.handed_over.two m.amounts.two t.settled.two t.handed_over.two t.amounts.two
    → GoesOver m.settled.three m.handed_over.three m.amounts.three t.settled.three t.handed_over.three t.amounts.three
    → GoesOver m.settled.four m.handed_over.four m.amounts.four t.settled.four t.handed_over.four t.amounts.four
    → Settles drained s t
settles_over drained s m t e listed at0 at1 at2 at3 at4 = record {
  listed = listed ∙ e.listed;
  zero = hands_over 0 m.amounts.zero t.amounts.zero (notes_at 0 s) (notes_at 0 m) (notes_at 0 t) e.numbers.0 (ap (λ (n : UnitNumbers). n.zero) e.handed_over) listed at0;
  one = hands_over 1 m.amounts.one t.amounts.one (notes_at 1 s) (notes_at 1 m) (notes_at 1 t) e.numbers.1 (ap (λ (n : UnitNumbers). n.one) e.handed_over) listed at1;
  two = hands_over 2 m.amounts.two t.amounts.two (notes_at 2 s) (notes_at 2 m) (notes_at 2 t) e.numbers.2 (ap (λ (n : UnitNumbers). n.two) e.handed_over) listed at2;
  three = hands_over 3 m.amounts.three t.amounts.three (notes_at 3 s) (notes_at 3 m) (notes_at 3 t) e.numbers.3 (ap (λ (n : UnitNumbers). n.three) e.handed_over) listed at3;
  four = hands_over 4 m.amounts.four t.amounts.four (notes_at 4 s) (notes_at 4 m) (notes_at 4 t) e.numbers.4 (ap (λ (n : UnitNumbers). n.four) e.handed_over) listed at4;
}
