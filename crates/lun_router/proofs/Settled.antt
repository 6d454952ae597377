-- What is settled stays told.
use Rattle.std.proofs.Common.{◌≡◌, ℕ, ◌+◌, ◌==◌, List, [], ◌∷◌, ◌++◌, length, take, drop, refl, sym, ap, ◌∙◌, subst, Result, Ok, Err, append_assoc, length-append, take-append-drop}
use Rattle.std.specs.Prelude.{filter, map, sum_by, OnOk, OnErr}
use Rattle.std.specs.List.{flat_map}
use Rattle.std.proofs.lemmas.Grind.{flat_map-append}
use Rattle.std.proofs.lemmas.List.{length-map, map-append}
use Rattle.std.proofs.lemmas.List.Elements.{filter-append}
use Rattle.std.proofs.lemmas.List.Sums.{sum_by-cons, length-filter}
use Rattle.logical_unit.specs.declared.entry.Entry.{Entry}
use Rattle.settled_numbers.specs.declared.number_range.NumberRange.{NumberRange}
use Rattle.logical_unit.specs.Answers.{at, count_at}
use Rattle.kept_unit.specs.Listing.{listed_at}
use Rattle.kept_unit.specs.Ranges.{numbers_in_ranges}
use Rattle.lun_router.specs.Shares.{Amounts}
use Rattle.lun_router.specs.Seats.{SettledRanges, IsCounted, told_at}
use Rattle.lun_router.specs.Settling.{SettlesAll}

at_both : (lun : ℕ) (xs ys : List (ℕ × ℕ)) → at lun (xs ++ ys) ≡ at lun xs ++ at lun ys
at_both lun xs ys = ap (map (λ (n : ℕ × ℕ). n.1)) (filter-append (λ (n : ℕ × ℕ). n.0 == lun) xs ys) ∙ map-append (λ (n : ℕ × ℕ). n.1) (filter (λ (n : ℕ × ℕ). n.0 == lun) xs) (filter (λ (n : ℕ × ℕ). n.0 == lun) ys)

-- entries one behind another
listed_both : (lun : ℕ) (xs ys : List Entry) → listed_at lun (xs ++ ys) ≡ listed_at lun xs ++ listed_at lun ys
listed_both lun xs ys = ap (at lun) (flat_map-append (λ (e : Entry). e.numbers) xs ys) ∙ at_both lun (flat_map (λ (e : Entry). e.numbers) xs) (flat_map (λ (e : Entry). e.numbers) ys)

-- the numbers of one unit, where the first entries become ranges
pub moved : (lun n : ℕ) (es es' : List Entry) (rs more rs' : List NumberRange) → es' ≡ drop n es → numbers_in_ranges more ≡ listed_at lun (take n es) → numbers_in_ranges rs' ≡ numbers_in_ranges rs ++ numbers_in_ranges more
    → numbers_in_ranges rs' ++ listed_at lun es' ≡ numbers_in_ranges rs ++ listed_at lun es
moved lun n es es' rs more rs' left taken grown =
    ap (λ (l : List ℕ). l ++ listed_at lun es') grown
    ∙ append_assoc (numbers_in_ranges rs) (numbers_in_ranges more) (listed_at lun es')
    ∙ ap (λ (l : List ℕ). numbers_in_ranges rs ++ (l ++ listed_at lun es')) taken
    ∙ ap (λ (l : List Entry). numbers_in_ranges rs ++ (listed_at lun (take n es) ++ listed_at lun l)) left
    ∙ ap (λ (l : List ℕ). numbers_in_ranges rs ++ l) (sym (listed_both lun (take n es) (drop n es)))
    ∙ ap (λ (l : List Entry). numbers_in_ranges rs ++ listed_at lun l) (take-append-drop n es)

at_length : (lun : ℕ) (ns : List (ℕ × ℕ)) → length (at lun ns) ≡ count_at lun ns
at_length lun ns = length-map (filter (λ (n : ℕ × ℕ). n.0 == lun) ns) (λ (n : ℕ × ℕ). n.1) ∙ length-filter (λ (n : ℕ × ℕ). n.0 == lun) ns

listed_length : (lun : ℕ) (es : List Entry) → length (listed_at lun es) ≡ sum_by (λ (e : Entry). count_at lun e.numbers) es
listed_length lun [] = refl
listed_length lun (e ∷ es) =
    ap length (at_both lun e.numbers (flat_map (λ (e : Entry). e.numbers) es))
    ∙ length-append (at lun e.numbers) (listed_at lun es)
    ∙ ap (λ (k : ℕ). k + length (listed_at lun es)) (at_length lun e.numbers)
    ∙ ap (λ (k : ℕ). count_at lun e.numbers + k) (listed_length lun es)
    ∙ sym (sum_by-cons (λ (e : Entry). count_at lun e.numbers) e es)

-- how many numbers a unit's ranges and the entries have
told_length : (lun : ℕ) (rs : List NumberRange) (es : List Entry) → told_at lun rs es ≡ length (numbers_in_ranges rs ++ listed_at lun es)
told_length lun rs es =
    sym (length-append (numbers_in_ranges rs) (listed_at lun es) ∙ ap (λ (k : ℕ). length (numbers_in_ranges rs) + k) (listed_length lun es))

pub stays_counted : (drained : List ℕ) (es es' : List Entry) (r r' : SettledRanges) (a : Amounts) → SettlesAll drained es r es' r' → IsCounted r es a → IsCounted r' es' a
stays_counted drained es es' r r' a s c = (
  c.0 ∙ told_length 0 r.zero es ∙ sym (ap length s.zero) ∙ sym (told_length 0 r'.zero es'),
  c.1 ∙ told_length 1 r.one es ∙ sym (ap length s.one) ∙ sym (told_length 1 r'.one es'),
  c.2 ∙ told_length 2 r.two es ∙ sym (ap length s.two) ∙ sym (told_length 2 r'.two es'),
  c.3 ∙ told_length 3 r.three es ∙ sym (ap length s.three) ∙ sym (told_length 3 r'.three es'),
  c.4 ∙ told_length 4 r.four es ∙ sym (ap length s.four) ∙ sym (told_length 4 r'.four es'),
)

-- also where memory for it was refused, and nothing has changed
pub counted_after : {A E : Type 0} (o : Result A E) (drained : List ℕ) (es es' : List Entry) (r r' : SettledRanges) (a : Amounts)
    → OnOk o (SettlesAll drained es r es' r') → OnErr o (es' ≡ es) → OnErr o (r' ≡ r) → IsCounted r es a → IsCounted r' es' a
counted_after (Ok x) drained es es' r r' a settled same_entries same_ranges c = stays_counted drained es es' r r' a settled c
counted_after (Err e) drained es es' r r' a settled same_entries same_ranges c =
    subst (λ (l : List Entry). IsCounted r' l a) (sym same_entries) (subst (λ (q : SettledRanges). IsCounted q es a) (sym same_ranges) c)
