-- The shares of a seat after a call.
use Rattle.std.proofs.Common.{◌≡◌, ℕ, ◌+◌, List, [], ◌∷◌, ◌++◌, sym, ap, ◌∙◌, arith}
use Rattle.std.specs.Prelude.{sum_by}
use Rattle.std.proofs.lemmas.List.Sums.{sum_by-append, sum_by-cons}
use Rattle.logical_unit.specs.declared.entry.Entry.{Entry}
use Rattle.settled_numbers.specs.declared.number_range.NumberRange.{NumberRange}
use Rattle.logical_unit.specs.Answers.{DoneValue, entry_of, count_at}
use Rattle.lun_router.specs.Shares.{Amounts, Rise}
use Rattle.lun_router.specs.Seats.{SettledRanges, IsCounted, told_at}

-- one entry more
told_more : (lun : ℕ) (rs : List NumberRange) (es : List Entry) (e : Entry) → told_at lun rs (es ++ e ∷ []) ≡ told_at lun rs es + count_at lun e.numbers
told_more lun rs es e =
    let f : Entry → ℕ = λ (e : Entry). count_at lun e.numbers in
    let both : sum_by f (es ++ e ∷ []) ≡ sum_by f es + sum_by f (e ∷ []) = sum_by-append f es (e ∷ []) in
    let one : sum_by f (e ∷ []) ≡ f e + sum_by f [] = sum_by-cons f e [] in
    omega (arith, both, one)

counts_more : (lun : ℕ) (rs : List NumberRange) (es es' : List Entry) (e : Entry) (d : DoneValue) (a b : ℕ) → es' ≡ es ++ e ∷ [] → e ≡ entry_of d → a ≡ told_at lun rs es → b ≡ a + count_at lun d.numbers → b ≡ told_at lun rs es'
counts_more lun rs es es' e d a b more of counted rise =
    rise
    ∙ ap (λ (k : ℕ). k + count_at lun d.numbers) counted
    ∙ ap (λ (e : Entry). told_at lun rs es + count_at lun e.numbers) (sym of)
    ∙ sym (told_more lun rs es e)
    ∙ ap (told_at lun rs) (sym more)

-- shares that rose by the numbers of a call count those of its entry too
pub counted_more : (r : SettledRanges) (es es' : List Entry) (e : Entry) (d : DoneValue) (a b : Amounts) → es' ≡ es ++ e ∷ [] → e ≡ entry_of d → IsCounted r es a → Rise a d.numbers b → IsCounted r es' b
counted_more r es es' e d a b more of c rise = (
  counts_more 0 r.zero es es' e d a.zero b.zero more of c.0 rise.0,
  counts_more 1 r.one es es' e d a.one b.one more of c.1 rise.1,
  counts_more 2 r.two es es' e d a.two b.two more of c.2 rise.2,
  counts_more 3 r.three es es' e d a.three b.three more of c.3 rise.3,
  counts_more 4 r.four es es' e d a.four b.four more of c.4 rise.4,
)
