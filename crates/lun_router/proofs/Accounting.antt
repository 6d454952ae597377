-- A unit and the seats at the end: from what they agree on, and from the unit's book.
use Rattle.std.proofs.Common.{◌≡◌, ℕ, ◌+◌, List, Option, Some, None, sym, ap, ◌∙◌, subst}
use Rattle.std.specs.Prelude.{IfSome, sum_by}
use Rattle.std.specs.Option.{option_map}
use Rattle.logical_unit.specs.UnitView.{UnitView, last_number}
use Rattle.settled_numbers.specs.declared.number_range.NumberRange.{NumberRange}
use Rattle.settled_numbers.specs.Numbers.{count}
use Rattle.kept_unit.specs.Agreeing.{Agrees}
use Rattle.lun_router.specs.Closing.{IsAccounted}
use Rattle.lun_router.specs.Seats.{SeatValue, amount_at, notes_at}

abbrev Agreeing : (lun since : ℕ) → UnitView → List NumberRange → List SeatValue → Type 0
Agreeing lun since u handed seats = Agrees (notes_at lun) lun since u.base.last u.records handed seats

-- v is the unit as it was kept, u as it is handed back
pub accounted : (lun since amount : ℕ) (u v : UnitView) (handed : List NumberRange) (lent seats : List SeatValue) → u ≡ v
    → Agrees (notes_at lun) lun since v.base.last v.records handed lent → lent ≡ seats
    → last_number u ≡ since + (count handed + amount) → amount ≡ sum_by (λ (s : SeatValue). amount_at lun s.amounts) seats → IsAccounted lun since u seats
accounted lun since amount u v handed lent seats is agrees same sum counted = record {
  handed_over = handed;
  agrees = subst (λ (x : UnitView). Agreeing lun since x handed seats) (sym is) (subst (λ (l : List SeatValue). Agreeing lun since v handed l) same agrees);
  sum = sum ∙ ap (λ (k : ℕ). since + (count handed + k)) counted;
}

-- the same of one that may be absent
pub accounted_if_there : {A K : Type 0} (of : A → UnitView) (unit : K → UnitView) (handed : K → List NumberRange) (lun since amount : ℕ) (a : Option A) (k : Option K) (lent seats : List SeatValue)
    → option_map of a ≡ option_map unit k → IfSome k (λ k. Agrees (notes_at lun) lun since (unit k).base.last (unit k).records (handed k) lent) → lent ≡ seats
    → IfSome a (λ u. IfSome k (λ k. last_number (of u) ≡ since + (count (handed k) + amount))) → amount ≡ sum_by (λ (s : SeatValue). amount_at lun s.amounts) seats
    → IfSome a (λ u. IsAccounted lun since (of u) seats)
accounted_if_there of unit handed lun since amount None k lent seats is agrees same sum counted = tt
accounted_if_there of unit handed lun since amount (Some u) None lent seats is agrees same sum counted = absurd (cc)
accounted_if_there of unit handed lun since amount (Some u) (Some k) lent seats is agrees same sum counted =
    let there : of u ≡ unit k = cc in
    accounted lun since amount (of u) (unit k) (handed k) lent seats there agrees same sum counted
