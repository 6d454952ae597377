-- What calls for a worker make of its seat, and what settling it does. `settles drained s t` says that settling it by the numbers up to which each
-- unit's records were handed out, by LUN, makes t of s, and `notes s d t` that a call with the answer d does.
use Rattle.std.specs.Prelude.{◌≡◌, ◌⊎◌, ℕ, List}
use Rattle.logical_unit.specs.Answers.{DoneValue}

-- it was settled by some numbers, or nothing has changed
abbrev pub MaySettle : {S : Type 0} → (settles : List ℕ → S → S → Type 0) → S → S → Type 0
MaySettle settles p q = (q ≡ p) ⊎ ((drained : List ℕ) × settles drained p q)

-- what a call with this answer does for a worker: what it does to the seat, which then may be settled
abbrev pub DoesForWorker : {S : Type 0} → (notes : S → DoneValue → S → Type 0) → (settles : List ℕ → S → S → Type 0) → S → DoneValue → S → Type 0
DoesForWorker {S} notes settles p d q = (m : S) × notes p d m × MaySettle settles m q
