-- The numbers of records.
use Rattle.std.proofs.Common.{◌≡◌, ℕ, zero, suc, ◌+◌, List, [], ◌∷◌, ◌++◌, length, arith}
use Rattle.audit_log.specs.TrailView.{IsNumbered, CountsUp}
use Rattle.audit_log.specs.declared.record.Record.{Record}

-- a record with the next number may go at the end
pub IsNumbered-push : (last : ℕ) (rs : List Record) (r : Record) → IsNumbered last rs → r.number ≡ last + length rs + 1 → IsNumbered last (rs ++ r ∷ [])
IsNumbered-push last [] r numbered next = (omega arith, tt)
IsNumbered-push last (x ∷ xs) r numbered next = (numbered.0, IsNumbered-push (last + 1) xs r numbered.1 (omega arith))

-- a record's number is told by its place
pub number_at : CountsUp
number_at last [] place d numbered within = omega (arith, within)
number_at last (r ∷ rs) zero d numbered within = omega (arith, numbered.0)
number_at last (r ∷ rs) (suc place) d numbered within = omega (arith, number_at (last + 1) rs place d numbered.1 (omega arith))
