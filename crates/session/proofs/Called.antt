-- Calls one after another.
use Rattle.std.proofs.Common.{◌≡◌, List, [], ◌∷◌, ◌++◌, refl, subst}
use Rattle.scsi_nexus.specs.declared.nexus.Nexus.{Nexus}
use Rattle.logical_unit.specs.Answers.{DoneValue}
use Rattle.session.specs.Answering.{IsCall, Calls, ComesByCalls}

calls_append : {S : Type 0} (notes : S → DoneValue → S → Type 0) (n : Nexus) (s : S) (ds es : List DoneValue) (t u : S)
    → Calls notes n s ds t → Calls notes n t es u → Calls notes n s (ds ++ es) u
calls_append notes n s [] es t u one two = subst (λ x. Calls notes n x es u) one two
calls_append notes n s (d ∷ ds) es t u one two = (one.0, one.1, one.2, calls_append notes n one.0 ds es t u one.3 two)

pub none_called : {S : Type 0} (notes : S → DoneValue → S → Type 0) (n : Nexus) (s : S) → ComesByCalls notes n s s
none_called notes n s = ([], refl)

pub one_called : {S : Type 0} (notes : S → DoneValue → S → Type 0) (n : Nexus) (s t : S) (d : DoneValue) → IsCall n d → notes s d t
    → ComesByCalls notes n s t
one_called notes n s t d is noted = (d ∷ [], (t, is, noted, refl))

pub called_then : {S : Type 0} (notes : S → DoneValue → S → Type 0) (n : Nexus) (s t u : S) → ComesByCalls notes n s t
    → ComesByCalls notes n t u → ComesByCalls notes n s u
called_then notes n s t u one two = (one.0 ++ two.0, calls_append notes n s one.0 two.0 t u one.1 two.1)

-- and then calls of the same nexus by another name
pub called_on : {S : Type 0} (notes : S → DoneValue → S → Type 0) (n m : Nexus) (s t u : S) → m ≡ n → ComesByCalls notes n s t
    → ComesByCalls notes m t u → ComesByCalls notes n s u
called_on notes n m s t u same one two = called_then notes n s t u one (subst (λ (k : Nexus). ComesByCalls notes k t u) same two)
