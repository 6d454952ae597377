-- A normal session, from its login at the service to its end.
use Rattle.std.proofs.Common.{◌≡◌, ℕ, Bool, subst, inr}
use Rattle.scsi_nexus.specs.declared.nexus.Nexus.{Nexus}
use Rattle.logical_unit.specs.Answers.{DoneValue}
use Rattle.session.specs.Answering.{ComesByCalls}
use Rattle.iscsi_session.specs.Leaving.{IsLostUnless, Leaves}

pub is_held : {S : Type 0} (notes : S → DoneValue → S → Type 0) (count : S → ℕ) (others : Nexus → Type 0) (port : ℕ) (n : Nexus) (s s1 before t : S) (all : Bool)
    → n.port ≡ port → s1 ≡ s → ComesByCalls notes n s1 before → IsLostUnless notes (others n) n (count before) before t all
    → Leaves notes count others port s t
is_held notes count others port n s s1 before t all group library calls lost = inr (record {
  nexus = n;
  before = before;
  all = all;
  comes_to_port = group;
  calls = subst (λ x. ComesByCalls notes n x before) library calls;
  lost = lost;
})
