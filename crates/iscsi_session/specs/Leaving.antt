-- What a connection leaves at the service. `notes s d t` says that a call with the answer d makes t of the service s.
use Rattle.std.specs.Prelude.{◌≡◌, ◌⊎◌, ℕ, Bool, true}
use Rattle.scsi_nexus.specs.declared.nexus.Nexus.{Nexus}
use Rattle.logical_unit.specs.Answers.{DoneValue}
use Rattle.session.specs.Answering.{ComesByCalls}
use Rattle.session.specs.Serving.{IsLostBelow}

-- a nexus is lost at every unit, once, or at none where another session of it goes on
abbrev pub IsLostUnless : {S : Type 0} → (S → DoneValue → S → Type 0) → (goes_on : Type 0) → Nexus → (units : ℕ) → S → S → (all : Bool) → Type 0
IsLostUnless notes goes_on n units s t all = IsLostBelow notes n units s t all ⊎ (goes_on × (t ≡ s) × (all ≡ true))

-- calls of one nexus at the port, and resets, and then the loss of that nexus at every unit, once, unless another session of it goes on
pub record IsHeld {S : Type 0} (notes : S → DoneValue → S → Type 0) (count : S → ℕ) (others : Nexus → Type 0) (port : ℕ) (s t : S) : Type 0 where
  pub nexus : Nexus
  pub before : S
  pub all : Bool
  pub comes_to_port : nexus.port ≡ port
  pub calls : ComesByCalls notes nexus s before
  pub lost : IsLostUnless notes (others nexus) nexus (count before) before t all

-- that, or nothing
abbrev pub Leaves : {S : Type 0} → (S → DoneValue → S → Type 0) → (count : S → ℕ) → (others : Nexus → Type 0) → (port : ℕ) → S → S → Type 0
Leaves notes count others port s t = (t ≡ s) ⊎ IsHeld notes count others port s t
