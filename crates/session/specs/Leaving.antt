-- What a session leaves at the service, however it ends and by whatever frames or PDUs it was held. `notes s d t` says that a call with the answer
-- d makes t of the service s, and `count` how many units it has.
use Rattle.std.specs.Prelude.{◌≡◌, ℕ, Bool, Option, Some, None}
use Rattle.scsi_nexus.specs.declared.nexus.Nexus.{Nexus}
use Rattle.logical_unit.specs.Answers.{DoneValue}
use Rattle.session.specs.Answering.{ComesByCalls}
use Rattle.session.specs.Serving.{IsLostBelow}

-- calls of a nexus, and resets, and then the loss of that nexus at every unit, once
pub record IsLeft {S : Type 0} (notes : S → DoneValue → S → Type 0) (count : S → ℕ) (n : Nexus) (s t : S) : Type 0 where
  pub before : S
  pub all : Bool
  pub calls : ComesByCalls notes n s before
  pub lost : IsLostBelow notes n (count before) before t all

-- a session of the nexus that was let in, or one that does nothing where none was
abbrev pub ComesBySession : {S : Type 0} → (S → DoneValue → S → Type 0) → (count : S → ℕ) → Option Nexus → S → S → Type 0
ComesBySession notes count None s t = t ≡ s
ComesBySession notes count (Some n) s t = IsLeft notes count n s t

-- the same of some nexus, or of none
abbrev pub Leaves : {S : Type 0} → (S → DoneValue → S → Type 0) → (count : S → ℕ) → S → S → Type 0
Leaves notes count s t = (who : Option Nexus) × ComesBySession notes count who s t
