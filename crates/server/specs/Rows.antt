-- Values of worked rows: sessions at a service of one unit that keeps each answer and is never settled.
use Rattle.std.specs.Prelude.{◌≡◌, ℕ, List, [], ◌∷◌, ◌++◌, Option, Some}
use Rattle.scsi_nexus.specs.declared.nexus.Nexus.{Nexus}
use Rattle.logical_unit.specs.Answers as event
use Rattle.logical_unit.specs.Answers.{DoneValue, IsAnswer}
use Rattle.server.specs.Sessions.{Sessions, Whose}

abbrev pub a : Nexus
a = record { sas = 0x500000000000000A; port = 1 }

abbrev pub b : Nexus
b = record { sas = 0x500000000000000B; port = 1 }

abbrev pub KeepsAnswer : List DoneValue → DoneValue → List DoneValue → Type 0
KeepsAnswer s d t = t ≡ s ++ d ∷ []

abbrev pub NeverSettles : (drained : List ℕ) → List DoneValue → List DoneValue → Type 0
NeverSettles drained s t = ⊥

-- these answers and no others were given to sessions of these
abbrev pub Gives : List Whose → List DoneValue → Type 0
Gives sessions answers = Sessions KeepsAnswer NeverSettles (λ _. 1) sessions [] answers

-- TEST UNIT READY
abbrev pub IsCommandOf : Nexus → DoneValue → Type 0
IsCommandOf n d = IsAnswer d (Some n) 0 (event.Command (0 ∷ 0 ∷ 0 ∷ 0 ∷ 0 ∷ 0 ∷ []) [])

abbrev pub IsLossOf : Nexus → DoneValue → Type 0
IsLossOf n d = IsAnswer d (Some n) 0 event.Loss
