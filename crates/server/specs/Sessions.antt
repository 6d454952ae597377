-- What sessions make of a seat, one after another. `notes s d t` says that a call with the answer d makes t of s, `settles drained s t` that settling
-- it by these numbers does, and `count` how many units there are.
use Rattle.std.specs.Prelude.{◌≡◌, ℕ, List, [], ◌∷◌, Option, Some, None}
use Rattle.scsi_nexus.specs.declared.nexus.Nexus.{Nexus}
use Rattle.logical_unit.specs.Answers.{DoneValue}
use Rattle.session.specs.Answering.{ComesByCalls}
use Rattle.session.specs.Leaving.{IsLeft}
use Rattle.iscsi_session.specs.declared.register.NexusEnd.{NexusEnd}
use Rattle.iscsi_session.specs.declared.register.NexusEnd.TheVariants.{Lost, GoesOn}
use Rattle.server.specs.SeatService.{DoesForWorker, MaySettle}

-- whose a session was, and what became of that nexus at its end; `None`: nobody was let in
abbrev pub Whose : Type 0
Whose = Option (Nexus × NexusEnd)

-- calls of a nexus, and resets, and then the loss of that nexus at every unit, once, unless it goes on by another session
abbrev pub ComesToEnd : {S : Type 0} → (S → DoneValue → S → Type 0) → (count : S → ℕ) → Nexus → NexusEnd → S → S → Type 0
ComesToEnd notes count n Lost s t = IsLeft notes count n s t
ComesToEnd notes count n GoesOn s t = ComesByCalls notes n s t

abbrev pub ComesByOne : {S : Type 0} → (S → DoneValue → S → Type 0) → (count : S → ℕ) → Whose → S → S → Type 0
ComesByOne notes count None s t = t ≡ s
ComesByOne notes count (Some who) s t = ComesToEnd notes count who.0 who.1 s t

-- what some session leaves
abbrev pub Leaves : {S : Type 0} → (S → DoneValue → S → Type 0) → (count : S → ℕ) → S → S → Type 0
Leaves notes count s t = (who : Whose) × ComesByOne notes count who s t

-- one session after another, each of the nexus that was let in, or of nobody; behind each call and each session it may be settled
abbrev pub Sessions : {S : Type 0} → (S → DoneValue → S → Type 0) → (settles : List ℕ → S → S → Type 0) → (count : S → ℕ) → List Whose → S → S → Type 0
Sessions notes settles count [] s t = t ≡ s
Sessions {S} notes settles count (who ∷ others) s t =
    (m k : S) × ComesByOne (DoesForWorker notes settles) count who s m × MaySettle settles m k × Sessions notes settles count others k t

abbrev pub ComesBySessions : {S : Type 0} → (S → DoneValue → S → Type 0) → (settles : List ℕ → S → S → Type 0) → (count : S → ℕ) → S → S → Type 0
ComesBySessions notes settles count s t = (sessions : List Whose) × Sessions notes settles count sessions s t
