-- Runs of which the commands of some nexuses to one unit are struck out, and what then stays the same.
use Rattle.std.specs.Prelude.{◌≡◌, ◌≢◌, ℕ, Bool, true, false, not, ◌==◌, ◌&&◌, if◌then◌else◌, List, [], ◌∷◌, slice_get, Some}
use Rattle.scsi_nexus.specs.declared.nexus.Nexus.{Nexus}
use Rattle.scsi_sense.specs.declared.status.Status.TheVariants.{Busy}
use Rattle.judgement.specs.declared.reply.Reply.{Reply}
use Rattle.logical_unit.specs.UnitView.{UnitView}
use Rattle.target_core.specs.declared.event.Event.{Event}
use Rattle.target_core.specs.declared.event.Event.TheVariants as event
use Rattle.target_core.specs.Run.{Steps}

-- WHAT IS STRUCK OUT

-- a command of a nexus outside to the unit; losses and resets stay
abbrev pub is_struck : (lun : ℕ) (inside : Nexus → Bool) → Event → Bool
is_struck lun inside (event.Command n at cdb bytes) = at == lun && not (inside n)
is_struck lun inside (event.Loss n at) = false
is_struck lun inside (event.Reset at) = false

-- the events without those
abbrev pub struck : (lun : ℕ) (inside : Nexus → Bool) → List Event → List Event
struck lun inside [] = []
struck lun inside (e ∷ es) = if is_struck lun inside e then struck lun inside es else e ∷ struck lun inside es

-- RUNS

-- a run of whose steps each is such
abbrev pub RunsThrough : (List UnitView → Event → Reply → List UnitView → Type 0) → List UnitView → List Event → List Reply → List UnitView → Type 0
RunsThrough Such us [] [] vs = vs ≡ us
RunsThrough Such us (e ∷ es) (r ∷ rs) vs = (mid : List UnitView) × Steps us e (mid, r) × Such us e r mid × RunsThrough Such mid es rs vs
RunsThrough Such us [] (r ∷ rs) vs = ⊥
RunsThrough Such us (e ∷ es) [] vs = ⊥

-- not BUSY
abbrev pub IsServed : List UnitView → Event → Reply → List UnitView → Type 0
IsServed us e r ms = r.status ≢ Busy

-- what a step leaves at one unit, and what its commands may be
abbrev pub Goes : (lun : ℕ) (Kept : UnitView → Type 0) (May : Nexus → (cdb bytes : List ℕ) → UnitView → UnitView → Type 0) → Event → UnitView → UnitView → Type 0
Goes lun Kept May (event.Command n at cdb bytes) u v = Kept v × ((at == lun) ≡ true → May n cdb.items bytes.items u v)
Goes lun Kept May (event.Loss n at) u v = Kept v
Goes lun Kept May (event.Reset at) u v = Kept v

-- a step of a span: not BUSY, and at the unit as it is to be
pub record InSpan (lun : ℕ) (Kept : UnitView → Type 0) (May : Nexus → (cdb bytes : List ℕ) → UnitView → UnitView → Type 0) (us : List UnitView) (e : Event) (r : Reply) (ms : List UnitView) : Type 0 where
  pub served : r.status ≢ Busy
  pub goes : (u v : UnitView) → slice_get us lun ≡ Some u → slice_get ms lun ≡ Some v → Goes lun Kept May e u v

-- WHAT STAYS THE SAME

-- whether an event is one at a unit
abbrev pub is_at : ℕ → Event → Bool
is_at lun (event.Command n at cdb bytes) = at == lun
is_at lun (event.Loss n at) = at == lun
is_at lun (event.Reset at) = at == lun

-- whether the data of an answer are to be the same
abbrev pub is_exact : (lun : ℕ) (exact : Nexus → (cdb bytes : List ℕ) → Bool) → Event → Bool
is_exact lun exact (event.Command n at cdb bytes) = if at == lun then exact n cdb.items bytes.items else true
is_exact lun exact (event.Loss n at) = true
is_exact lun exact (event.Reset at) = true

-- the answers to one event in two runs: the data where they are to be exact, and the number of the record where that is the same
pub record SameReply (exact numbered : Bool) (r q : Reply) : Type 0 where
  pub status : r.status ≡ q.status
  pub sense : r.sense ≡ q.sense
  pub payload : exact ≡ true → r.payload ≡ q.payload
  pub number : numbered ≡ true → r.number ≡ q.number

-- the next reply is such, and the rest are
abbrev pub TellsNext : (Reply → Type 0) → (List Reply → Type 0) → List Reply → Type 0
TellsNext Such Rest [] = ⊥
TellsNext Such Rest (q ∷ qs) = Such q × Rest qs

-- each event that isn't struck out is answered alike: at the unit but for the numbers of its records, elsewhere the very same
abbrev pub Tells : (lun : ℕ) (inside : Nexus → Bool) (exact : Event → Bool) → List Event → (rs qs : List Reply) → Type 0
Tells lun inside exact [] [] [] = Unit {0}
Tells lun inside exact (e ∷ es) (r ∷ rs) qs = elim (is_struck lun inside e) [
  | true ↦ Tells lun inside exact es rs qs
  | false ↦ TellsNext (SameReply (exact e) (not (is_at lun e)) r) (Tells lun inside exact es rs) qs
]
Tells lun inside exact [] rs qs = ⊥
Tells lun inside exact es [] qs = ⊥

-- the unit's device is the same at the end, and so is each other unit, whole
pub record EndsAlike (lun : ℕ) (vs ws : List UnitView) : Type 0 where
  pub device : (v w : UnitView) → slice_get vs lun ≡ Some v → slice_get ws lun ≡ Some w → v.device ≡ w.device
  pub others : (k : ℕ) → k ≢ lun → slice_get vs k ≡ slice_get ws k

-- a run of these events in which nothing is BUSY
pub record Serves (ws : List UnitView) (es : List Event) : Type 0 where
  pub units : List UnitView
  pub replies : List Reply
  pub run : RunsThrough IsServed ws es replies units
