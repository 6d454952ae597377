-- The unit attention conditions that wait for one nexus (SPC-4, "Unit attention condition"): a list in order of raising.
use Rattle.std.specs.Prelude.{ℕ, ◌+◌, ◌≤◌, Bool, true, false, not, ◌==◌, if◌then◌else◌, List, [], ◌∷◌, ◌++◌, filter, find, Option}
use Rattle.std.specs.List.{list_any}
use Rattle.unit_attention.specs.declared.kind.Kind.{Kind}
use Rattle.unit_attention.specs.declared.kind.Kind.TheVariants.{PowerOn, BusDeviceReset, NexusLoss, MediumChanged, ModeParametersChanged, LogParametersChanged, ReservationsPreempted, ReservationsReleased, RegistrationsPreempted}

-- the kinds, numbered in their order
abbrev pub number_of : Kind → ℕ
number_of PowerOn = 0
number_of BusDeviceReset = 1
number_of NexusLoss = 2
number_of MediumChanged = 3
number_of ModeParametersChanged = 4
number_of LogParametersChanged = 5
number_of ReservationsPreempted = 6
number_of ReservationsReleased = 7
number_of RegistrationsPreempted = 8

abbrev pub same_kind : Kind → Kind → Bool
same_kind a b = number_of a == number_of b

-- those of ASC 29h, which are reported before a reservation is looked at
abbrev pub is_reset : Kind → Bool
is_reset PowerOn = true
is_reset BusDeviceReset = true
is_reset NexusLoss = true
is_reset k = false

abbrev pub is_pending : List Kind → Kind → Bool
is_pending ks k = list_any (same_kind k) ks

-- after one more is raised: 29h/00h empties the list first, and a kind that waits already changes nothing
abbrev pub with_kind : List Kind → Kind → List Kind
with_kind ks PowerOn = PowerOn ∷ []
with_kind ks k = if is_pending ks k then ks else ks ++ k ∷ []

-- after one was reported
abbrev pub without_kind : List Kind → Kind → List Kind
without_kind ks k = filter (λ x. not (same_kind k x)) ks

-- the oldest of ASC 29h, and the oldest of the others
abbrev pub oldest_reset : List Kind → Option Kind
oldest_reset ks = find is_reset ks

abbrev pub oldest_other : List Kind → Option Kind
oldest_other ks = find (λ k. not (is_reset k)) ks

-- how often a kind waits
abbrev pub times : List Kind → Kind → ℕ
times [] k = 0
times (x ∷ ks) k = (if same_kind k x then 1 else 0) + times ks k

-- each kind waits once at most
abbrev pub IsOnce : List Kind → Type 0
IsOnce ks = (k : Kind) → times ks k ≤ 1
