-- Which drives a MOVE MEDIUM or an EXCHANGE MEDIUM names (SMC-3, "MOVE MEDIUM command", "EXCHANGE MEDIUM command"): the data transfer element of
-- logical unit n has the address 00FFh + n (profile).
use Rattle.std.specs.Prelude.{ℕ, ◌+◌, ◌-◌, ◌==◌, ◌≤◌, nat_lt, Bool, true, List, [], ◌∷◌, ◌++◌, Option, Some, None, Ok, Err, if◌then◌else◌}
use Rattle.std.specs.List.{list_all}
use Rattle.scsi_cdb.specs.Commands.{decoded}
use Rattle.scsi_cdb.specs.declared.classes.Class.{Class}
use Rattle.scsi_cdb.specs.declared.classes.Class.TheVariants as class
use Rattle.scsi_cdb.specs.declared.host_request.HostRequest.TheVariants.{ExchangeMedium}
use Rattle.scsi_cdb.specs.declared.profile.CommandSet.{CommandSet}
use Rattle.scsi_cdb.specs.declared.request.Request.{Request}
use Rattle.scsi_cdb.specs.declared.request.Request.TheVariants.{MoveMedium, Host}
use Rattle.tape_medium.specs.Elements.{first_data_transfer, is_among}
use Rattle.logical_unit.specs.declared.route.Errand.{Errand}
use Rattle.logical_unit.specs.declared.route.Errand.TheVariants.{Move, Exchange}

-- the logical unit number of the drive whose element has an address, among so many drives
abbrev pub drive_at : (drives address : ℕ) → Option ℕ
drive_at drives address = if is_among first_data_transfer drives address then Some (address - 0xFF) else None

abbrev pub errand_in : (drives : ℕ) → Request → Option Errand
errand_in drives (MoveMedium transport source destination invert) =
    Some (Move (record { source = source; destination = destination; from = drive_at drives source; to = drive_at drives destination }))
errand_in drives (Host (ExchangeMedium transport source first second inv1 inv2)) =
    Some (Exchange (record {
      source = source;
      first = first;
      second = second;
      from = drive_at drives source;
      between = drive_at drives first;
      to = drive_at drives second;
    }))
errand_in drives request = None

-- what a CDB asks of volumes at a changer with these commands and so many drives; other commands ask nothing of them
abbrev pub errand_of : CommandSet → (drives : ℕ) → (cdb : List ℕ) → Option Errand
errand_of commands drives cdb = elim (decoded commands cdb) [ Ok request ↦ errand_in drives request | Err fault ↦ None ]

-- the class of the commands that ask for it
abbrev pub class_of_errand : Errand → Class
class_of_errand (Move r) = class.MoveMedium
class_of_errand (Exchange x) = class.ExchangeMedium

-- whether a volume goes from a drive to one of a higher number
abbrev pub is_upward : Option ℕ → Option ℕ → Bool
is_upward (Some from) (Some to) = nat_lt from to
is_upward from to = true

-- two drives, the lower first, and each once
abbrev pub rising : ℕ → ℕ → List ℕ
rising l m = if l == m then l ∷ [] else if nat_lt l m then l ∷ m ∷ [] else m ∷ l ∷ []

abbrev pub named_by : Option ℕ → Option ℕ → List ℕ
named_by None None = []
named_by (Some l) None = l ∷ []
named_by None (Some m) = m ∷ []
named_by (Some l) (Some m) = rising l m

-- the one drive of an exchange; where it would need two different ones, which the changer refuses, it names none
abbrev pub drive_in : Option ℕ → List ℕ
drive_in None = []
drive_in (Some l) = l ∷ []

abbrev pub if_one : List ℕ → List ℕ
if_one [] = []
if_one (l ∷ others) = if list_all (λ (m : ℕ). m == l) others then l ∷ [] else []

abbrev pub named_among : (from between to : Option ℕ) → List ℕ
named_among from between to = if_one (drive_in from ++ drive_in between ++ drive_in to)

abbrev pub named_in : Option Errand → List ℕ
named_in None = []
named_in (Some (Move r)) = named_by r.from r.to
named_in (Some (Exchange x)) = named_among x.from x.between x.to

-- the drives that a CDB names, rising, each once
abbrev pub named : CommandSet → (drives : ℕ) → (cdb : List ℕ) → List ℕ
named commands drives cdb = named_in (errand_of commands drives cdb)

-- how many records a drive has of what it gives or takes: of an exchange one for a volume that it gives, and one for a volume that it takes
abbrev pub records_at : Option ℕ → ℕ
records_at None = 0
records_at (Some l) = 1

abbrev pub records_for : Errand → ℕ
records_for (Move r) = 1
records_for (Exchange x) = records_at x.from + records_at x.between + records_at x.between + records_at x.to

abbrev pub records_of : Option Errand → ℕ
records_of None = 1
records_of (Some errand) = records_for errand

-- each drive that is named is one of so many
abbrev pub IsOneOf : (drives : ℕ) → Option ℕ → Type 0
IsOneOf drives None = Unit {0}
IsOneOf drives (Some l) = l ≤ drives

abbrev pub NamesWithin : (drives : ℕ) → Errand → Type 0
NamesWithin drives (Move r) = IsOneOf drives r.from × IsOneOf drives r.to
NamesWithin drives (Exchange x) = IsOneOf drives x.from × (IsOneOf drives x.between × IsOneOf drives x.to)
