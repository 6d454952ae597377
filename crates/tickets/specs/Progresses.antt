-- How far something is kept that a keeper is asked for again and again (profile).
use Rattle.std.specs.Prelude.{ℕ, ◌+◌, nat_le, max, min, Bool, Option, Some, None, is_some, if◌then◌else◌}
use Rattle.tickets.specs.declared.ticket.Outcome.{Outcome}
use Rattle.tickets.specs.declared.ticket.Outcome.TheVariants.{Kept, Lost}
use Rattle.tickets.specs.declared.progress.Progress.{Progress}

-- nobody has asked
abbrev pub begun : Progress
begun = record { asked = 0; kept = 0; lost = 0 }

-- the number of what is asked for next
abbrev pub next_number : Progress → ℕ
next_number p = min (p.asked + 1) 0xFFFFFFFFFFFFFFFF

abbrev pub asked : Progress → Progress
asked p = record p { asked = next_number p }

-- that ended so, as far as a number
abbrev pub settled : (number : ℕ) → Outcome → Progress → Progress
settled number Kept p = record p { kept = max p.kept number }
settled number Lost p = record p { lost = max p.lost number }

-- what is kept up to a number was lost no more
abbrev pub outcome_at : (number : ℕ) → Progress → Option Outcome
outcome_at number p = if nat_le number p.kept then Some Kept else if nat_le number p.lost then Some Lost else None

abbrev pub is_settled : Progress → Bool
is_settled p = is_some (outcome_at p.asked p)

-- values of worked rows
abbrev pub progress : (asked kept lost : ℕ) → Progress
progress asked kept lost = record { asked = asked; kept = kept; lost = lost }
