-- The time at which records were taken (RFC 3339, "Internet Date/Time Format").
use Rattle.std.specs.Prelude.{◌≡◌, ℕ, pos, List, ◌++◌, codes, false, Some}
use Rattle.jiff_core.specs.declared.civil.datetime.DateTime.{DateTime}
use Rattle.jiff_core.specs.DateTime.{civil_nanos}
use Rattle.jiff_fmt.specs.Text.{datetime_text}

-- what a clock at UTC shows so many nanoseconds after 1970-01-01T00:00:00Z, with T (84) before the time, three places of a fraction and Z
pub record IsTimeText (nanoseconds : ℕ) (text : List ℕ) : Type 0 where
  pub shown : DateTime
  pub instant : civil_nanos shown ≡ pos nanoseconds
  pub written : text ≡ datetime_text false 84 (Some 3) shown ++ codes "Z"
