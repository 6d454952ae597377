-- Options that are on or off (profile).
use Rattle.std.specs.Prelude.{Bool, false, Option, Some, None}

-- one that a source says nothing of is off
abbrev pub is_on : Option Bool → Bool
is_on None = false
is_on (Some on) = on
