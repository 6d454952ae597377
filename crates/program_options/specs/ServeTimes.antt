-- How long a served library waits for its hosts, in nanoseconds (profile).
use Rattle.std.specs.Prelude.{ℕ, ◌*◌, ◌==◌, Option, Some, None, if◌then◌else◌}

abbrev pub nanos_of : ℕ → ℕ
nanos_of seconds = seconds * 1_000_000_000

-- 0 seconds is never
abbrev pub timeout_nanos : ℕ → Option ℕ
timeout_nanos seconds = if seconds == 0 then None else Some (nanos_of seconds)
