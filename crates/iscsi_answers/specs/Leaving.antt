-- When a logout is asked for (RFC 7143, "Asynchronous Message").
use Rattle.std.specs.Prelude.{ℕ, Bool, true, false, Option, None}

-- all sessions are to end within so many seconds: a logout is asked for within these, once
abbrev pub seconds_to_leave : (ends : Option ℕ) → (is_asked : Bool) → Option ℕ
seconds_to_leave ends true = None
seconds_to_leave ends false = ends
