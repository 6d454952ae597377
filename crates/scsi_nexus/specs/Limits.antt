-- How much is kept (profile).
use Rattle.std.specs.Prelude.{ℕ}

-- how many nexuses a list of them has room for
abbrev pub list_limit : ℕ
list_limit = 256
