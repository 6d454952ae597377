-- The relative target ports of the target (profile).
use Rattle.std.specs.Prelude.{ℕ, Bool, ◌&&◌, nat_le}

-- 1 to 4
abbrev pub is_target_port : ℕ → Bool
is_target_port port = nat_le 1 port && nat_le port 4
