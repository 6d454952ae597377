-- What was written to the volume in a drive and isn't copied yet (profile).
use Rattle.std.specs.Prelude.{ℕ, ◌+◌, ◌-◌, ◌&&◌, nat_le, min, not, Bool, true, false}
use Rattle.saved_media.specs.declared.backlog.Backlog.{Backlog}

abbrev pub backlog : (bytes : ℕ) → (is_stuck : Bool) → Backlog
backlog bytes is_stuck = record { bytes = bytes; is_stuck = is_stuck }

abbrev pub is_some_behind : Backlog → Bool
is_some_behind b = nat_le 1 b.bytes

-- 8 MiB are copied at once, and by 64 MiB who writes on waits; but for nothing that couldn't be copied
abbrev pub is_many : Backlog → Bool
is_many b = nat_le 0x800000 b.bytes && not b.is_stuck

abbrev pub is_too_much : Backlog → Bool
is_too_much b = nat_le 0x4000000 b.bytes && not b.is_stuck

abbrev pub added : (bytes : ℕ) → Backlog → Backlog
added bytes b = record b { bytes = min (b.bytes + bytes) 0xFFFFFFFFFFFFFFFF }

-- copying goes on
abbrev pub taken : (bytes : ℕ) → Backlog → Backlog
taken bytes b = record { bytes = b.bytes - bytes; is_stuck = false }

abbrev pub stuck : Backlog → Backlog
stuck b = record b { is_stuck = true }
