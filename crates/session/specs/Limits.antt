-- The most that waits to be written in a session of a library of a profile.
use Rattle.std.specs.Prelude.{ℕ, ◌*◌}
use Rattle.scsi_cdb.specs.declared.profile.Profile.{Profile}
use Rattle.frames.specs.Limits.{reply_size_limit}

-- room for what waits to be written, a longest reply at the most, and for another behind it
abbrev pub out_room : Profile → ℕ
out_room profile = 2 * reply_size_limit profile
