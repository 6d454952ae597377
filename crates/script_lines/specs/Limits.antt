-- The longest line of a script for libraries of a profile.
use Rattle.std.specs.Prelude.{ℕ}
use Rattle.scsi_cdb.specs.declared.profile.Profile.{Profile}
use Rattle.scsi_cdb.specs.declared.profile.Profile.TheVariants.{Spec, Hosts}

-- the most bytes of a line, without its line feed (profile)
abbrev pub line_limit : Profile → ℕ
line_limit Spec = 270000
line_limit Hosts = 2240000
