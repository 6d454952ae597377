use Rattle.std.specs.Prelude.{ℕ}
use Rattle.scsi_cdb.specs.declared.profile.Profile.{Profile}
use Rattle.scsi_cdb.specs.declared.profile.Profile.TheVariants.{Spec, Hosts}

-- the most bytes of a logical block that is written in a library of a profile, and of the data of one command there (profile)
abbrev pub most_block : Profile → ℕ
most_block Spec = 65536
most_block Hosts = 1048576

-- the most logical objects of a tape that is written there (profile)
abbrev pub most_objects : Profile → ℕ
most_objects Spec = 1000000
most_objects Hosts = 16777216

-- the most bytes of a logical block, in any profile
abbrev pub block_limit : ℕ
block_limit = 1048576

-- the most bytes of blocks that a tape is made for
abbrev pub capacity_limit : ℕ
capacity_limit = 68719476736

-- the most logical objects of a tape, in any profile
abbrev pub object_limit : ℕ
object_limit = 16777216
