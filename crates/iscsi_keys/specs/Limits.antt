-- The longest data segment, and the longest first bursts (profile).
use Rattle.std.specs.Prelude.{ℕ}
use Rattle.scsi_cdb.specs.declared.profile.Profile.{Profile}
use Rattle.scsi_cdb.specs.declared.profile.Profile.TheVariants.{Spec, Hosts}

-- the most bytes of a data segment that comes to the target: its own MaxRecvDataSegmentLength
abbrev pub segment_limit : ℕ
segment_limit = 262144

-- the most bytes of data that come with a command unasked, in a library of a profile: the target's own FirstBurstLength. In the hosts' profile
-- longer commands are taken, and what waits with such a burst is to fit beside one of these.
abbrev pub most_first_burst : Profile → ℕ
most_first_burst Spec = 262144
most_first_burst Hosts = 65536
