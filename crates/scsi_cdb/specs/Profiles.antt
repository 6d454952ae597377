-- What the two profiles have in common.
use Rattle.std.specs.Prelude.{◌≡◌, ℕ, List, Ok}
use Rattle.scsi_cdb.specs.Commands.{decoded}
use Rattle.scsi_cdb.specs.Kinds.{commands}
use Rattle.scsi_cdb.specs.declared.kind.Kind.{Kind}
use Rattle.scsi_cdb.specs.declared.profile.Profile.TheVariants.{Spec, Hosts}
use Rattle.scsi_cdb.specs.declared.request.Request.{Request}

-- a CDB of a command that both have says the same in both
abbrev pub HostsDecodeWhatSpecDecodes : Type 0
HostsDecodeWhatSpecDecodes = (kind : Kind) (cdb : List ℕ) (r : Request) → decoded (commands Spec kind) cdb ≡ Ok r → decoded (commands Hosts kind) cdb ≡ Ok r
