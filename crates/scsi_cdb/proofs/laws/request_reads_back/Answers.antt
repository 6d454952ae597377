use Rattle.std.proofs.Common.{rules, ◌≡◌, true, false, Ok}
use Rattle.scsi_cdb.specs.Commands.{command_of, decoded}
use Rattle.scsi_cdb.specs.Encoding.{encoded, Fits, IsOf}
use Rattle.scsi_cdb.specs.Kinds.{commands}
use Rattle.scsi_cdb.specs.declared.host_request.HostRequest.TheVariants.{PositionToElement}
use Rattle.scsi_cdb.specs.declared.kind.Kind.{Kind}
use Rattle.scsi_cdb.specs.declared.kind.Kind.TheVariants.{Drive, Changer}
use Rattle.scsi_cdb.specs.declared.profile.Profile.{Profile}
use Rattle.scsi_cdb.specs.declared.profile.Profile.TheVariants.{Spec, Hosts}
use Rattle.scsi_cdb.specs.declared.request.Request.{Request}
use Rattle.scsi_cdb.specs.declared.request.Request.TheVariants.{WriteFilemarks, Locate, Host}
use Rattle.scsi_cdb.proofs.laws.request_reads_back.Goals as goal

reads_back : (profile : Profile) (kind : Kind) (r : Request) → IsOf (commands profile kind) r → Fits r → decoded (commands profile kind) (encoded r) ≡ Ok r
unfolding command_of
reads_back Spec Drive (Locate bt cp n partition) is fits = search rules
reads_back Hosts Drive (Locate bt cp n partition) is fits = search rules
reads_back profile Changer (Locate bt cp n partition) is fits = let no : false ≡ true = is.1 in absurd cc
reads_back Hosts Changer (Host (PositionToElement transport destination invert)) is fits = search rules
reads_back Spec Changer (Host (PositionToElement transport destination invert)) is fits = let no : false ≡ true = is.0 in absurd cc
reads_back profile Drive (Host (PositionToElement transport destination invert)) is fits = let no : false ≡ true = is.1 in absurd cc
reads_back Spec kind (WriteFilemarks wsmk immed n) is fits = search rules
reads_back Hosts kind (WriteFilemarks wsmk immed n) is fits = search rules
reads_back Spec kind r is fits = search rules
reads_back Hosts kind r is fits = search rules

pub returns : goal.returns
returns c s r is fits = reads_back s.profile s.kind r is fits
