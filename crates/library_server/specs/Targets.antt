-- By what the initiators of a target show who they are.
use Rattle.std.specs.Prelude.{◌≡◌, Option, Some, None, String}
use Rattle.std.specs.Global.{Global}
use Rattle.command_line.specs.declared.task.IscsiOptions.{IscsiOptions}
use Rattle.iscsi_chap.specs.declared.algorithm.ChapDigests.{ChapDigests}
use Rattle.iscsi_chap.specs.declared.algorithm.ChapDigests.TheVariants as taken
use Rattle.iscsi_chap.specs.declared.authentication.Authentication.{Authentication}
use Rattle.iscsi_chap.specs.declared.authentication.Authentication.TheVariants as authentication
use Rattle.iscsi_chap.specs.declared.authentication.ChapAccess.{ChapAccess}
use Rattle.program_options.specs.declared.chap_digests.ChapDigests.{ChapDigests as DigestOptions}
use Rattle.program_options.specs.declared.chap_digests.ChapDigests.TheVariants as option

abbrev pub digests_of : DigestOptions → ChapDigests
digests_of option.Sha256 = taken.Sha256
digests_of option.Sha256AndMd5 = taken.Sha256AndMd5

-- by CHAP where a file of secrets is named, with the digests that are asked for, and else by nothing
abbrev pub AsksFor : Option (String Global) → DigestOptions → Authentication → Type 0
AsksFor None digests by = by ≡ authentication.None
AsksFor (Some path) digests by = (access : ChapAccess) × (by ≡ authentication.Chap access) × (access.digests ≡ digests_of digests)

-- where no portals are asked for, nobody comes
abbrev pub AuthenticatesBy : Option IscsiOptions → Authentication → Type 0
AuthenticatesBy None by = by ≡ authentication.None
AuthenticatesBy (Some iscsi) by = AsksFor iscsi.chap iscsi.chap_digests by
