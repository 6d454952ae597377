-- By what a target's initiators show who they are, from what its options name.
use Rattle.std.proofs.Common.{◌≡◌, Option, Some, refl, sym, subst}
use Rattle.std.specs.Prelude.{String}
use Rattle.std.specs.Global.{Global}
use Rattle.command_line.specs.declared.task.IscsiOptions.{IscsiOptions}
use Rattle.iscsi_chap.specs.declared.authentication.Authentication.{Authentication}
use Rattle.iscsi_chap.specs.declared.authentication.Authentication.TheVariants as authentication
use Rattle.iscsi_chap.specs.declared.authentication.ChapAccess.{ChapAccess}
use Rattle.program_options.specs.declared.chap_digests.ChapDigests.{ChapDigests}
use Rattle.library_server.specs.Targets.{AsksFor, AuthenticatesBy, digests_of}

pub by_chap : (o : Option (String Global)) (path : String Global) (digests : ChapDigests) (access : ChapAccess) → o ≡ Some path → access.digests ≡ digests_of digests
    → AsksFor o digests (authentication.Chap access)
by_chap o path digests access is same = subst (λ (o : Option (String Global)). AsksFor o digests (authentication.Chap access)) (sym is) (access, refl, same)

pub asked : (o : Option IscsiOptions) (options : IscsiOptions) (made by : Authentication) → o ≡ Some options → made ≡ by → AsksFor options.chap options.chap_digests by
    → AuthenticatesBy o made
asked o options made by is same asks =
    subst (λ (o : Option IscsiOptions). AuthenticatesBy o made) (sym is) (subst (λ (x : Authentication). AsksFor options.chap options.chap_digests x) (sym same) asks)
