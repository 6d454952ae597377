-- A library is kept just where it has a folder.
use Rattle.std.proofs.Common.{◌≡◌, Option, Some, None, String, Global, refl}
use Rattle.program_options.specs.declared.given_library.GivenLibrary.{GivenLibrary}
use Rattle.program_options.specs.declared.given_profile.GivenProfile.{GivenProfile}
use Rattle.given_options.specs.declared.options.GivenMedia.{GivenMedia}
use Rattle.command_line.specs.Serving.{media_in}

pub no_folder : (folder : Option (String Global)) (media : GivenMedia) (given : GivenLibrary) (profile : GivenProfile)
    → media_in folder media given profile ≡ None → folder ≡ None
no_folder None media given profile none = refl
no_folder (Some folder) media given profile none = absurd cc
