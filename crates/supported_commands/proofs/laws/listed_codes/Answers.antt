use Rattle.std.proofs.Common.{◌||◌, refl, is_some}
use Rattle.std.proofs.lemmas.Bool.{agree_below_at}
use Rattle.scsi_cdb.specs.Commands.{command_of}
use Rattle.scsi_cdb.specs.declared.kind.Kind.TheVariants.{Drive, Changer}
use Rattle.scsi_cdb.specs.declared.profile.Profile.TheVariants.{Hosts}
use Rattle.supported_commands.specs.Commands.{table}
use Rattle.supported_commands.specs.Laws.{is_listed}
use Rattle.supported_commands.proofs.laws.listed_codes.Goals as goal

pub returns : goal.returns
unfolding table command_of
returns c Drive code within =
    agree_below_at (is_listed Drive) (λ k. is_some (command_of Hosts Drive k)) 256 code refl within
returns c Changer code within =
    agree_below_at (is_listed Changer) (λ k. is_some (command_of Hosts Changer k)) 256 code refl within
