use Rattle.std.proofs.Common.{◌==◌, ◌||◌, nat_lt, refl, is_some}
use Rattle.std.proofs.lemmas.Bool.{agree_below_at}
use Rattle.scsi_cdb.specs.Commands.{in_service_action}
use Rattle.scsi_cdb.specs.ServiceActions.{out_service_action}
use Rattle.scsi_cdb.specs.declared.kind.Kind.TheVariants.{Drive, Changer}
use Rattle.supported_commands.specs.Commands.{table}
use Rattle.supported_commands.specs.Laws.{has_action}
use Rattle.supported_commands.proofs.laws.listed_service_actions.Goals as goal

pub returns-clause-reserve_in : goal.returns-clause-reserve_in
unfolding table
returns-clause-reserve_in c Drive a within =
    agree_below_at (has_action Drive 0x5E) (λ k. is_some (in_service_action k)) 32 a refl within
returns-clause-reserve_in c Changer a within =
    agree_below_at (has_action Changer 0x5E) (λ k. is_some (in_service_action k)) 32 a refl within

pub returns-clause-reserve_out : goal.returns-clause-reserve_out
unfolding table
returns-clause-reserve_out c Drive a within =
    agree_below_at (has_action Drive 0x5F) (λ k. is_some (out_service_action k)) 32 a refl within
returns-clause-reserve_out c Changer a within =
    agree_below_at (has_action Changer 0x5F) (λ k. is_some (out_service_action k)) 32 a refl within

pub returns-clause-read_position : goal.returns-clause-read_position
unfolding table
returns-clause-read_position c a within =
    agree_below_at (has_action Drive 0x34) (λ k. nat_lt k 2) 32 a refl within

pub returns-clause-maintenance_in : goal.returns-clause-maintenance_in
unfolding table
returns-clause-maintenance_in c Drive a within =
    agree_below_at (has_action Drive 0xA3) (λ k. k == 0x0C || k == 0x0D) 32 a refl within
returns-clause-maintenance_in c Changer a within =
    agree_below_at (has_action Changer 0xA3) (λ k. k == 0x0C || k == 0x0D) 32 a refl within
