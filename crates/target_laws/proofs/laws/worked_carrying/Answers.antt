use Rattle.target_laws.proofs.CarriedHeadline.{volume_goes, volume_does_not_go, move_is_not_served, move_stops, no_drive_moves}
use Rattle.target_laws.proofs.laws.worked_carrying.Goals as goal

pub returns-clause-goes : goal.returns-clause-goes
returns-clause-goes c = volume_goes

pub returns-clause-does_not_go : goal.returns-clause-does_not_go
returns-clause-does_not_go c = volume_does_not_go

pub returns-clause-not_served : goal.returns-clause-not_served
returns-clause-not_served c = move_is_not_served

pub returns-clause-no_drive : goal.returns-clause-no_drive
returns-clause-no_drive c = no_drive_moves

pub returns-clause-stops : goal.returns-clause-stops
returns-clause-stops c = move_stops
