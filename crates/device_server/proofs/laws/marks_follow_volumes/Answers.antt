use Rattle.device_server.proofs.MarkLemmas.{drives_give, drives_get, changers_give, changers_get, marks_one, each_is_marked}
use Rattle.device_server.proofs.laws.marks_follow_volumes.Goals as goal

pub returns-clause-out_of_drive : goal.returns-clause-out_of_drive
returns-clause-out_of_drive c = drives_give

pub returns-clause-into_drive : goal.returns-clause-into_drive
returns-clause-into_drive c = drives_get

pub returns-clause-out_of_changer : goal.returns-clause-out_of_changer
returns-clause-out_of_changer c = changers_give

pub returns-clause-into_changer : goal.returns-clause-into_changer
returns-clause-into_changer c = changers_get

pub returns-clause-marked : goal.returns-clause-marked
returns-clause-marked c = marks_one

pub returns-clause-each : goal.returns-clause-each
returns-clause-each c = each_is_marked
