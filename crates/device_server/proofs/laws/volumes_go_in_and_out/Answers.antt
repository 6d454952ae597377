use Rattle.device_server.proofs.PlaceLemmas.{takes_one, puts_one, marks_move_nothing, journeys_move_nothing, exchanges_that_are_noted_move_nothing}
use Rattle.device_server.proofs.laws.volumes_go_in_and_out.Goals as goal

pub returns-clause-takes : goal.returns-clause-takes
returns-clause-takes c = takes_one

pub returns-clause-puts : goal.returns-clause-puts
returns-clause-puts c = puts_one

pub returns-clause-marks : goal.returns-clause-marks
returns-clause-marks c = marks_move_nothing

pub returns-clause-journeys : goal.returns-clause-journeys
returns-clause-journeys c = journeys_move_nothing

pub returns-clause-exchanges : goal.returns-clause-exchanges
returns-clause-exchanges c = exchanges_that_are_noted_move_nothing
