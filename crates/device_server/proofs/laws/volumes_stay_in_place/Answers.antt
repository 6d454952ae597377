use Rattle.device_server.proofs.TapeLemmas.{drives_keep_their_volume, drives_keep_their_tape, resets_keep_volumes}
use Rattle.device_server.proofs.MoveLemmas.{changers_stay, moves_carry_one, exchanges_carry_two}
use Rattle.device_server.proofs.laws.volumes_stay_in_place.Goals as goal

pub returns-clause-drives : goal.returns-clause-drives
returns-clause-drives c = drives_keep_their_volume

pub returns-clause-tapes : goal.returns-clause-tapes
returns-clause-tapes c = drives_keep_their_tape

pub returns-clause-changers : goal.returns-clause-changers
returns-clause-changers c = changers_stay

pub returns-clause-moves : goal.returns-clause-moves
returns-clause-moves c = moves_carry_one

pub returns-clause-reset : goal.returns-clause-reset
returns-clause-reset c = resets_keep_volumes

pub returns-clause-exchanges : goal.returns-clause-exchanges
returns-clause-exchanges c = exchanges_carry_two
