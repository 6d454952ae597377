use Rattle.target_laws.proofs.ExchangedHeadline.{volumes_cross, volumes_do_not_cross, volumes_not_exchanged, exchange_stops}
use Rattle.target_laws.proofs.laws.worked_exchange.Goals as goal

pub returns-clause-cross : goal.returns-clause-cross
returns-clause-cross c = volumes_cross

pub returns-clause-do_not_cross : goal.returns-clause-do_not_cross
returns-clause-do_not_cross c = volumes_do_not_cross

pub returns-clause-not_exchanged : goal.returns-clause-not_exchanged
returns-clause-not_exchanged c = volumes_not_exchanged

pub returns-clause-stops : goal.returns-clause-stops
returns-clause-stops c = exchange_stops
