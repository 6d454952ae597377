use Rattle.settled_laws.proofs.Performing.{perform_alike, refuse_alike}
use Rattle.settled_laws.proofs.Showing.{show_alike}
use Rattle.settled_laws.proofs.Volumes.{reset_alike, give_alike, put_alike, mark_alike, journey_alike, exchange_alike}
use Rattle.settled_laws.proofs.laws.settled_devices_perform_alike.Goals as goal

pub returns-clause-shown : goal.returns-clause-shown
returns-clause-shown c = show_alike

pub returns-clause-refused : goal.returns-clause-refused
returns-clause-refused c = refuse_alike

pub returns-clause-performed : goal.returns-clause-performed
returns-clause-performed c = perform_alike

pub returns-clause-reset : goal.returns-clause-reset
returns-clause-reset c = reset_alike

pub returns-clause-taken : goal.returns-clause-taken
returns-clause-taken c = give_alike

pub returns-clause-put : goal.returns-clause-put
returns-clause-put c = put_alike

pub returns-clause-marked : goal.returns-clause-marked
returns-clause-marked c = mark_alike

pub returns-clause-journeys : goal.returns-clause-journeys
returns-clause-journeys c = journey_alike

pub returns-clause-exchanges : goal.returns-clause-exchanges
returns-clause-exchanges c = exchange_alike
