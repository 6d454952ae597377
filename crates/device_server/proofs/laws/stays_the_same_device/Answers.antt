use Rattle.device_server.proofs.SameDevice.{performed_same, reset_same, journey_same, exchange_same}
use Rattle.device_server.proofs.laws.stays_the_same_device.Goals as goal

pub returns-clause-performed : goal.returns-clause-performed
returns-clause-performed c = performed_same

pub returns-clause-reset : goal.returns-clause-reset
returns-clause-reset c = reset_same

pub returns-clause-journey : goal.returns-clause-journey
returns-clause-journey c = journey_same

pub returns-clause-exchange : goal.returns-clause-exchange
returns-clause-exchange c = exchange_same
