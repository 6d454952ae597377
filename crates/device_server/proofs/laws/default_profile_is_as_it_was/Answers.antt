use Rattle.device_server.proofs.ByProfile.{fields_of_spec, drives_of_spec, changers_of_spec, identities_are_of_hosts}
use Rattle.device_server.proofs.WarningLemmas.{drives_of_spec_never_warn}
use Rattle.device_server.proofs.laws.default_profile_is_as_it_was.Goals as goal

pub returns-clause-fields : goal.returns-clause-fields
returns-clause-fields c = fields_of_spec

pub returns-clause-drives : goal.returns-clause-drives
returns-clause-drives c = drives_of_spec

pub returns-clause-changers : goal.returns-clause-changers
returns-clause-changers c = changers_of_spec

pub returns-clause-identities : goal.returns-clause-identities
returns-clause-identities c = identities_are_of_hosts

pub returns-clause-warnings : goal.returns-clause-warnings
returns-clause-warnings c = drives_of_spec_never_warn
