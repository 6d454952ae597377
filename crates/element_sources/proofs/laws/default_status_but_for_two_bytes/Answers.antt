use Rattle.element_sources.proofs.Forms.{plain_is_default, descriptors_differ, status_differs}
use Rattle.element_sources.proofs.laws.default_status_but_for_two_bytes.Goals as goal

pub returns-clause-form : goal.returns-clause-form
returns-clause-form c = plain_is_default

pub returns-clause-descriptors : goal.returns-clause-descriptors
returns-clause-descriptors c = descriptors_differ

pub returns-clause-status : goal.returns-clause-status
returns-clause-status c = status_differs
