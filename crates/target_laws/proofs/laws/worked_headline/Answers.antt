use Rattle.target_laws.proofs.WorkedHeadline.{four_are_asked, four_are_decided, not_refused, not_decided, not_served}
use Rattle.target_laws.proofs.laws.worked_headline.Goals as goal

pub returns-clause-asked : goal.returns-clause-asked
returns-clause-asked c = four_are_asked

pub returns-clause-decided : goal.returns-clause-decided
returns-clause-decided c = four_are_decided

pub returns-clause-not_refused : goal.returns-clause-not_refused
returns-clause-not_refused c = not_refused

pub returns-clause-not_decided : goal.returns-clause-not_decided
returns-clause-not_decided c = not_decided

pub returns-clause-not_served : goal.returns-clause-not_served
returns-clause-not_served c = not_served
