use Rattle.element_sources.proofs.Moves.{origins_stay, starts_known, drives_have}
use Rattle.element_sources.proofs.laws.drives_have_origins.Goals as goal

pub returns-clause-starts : goal.returns-clause-starts
returns-clause-starts c = starts_known

pub returns-clause-stays : goal.returns-clause-stays
returns-clause-stays c = origins_stay

pub returns-clause-drives : goal.returns-clause-drives
returns-clause-drives c = drives_have
