use Rattle.element_sources.proofs.Moves.{others_stay, source_is_left}
use Rattle.element_sources.proofs.laws.moves_change_two_sources.Goals as goal

pub returns-clause-others : goal.returns-clause-others
returns-clause-others c = others_stay

pub returns-clause-left : goal.returns-clause-left
returns-clause-left c = source_is_left
