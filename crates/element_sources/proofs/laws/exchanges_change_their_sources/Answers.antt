use Rattle.element_sources.proofs.Moves.{others_stay_in_exchanges, source_is_left_in_exchanges}
use Rattle.element_sources.proofs.laws.exchanges_change_their_sources.Goals as goal

pub returns-clause-others : goal.returns-clause-others
returns-clause-others c = others_stay_in_exchanges

pub returns-clause-left : goal.returns-clause-left
returns-clause-left c = source_is_left_in_exchanges
