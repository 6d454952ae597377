use Rattle.library_server.proofs.HandingOut.{hands_none, hands_more}
use Rattle.library_server.proofs.handing_out.hand_out_as_asked.Goals as goal

pub turns-init : goal.turns-init
turns-init g c = hands_none _ _

pub returns-then-not-await_turn : goal.returns-then-not-await_turn
returns-then-not-await_turn g c = c.turns.invariant

pub turns-preserved : goal.turns-preserved
turns-preserved g c = hands_more _ _ _ _ _ _ c.turns.invariant c.hand_out.ensures
