use Rattle.library_server.proofs.HandingOut.{hands_none, hands_more}
use Rattle.library_server.proofs.handing_out.hand_out_units.Goals as goal

pub units-init : goal.units-init
units-init g c = hands_none _ _

pub returns-in_err-hand_out_unit : goal.returns-in_err-hand_out_unit
returns-in_err-hand_out_unit g c = hands_more _ _ _ _ _ _ c.units.invariant c.hand_out_unit.ensures.left

pub units-preserved : goal.units-preserved
units-preserved g c = hands_more _ _ _ _ _ _ c.units.invariant c.hand_out_unit.ensures.left
