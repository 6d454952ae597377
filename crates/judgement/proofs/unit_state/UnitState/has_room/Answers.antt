use Rattle.std.proofs.Common.{rules}
use Rattle.judgement.proofs.unit_state.UnitState.has_room.Goals as goal

pub returns-clause-room : goal.returns-clause-room
returns-clause-room c = search rules fits 100
