use Rattle.std.proofs.Common.{◌≡◌, ◌++◌, List}
use Rattle.iscsi_pdu.specs.Pdus.{TargetPduValue}
use Rattle.iscsi_answers.specs.Written.{bytes_of_all}
use Rattle.iscsi_session.specs.Releasing.{Releases}
use Rattle.iscsi_session.proofs.releasing.release_held.Given as goal

-- the tickets that were settled so far, and what was added
abbrev pub invariant-tickets : goal.invariant-tickets
invariant-tickets g l =
    (said : List TargetPduValue) × Releases (g.G.SessionRegister.settles l.register) l.fn.connection.tasks said l.connection.tasks
    × (l.connection.out.items ≡ l.fn.connection.out.items ++ bytes_of_all said)
