use Rattle.std.proofs.Common.{◌≡◌, ◌++◌, ℕ, List}
use Rattle.iscsi_pdu.specs.Pdus.{TargetPduValue}
use Rattle.iscsi_answers.specs.Written.{bytes_of_all}
use Rattle.iscsi_session.specs.Executing.{GoesOn}
use Rattle.iscsi_session.proofs.Acted.{left_to_do}
use Rattle.iscsi_session.proofs.executing.go_on.Given as goal

abbrev pub invariant-steps : goal.invariant-steps
invariant-steps g l =
    (times : ℕ) × (said : List TargetPduValue) × GoesOn g.S.Service.notes g.S.KeepingService.waits l.nexus times l.fn.connection.tasks l.fn.service said l.connection.tasks l.service
    × (l.connection.out.items ≡ l.fn.connection.out.items ++ bytes_of_all said)

abbrev pub decreases-steps : goal.decreases-steps
decreases-steps g l = left_to_do l.connection.tasks.waiting
