use Rattle.std.proofs.Common.{◌≡◌, ◌++◌, List, drop}
use Rattle.iscsi_pdu.specs.Pdus.{TargetPduValue}
use Rattle.iscsi_answers.specs.Written.{bytes_of_all}
use Rattle.iscsi_session.specs.Releasing.{SaysDue}
use Rattle.iscsi_session.proofs.releasing.add_due.Given as goal

-- what was added so far answers all, once those that are left are answered behind it
abbrev pub invariant-answers : goal.invariant-answers
invariant-answers l =
    (said : List TargetPduValue) × ((others : List TargetPduValue) → SaysDue l.fn.connection.tasks (drop l.answer-index l.due) others
    → SaysDue l.fn.connection.tasks l.due (said ++ others))
    × (l.connection.tasks ≡ l.fn.connection.tasks) × (l.connection.out.items ≡ l.fn.connection.out.items ++ bytes_of_all said)
