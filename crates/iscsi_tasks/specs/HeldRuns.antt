-- What becomes of the replies that a session holds.
use Rattle.std.specs.Prelude.{◌≡◌, ◌⊎◌, true, List, [], ◌∷◌, ◌++◌, map, filter, Option, Some, None, if◌then◌else◌}
use Rattle.iscsi_pdu.specs.declared.scsi_command.ScsiCommand.{ScsiCommand}
use Rattle.tickets.specs.declared.ticket.ReplyTicket.{ReplyTicket}
use Rattle.tickets.specs.declared.ticket.Outcome.{Outcome}
use Rattle.iscsi_tasks.specs.declared.held_reply.HeldReply.{HeldReply}
use Rattle.iscsi_tasks.specs.declared.held_reply.DueAnswer.{DueAnswer}
use Rattle.iscsi_tasks.specs.Values.{TasksValue}
use Rattle.iscsi_tasks.specs.Aborts.{is_reply_at, is_reply_named, is_waiting_at}
use Rattle.iscsi_tasks.specs.Holding.{answer_by, answers_due, due, held_for, is_due}
use Rattle.iscsi_tasks.specs.Runs.{Act, Aborted, Dropped, Held, Settled, run, stepped}

-- the command in hand
abbrev pub in_hand_of : Option ScsiCommand → List ScsiCommand
in_hand_of None = []
in_hand_of (Some c) = c ∷ []

abbrev pub in_hand : TasksValue → List ScsiCommand
in_hand s = in_hand_of s.in_hand

-- the replies that an act holds
abbrev pub held_by : TasksValue → Act → List HeldReply
held_by s (Held reply ticket) = held_for reply ticket s.in_hand
held_by s _ = []

abbrev pub held_in : TasksValue → List Act → List HeldReply
held_in s [] = []
held_in s (act ∷ acts) = held_by s act ++ held_in (stepped s act) acts

-- a reply that leaves, and by what outcome
pub record Release : Type 0 where
  pub held : HeldReply
  pub settled : ReplyTicket
  pub outcome : Outcome

abbrev pub release : ReplyTicket → Outcome → HeldReply → Release
release settled outcome r = record { held = r; settled = settled; outcome = outcome }

abbrev pub released_by : TasksValue → Act → List Release
released_by s (Settled ticket outcome) = map (release ticket outcome) (due ticket s.replies)
released_by s _ = []

abbrev pub released : TasksValue → List Act → List Release
released s [] = []
released s (act ∷ acts) = released_by s act ++ released (stepped s act) acts

abbrev pub released_replies : List Release → List HeldReply
released_replies es = map (λ e. e.held) es

-- what is answered, act by act
abbrev pub said_by : TasksValue → Act → List DueAnswer
said_by s (Settled ticket outcome) = answers_due ticket outcome s.replies
said_by s _ = []

abbrev pub said : TasksValue → List Act → List DueAnswer
said s [] = []
said s (act ∷ acts) = said_by s act ++ said (stepped s act) acts

abbrev pub answers : List Release → List DueAnswer
answers es = map (λ e. answer_by e.outcome e.held) es

-- the replies that task management drops
abbrev pub dropped_by : TasksValue → Act → List HeldReply
dropped_by s (Aborted unit tag) = if is_waiting_at s unit tag then filter (is_reply_named unit tag) s.replies else []
dropped_by s (Dropped unit by_another) = filter (is_reply_at unit) s.replies
dropped_by s _ = []

abbrev pub dropped : TasksValue → List Act → List HeldReply
dropped s [] = []
dropped s (act ∷ acts) = dropped_by s act ++ dropped (stepped s act) acts

abbrev pub IsIn : {X : Type 0} → X → List X → Type 0
IsIn x [] = ⊥
IsIn x (y ∷ ys) = (x ≡ y) ⊎ IsIn x ys

-- it left while it was held, just when what it waited for was settled, by that outcome
pub record IsInTime (s : TasksValue) (acts : List Act) (e : Release) : Type 0 where
  pub before : List Act
  pub after : List Act
  pub acts_are : acts ≡ before ++ Settled e.settled e.outcome ∷ after
  pub was_held : IsIn e.held (run s before).replies
  pub was_due : is_due e.settled e.held ≡ true
