-- What a session hands to its units.
use Rattle.std.proofs.Common.{◌≡◌, ℕ, zero, suc, min, Bool, true, false, cond, MatchBool, List, [], ◌∷◌, ◌++◌, length, Option, Some, None, Result, Ok, Err}
use Rattle.std.proofs.Common.{inl, inr, refl, sym, ap, subst, ◌∙◌, append_assoc, append-nil}
use Rattle.std.proofs.Common.{map}
use Rattle.std.specs.List.{AllByRecursion}
use Rattle.std.specs.Prelude.{slice_get}
use Rattle.std.proofs.lemmas.List.{map-append}
use Rattle.std.proofs.lemmas.List.Concat.{flat_map-append}
use Rattle.scsi_nexus.specs.declared.nexus.Nexus.{Nexus}
use Rattle.judgement.specs.declared.reply.Reply.{Reply}
use Rattle.logical_unit.specs.Answers.{DoneValue, EventValue}
use Rattle.iscsi_pdu.specs.Luns.{unit_of}
use Rattle.iscsi_pdu.specs.Pdus.{InitiatorPduValue, TargetPduValue}
use Rattle.iscsi_pdu.specs.declared.initiator_header.InitiatorHeader.{InitiatorHeader}
use Rattle.iscsi_pdu.specs.declared.initiator_header.InitiatorHeader.TheVariants as sent
use Rattle.iscsi_pdu.specs.declared.scsi_command.ScsiCommand.{ScsiCommand}
use Rattle.iscsi_pdu.specs.declared.serial_number.SerialNumber.{SerialNumber}
use Rattle.iscsi_pdu.specs.declared.task_management.TaskManagementFunction.{TaskManagementFunction}
use Rattle.iscsi_pdu.specs.declared.task_management.TaskManagementFunction.TheVariants as asked
use Rattle.iscsi_pdu.specs.declared.task_management_request.TaskManagementRequest.{TaskManagementRequest}
use Rattle.iscsi_pdu.specs.declared.task_management_result.TaskManagementResult.{TaskManagementResult}
use Rattle.iscsi_tasks.specs.Aborts.{reset_by_another}
use Rattle.iscsi_tasks.specs.Commands.{after_command, command_answer, counted, is_taken}
use Rattle.iscsi_tasks.specs.DataOuts.{data_answer}
use Rattle.iscsi_tasks.specs.HeldRuns.{held_by, held_in}
use Rattle.iscsi_tasks.specs.Holding.{held_for}
use Rattle.iscsi_tasks.specs.Next as tasks
use Rattle.iscsi_tasks.specs.Next.{is_whole, left_at, left_for, next_at, next_for, next_of, request, with_first_asked, without_first}
use Rattle.iscsi_tasks.specs.declared.awaiting.Awaiting.{Awaiting}
use Rattle.iscsi_tasks.specs.declared.awaiting.Awaiting.TheVariants as awaits
use Rattle.iscsi_tasks.specs.declared.held_reply.HeldReply.{HeldReply}
use Rattle.iscsi_tasks.specs.Runs.{Act, Numbered, Commanded, DataCame, AskedNext, Aborted, Dropped, Answered, Held, Settled, Executed}
use Rattle.iscsi_tasks.specs.Runs.{at_once, executed, executed_by}
use Rattle.iscsi_tasks.specs.Runs.{found_next, run, stepped}
use Rattle.iscsi_tasks.specs.Values.{TaskValue, TasksValue}
use Rattle.iscsi_tasks.specs.declared.fault.TasksFault.{TasksFault}
use Rattle.iscsi_tasks.specs.declared.next_task.NextTask.{NextTask}
use Rattle.iscsi_tasks.specs.declared.next_task.NextTask.TheVariants as found
use Rattle.iscsi_tasks.specs.declared.taken.TakenCommand.{TakenCommand}
use Rattle.iscsi_tasks.specs.declared.taken.TakenCommand.TheVariants as taken
use Rattle.iscsi_tasks.specs.declared.taken.TakenData.{TakenData}
use Rattle.iscsi_tasks.specs.declared.taken.TakenData.TheVariants as taken_data
use Rattle.session.specs.Answering.{Calls}
use Rattle.iscsi_session.specs.Executing.{Acts, AnswersOrHolds, Does, GoesOn, Outcome, held_reply, Nothing, Execute, Fail, Ask, Reject, Replies, command_outcome, data_outcome}
use Rattle.iscsi_session.specs.Executing.{next_outcome, outcome}
use Rattle.iscsi_session.specs.Handing.{CarriedOut, Hands, IsReplied, RepliesTo, asked_command, brought, brought_by, brought_in, call_for, call_list}
use Rattle.iscsi_session.specs.Handing.{calls_of, command_call, command_calls, commands_of, handed, held_if, held_of, settled_by, settled_in, settlements}
use Rattle.iscsi_session.specs.Releasing.{Settlement}
use Rattle.iscsi_session.specs.Managing.{Manages, ManagesTasks, Resets, ResetsBelow, ResetsUnit, AbortsTask, AbortsTaskSet, unit_below}
use Rattle.iscsi_session.specs.Saying.{Says, TakesTask, Works, behind_other, is_of_tasks, normal_world, without_units}
use Rattle.iscsi_session.specs.Talking.{Came, Ending, Event, Released, Silence, Talks, Told}
use Rattle.tickets.specs.declared.ticket.ReplyTicket.{ReplyTicket}
use Rattle.tickets.specs.declared.ticket.Outcome as keeping

-- ---- one after another

run_append : (k : TasksValue) (xs ys : List Act) → run k (xs ++ ys) ≡ run (run k xs) ys
run_append k [] ys = refl
run_append k (a ∷ xs) ys = run_append (stepped k a) xs ys

executed_append : (k : TasksValue) (xs ys : List Act) → executed k (xs ++ ys) ≡ executed k xs ++ executed (run k xs) ys
executed_append k [] ys = refl
executed_append k (a ∷ xs) ys =
    ap (λ (es : List Executed). executed_by k a ++ es) (executed_append (stepped k a) xs ys)
    ∙ sym (append_assoc (executed_by k a) (executed (stepped k a) xs) (executed (run (stepped k a) xs) ys))

brought_append : (xs ys : List Act) → brought (xs ++ ys) ≡ brought xs ++ brought ys
brought_append [] ys = refl
brought_append (Commanded c payload ∷ xs) ys = ap (λ (l : List Act). Commanded c payload ∷ l) (brought_append xs ys)
brought_append (DataCame d payload ∷ xs) ys = ap (λ (l : List Act). DataCame d payload ∷ l) (brought_append xs ys)
brought_append (Numbered immediate cmd_sn ∷ xs) ys = brought_append xs ys
brought_append (AskedNext ∷ xs) ys = brought_append xs ys
brought_append (Aborted unit tag ∷ xs) ys = brought_append xs ys
brought_append (Dropped unit by ∷ xs) ys = brought_append xs ys
brought_append (Answered ∷ xs) ys = brought_append xs ys
brought_append (Held reply ticket ∷ xs) ys = brought_append xs ys
brought_append (Settled ticket outcome ∷ xs) ys = brought_append xs ys

held_append : (k : TasksValue) (xs ys : List Act) → held_in k (xs ++ ys) ≡ held_in k xs ++ held_in (run k xs) ys
held_append k [] ys = refl
held_append k (a ∷ xs) ys =
    ap (λ (rs : List HeldReply). held_by k a ++ rs) (held_append (stepped k a) xs ys)
    ∙ sym (append_assoc (held_by k a) (held_in (stepped k a) xs) (held_in (run (stepped k a) xs) ys))

settled_append : (xs ys : List Act) → settled_in (xs ++ ys) ≡ settled_in xs ++ settled_in ys
settled_append [] ys = refl
settled_append (a ∷ xs) ys =
    ap (λ (l : List Settlement). settled_by a ++ l) (settled_append xs ys)
    ∙ sym (append_assoc (settled_by a) (settled_in xs) (settled_in ys))

replied_append : (waits : DoneValue → Option ReplyTicket → Type 0) (xs ys : List CarriedOut) → AllByRecursion (IsReplied waits) xs
    → AllByRecursion (IsReplied waits) ys → AllByRecursion (IsReplied waits) (xs ++ ys)
replied_append waits [] ys one two = two
replied_append waits (c ∷ xs) ys one two = (one.0, replied_append waits xs ys one.1 two)

calls_split : (ds es : List DoneValue) → command_calls (ds ++ es) ≡ command_calls ds ++ command_calls es
calls_split [] es = refl
calls_split (d ∷ ds) es =
    ap (λ (l : List DoneValue). command_call d d.asked ++ l) (calls_split ds es)
    ∙ sym (append_assoc (command_call d d.asked) (command_calls ds) (command_calls es))

commands_append : (ds es : List DoneValue) → commands_of (ds ++ es) ≡ commands_of ds ++ commands_of es
commands_append [] es = refl
commands_append (d ∷ ds) es =
    ap (λ (xs : List (ℕ × EventValue)). asked_command d.lun d.asked ++ xs) (commands_append ds es)
    ∙ sym (append_assoc (asked_command d.lun d.asked) (commands_of ds) (commands_of es))

calls_append : {S : Type 0} (notes : S → DoneValue → S → Type 0) (n : Nexus) (s : S) (ds es : List DoneValue) (t u : S) → Calls notes n s ds
    t
    → Calls notes n t es u → Calls notes n s (ds ++ es) u
calls_append {S} notes n s [] es t u one two = subst (λ (x : S). Calls notes n x es u) one two
calls_append notes n s (d ∷ ds) es t u one two = (one.0, one.1, one.2, calls_append notes n one.0 ds es t u one.3 two)

-- acts that neither execute nor hold, and no call
still_hands : {S : Type 0} (notes : S → DoneValue → S → Type 0) (waits : DoneValue → Option ReplyTicket → Type 0) (n : Nexus) (k k' : TasksValue) (s t : S) (acts : List Act)
    (x : List Settlement) → k' ≡ run k acts → brought acts ≡ [] → executed k acts ≡ [] → held_in k acts ≡ [] → t ≡ s → settled_in acts ≡ x
    → Hands notes waits n k s [] x k' t
still_hands notes waits n k k' s t acts x runs brings executes holds still settles = record {
  acts = acts;
  calls = [];
  run_is = runs;
  brought_is = brings;
  made = still;
  handed_is = ap handed (sym executes);
  carried_out = [];
  carried_out_are = sym executes;
  replied = tt;
  calls_are = refl;
  holds = holds;
  settled = settles;
}

hands_none : {S : Type 0} (notes : S → DoneValue → S → Type 0) (waits : DoneValue → Option ReplyTicket → Type 0) (n : Nexus) (k k' : TasksValue) (s t : S) → k' ≡ k → t ≡ s
    → Hands notes waits n k s [] [] k' t
hands_none notes waits n k k' s t same still = still_hands notes waits n k k' s t [] [] same refl refl refl still refl

hands_then : {S : Type 0} (notes : S → DoneValue → S → Type 0) (waits : DoneValue → Option ReplyTicket → Type 0) (n : Nexus) (k k1 k' : TasksValue) (s m t : S) (a b : List Act)
    (x y : List Settlement)
    → Hands notes waits n k s a x k1 m → Hands notes waits n k1 m b y k' t
    → Hands notes waits n k s (a ++ b) (x ++ y) k' t
hands_then notes waits n k k1 k' s m t a b x y one two = record {
  acts = one.acts ++ two.acts;
  calls = one.calls ++ two.calls;
  run_is = two.run_is ∙ ap (λ (x : TasksValue). run x two.acts) one.run_is ∙ sym (run_append k one.acts two.acts);
  brought_is =
      brought_append one.acts two.acts ∙ ap (λ (xs : List Act). xs ++ brought two.acts) one.brought_is
      ∙ ap (λ (xs : List Act). a ++ xs) two.brought_is;
  made = calls_append notes n s one.calls two.calls m t one.made two.made;
  handed_is =
      commands_append one.calls two.calls ∙ ap (λ (xs : List (ℕ × EventValue)). xs ++ commands_of two.calls) one.handed_is
      ∙ ap (λ (xs : List (ℕ × EventValue)). handed (executed k one.acts) ++ xs)
      (two.handed_is ∙ ap (λ (x : TasksValue). handed (executed x two.acts)) one.run_is)
      ∙ sym (flat_map-append (λ (e : Executed). call_for (unit_of e.command.lun) e.command.cdb e.bytes)
      (executed k one.acts) (executed (run k one.acts) two.acts))
      ∙ ap handed (sym (executed_append k one.acts two.acts));
  carried_out = one.carried_out ++ two.carried_out;
  carried_out_are =
      map-append (λ (c : CarriedOut). c.executed) one.carried_out two.carried_out
      ∙ ap (λ (es : List Executed). es ++ map (λ (c : CarriedOut). c.executed) two.carried_out) one.carried_out_are
      ∙ ap (λ (es : List Executed). executed k one.acts ++ es)
      (two.carried_out_are ∙ ap (λ (v : TasksValue). executed v two.acts) one.run_is)
      ∙ sym (executed_append k one.acts two.acts);
  replied = replied_append waits one.carried_out two.carried_out one.replied two.replied;
  calls_are =
      calls_split one.calls two.calls ∙ ap (λ (ds : List DoneValue). ds ++ command_calls two.calls) one.calls_are
      ∙ ap (λ (ds : List DoneValue). calls_of one.carried_out ++ ds) two.calls_are
      ∙ sym (flat_map-append (λ (c : CarriedOut). call_list c.call) one.carried_out two.carried_out);
  holds =
      held_append k one.acts two.acts ∙ ap (λ (rs : List HeldReply). rs ++ held_in (run k one.acts) two.acts) one.holds
      ∙ ap (λ (rs : List HeldReply). held_of one.carried_out ++ rs)
      (ap (λ (v : TasksValue). held_in v two.acts) (sym one.run_is) ∙ two.holds)
      ∙ sym (flat_map-append (λ (c : CarriedOut). held_if c.executed c.reply c.ticket c.data_ins) one.carried_out two.carried_out);
  settled =
      settled_append one.acts two.acts ∙ ap (λ (l : List Settlement). l ++ settled_in two.acts) one.settled
      ∙ ap (λ (l : List Settlement). x ++ l) two.settled;
}

-- ---- one act

abbrev pub executes : Outcome → List Executed
executes Nothing = []
executes (Execute command bytes) = record { command = command; bytes = bytes } ∷ []
executes (Fail command fault) = []
executes (Ask request) = []
executes (Reject reason) = []

command_executes : (c : ScsiCommand) (payload : List ℕ) (r : Result TakenCommand TasksFault) → at_once c payload r ≡ executes
    (command_outcome c payload r)
command_executes c payload (Ok taken.PassedOver) = refl
command_executes c payload (Ok taken.Waits) = refl
command_executes c payload (Ok (taken.Rejected reason)) = refl
command_executes c payload (Ok (taken.Execute count)) = refl
command_executes c payload (Err fault) = refl

data_executes : (r : Result TakenData TasksFault) → [] ≡ executes (data_outcome r)
data_executes (Ok taken_data.Taken) = refl
data_executes (Ok taken_data.PassedOver) = refl
data_executes (Ok (taken_data.Rejected reason)) = refl
data_executes (Err fault) = refl

next_executes : (next : NextTask) → found_next next ≡ executes (next_outcome next)
next_executes found.Idle = refl
next_executes (found.Execute t) = refl
next_executes (found.Ask request) = refl
next_executes (found.Fail t fault) = refl

act_executes : (k : TasksValue) (act : Act) → executed_by k act ≡ executes (outcome k act)
act_executes k (Commanded c payload) = command_executes c payload (command_answer k c payload)
act_executes k (DataCame d payload) = data_executes (data_answer k d (length payload))
act_executes k AskedNext = next_executes (next_of k)
act_executes k (Numbered immediate cmd_sn) = refl
act_executes k (Aborted unit tag) = refl
act_executes k (Dropped unit by) = refl
act_executes k Answered = refl
act_executes k (Held reply ticket) = refl
act_executes k (Settled ticket by) = refl

-- what is done with an outcome: calls, and commands that are carried out by them
pub record Carries {S : Type 0} (notes : S → DoneValue → S → Type 0) (waits : DoneValue → Option ReplyTicket → Type 0) (n : Nexus) (s : S) (executes : List Executed)
    (carried_out : List CarriedOut) (t : S) : Type 0 where
  pub calls : List DoneValue
  pub made : Calls notes n s calls t
  pub handed_is : commands_of calls ≡ handed executes
  pub carried_out_are : map (λ x. x.executed) carried_out ≡ executes
  pub replied : AllByRecursion (IsReplied waits) carried_out
  pub calls_are : command_calls calls ≡ calls_of carried_out

carries_none : {S : Type 0} (notes : S → DoneValue → S → Type 0) (waits : DoneValue → Option ReplyTicket → Type 0) (n : Nexus) (s t : S) → t ≡ s → Carries notes waits n s [] [] t
carries_none notes waits n s t still =
    record { calls = []; made = still; handed_is = refl; carried_out_are = refl; replied = tt; calls_are = refl }

-- a call that was made for an executed command, if its LUN is a unit's number
pub record Called {S : Type 0} (notes : S → DoneValue → S → Type 0) (waits : DoneValue → Option ReplyTicket → Type 0) (n : Nexus) (s : S) (e : Executed) (unit : Option ℕ)
    (reply : Reply) (ticket : Option ReplyTicket) (t : S) : Type 0 where
  pub call : Option DoneValue
  pub made : Calls notes n s (call_list call) t
  pub handed_is : commands_of (call_list call) ≡ call_for unit e.command.cdb e.bytes
  pub replied : RepliesTo waits e unit call reply ticket
  pub calls_are : command_calls (call_list call) ≡ call_list call

is_called : {S : Type 0} (notes : S → DoneValue → S → Type 0) (waits : DoneValue → Option ReplyTicket → Type 0) (n : Nexus) (s t : S) (e : Executed) (unit : Option ℕ) (reply : Reply)
    (ticket : Option ReplyTicket) → Replies notes waits n s unit e.command.cdb e.bytes reply ticket t
    → Called notes waits n s e unit reply ticket t
is_called notes waits n s t e (Some unit) reply ticket so = record {
  call = Some so.0;
  made = (t, inl so.1.0, so.2, refl);
  handed_is =
      ap (λ (u : ℕ). asked_command u so.0.asked ++ []) so.1.1 ∙ ap (λ (v : EventValue). asked_command unit v ++ []) so.1.2;
  replied = (so.1.1, so.1.2, so.3, so.4);
  calls_are = ap (λ (v : EventValue). command_call so.0 v ++ []) so.1.2;
}
is_called notes waits n s t e None reply ticket so =
    record { call = None; made = so.2; handed_is = refl; replied = (so.0, so.1); calls_are = refl }

carries_one : {S : Type 0} (notes : S → DoneValue → S → Type 0) (waits : DoneValue → Option ReplyTicket → Type 0) (n : Nexus) (s t : S) (e : Executed) (reply : Reply) (ticket : Option ReplyTicket)
    (data_ins : ℕ) (call : Called notes waits n s e (unit_of e.command.lun) reply ticket t)
    → Carries notes waits n s (e ∷ []) (record { executed = e; call = call.call; reply = reply; ticket = ticket; data_ins = data_ins } ∷ []) t
carries_one notes waits n s t e reply ticket data_ins call = record {
  calls = call_list call.call;
  made = call.made;
  handed_is = call.handed_is ∙ sym (append-nil (call_for (unit_of e.command.lun) e.command.cdb e.bytes));
  carried_out_are = refl;
  replied = (call.replied, tt);
  calls_are = call.calls_are ∙ sym (append-nil (call_list call.call));
}

-- behind an act what is done adds acts, which bring and execute nothing: a command that is answered, or whose reply is held, is in hand no longer
pub record Follows (k : TasksValue) (held : List HeldReply) (k' : TasksValue) : Type 0 where
  pub acts : List Act
  pub run_is : k' ≡ run k acts
  pub brings : brought acts ≡ []
  pub executes : executed k acts ≡ []
  pub holds : held_in k acts ≡ held
  pub settles : settled_in acts ≡ []

follows_none : (k k' : TasksValue) → k' ≡ k → Follows k [] k'
follows_none k k' same = record { acts = []; run_is = same; brings = refl; executes = refl; holds = refl; settles = refl }

answered_follows : (k k' : TasksValue) → k' ≡ stepped k Answered → Follows k [] k'
answered_follows k k' steps =
    record { acts = Answered ∷ []; run_is = steps; brings = refl; executes = refl; holds = refl; settles = refl }

says_follows : (k k' : TasksValue) (e : Executed) (reply : Reply) (ticket : Option ReplyTicket) (said : List TargetPduValue)
    → k.in_hand ≡ Some e.command → AnswersOrHolds k e.command (min (length e.bytes) 0xFFFFFFFF) reply ticket said k'
    → Follows k (held_if e reply ticket (length said) ++ []) k'
says_follows k k' e reply None said hand so = answered_follows k k' so.2
says_follows k k' e reply (Some ticket) said hand so = record {
  acts = Held (held_reply reply (min (length e.bytes) 0xFFFFFFFF) (length said)) ticket ∷ [];
  run_is = so.3;
  brings = refl;
  executes = refl;
  holds = ap (λ (o : Option ScsiCommand). held_for (held_reply reply (min (length e.bytes) 0xFFFFFFFF) (length said)) ticket o ++ []) hand;
  settles = refl;
}

-- the command that is to be executed is in hand
abbrev pub HasCommand : Outcome → TasksValue → Type 0
HasCommand Nothing k = Unit {0}
HasCommand (Execute command bytes) k = k.in_hand ≡ Some command
HasCommand (Fail command fault) k = Unit {0}
HasCommand (Ask request) k = Unit {0}
HasCommand (Reject reason) k = Unit {0}

command_in_hand : (k : TasksValue) (c : ScsiCommand) (payload : List ℕ) (r : Result TakenCommand TasksFault)
    → HasCommand (command_outcome c payload r) (after_command k c payload r)
command_in_hand k c payload (Ok taken.PassedOver) = tt
command_in_hand k c payload (Ok taken.Waits) = tt
command_in_hand k c payload (Ok (taken.Rejected reason)) = tt
command_in_hand k c payload (Ok (taken.Execute count)) = refl
command_in_hand k c payload (Err fault) = tt

data_in_hand : (k : TasksValue) (r : Result TakenData TasksFault) → HasCommand (data_outcome r) k
data_in_hand k (Ok taken_data.Taken) = tt
data_in_hand k (Ok taken_data.PassedOver) = tt
data_in_hand k (Ok (taken_data.Rejected reason)) = tt
data_in_hand k (Err fault) = tt

turn_in_hand : (k : TasksValue) (t : TaskValue) (b : Bool)
    → HasCommand (next_outcome (cond b (found.Execute (tasks.handed k.limit t)) (found.Ask (request k.parameters k.limit k.next_tag t))))
    (cond b (without_first k t) (with_first_asked k t))
turn_in_hand k t true = refl
turn_in_hand k t false = tt

task_in_hand : (k : TasksValue) (t : TaskValue) (a : Awaiting) → HasCommand (next_outcome (next_at k t a)) (left_at k t a)
task_in_hand k t awaits.Turn = turn_in_hand k t (is_whole k.limit t)
task_in_hand k t (awaits.Data sequence) = tt
task_in_hand k t (awaits.Failing fault) = tt
task_in_hand k t (awaits.Failed fault) = tt

next_in_hand : (k : TasksValue) (o : Option TaskValue) → HasCommand (next_outcome (next_for k o)) (left_for k o)
next_in_hand k None = tt
next_in_hand k (Some t) = task_in_hand k t t.awaiting

act_in_hand : (k : TasksValue) (act : Act) → HasCommand (outcome k act) (stepped k act)
act_in_hand k (Commanded c payload) = command_in_hand k c payload (command_answer k c payload)
act_in_hand k (DataCame d payload) = data_in_hand (stepped k (DataCame d payload)) (data_answer k d (length payload))
act_in_hand k AskedNext = next_in_hand k (slice_get k.waiting 0)
act_in_hand k (Numbered immediate cmd_sn) = tt
act_in_hand k (Aborted unit tag) = tt
act_in_hand k (Dropped unit by) = tt
act_in_hand k Answered = tt
act_in_hand k (Held reply ticket) = tt
act_in_hand k (Settled ticket by) = tt

-- what an outcome comes to
pub record Did {S : Type 0} (notes : S → DoneValue → S → Type 0) (waits : DoneValue → Option ReplyTicket → Type 0) (n : Nexus) (s : S) (k : TasksValue) (o : Outcome)
    (k' : TasksValue) (t : S) : Type 0 where
  pub carried_out : List CarriedOut
  pub carries : Carries notes waits n s (executes o) carried_out t
  pub then : Follows k (held_of carried_out) k'

does_carries : {S : Type 0} (notes : S → DoneValue → S → Type 0) (waits : DoneValue → Option ReplyTicket → Type 0) (n : Nexus) (s t : S) (k k' : TasksValue) (o : Outcome)
    (said : List TargetPduValue)
    → HasCommand o k → Does notes waits n s k o said k' t → Did notes waits n s k o k' t
does_carries notes waits n s t k k' Nothing said hand does =
    record { carried_out = []; carries = carries_none notes waits n s t does.2; then = follows_none k k' does.1 }
does_carries {S} notes waits n s t k k' (Execute command bytes) said hand does =
    let e : Executed = record { command = command; bytes = bytes } in
    let call : Called notes waits n s e (unit_of command.lun) does.reply does.ticket t =
    is_called notes waits n s t e (unit_of command.lun) does.reply does.ticket does.replied in record {
      carried_out = record { executed = e; call = call.call; reply = does.reply; ticket = does.ticket; data_ins = length said } ∷ [];
      carries = carries_one notes waits n s t e does.reply does.ticket (length said) call;
      then = says_follows k k' e does.reply does.ticket said hand does.says;
    }
does_carries notes waits n s t k k' (Fail command fault) said hand does =
    record { carried_out = []; carries = carries_none notes waits n s t does.4; then = answered_follows k k' does.2 }
does_carries notes waits n s t k k' (Ask request) said hand does =
    record { carried_out = []; carries = carries_none notes waits n s t does.3; then = follows_none k k' does.2 }
does_carries notes waits n s t k k' (Reject reason) said hand does =
    record { carried_out = []; carries = carries_none notes waits n s t does.4; then = follows_none k k' does.3 }

acts_hands : {S : Type 0} (notes : S → DoneValue → S → Type 0) (waits : DoneValue → Option ReplyTicket → Type 0) (n : Nexus) (k k' : TasksValue) (s t : S) (act : Act)
    (said : List TargetPduValue) → held_by k act ≡ [] → settled_by act ≡ []
    → Acts notes waits n k s act said k' t
    → Hands notes waits n k s (brought (act ∷ [])) [] k' t
acts_hands {S} notes waits n k k' s t act said no_reply no_ticket so =
    let o = outcome k act in
    let did : Did notes waits n s (stepped k act) o k' t =
    does_carries notes waits n s t (stepped k act) k' o said (act_in_hand k act) so in
    let then : Follows (stepped k act) (held_of did.carried_out) k' = did.then in
    let all : executes o ≡ executed k (act ∷ then.acts) =
    sym (act_executes k act) ∙ sym (append-nil (executed_by k act))
    ∙ ap (λ (es : List Executed). executed_by k act ++ es) (sym then.executes) in record {
      acts = act ∷ then.acts;
      calls = did.carries.calls;
      run_is = then.run_is;
      brought_is =
          brought_append (act ∷ []) then.acts ∙ ap (λ (l : List Act). brought (act ∷ []) ++ l) then.brings
          ∙ append-nil (brought (act ∷ []));
      made = did.carries.made;
      handed_is = did.carries.handed_is ∙ ap handed all;
      carried_out = did.carried_out;
      carried_out_are = did.carries.carried_out_are ∙ all;
      replied = did.carries.replied;
      calls_are = did.carries.calls_are;
      holds = ap (λ (rs : List HeldReply). rs ++ held_in (stepped k act) then.acts) no_reply ∙ then.holds;
      settled = ap (λ (l : List Settlement). l ++ settled_in then.acts) no_ticket ∙ then.settles;
    }

-- ---- what is to be done next

units_hand : {S : Type 0} (notes : S → DoneValue → S → Type 0) (waits : DoneValue → Option ReplyTicket → Type 0) (n : Nexus) (k : TasksValue) (s : S) (units : List ℕ)
    → Hands notes waits n k s [] [] (without_units k units) s
units_hand notes waits n k s [] = hands_none notes waits n k k s s refl refl
units_hand {S} notes waits n k s (unit ∷ units) =
    hands_then notes waits n k (without_units k units) (reset_by_another (without_units k units) unit) s s s [] [] [] [] (units_hand notes waits n k s units)
    (acts_hands notes waits n (without_units k units) (reset_by_another (without_units k units) unit) s s (Dropped unit true) [] refl refl (refl, refl, refl))

goes_hands : {S : Type 0} (notes : S → DoneValue → S → Type 0) (waits : DoneValue → Option ReplyTicket → Type 0) (n : Nexus) (times : ℕ) (k k' : TasksValue) (s t : S)
    (said : List TargetPduValue)
    → GoesOn notes waits n times k s said k' t → Hands notes waits n k s [] [] k' t
unfolding GoesOn
goes_hands notes waits n zero k k' s t said so = hands_none notes waits n k k' s t so.1 so.2
goes_hands {S} notes waits n (suc times) k k' s t said so =
    hands_then notes waits n k so.0 k' s so.1 t [] [] [] [] (goes_hands notes waits n times k so.0 s so.1 so.2 so.5)
    (acts_hands notes waits n so.0 k' so.1 t AskedNext so.3 refl refl so.6)

settled_hands : {S : Type 0} (notes : S → DoneValue → S → Type 0) (waits : DoneValue → Option ReplyTicket → Type 0) (n : Nexus) (k k' : TasksValue) (s t : S) (ticket : ReplyTicket)
    (outcome : keeping.Outcome) → k' ≡ stepped k (Settled ticket outcome) → t ≡ s
    → Hands notes waits n k s [] (record { ticket = ticket; outcome = outcome } ∷ []) k' t
settled_hands notes waits n k k' s t ticket outcome steps still =
    still_hands notes waits n k k' s t (Settled ticket outcome ∷ []) (record { ticket = ticket; outcome = outcome } ∷ []) steps refl refl refl still refl

-- ---- task management

number_hands : {S : Type 0} (notes : S → DoneValue → S → Type 0) (waits : DoneValue → Option ReplyTicket → Type 0) (n : Nexus) (k k' : TasksValue) (s t : S) (immediate : Bool)
    (cmd_sn : SerialNumber)
    → k' ≡ stepped k (Numbered immediate cmd_sn) → t ≡ s → Hands notes waits n k s [] [] k' t
number_hands notes waits n k k' s t immediate cmd_sn steps still =
    still_hands notes waits n k k' s t (Numbered immediate cmd_sn ∷ []) ([]) steps refl refl refl still refl

abort_hands : {S : Type 0} (notes : S → DoneValue → S → Type 0) (waits : DoneValue → Option ReplyTicket → Type 0) (n : Nexus) (k k' : TasksValue) (s t : S) (unit tag : ℕ)
    → k' ≡ stepped k (Aborted unit tag) → t ≡ s → Hands notes waits n k s [] [] k' t
abort_hands notes waits n k k' s t unit tag steps still =
    still_hands notes waits n k k' s t (Aborted unit tag ∷ []) ([]) steps refl refl refl still refl

drop_hands : {S : Type 0} (notes : S → DoneValue → S → Type 0) (waits : DoneValue → Option ReplyTicket → Type 0) (n : Nexus) (k k' : TasksValue) (s t : S) (unit : ℕ) → k' ≡ stepped k
    (Dropped unit false)
    → t ≡ s → Hands notes waits n k s [] [] k' t
drop_hands notes waits n k k' s t unit steps still =
    still_hands notes waits n k k' s t (Dropped unit false ∷ []) ([]) steps refl refl refl still refl

reset_hands : {S : Type 0} (notes : S → DoneValue → S → Type 0) (waits : DoneValue → Option ReplyTicket → Type 0) (n : Nexus) (k k' : TasksValue) (s t : S) (unit : ℕ)
    (result : TaskManagementResult)
    → k' ≡ stepped k (Dropped unit false) → Resets notes unit s t result
    → Hands notes waits n k s [] [] k' t
reset_hands notes waits n k k' s t unit result steps so = record {
  acts = Dropped unit false ∷ [];
  calls = so.0 ∷ [];
  run_is = steps;
  brought_is = refl;
  made = (t, inr (so.1.0, so.1.2), so.2, refl);
  handed_is = ap (λ (e : EventValue). asked_command so.0.lun e ++ []) so.1.2;
  carried_out = [];
  carried_out_are = refl;
  replied = tt;
  calls_are = ap (λ (e : EventValue). command_call so.0 e ++ []) so.1.2;
  holds = refl;
  settled = refl;
}

below_hands : {S : Type 0} (notes : S → DoneValue → S → Type 0) (waits : DoneValue → Option ReplyTicket → Type 0) (n : Nexus) (units : ℕ) (k k' : TasksValue) (s t : S)
    (result : TaskManagementResult) → ResetsBelow notes units k s k' t result → Hands notes waits n k s [] [] k' t
below_hands notes waits n zero k k' s t result so = hands_none notes waits n k k' s t so.0 so.1
below_hands {S} notes waits n (suc unit) k k' s t result so =
    hands_then notes waits n k so.0 k' s so.1 t [] [] [] [] (below_hands notes waits n unit k so.0 s so.1 so.2 so.4)
    (reset_hands notes waits n so.0 k' so.1 t unit so.3 so.5 so.6)

aborts_task : {S : Type 0} (notes : S → DoneValue → S → Type 0) (waits : DoneValue → Option ReplyTicket → Type 0) (n : Nexus) (k k' : TasksValue) (s t : S) (tag : ℕ) (o : Option ℕ)
    (result : TaskManagementResult) → AbortsTask k tag o k' result → t ≡ s → Hands notes waits n k s [] [] k' t
aborts_task notes waits n k k' s t tag None result so still = hands_none notes waits n k k' s t so.0 still
aborts_task notes waits n k k' s t tag (Some unit) result so still = abort_hands notes waits n k k' s t unit tag so.0 still

aborts_set : {S : Type 0} (notes : S → DoneValue → S → Type 0) (waits : DoneValue → Option ReplyTicket → Type 0) (n : Nexus) (k k' : TasksValue) (s t : S) (o : Option ℕ)
    (result : TaskManagementResult) → AbortsTaskSet k o k' result → t ≡ s → Hands notes waits n k s [] [] k' t
aborts_set notes waits n k k' s t None result so still = hands_none notes waits n k k' s t so.0 still
aborts_set notes waits n k k' s t (Some unit) result so still = drop_hands notes waits n k k' s t unit so.0 still

unit_hands : {S : Type 0} (notes : S → DoneValue → S → Type 0) (waits : DoneValue → Option ReplyTicket → Type 0) (n : Nexus) (k k' : TasksValue) (s t : S) (o : Option ℕ)
    (result : TaskManagementResult) → ResetsUnit notes k s o k' t result → Hands notes waits n k s [] [] k' t
unit_hands notes waits n k k' s t None result so = hands_none notes waits n k k' s t so.0 so.1
unit_hands notes waits n k k' s t (Some unit) result so = reset_hands notes waits n k k' s t unit result so.0 so.1

manages_hands : {S : Type 0} (notes : S → DoneValue → S → Type 0) (waits : DoneValue → Option ReplyTicket → Type 0) (n : Nexus) (units : ℕ) (r : TaskManagementRequest) (k k' : TasksValue)
    (s t : S)
    (f : TaskManagementFunction) (result : TaskManagementResult)
    → Manages notes units r k s f k' t result → Hands notes waits n k s [] [] k' t
manages_hands notes waits n units r k k' s t asked.AbortTask result so =
    aborts_task notes waits n k k' s t r.referenced_task_tag (unit_below units (unit_of r.lun)) result so.0 so.1
manages_hands notes waits n units r k k' s t asked.AbortTaskSet result so = aborts_set notes waits n k k' s t (unit_below units (unit_of r.lun)) result
    so.0 so.1
manages_hands notes waits n units r k k' s t asked.LogicalUnitReset result so = unit_hands notes waits n k k' s t (unit_below units (unit_of r.lun))
    result so
manages_hands notes waits n units r k k' s t asked.TargetWarmReset result so = below_hands notes waits n units k k' s t result so
manages_hands notes waits n units r k k' s t asked.TaskReassign result so = hands_none notes waits n k k' s t so.0 so.1
manages_hands notes waits n units r k k' s t asked.ClearAca result so = hands_none notes waits n k k' s t so.0 so.1
manages_hands notes waits n units r k k' s t asked.ClearTaskSet result so = hands_none notes waits n k k' s t so.0 so.1
manages_hands notes waits n units r k k' s t asked.TargetColdReset result so = hands_none notes waits n k k' s t so.0 so.1
manages_hands notes waits n units r k k' s t asked.Reserved result so = hands_none notes waits n k k' s t so.0 so.1

counts : (k : TasksValue) (immediate b : Bool) → b ≡ true → counted k immediate ≡ cond b (counted k immediate) k
counts k immediate true e = refl
counts k immediate false e = absurd cc

by_test : {P Q R : Type 0} (b : Bool) → MatchBool b P Q → (b ≡ true → P → R) → (b ≡ false → Q → R) → R
by_test true so f g = f refl so
by_test false so f g = g refl so

managed_by : {S : Type 0} (notes : S → DoneValue → S → Type 0) (waits : DoneValue → Option ReplyTicket → Type 0) (count : S → ℕ) (n : Nexus) (r : TaskManagementRequest) (k k' : TasksValue)
    (s t : S)
    (said : List TargetPduValue) → ManagesTasks notes count r k s said k' t
    → Hands notes waits n k s [] [] k' t
managed_by {S} notes waits count n r k k' s t said so =
    by_test (is_taken k r.immediate r.cmd_sn) so
    (λ is got. hands_then notes waits n k (counted k r.immediate) k' s s t [] [] [] []
    (number_hands notes waits n k (counted k r.immediate) s s r.immediate r.cmd_sn
    (counts k r.immediate (is_taken k r.immediate r.cmd_sn) is) refl)
    (manages_hands notes waits n (count s) r (counted k r.immediate) k' s t r.function got.0 got.2))
    (λ is got. hands_none notes waits n k k' s t got.1 got.2)

-- ---- PDUs

task_hands : {S : Type 0} (notes : S → DoneValue → S → Type 0) (waits : DoneValue → Option ReplyTicket → Type 0) (count : S → ℕ) (n : Nexus) (h : InitiatorHeader) (payload : List ℕ)
    (k k' : TasksValue) (s t : S) (said : List TargetPduValue)
    → TakesTask notes waits count n h payload k s said k' t → Hands notes waits n k s (brought_by h payload) [] k' t
task_hands notes waits count n (sent.ScsiCommand p) payload k k' s t said so = acts_hands notes waits n k k' s t (Commanded p payload) said refl refl so
task_hands notes waits count n (sent.DataOut p) payload k k' s t said so = acts_hands notes waits n k k' s t (DataCame p payload) said refl refl so
task_hands notes waits count n (sent.TaskManagementRequest r) payload k k' s t said so = managed_by notes waits count n r k k' s t said so
task_hands notes waits count n (sent.NopOut p) payload k k' s t said so = absurd so
task_hands notes waits count n (sent.TextRequest p) payload k k' s t said so = absurd so
task_hands notes waits count n (sent.LogoutRequest p) payload k k' s t said so = absurd so
task_hands notes waits count n (sent.LoginRequest p) payload k k' s t said so = absurd so
task_hands notes waits count n (sent.SnackRequest p) payload k k' s t said so = absurd so
task_hands notes waits count n (sent.Unknown p) payload k k' s t said so = absurd so

works_hands : {S : Type 0} (notes : S → DoneValue → S → Type 0) (waits : DoneValue → Option ReplyTicket → Type 0) (count : S → ℕ) (n : Nexus) (h : InitiatorHeader) (payload : List ℕ)
    (k k' : TasksValue)
    (s t : S) (said : List TargetPduValue) → Works notes waits count n h payload k s said k' t → Hands notes waits n k s (brought_by h payload) [] k' t
works_hands {S} notes waits count n h payload k k' s t said so =
    subst (λ (xs : List Act). Hands notes waits n k s xs [] k' t) (append-nil (brought_by h payload))
    (hands_then notes waits n k so.tasks k' s so.service t (brought_by h payload) [] [] []
    (task_hands notes waits count n h payload k so.tasks s so.service so.first so.takes)
    (goes_hands notes waits n so.times so.tasks k' so.service t so.others so.goes_on))

others_hand : {S : Type 0} (notes : S → DoneValue → S → Type 0) (waits : DoneValue → Option ReplyTicket → Type 0) (n : Nexus) (h : InitiatorHeader) (payload : List ℕ) (k k' : TasksValue)
    (s t : S)
    → is_of_tasks h ≡ false → k' ≡ behind_other k h → t ≡ s
    → Hands notes waits n k s (brought_by h payload) [] k' t
others_hand notes waits n (sent.NopOut p) payload k k' s t other steps still = number_hands notes waits n k k' s t p.immediate p.cmd_sn steps still
others_hand notes waits n (sent.TextRequest p) payload k k' s t other steps still = number_hands notes waits n k k' s t p.immediate p.cmd_sn steps still
others_hand notes waits n (sent.LogoutRequest p) payload k k' s t other steps still = number_hands notes waits n k k' s t p.immediate p.cmd_sn steps
    still
others_hand notes waits n (sent.Unknown p) payload k k' s t other steps still = number_hands notes waits n k k' s t p.immediate p.cmd_sn steps still
others_hand notes waits n (sent.LoginRequest p) payload k k' s t other steps still = hands_none notes waits n k k' s t steps still
others_hand notes waits n (sent.SnackRequest p) payload k k' s t other steps still = hands_none notes waits n k k' s t steps still
others_hand notes waits n (sent.ScsiCommand p) payload k k' s t other steps still = absurd cc
others_hand notes waits n (sent.DataOut p) payload k k' s t other steps still = absurd cc
others_hand notes waits n (sent.TaskManagementRequest p) payload k k' s t other steps still = absurd cc

says_hands : {S : Type 0} (notes : S → DoneValue → S → Type 0) (waits : DoneValue → Option ReplyTicket → Type 0) (count : S → ℕ) (n : Nexus) (p : InitiatorPduValue) (k k' : TasksValue)
    (s t : S)
    (said : List TargetPduValue) → Says (Works notes waits count n) p k s said k' t → Hands notes waits n k s (brought_by p.header p.payload) [] k' t
says_hands {S} notes waits count n p k k' s t said so =
    by_test (is_of_tasks p.header) so (λ is got. works_hands notes waits count n p.header p.payload k k' s t said got)
    (λ is got. others_hand notes waits n p.header p.payload k k' s t is got.0 got.1)

pub talks_hands : {S : Type 0} (notes : S → DoneValue → S → Type 0) (waits : DoneValue → Option ReplyTicket → Type 0) (count : S → ℕ) (n : Nexus) (resets ends : ℕ → Type 0)
    (settles : ReplyTicket → keeping.Outcome → Type 0) (es : List Event)
    (k k' : TasksValue) (s t : S) (said : List TargetPduValue) → Talks (normal_world notes waits count n resets ends settles) es k s said k' t
    → Hands notes waits n k s (brought_in es) (settlements es) k' t
talks_hands notes waits count n resets ends settles [] k k' s t said so = hands_none notes waits n k k' s t so.1 so.2
talks_hands {S} notes waits count n resets ends settles (Silence ∷ es) k k' s t said so =
    hands_then notes waits n k so.0 k' s so.1 t [] (brought_in es) [] (settlements es) (hands_none notes waits n k so.0 s so.1 so.5.2 so.5.3)
    (talks_hands notes waits count n resets ends settles es so.0 k' so.1 t so.3 so.6)
talks_hands {S} notes waits count n resets ends settles (Ending seconds ∷ es) k k' s t said so =
    hands_then notes waits n k so.0 k' s so.1 t [] (brought_in es) [] (settlements es) (hands_none notes waits n k so.0 s so.1 so.5.2 so.5.3)
    (talks_hands notes waits count n resets ends settles es so.0 k' so.1 t so.3 so.6)
talks_hands {S} notes waits count n resets ends settles (Told units ∷ es) k k' s t said so =
    hands_then notes waits n k so.0 k' s so.1 t [] (brought_in es) [] (settlements es)
    (hands_then notes waits n k (without_units k units) so.0 s s so.1 [] [] [] [] (units_hand notes waits n k s units)
    (goes_hands notes waits n so.5.0 (without_units k units) so.0 s so.1 so.2 so.5.1)) (talks_hands notes waits count n resets ends settles es so.0 k' so.1 t
    so.3 so.6)
talks_hands {S} notes waits count n resets ends settles (Came p ∷ es) k k' s t said so =
    hands_then notes waits n k so.0 k' s so.1 t (brought_by p.header p.payload) (brought_in es) [] (settlements es)
    (says_hands notes waits count n p k so.0 s so.1 so.2 so.5.2)
    (talks_hands notes waits count n resets ends settles es so.0 k' so.1 t so.3 so.6)
talks_hands {S} notes waits count n resets ends settles (Released ticket outcome ∷ es) k k' s t said so =
    hands_then notes waits n k so.0 k' s so.1 t [] (brought_in es)
    (record { ticket = ticket; outcome = outcome } ∷ []) (settlements es) (settled_hands notes waits n k so.0 s so.1 ticket outcome so.5.0 so.5.2)
    (talks_hands notes waits count n resets ends settles es so.0 k' so.1 t so.3 so.6)
