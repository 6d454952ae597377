-- What comes of what happens to the tasks.
use Rattle.std.proofs.Common.{min, ◌≡◌, ◌≢◌, ℕ, ◌+◌, ◌*◌, ◌<◌, ◌≤◌, suc, Bool, true, false, MatchBool, cond, inl, ◌⊎◌, IsErr, List, [], ◌∷◌, ◌++◌, length}
use Rattle.std.proofs.Common.{drop, Option, Some, None, Result, Ok, Err, refl, sym, ap, subst, ◌∙◌, append_assoc, append-nil, arith}
use Rattle.std.specs.Prelude.{slice_get}
use Rattle.std.proofs.lemmas.Grind.{flat_map-append}
use Rattle.scsi_nexus.specs.declared.nexus.Nexus.{Nexus}
use Rattle.logical_unit.specs.Answers.{DoneValue}
use Rattle.iscsi_pdu.specs.Pdus.{TargetPduValue}
use Rattle.iscsi_pdu.specs.declared.scsi_command.ScsiCommand.{ScsiCommand}
use Rattle.iscsi_pdu.specs.declared.data_out.DataOut.{DataOut}
use Rattle.iscsi_answers.specs.Written.{bytes_of, bytes_of_all}
use Rattle.iscsi_tasks.specs.declared.awaiting.Awaiting.{Awaiting}
use Rattle.iscsi_tasks.specs.declared.awaiting.Awaiting.TheVariants as awaits
use Rattle.iscsi_tasks.specs.declared.fault.TasksFault.{TasksFault}
use Rattle.iscsi_tasks.specs.declared.fault.TasksFault.TheVariants.{NoMemory}
use Rattle.iscsi_tasks.specs.declared.next_task.NextTask.{NextTask}
use Rattle.iscsi_tasks.specs.declared.next_task.NextTask.TheVariants as found
use Rattle.iscsi_pdu.specs.declared.reject_reason.RejectReason.{RejectReason}
use Rattle.iscsi_pdu.specs.declared.serial_number.SerialNumber.{SerialNumber}
use Rattle.iscsi_tasks.specs.declared.taken.TakenCommand.{TakenCommand}
use Rattle.iscsi_tasks.specs.declared.taken.TakenCommand.TheVariants as taken
use Rattle.iscsi_tasks.specs.declared.taken.TakenData.TheVariants as taken_data
use Rattle.iscsi_tasks.specs.declared.taken.TakenData.{TakenData}
use Rattle.iscsi_tasks.specs.Values.{TaskValue, TasksValue}
use Rattle.iscsi_tasks.specs.Commands.{command_answer, after_command}
use Rattle.iscsi_tasks.specs.DataOuts.{data_answer, after_data}
use Rattle.iscsi_tasks.specs.Next.{asked, is_whole, next_of, after_next, next_for, left_for, next_at, left_at, handed, request, without_first, with_first_asked}
use Rattle.iscsi_tasks.specs.Runs.{Act, Commanded, DataCame, AskedNext, stepped}
use Rattle.iscsi_session.specs.Saying.{AddsPlain, IsOfNoCommand}
use Rattle.judgement.specs.declared.reply.Reply.{Reply}
use Rattle.tickets.specs.declared.ticket.ReplyTicket.{ReplyTicket}
use Rattle.iscsi_session.specs.Executing.{Acts, Adds, AnswersOrHolds, Does, GoesOn, OrElse, Outcome, Nothing, Execute, Fail, Ask, Reject, Tells, refusal}
use Rattle.iscsi_session.specs.Executing.{command_outcome, data_outcome, is_idle, next_outcome, outcome}

-- ---- bytes

pub said_none : (out out' : List ℕ) → out' ≡ out → out' ≡ out ++ bytes_of_all []
said_none out out' e = e ∙ sym (append-nil out)

pub said_one : (out out' : List ℕ) (p : TargetPduValue) → out' ≡ out ++ bytes_of p → out' ≡ out ++ bytes_of_all (p ∷ [])
said_one out out' p e = e ∙ ap (λ (xs : List ℕ). out ++ xs) (sym (append-nil (bytes_of p)))

pub said_more : (a b : List TargetPduValue) (out mid out' : List ℕ) → mid ≡ out ++ bytes_of_all a → out' ≡ mid ++ bytes_of_all b
    → out' ≡ out ++ bytes_of_all (a ++ b)
said_more a b out mid out' one two =
    two ∙ ap (λ (xs : List ℕ). xs ++ bytes_of_all b) one ∙ append_assoc out (bytes_of_all a) (bytes_of_all b)
    ∙ ap (λ (xs : List ℕ). out ++ xs) (sym (flat_map-append bytes_of a b))

-- ---- cases

pub surely : {A F : Type 0} (other P : Type 0) (r : Result A F) → P → OrElse r other P
surely other P (Ok value) p = p
surely other P (Err fault) p = inl p

pub by_fault : {A F : Type 0} (other P : Type 0) (r : Result A F) → IsErr r → P ⊎ other → OrElse r other P
by_fault other P (Ok value) e p = absurd cc
by_fault other P (Err fault) e p = p

pub when : (P Q : Type 0) (b : Bool) → b ≡ true → P → MatchBool b P Q
when P Q true e p = p
when P Q false e p = absurd cc

pub unless : (P Q : Type 0) (b : Bool) → b ≡ false → Q → MatchBool b P Q
unless P Q true e q = absurd cc
unless P Q false e q = q

pub adds_nothing : {A F : Type 0} (r : Result A F) (out out' : List ℕ) (said : List TargetPduValue) → IsErr r → Adds r out out' said
adds_nothing (Ok value) out out' said e = absurd cc
adds_nothing (Err fault) out out' said e = tt

-- ---- one PDU that concerns no command

pub plain_one : (out out' : List ℕ) (p : TargetPduValue) → out' ≡ out ++ bytes_of p → IsOfNoCommand p.header → AddsPlain out out'
plain_one out out' p e plain = (p ∷ [], plain, said_one out out' p e)

-- ---- acts

pub next_does : {S : Type 0} (notes : S → DoneValue → S → Type 0) (waits : DoneValue → Option ReplyTicket → Type 0) (n : Nexus) (k k' : TasksValue) (s t : S) (next is : NextTask)
    (said : List TargetPduValue)
    → next ≡ is → Does notes waits n s k (next_outcome is) said k' t → Does notes waits n s k (next_outcome next) said k' t
next_does notes waits n k k' s t next is said same does = subst (λ (x : NextTask). Does notes waits n s k (next_outcome x) said k' t) (sym same) does

pub next_acts : {S : Type 0} (notes : S → DoneValue → S → Type 0) (waits : DoneValue → Option ReplyTicket → Type 0) (n : Nexus) (k k1 k' : TasksValue) (s t : S) (next : NextTask)
    (said : List TargetPduValue)
    → next ≡ next_of k → k1 ≡ after_next k → Does notes waits n s k1 (next_outcome next) said k' t → Acts notes waits n k s AskedNext said k' t
next_acts {S} notes waits n k k1 k' s t next said is left does =
    subst (λ (x : TasksValue). Does notes waits n s x (next_outcome (next_of k)) said k' t) left
    (subst (λ (x : NextTask). Does notes waits n s k1 (next_outcome x) said k' t) is does)

command_is : (r : Result TakenCommand TasksFault) (v : TakenCommand) (asked : Result TakenCommand TasksFault) → r ≡ Ok v
    → (r ≢ Err NoMemory → r ≡ asked) → asked ≡ Ok v
command_is r v asked is told = sym (told (λ e. absurd cc)) ∙ is

-- a command that was taken so
pub command_acts : {S : Type 0} (notes : S → DoneValue → S → Type 0) (waits : DoneValue → Option ReplyTicket → Type 0) (n : Nexus) (k k1 k' : TasksValue) (s t : S) (c : ScsiCommand) (payload : List ℕ)
    (r : Result TakenCommand TasksFault) (v : TakenCommand)
    (said : List TargetPduValue) → r ≡ Ok v → (r ≢ Err NoMemory → r ≡ command_answer k c payload) → k1 ≡ after_command k c payload r
    → Does notes waits n s k1 (command_outcome c payload (Ok v)) said k' t → Acts notes waits n k s (Commanded c payload) said k' t
command_acts {S} notes waits n k k1 k' s t c payload r v said is told after does =
    let e : command_answer k c payload ≡ Ok v = command_is r v (command_answer k c payload) is told in
    subst (λ (x : TasksValue). Does notes waits n s x (command_outcome c payload (command_answer k c payload)) said k' t)
    (after ∙ ap (after_command k c payload) (is ∙ sym e))
    (subst (λ (a : Result TakenCommand TasksFault). Does notes waits n s k1 (command_outcome c payload a) said k' t) (sym e) does)

-- and was rejected
pub command_rejected : {S : Type 0} (notes : S → DoneValue → S → Type 0) (waits : DoneValue → Option ReplyTicket → Type 0) (n : Nexus) (k k1 k' : TasksValue) (s : S) (c : ScsiCommand)
    (payload : List ℕ) (r : Result TakenCommand TasksFault) (v : TakenCommand)
    (reason : RejectReason) (stat_sn : SerialNumber) (rejected : List ℕ) → r ≡ Ok v → v ≡ taken.Rejected reason
    → (r ≢ Err NoMemory → r ≡ command_answer k c payload) → k1 ≡ after_command k c payload r → k' ≡ k1
    → Acts notes waits n k s (Commanded c payload) (refusal k1 stat_sn reason rejected) k' s
command_rejected {S} notes waits n k k1 k' s c payload r v reason stat_sn rejected is as_ told after same =
    command_acts notes waits n k k1 k' s s c payload r (taken.Rejected reason) (refusal k1 stat_sn reason rejected) (cc) told after
    (stat_sn, rejected, refl, same, refl)

data_is : (r : Result TakenData TasksFault) (v : TakenData) (asked : Result TakenData TasksFault) → r ≡ Ok v → (r ≢ Err NoMemory → r ≡ asked) → asked ≡ Ok v
data_is r v asked is told = sym (told (λ e. absurd cc)) ∙ is

-- a Data-Out that was taken so
pub data_steps : (k k1 k' : TasksValue) (d : DataOut) (payload : List ℕ) (r : Result TakenData TasksFault) (v : TakenData) → r ≡ Ok v
    → (r ≢ Err NoMemory → r ≡ data_answer k d (length payload))
    → k1 ≡ after_data k d payload r → k' ≡ k1 → k' ≡ stepped k (DataCame d payload)
data_steps k k1 k' d payload r v is told after same =
    let e : data_answer k d (length payload) ≡ Ok v = data_is r v (data_answer k d (length payload)) is told in
    same ∙ after ∙ ap (after_data k d payload) (is ∙ sym e)

pub data_tells : (k k1 k' : TasksValue) (d : DataOut) (payload : List ℕ) (r : Result TakenData TasksFault) (v : TakenData)
    (said : List TargetPduValue) → r ≡ Ok v
    → (r ≢ Err NoMemory → r ≡ data_answer k d (length payload)) → k' ≡ k1 → Tells k1 (data_outcome (Ok v)) said → Tells k' (outcome k (DataCame d payload)) said
data_tells k k1 k' d payload r v said is told same tells =
    let e : data_answer k d (length payload) ≡ Ok v = data_is r v (data_answer k d (length payload)) is told in
    subst (λ (x : TasksValue). Tells x (data_outcome (data_answer k d (length payload))) said) (sym same)
    (subst (λ (a : Result TakenData TasksFault). Tells k1 (data_outcome a) said) (sym e) tells)

pub data_rejected : (k k1 k' : TasksValue) (d : DataOut) (payload : List ℕ) (r : Result TakenData TasksFault) (v : TakenData) (reason : RejectReason)
    (stat_sn : SerialNumber) (rejected : List ℕ) → r ≡ Ok v
    → v ≡ taken_data.Rejected reason → (r ≢ Err NoMemory → r ≡ data_answer k d (length payload)) → k' ≡ k1 → Tells k' (outcome k (DataCame d payload))
    (refusal k1 stat_sn reason rejected)
data_rejected k k1 k' d payload r v reason stat_sn rejected is as_ told same =
    data_tells k k1 k' d payload r (taken_data.Rejected reason) (refusal k1 stat_sn reason rejected) (cc) told same (stat_sn, rejected, refl)

told_does : {S : Type 0} (notes : S → DoneValue → S → Type 0) (waits : DoneValue → Option ReplyTicket → Type 0) (n : Nexus) (s t : S) (k k' : TasksValue) (o : Outcome)
    (said : List TargetPduValue)
    → t ≡ s → k' ≡ k → Tells k o said → Does notes waits n s k o said k' t
told_does notes waits n s t k k' Nothing said same still tells = (tells, still, same)
told_does notes waits n s t k k' (Reject reason) said same still tells = (tells.0, tells.1, tells.2, still, same)
told_does notes waits n s t k k' (Execute command bytes) said same still tells = absurd tells
told_does notes waits n s t k k' (Fail command fault) said same still tells = absurd tells
told_does notes waits n s t k k' (Ask request) said same still tells = absurd tells

pub told_acts : {S : Type 0} (notes : S → DoneValue → S → Type 0) (waits : DoneValue → Option ReplyTicket → Type 0) (n : Nexus) (k k' : TasksValue) (s t : S) (act : Act) (said : List TargetPduValue)
    → t ≡ s → k' ≡ stepped k act
    → Tells k' (outcome k act) said → Acts notes waits n k s act said k' t
told_acts notes waits n k k' s t act said same steps tells =
    told_does notes waits n s t (stepped k act) k' (outcome k act) said same steps (subst (λ (x : TasksValue). Tells x
    (outcome k act) said) steps tells)

says_waiting : (k k' : TasksValue) (c : ScsiCommand) (handed_over : ℕ) (reply : Reply) (ticket : Option ReplyTicket) (said : List TargetPduValue)
    → AnswersOrHolds k c handed_over reply ticket said k' → k'.waiting ≡ k.waiting
says_waiting k k' c handed_over reply None said so = ap (λ (x : TasksValue). x.waiting) so.2
says_waiting k k' c handed_over reply (Some ticket) said so = ap (λ (x : TasksValue). x.waiting) so.3

-- what is done leaves those that wait
pub does_waiting : {S : Type 0} (notes : S → DoneValue → S → Type 0) (waits : DoneValue → Option ReplyTicket → Type 0) (n : Nexus) (s t : S) (k k' : TasksValue) (o : Outcome)
    (said : List TargetPduValue)
    → Does notes waits n s k o said k' t → k'.waiting ≡ k.waiting
does_waiting notes waits n s t k k' Nothing said does = ap (λ (x : TasksValue). x.waiting) does.1
does_waiting notes waits n s t k k' (Execute command bytes) said does =
    says_waiting k k' command (min (length bytes) 0xFFFFFFFF) does.reply does.ticket said does.says
does_waiting notes waits n s t k k' (Fail command fault) said does = ap (λ (x : TasksValue). x.waiting) does.2
does_waiting notes waits n s t k k' (Ask request) said does = ap (λ (x : TasksValue). x.waiting) does.2
does_waiting notes waits n s t k k' (Reject reason) said does = ap (λ (x : TasksValue). x.waiting) does.3

-- ---- what is to be done next, one after another

pub goes_none : {S : Type 0} (notes : S → DoneValue → S → Type 0) (waits : DoneValue → Option ReplyTicket → Type 0) (n : Nexus) (k : TasksValue) (s : S) → GoesOn notes waits n 0 k s [] k s
unfolding GoesOn
goes_none notes waits n k s = (refl, refl, refl)

pub goes_more : {S : Type 0} (notes : S → DoneValue → S → Type 0) (waits : DoneValue → Option ReplyTicket → Type 0) (n : Nexus) (times : ℕ) (k k1 k' : TasksValue) (s m t : S) (first last : List TargetPduValue)
    → GoesOn notes waits n times k s first k1 m → Acts notes waits n k1 m AskedNext last k' t → GoesOn notes waits n (times + 1) k s (first ++ last) k' t
unfolding GoesOn
goes_more {S} notes waits n times k k1 k' s m t first last so acts =
    let more : suc times ≡ times + 1 = omega arith in
    subst (λ (j : ℕ). GoesOn notes waits n j k s (first ++ last) k' t) more (k1, m, first, last, refl, so, acts)

-- ---- and there is an end to that

abbrev pub turn : Awaiting → ℕ
turn awaits.Turn = 2
turn (awaits.Data sequence) = 1
turn (awaits.Failing fault) = 1
turn (awaits.Failed fault) = 1

-- no more can be done than this
abbrev pub left_to_do : List TaskValue → ℕ
left_to_do [] = 0
left_to_do (t ∷ ts) = length ts * 2 + turn t.awaiting

few_turns : (a : Awaiting) → turn a ≤ 2
few_turns awaits.Turn = omega arith
few_turns (awaits.Data sequence) = omega arith
few_turns (awaits.Failing fault) = omega arith
few_turns (awaits.Failed fault) = omega arith

at_most : (ts : List TaskValue) → left_to_do ts ≤ length ts * 2
at_most [] = omega arith
at_most (t ∷ ts) = omega (arith, few_turns t.awaiting)

first_goes : (k : TasksValue) (t : TaskValue) (ts : List TaskValue) → k.waiting ≡ t ∷ ts → left_to_do (drop 1 k.waiting) < length ts * 2 + 1
first_goes k t ts e = subst (λ (ws : List TaskValue). left_to_do (drop 1 ws) < length ts * 2 + 1) (sym e) (omega (arith, at_most ts))

first_asked : (k : TasksValue) (t u : TaskValue) (ts : List TaskValue) → k.waiting ≡ t ∷ ts → turn u.awaiting ≡ 1
    → left_to_do (u ∷ drop 1 k.waiting) < length ts * 2 + 2
first_asked k t u ts e one = subst (λ (ws : List TaskValue). left_to_do (u ∷ drop 1 ws) < length ts * 2 + 2) (sym e) (omega (arith, one))

turn_falls : (k : TasksValue) (t : TaskValue) (ts : List TaskValue) (b : Bool) → k.waiting ≡ t ∷ ts
    → left_to_do (cond b (without_first k t) (with_first_asked k t)).waiting < length ts * 2 + 2
turn_falls k t ts true e = omega (arith, first_goes k t ts e)
turn_falls k t ts false e = first_asked k t (asked k.parameters k.limit k.next_tag t) ts e refl

task_falls : (k : TasksValue) (t : TaskValue) (ts : List TaskValue) (a : Awaiting) → k.waiting ≡ t ∷ ts → is_idle (next_at k t a) ≡ false
    → left_to_do (left_at k t a).waiting < length ts * 2 + turn a
task_falls k t ts awaits.Turn e goes = turn_falls k t ts (is_whole k.limit t) e
task_falls k t ts (awaits.Data sequence) e goes = absurd cc
task_falls k t ts (awaits.Failing fault) e goes = absurd cc
task_falls k t ts (awaits.Failed fault) e goes = first_goes k t ts e

tasks_fall : (k : TasksValue) (ws : List TaskValue) → k.waiting ≡ ws → is_idle (next_for k (slice_get ws 0)) ≡ false
    → left_to_do (left_for k (slice_get ws 0)).waiting < left_to_do ws
tasks_fall k [] e goes = absurd cc
tasks_fall k (t ∷ ts) e goes = task_falls k t ts t.awaiting e goes

pub falls : (k k1 k' : TasksValue) (next : NextTask) → next ≡ next_of k → k1 ≡ after_next k → k'.waiting ≡ k1.waiting → is_idle next ≡ false
    → left_to_do k'.waiting < left_to_do k.waiting
falls k k1 k' next is left same goes =
    subst (λ (ws : List TaskValue). left_to_do ws < left_to_do k.waiting) (sym (same
    ∙ ap (λ (x : TasksValue). x.waiting) left)) (tasks_fall k k.waiting refl (ap is_idle (sym is) ∙ goes))

-- ---- where nothing is to be done all stays

turn_goes : (k : TasksValue) (t : TaskValue) (b : Bool)
    → is_idle (cond b (found.Execute (handed k.limit t)) (found.Ask (request k.parameters k.limit k.next_tag t))) ≡ false
turn_goes k t true = refl
turn_goes k t false = refl

task_stays : (k : TasksValue) (t : TaskValue) (a : Awaiting) → is_idle (next_at k t a) ≡ true → left_at k t a ≡ k
task_stays k t awaits.Turn idle = let goes = turn_goes k t (is_whole k.limit t) in absurd cc
task_stays k t (awaits.Data sequence) idle = refl
task_stays k t (awaits.Failing fault) idle = refl
task_stays k t (awaits.Failed fault) idle = absurd cc

tasks_stay : (k : TasksValue) (o : Option TaskValue) → is_idle (next_for k o) ≡ true → left_for k o ≡ k
tasks_stay k None idle = refl
tasks_stay k (Some t) idle = task_stays k t t.awaiting idle

idle_only : (next : NextTask) → is_idle next ≡ true → next ≡ found.Idle
idle_only found.Idle idle = refl
idle_only (found.Execute t) idle = absurd cc
idle_only (found.Ask r) idle = absurd cc
idle_only (found.Fail t fault) idle = absurd cc

pub idle_stays : (k k1 : TasksValue) (next : NextTask) → next ≡ next_of k → k1 ≡ after_next k → is_idle next ≡ true → k1 ≡ k
idle_stays k k1 next is left idle = left ∙ tasks_stay k (slice_get k.waiting 0) (ap is_idle (sym is) ∙ idle)

pub idle_is : (k k1 : TasksValue) (next : NextTask) → next ≡ next_of k → k1 ≡ after_next k → is_idle next ≡ true → next_of k1 ≡ found.Idle
idle_is k k1 next is left idle = ap next_of (idle_stays k k1 next is left idle) ∙ sym is ∙ idle_only next idle
