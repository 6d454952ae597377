-- How much data the commands that wait hold.
use Rattle.std.proofs.Common.{◌≡◌, ℕ, ◌+◌, ◌≤◌, Bool, true, false, cond, not, nat_le, List, [], ◌∷◌, ◌++◌, length, Option, Some, None}
use Rattle.std.proofs.Common.{Result, Ok, Err, refl, sym, ap, subst, arith}
use Rattle.std.specs.Prelude.{filter, slice_get, drop}
use Rattle.std.proofs.lemmas.List.{length-append}
use Rattle.std.proofs.lemmas.List.Sums.{sum_by-cons, sum_by_push}
use Rattle.std.proofs.lemmas.Bool.{leb-true}
use Rattle.iscsi_pdu.specs.declared.serial_number.SerialNumber.{SerialNumber}
use Rattle.iscsi_pdu.specs.declared.scsi_command.ScsiCommand.{ScsiCommand}
use Rattle.iscsi_pdu.specs.declared.data_out.DataOut.{DataOut}
use Rattle.iscsi_pdu.specs.declared.reject_reason.RejectReason.TheVariants.{TaskInProgress, TooManyImmediateCommands}
use Rattle.iscsi_keys.specs.declared.parameters.SessionParameters.{SessionParameters}
use Rattle.iscsi_tasks.specs.declared.awaiting.Awaiting.{Awaiting}
use Rattle.iscsi_tasks.specs.declared.awaiting.Awaiting.TheVariants as awaits
use Rattle.iscsi_tasks.specs.declared.sequence.DataSequence.{DataSequence}
use Rattle.iscsi_tasks.specs.declared.fault.TaskFault.{TaskFault}
use Rattle.iscsi_tasks.specs.declared.fault.TasksFault.{TasksFault}
use Rattle.iscsi_tasks.specs.declared.fault.TasksFault.TheVariants.{TooMuchData}
use Rattle.iscsi_tasks.specs.declared.taken.TakenCommand.{TakenCommand}
use Rattle.iscsi_tasks.specs.declared.taken.TakenCommand.TheVariants as taken
use Rattle.iscsi_tasks.specs.declared.taken.TakenData.{TakenData}
use Rattle.iscsi_tasks.specs.Values.{TaskValue, TasksValue, begun_tasks, held}
use Rattle.iscsi_tasks.specs.Writes.{data_fault}
use Rattle.iscsi_tasks.specs.Limits.{most_held}
use Rattle.iscsi_tasks.specs.Commands.{has_tag, is_taken, counted, after_command, command_answer, begun_task, is_waiting, is_at_once}
use Rattle.iscsi_tasks.specs.Commands.{room_for, waits_if}
use Rattle.iscsi_tasks.specs.DataOuts.{unless_data_fault, task_at, task_after, tasks_after, data_answer, after_data, answer_among}
use Rattle.iscsi_tasks.specs.Next.{is_whole, asked, left_at, left_for, without_first, with_first_asked}
use Rattle.iscsi_tasks.specs.Aborts.{is_at, is_named, is_waiting_at, without_named}
use Rattle.iscsi_tasks.specs.Runs.{Act, Numbered, Commanded, DataCame, AskedNext, Aborted, Dropped, Answered, Held, Settled, stepped, run}
use Rattle.iscsi_tasks.proofs.Order.{count_waits}

held-cons : (t : TaskValue) (ts : List TaskValue) → held (t ∷ ts) ≡ length t.bytes + held ts
held-cons t ts = sum_by-cons (λ (u : TaskValue). length u.bytes) t ts

abbrev pub IsLittle : List TaskValue → Type 0
IsLittle ts = held ts ≤ most_held

-- ---- a command

only_room : (over again crowded now : Bool) (m : ℕ) (room : Result (Unit {0}) TasksFault)
    → cond over (Ok taken.PassedOver) (cond again (Ok (taken.Rejected TaskInProgress)) (cond crowded (Ok
    (taken.Rejected TooManyImmediateCommands))
    (cond now (Ok (taken.Execute m)) (waits_if room)))) ≡ Ok taken.Waits → room ≡ Ok tt
only_room true again crowded now m room e = absurd cc
only_room false true crowded now m room e = absurd cc
only_room false false true now m room e = absurd cc
only_room false false false true m room e = absurd cc
only_room false false false false m (Ok tt) e = refl
only_room false false false false m (Err fault) e = absurd cc

abbrev room_of : (fits : Bool) → Result (Unit {0}) TasksFault
room_of fits = cond fits (Ok tt) (Err TooMuchData)

only_fitting : (fits : Bool) → room_of fits ≡ Ok tt → fits ≡ true
only_fitting true e = refl
only_fitting false e = absurd cc

waits_bounded : (ts : List TaskValue) (t : TaskValue) → room_for ts (length t.bytes) ≡ Ok tt → IsLittle (ts ++ t ∷ [])
waits_bounded ts t e =
    let fits = only_fitting (nat_le (held ts + length t.bytes) most_held) e in
    omega (arith, leb-true (held ts + length t.bytes) most_held fits, sum_by_push (λ (u : TaskValue). length u.bytes) ts t)

commanded_bounded : (s : TasksValue) (c : ScsiCommand) (payload : List ℕ) (r : Result TakenCommand TasksFault)
    → (r ≡ Ok taken.Waits → room_for s.waiting (length (begun_task s.parameters c payload).bytes) ≡ Ok tt) → IsLittle s.waiting → IsLittle
    (after_command s c payload r).waiting
commanded_bounded s c payload (Ok taken.PassedOver) room b = b
commanded_bounded s c payload (Ok (taken.Rejected reason)) room b = subst IsLittle (sym (count_waits s c.immediate)) b
commanded_bounded s c payload (Ok (taken.Execute n)) room b = subst IsLittle (sym (count_waits s c.immediate)) b
commanded_bounded s c payload (Ok taken.Waits) room b = waits_bounded s.waiting (begun_task s.parameters c payload) (room refl)
commanded_bounded s c payload (Err fault) room b = b

-- ---- a Data-Out

added_size : (t : TaskValue) (s : DataSequence) (d : DataOut) (payload : List ℕ) (o : Option TaskFault) → length
    (unless_data_fault t s d payload o).bytes ≤ length t.bytes + length payload
added_size t s d payload (Some fault) = omega arith
added_size t s d payload None = omega (arith, length-append t.bytes payload)

task_size : (t : TaskValue) (a : Awaiting) (d : DataOut) (payload : List ℕ) → length (task_at t a d payload).bytes ≤ length t.bytes + length
    payload
task_size t awaits.Turn d payload = omega arith
task_size t (awaits.Data s) d payload = added_size t s d payload (data_fault s (length t.bytes) d (length payload))
task_size t (awaits.Failing fault) d payload = omega arith
task_size t (awaits.Failed fault) d payload = omega arith

abbrev Grows : (ts us : List TaskValue) → (count : ℕ) → Type 0
Grows ts us count = held us ≤ held ts + count

one_grows : (d : DataOut) (payload : List ℕ) (t : TaskValue) (ts after : List TaskValue) (b : Bool) → Grows ts after (length payload)
    → Grows (t ∷ ts) (cond b (task_after t d payload ∷ ts) (t ∷ after)) (length payload)
one_grows d payload t ts after true g =
    omega (arith, task_size t t.awaiting d payload, held-cons t ts, held-cons (task_after t d payload) ts)
one_grows d payload t ts after false g = omega (arith, g, held-cons t ts, held-cons t after)

data_grows : (ts : List TaskValue) (d : DataOut) (payload : List ℕ) → Grows ts (tasks_after ts d payload) (length payload)
data_grows [] d payload = omega arith
data_grows (t ∷ ts) d payload = one_grows d payload t ts (tasks_after ts d payload) (has_tag d.initiator_task_tag t)
    (data_grows ts d payload)

only_fits : (waits fits : Bool) (x y answer : TakenData) → cond (not waits) (Ok x) (cond fits (Ok y) (Err TooMuchData)) ≡ Ok answer → waits
    ≡ true → fits ≡ true
only_fits true true x y answer e w = refl
only_fits true false x y answer e w = absurd cc
only_fits false fits x y answer e w = absurd cc

if_waiting_bounded : (s : TasksValue) (d : DataOut) (payload : List ℕ) (b : Bool) → (b ≡ true → held s.waiting + length payload ≤ most_held)
    → IsLittle s.waiting
    → IsLittle (cond b (record s { waiting = tasks_after s.waiting d payload }) s).waiting
if_waiting_bounded s d payload true fits b = omega (arith, data_grows s.waiting d payload, fits refl)
if_waiting_bounded s d payload false fits b = b

after_data_bounded : (s : TasksValue) (d : DataOut) (payload : List ℕ) (r : Result TakenData TasksFault) → data_answer s d (length payload)
    ≡ r → IsLittle s.waiting
    → IsLittle (after_data s d payload r).waiting
after_data_bounded s d payload (Ok answer) e b =
    if_waiting_bounded s d payload (is_waiting s d.initiator_task_tag)
    (λ waits. leb-true (held s.waiting + length payload) most_held
    (only_fits (is_waiting s d.initiator_task_tag) (nat_le (held s.waiting + length payload) most_held) _
    (answer_among s.waiting d (length payload)) answer e waits))
    b
after_data_bounded s d payload (Err fault) e b = b

-- ---- what is next, and aborts

rest_bounded : (t : TaskValue) (ts : List TaskValue) → IsLittle (t ∷ ts) → IsLittle ts
rest_bounded t ts b = omega (arith, b, held-cons t ts)

asked_bounded : (t u : TaskValue) (ts : List TaskValue) → u.bytes ≡ t.bytes → IsLittle (t ∷ ts) → IsLittle (u ∷ ts)
asked_bounded t u ts e b = omega (arith, b, ap (λ (xs : List ℕ). length xs) e, held-cons t ts, held-cons u ts)

turn_bounded : (s : TasksValue) (t : TaskValue) (ts : List TaskValue) (b : Bool) → s.waiting ≡ t ∷ ts → IsLittle (t ∷ ts) → IsLittle
    (cond b (without_first s t) (with_first_asked s t)).waiting
turn_bounded s t ts true e b = subst IsLittle (ap (drop 1) (sym e)) (rest_bounded t ts b)
turn_bounded s t ts false e b =
    asked_bounded t (asked s.parameters s.limit s.next_tag t) (drop 1 s.waiting) refl (subst (λ (xs : List TaskValue). IsLittle
    (t ∷ xs)) (ap (drop 1) (sym e)) b)

left_bounded : (s : TasksValue) (t : TaskValue) (ts : List TaskValue) (a : Awaiting) → s.waiting ≡ t ∷ ts → IsLittle (t ∷ ts) → IsLittle
    (left_at s t a).waiting
left_bounded s t ts awaits.Turn e b = turn_bounded s t ts (is_whole s.limit t) e b
left_bounded s t ts (awaits.Data sequence) e b = subst IsLittle (sym e) b
left_bounded s t ts (awaits.Failing fault) e b = subst IsLittle (sym e) b
left_bounded s t ts (awaits.Failed fault) e b = subst IsLittle (ap (drop 1) (sym e)) (rest_bounded t ts b)

next_bounded : (s : TasksValue) (ws : List TaskValue) → s.waiting ≡ ws → IsLittle ws → IsLittle (left_for s (slice_get ws 0)).waiting
next_bounded s [] e b = subst IsLittle (sym e) b
next_bounded s (t ∷ ts) e b = left_bounded s t ts t.awaiting e b

abbrev Shrinks : (ts us : List TaskValue) → Type 0
Shrinks ts us = held us ≤ held ts

one_shrinks : (t : TaskValue) (ts kept : List TaskValue) (b : Bool) → Shrinks ts kept → Shrinks (t ∷ ts) (cond b (t ∷ kept) kept)
one_shrinks t ts kept true h = omega (arith, h, held-cons t ts, held-cons t kept)
one_shrinks t ts kept false h = omega (arith, h, held-cons t ts)

filter_shrinks : (test : TaskValue → Bool) (ts : List TaskValue) → Shrinks ts (filter test ts)
filter_shrinks test [] = omega arith
filter_shrinks test (t ∷ ts) = one_shrinks t ts (filter test ts) (test t) (filter_shrinks test ts)

filter_bounded : (test : TaskValue → Bool) (ts : List TaskValue) → IsLittle ts → IsLittle (filter test ts)
filter_bounded test ts b = omega (arith, filter_shrinks test ts, b)

either_bounded : (b : Bool) (s u : TasksValue) → IsLittle s.waiting → IsLittle u.waiting → IsLittle (cond b s u).waiting
either_bounded true s u p q = p
either_bounded false s u p q = q

-- ---- runs

pub step_bounded : (s : TasksValue) (act : Act) → IsLittle s.waiting → IsLittle (stepped s act).waiting
step_bounded s (Numbered immediate cmd_sn) b =
    either_bounded (is_taken s immediate cmd_sn) (counted s immediate) s (subst IsLittle (sym (count_waits s immediate)) b) b
step_bounded s (Commanded c payload) b =
    commanded_bounded s c payload (command_answer s c payload)
    (only_room _ _ _ (is_at_once s c (length payload)) _ (room_for s.waiting (length (begun_task s.parameters c payload).bytes))) b
step_bounded s (DataCame d payload) b = after_data_bounded s d payload (data_answer s d (length payload)) refl b
step_bounded s AskedNext b = next_bounded s s.waiting refl b
step_bounded s (Aborted unit tag) b =
    either_bounded (is_waiting_at s unit tag) (without_named s unit tag) s
    (filter_bounded (λ (t : TaskValue). not (is_named unit tag t)) s.waiting b) b
step_bounded s (Dropped unit by) b = filter_bounded (λ (t : TaskValue). not (is_at unit t)) s.waiting b
step_bounded s Answered b = b
step_bounded s (Held reply ticket) b = b
step_bounded s (Settled ticket outcome) b = b

run_bounded : (s : TasksValue) (acts : List Act) → IsLittle s.waiting → IsLittle (run s acts).waiting
run_bounded s [] b = b
run_bounded s (act ∷ acts) b = run_bounded (stepped s act) acts (step_bounded s act b)

pub all_little : (p : SessionParameters) (limit : ℕ) (n : SerialNumber) (acts : List Act)
    → IsLittle (run (begun_tasks p limit n) acts).waiting
all_little p limit n acts = run_bounded (begun_tasks p limit n) acts (omega arith)
