-- Commands are handed out in the order in which they were taken.
use Rattle.std.proofs.Common.{◌≡◌, ℕ, Bool, true, false, cond, not, ◌&&◌, List, [], ◌∷◌, ◌++◌, length, ◌==◌, Option, Some, None, Result, Ok, Err, inl, refl, sym, ap, subst, ◌∙◌, append_assoc, arith}
use Rattle.std.specs.Prelude.{map, filter, slice_get, drop}
use Rattle.std.specs.List.{AllByRecursion}
use Rattle.std.proofs.lemmas.List.{append-nil, map-append}
use Rattle.std.proofs.lemmas.Bool.{eqb-true}
use Rattle.iscsi_pdu.specs.declared.scsi_command.ScsiCommand.{ScsiCommand}
use Rattle.iscsi_pdu.specs.declared.data_out.DataOut.{DataOut}
use Rattle.iscsi_pdu.specs.declared.reject_reason.RejectReason.TheVariants.{TaskInProgress, TooManyImmediateCommands}
use Rattle.iscsi_tasks.specs.declared.awaiting.Awaiting.{Awaiting}
use Rattle.iscsi_tasks.specs.declared.awaiting.Awaiting.TheVariants as awaits
use Rattle.iscsi_tasks.specs.declared.sequence.DataSequence.{DataSequence}
use Rattle.iscsi_tasks.specs.declared.fault.TaskFault.{TaskFault}
use Rattle.iscsi_tasks.specs.declared.fault.TasksFault.{TasksFault}
use Rattle.iscsi_tasks.specs.declared.taken.TakenCommand.{TakenCommand}
use Rattle.iscsi_tasks.specs.declared.taken.TakenCommand.TheVariants as taken
use Rattle.iscsi_tasks.specs.declared.taken.TakenData.{TakenData}
use Rattle.iscsi_tasks.specs.declared.next_task.NextTask.{NextTask}
use Rattle.iscsi_tasks.specs.declared.next_task.NextTask.TheVariants as found
use Rattle.iscsi_tasks.specs.Values.{TaskValue, TasksValue}
use Rattle.iscsi_tasks.specs.Writes.{data_fault}
use Rattle.iscsi_tasks.specs.Commands.{has_tag, is_taken, counted, after_command, command_answer, begun_task, is_waiting, room_for}
use Rattle.iscsi_tasks.specs.Commands.{waits_if}
use Rattle.iscsi_tasks.specs.DataOuts.{unless_data_fault, task_at, task_after, tasks_after, data_answer, after_data}
use Rattle.iscsi_tasks.specs.Next.{is_whole, next_at, left_at, next_for, left_for, handed, request, without_first, with_first_asked}
use Rattle.iscsi_tasks.specs.Aborts.{is_at, is_named, is_waiting_at, without_named, without_task}
use Rattle.iscsi_tasks.specs.Runs.{Act, Numbered, Commanded, DataCame, AskedNext, Aborted, Dropped, Answered, Held, Settled, stepped, run}
use Rattle.iscsi_tasks.specs.Runs.{Executed, executed, executed_by, at_once, found_next, commands, handed_next, handed_at_once, handed_by}
use Rattle.iscsi_tasks.specs.Runs.{handed_out, taken_if, taken_by, taken_in, EndsNone, IsPartOf}
use Rattle.iscsi_tasks.proofs.Parts.{whole, part_start, part_both, part_join, part_filter}

-- what is handed out, and then what still waits, is what waited and then what was taken
abbrev Keeps : (out now before come : List ScsiCommand) → Type 0
Keeps out now before come = out ++ now ≡ before ++ come

-- nothing is handed out nor taken
same : (now before : List ScsiCommand) → now ≡ before → Keeps [] now before []
same now before e = e ∙ sym (append-nil before)

-- it is a part of that
abbrev Orders : (out now before come : List ScsiCommand) → Type 0
Orders out now before come = IsPartOf (out ++ now) (before ++ come)

kept_order : (out now before come : List ScsiCommand) → Keeps out now before come → Orders out now before come
kept_order out now before come e = subst (λ (xs : List ScsiCommand). IsPartOf (out ++ now) xs) e (whole (out ++ now))

fewer : (now before : List ScsiCommand) → IsPartOf now before → Orders [] now before []
fewer now before p = subst (λ (xs : List ScsiCommand). IsPartOf now xs) (sym (append-nil before)) p

-- ---- a number is used up

pub count_waits : (s : TasksValue) (immediate : Bool) → (counted s immediate).waiting ≡ s.waiting
count_waits s true = refl
count_waits s false = refl

numbered_keeps : (s : TasksValue) (immediate b : Bool) → Keeps [] (commands (cond b (counted s immediate) s).waiting) (commands s.waiting) []
numbered_keeps s immediate true = same _ _ (ap commands (count_waits s immediate))
numbered_keeps s immediate false = same _ _ refl

-- ---- a command

pub no_tasks : (ts : List TaskValue) → (length ts == 0) ≡ true → ts ≡ []
no_tasks [] e = refl
no_tasks (t ∷ ts) e = absurd (omega (arith, eqb-true (length (t ∷ ts)) 0 e))

only_alone : (over again crowded alone whole : Bool) (m n : ℕ) (room : Result (Unit {0}) TasksFault)
    → cond over (Ok taken.PassedOver) (cond again (Ok (taken.Rejected TaskInProgress)) (cond crowded (Ok
    (taken.Rejected TooManyImmediateCommands))
    (cond (alone && whole) (Ok (taken.Execute m)) (waits_if room)))) ≡ Ok (taken.Execute n)
    → alone ≡ true
only_alone true again crowded alone whole m n room e = absurd cc
only_alone false true crowded alone whole m n room e = absurd cc
only_alone false false true alone whole m n room e = absurd cc
only_alone false false false true whole m n room e = refl
only_alone false false false false whole m n (Ok room) e = absurd cc
only_alone false false false false whole m n (Err fault) e = absurd cc

-- it is executed at once only where none waits
pub at_once_alone : (s : TasksValue) (c : ScsiCommand) (payload : List ℕ) (n : ℕ) → command_answer s c payload ≡ Ok (taken.Execute n) → s.waiting ≡ []
at_once_alone s c payload n e =
    no_tasks s.waiting (only_alone _ _ _ (length s.waiting == 0) _ _ n (room_for s.waiting (length
    (begun_task s.parameters c payload).bytes)) e)

commanded_keeps : (s : TasksValue) (c : ScsiCommand) (payload : List ℕ) (r : Result TakenCommand TasksFault)
    → ((n : ℕ) → r ≡ Ok (taken.Execute n) → s.waiting ≡ [])
    → Keeps (handed_at_once c r) (commands (after_command s c payload r).waiting) (commands s.waiting) (taken_if c r)
commanded_keeps s c payload (Ok taken.PassedOver) alone = same _ _ refl
commanded_keeps s c payload (Ok (taken.Rejected reason)) alone = same _ _ (ap commands (count_waits s c.immediate))
commanded_keeps s c payload (Ok (taken.Execute n)) alone =
    ap (λ (ts : List TaskValue). c ∷ commands ts) (count_waits s c.immediate ∙ alone n refl)
    ∙ ap (λ (ts : List TaskValue). commands ts ++ c ∷ []) (sym (alone n refl))
commanded_keeps s c payload (Ok taken.Waits) alone = map-append (λ (t : TaskValue). t.command) s.waiting (begun_task s.parameters c payload ∷ [])
commanded_keeps s c payload (Err fault) alone = same _ _ refl

-- ---- a Data-Out

pub fault_command : (t : TaskValue) (s : DataSequence) (d : DataOut) (payload : List ℕ) (o : Option TaskFault) → (unless_data_fault t s d payload o).command ≡ t.command
fault_command t s d payload (Some fault) = refl
fault_command t s d payload None = refl

pub task_command : (t : TaskValue) (a : Awaiting) (d : DataOut) (payload : List ℕ) → (task_at t a d payload).command ≡ t.command
task_command t awaits.Turn d payload = refl
task_command t (awaits.Data s) d payload = fault_command t s d payload (data_fault s (length t.bytes) d (length payload))
task_command t (awaits.Failing fault) d payload = refl
task_command t (awaits.Failed fault) d payload = refl

handed_to : (d : DataOut) (payload : List ℕ) (t : TaskValue) (ts after : List TaskValue) (b : Bool) → commands after ≡ commands ts
    → commands (cond b (task_after t d payload ∷ ts) (t ∷ after)) ≡ t.command ∷ commands ts
handed_to d payload t ts after true e = ap (λ (c : ScsiCommand). c ∷ commands ts) (task_command t t.awaiting d payload)
handed_to d payload t ts after false e = ap (λ (cs : List ScsiCommand). t.command ∷ cs) e

pub data_commands : (ts : List TaskValue) (d : DataOut) (payload : List ℕ) → commands (tasks_after ts d payload) ≡ commands ts
data_commands [] d payload = refl
data_commands (t ∷ ts) d payload = handed_to d payload t ts (tasks_after ts d payload) (has_tag d.initiator_task_tag t) (data_commands ts d payload)

data_orders : (s : TasksValue) (d : DataOut) (payload : List ℕ) (r : Result TakenData TasksFault) → commands (after_data s d payload r).waiting ≡ commands s.waiting
data_orders s d payload (Ok answer) = either (is_waiting s d.initiator_task_tag)
  where
    either : (b : Bool) → commands (cond b (record s { waiting = tasks_after s.waiting d payload }) s).waiting ≡ commands s.waiting
    either true = data_commands s.waiting d payload
    either false = refl
data_orders s d payload (Err fault) = refl

-- ---- what is next

first_keeps : (s : TasksValue) (t : TaskValue) (ts : List TaskValue) → s.waiting ≡ t ∷ ts → Keeps (t.command ∷ []) (commands (drop 1 s.waiting)) (t.command ∷ commands ts) []
first_keeps s t ts e = ap (λ (xs : List TaskValue). t.command ∷ commands (drop 1 xs)) e ∙ sym (append-nil (t.command ∷ commands ts))

turn_keeps : (s : TasksValue) (t : TaskValue) (ts : List TaskValue) (b : Bool) → s.waiting ≡ t ∷ ts
    → Keeps (handed_next (cond b (found.Execute (handed s.limit t)) (found.Ask (request s.parameters s.limit s.next_tag t))))
    (commands (cond b (without_first s t) (with_first_asked s t)).waiting) (t.command ∷ commands ts) []
turn_keeps s t ts true e = first_keeps s t ts e
turn_keeps s t ts false e = first_keeps s t ts e

at_keeps : (s : TasksValue) (t : TaskValue) (ts : List TaskValue) (a : Awaiting) → s.waiting ≡ t ∷ ts
    → Keeps (handed_next (next_at s t a)) (commands (left_at s t a).waiting) (t.command ∷ commands ts) []
at_keeps s t ts awaits.Turn e = turn_keeps s t ts (is_whole s.limit t) e
at_keeps s t ts (awaits.Data sequence) e = same _ _ (ap commands e)
at_keeps s t ts (awaits.Failing fault) e = same _ _ (ap commands e)
at_keeps s t ts (awaits.Failed fault) e = first_keeps s t ts e

next_keeps : (s : TasksValue) (ws : List TaskValue) → s.waiting ≡ ws
    → Keeps (handed_next (next_for s (slice_get ws 0))) (commands (left_for s (slice_get ws 0)).waiting) (commands ws) []
next_keeps s [] e = same _ _ (ap commands e)
next_keeps s (t ∷ ts) e = at_keeps s t ts t.awaiting e

-- ---- aborts

aborted_part : (s : TasksValue) (unit tag : ℕ) (b : Bool)
    → IsPartOf (commands (cond b (without_named s unit tag) s).waiting) (commands s.waiting)
aborted_part s unit tag true = part_filter (λ (t : TaskValue). t.command) (λ (t : TaskValue). not (is_named unit tag t)) s.waiting
aborted_part s unit tag false = whole (commands s.waiting)

-- ---- runs

step_keeps : (s : TasksValue) (act : Act) → EndsNone act → Keeps (handed_by s act) (commands (stepped s act).waiting) (commands s.waiting) (taken_by s act)
step_keeps s (Numbered immediate cmd_sn) none = numbered_keeps s immediate (is_taken s immediate cmd_sn)
step_keeps s (Commanded c payload) none = commanded_keeps s c payload (command_answer s c payload) (at_once_alone s c payload)
step_keeps s (DataCame d payload) none = same _ _ (data_orders s d payload (data_answer s d (length payload)))
step_keeps s AskedNext none = next_keeps s s.waiting refl
step_keeps s (Aborted unit tag) none = absurd none
step_keeps s (Dropped unit by) none = absurd none
step_keeps s Answered none = same _ _ refl
step_keeps s (Held reply ticket) none = same _ _ refl
step_keeps s (Settled ticket outcome) none = same _ _ refl

step_kept : (s : TasksValue) (act : Act) → EndsNone act → Orders (handed_by s act) (commands (stepped s act).waiting) (commands s.waiting) (taken_by s act)
step_kept s act none = kept_order (handed_by s act) (commands (stepped s act).waiting) (commands s.waiting) (taken_by s act) (step_keeps s act none)

pub step_orders : (s : TasksValue) (act : Act) → Orders (handed_by s act) (commands (stepped s act).waiting) (commands s.waiting) (taken_by s act)
step_orders s (Aborted unit tag) = fewer _ _ (aborted_part s unit tag (is_waiting_at s unit tag))
step_orders s (Dropped unit by) = fewer _ _ (part_filter (λ (t : TaskValue). t.command) (λ (t : TaskValue). not (is_at unit t)) s.waiting)
step_orders s (Numbered immediate cmd_sn) = step_kept s (Numbered immediate cmd_sn) tt
step_orders s (Commanded c payload) = step_kept s (Commanded c payload) tt
step_orders s (DataCame d payload) = step_kept s (DataCame d payload) tt
step_orders s AskedNext = step_kept s AskedNext tt
step_orders s Answered = step_kept s Answered tt
step_orders s (Held reply ticket) = step_kept s (Held reply ticket) tt
step_orders s (Settled ticket outcome) = step_kept s (Settled ticket outcome) tt

-- where nothing is aborted nothing is lost
pub all_kept : (s : TasksValue) (acts : List Act) → AllByRecursion EndsNone acts
    → handed_out s acts ++ commands (run s acts).waiting ≡ commands s.waiting ++ taken_in s acts
all_kept s [] none = same _ _ refl
all_kept s (act ∷ acts) none =
    let now = commands (run (stepped s act) acts).waiting in
    append_assoc (handed_by s act) (handed_out (stepped s act) acts) now
    ∙ ap (λ (xs : List ScsiCommand). handed_by s act ++ xs) (all_kept (stepped s act) acts none.1)
    ∙ sym (append_assoc (handed_by s act) (commands (stepped s act).waiting) (taken_in (stepped s act) acts))
    ∙ ap (λ (xs : List ScsiCommand). xs ++ taken_in (stepped s act) acts) (step_keeps s act none.0)
    ∙ append_assoc (commands s.waiting) (taken_by s act) (taken_in (stepped s act) acts)

pub all_orders : (s : TasksValue) (acts : List Act) → IsPartOf (handed_out s acts ++ commands (run s acts).waiting) (commands s.waiting ++ taken_in s acts)
all_orders s [] = kept_order [] (commands s.waiting) (commands s.waiting) [] (same _ _ refl)
all_orders s (act ∷ acts) =
    part_join (handed_by s act) (handed_out (stepped s act) acts) (commands s.waiting) (commands (stepped s act).waiting) (commands (run (stepped s act) acts).waiting)
    (taken_by s act) (taken_in (stepped s act) acts) (step_orders s act) (all_orders (stepped s act) acts)

-- what is handed out waited before or was taken
pub all_handed : (s : TasksValue) (acts : List Act) → IsPartOf (handed_out s acts) (commands s.waiting ++ taken_in s acts)
all_handed s acts = part_start (handed_out s acts) (commands (run s acts).waiting) (commands s.waiting ++ taken_in s acts) (all_orders s acts)

-- ---- the executed are among those

executed_at_once : (c : ScsiCommand) (payload : List ℕ) (r : Result TakenCommand TasksFault) → IsPartOf (map (λ e. e.command) (at_once c payload r)) (handed_at_once c r)
executed_at_once c payload (Ok taken.PassedOver) = tt
executed_at_once c payload (Ok (taken.Rejected reason)) = tt
executed_at_once c payload (Ok (taken.Execute n)) = inl (refl, tt)
executed_at_once c payload (Ok taken.Waits) = tt
executed_at_once c payload (Err fault) = tt

executed_next : (n : NextTask) → IsPartOf (map (λ e. e.command) (found_next n)) (handed_next n)
executed_next found.Idle = tt
executed_next (found.Execute t) = inl (refl, tt)
executed_next (found.Ask request) = tt
executed_next (found.Fail t fault) = tt

executed_step : (s : TasksValue) (act : Act) → IsPartOf (map (λ e. e.command) (executed_by s act)) (handed_by s act)
executed_step s (Numbered immediate cmd_sn) = tt
executed_step s (Commanded c payload) = executed_at_once c payload (command_answer s c payload)
executed_step s (DataCame d payload) = tt
executed_step s AskedNext = executed_next (next_for s (slice_get s.waiting 0))
executed_step s (Aborted unit tag) = tt
executed_step s (Dropped unit by) = tt
executed_step s Answered = tt
executed_step s (Held reply ticket) = tt
executed_step s (Settled ticket outcome) = tt

pub all_executed : (s : TasksValue) (acts : List Act) → IsPartOf (map (λ e. e.command) (executed s acts)) (handed_out s acts)
all_executed s [] = tt
all_executed s (act ∷ acts) =
    subst (λ (xs : List ScsiCommand). IsPartOf xs (handed_by s act ++ handed_out (stepped s act) acts))
    (sym (map-append (λ (e : Executed). e.command) (executed_by s act) (executed (stepped s act) acts)))
    (part_both (map (λ e. e.command) (executed_by s act)) (handed_by s act) (map (λ e. e.command) (executed (stepped s act) acts)) (handed_out (stepped s act) acts)
    (executed_step s act) (all_executed (stepped s act) acts))

-- ---- after an abort

abort_waits : (s : TasksValue) (unit tag : ℕ) → is_waiting_at s unit tag ≡ true → (without_task s unit tag).waiting ≡ filter (λ t. not (is_named unit tag t)) s.waiting
abort_waits s unit tag e =
    ap (λ (b : Bool). (cond b (without_named s unit tag) s).waiting) e

pub after_abort : (s : TasksValue) (unit tag : ℕ) (acts : List Act) → is_waiting_at s unit tag ≡ true
    → IsPartOf (handed_out (without_task s unit tag) acts) (commands (filter (λ t. not (is_named unit tag t)) s.waiting) ++ taken_in (without_task s unit tag) acts)
after_abort s unit tag acts e =
    let P : List TaskValue → Type 0 = λ ts. IsPartOf (handed_out (without_task s unit tag) acts) (commands ts ++ taken_in (without_task s unit tag) acts) in
    subst P (abort_waits s unit tag e) (all_handed (without_task s unit tag) acts)
