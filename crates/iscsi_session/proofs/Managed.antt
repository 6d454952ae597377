-- A task management function, and the work on tasks.
use Rattle.std.proofs.Common.{◌≡◌, ◌∙◌, ℕ, Bool, true, false, if◌then◌else◌, ◌⊎◌, Result, Ok, Err, IsErr, OnOk, Option, inl, inr, List, [], ◌∷◌, ◌++◌}
use Rattle.std.proofs.Common.{refl, sym, ap, subst, All}
use Rattle.scsi_nexus.specs.declared.nexus.Nexus.{Nexus}
use Rattle.logical_unit.specs.Answers.{DoneValue}
use Rattle.iscsi_pdu.specs.Pdus.{InitiatorPduValue, TargetPduValue}
use Rattle.iscsi_pdu.specs.declared.serial_number.SerialNumber.{SerialNumber}
use Rattle.iscsi_pdu.specs.declared.task_management_request.TaskManagementRequest.{TaskManagementRequest}
use Rattle.iscsi_pdu.specs.declared.task_management_result.TaskManagementResult.{TaskManagementResult}
use Rattle.iscsi_answers.specs.Single.{task_management_answer}
use Rattle.iscsi_answers.specs.Written.{bytes_of_all}
use Rattle.iscsi_tasks.specs.Commands.{is_taken, counted}
use Rattle.iscsi_tasks.specs.Next.{next_of}
use Rattle.iscsi_tasks.specs.Values.{TasksValue}
use Rattle.iscsi_tasks.specs.declared.next_task.NextTask.TheVariants.{Idle}
use Rattle.iscsi_pdu.specs.declared.initiator_header.InitiatorHeader.{InitiatorHeader}
use Rattle.iscsi_pdu.specs.declared.initiator_header.InitiatorHeader.TheVariants as sent
use Rattle.iscsi_pdu.specs.declared.data_out.DataOut.{DataOut}
use Rattle.iscsi_tasks.specs.Runs.{DataCame, stepped}
use Rattle.tickets.specs.declared.ticket.ReplyTicket.{ReplyTicket}
use Rattle.iscsi_session.specs.Executing.{Acts, Adds, GoesOn, OrElse, Tells, numbers, outcome}
use Rattle.iscsi_session.specs.Managing.{Manages, ManagesTasks}
use Rattle.iscsi_session.specs.Saying.{AddsPlain, TakesResets, Says, TakesTask, Works, behind_other, is_of_tasks, without_units}
use Rattle.iscsi_session.proofs.Acted.{adds_nothing, by_fault, goes_none, said_more, surely, told_acts, unless, when}

pub managed : {S : Type 0} (notes : S → DoneValue → S → Type 0) (count : S → ℕ) (r : TaskManagementRequest) (k k1 k2 k' : TasksValue) (s t : S)
    (result : TaskManagementResult) (stat_sn : SerialNumber)
    → is_taken k r.immediate r.cmd_sn ≡ true → k1 ≡ counted k r.immediate → Manages notes (count s) r k1 s r.function k2 t result → k' ≡ k2
    → ManagesTasks notes count r k s (task_management_answer (numbers k2 stat_sn) r.initiator_task_tag result ∷ []) k' t
managed {S} notes count r k k1 k2 k' s t result stat_sn taken counts manages same =
    when _ _ (is_taken k r.immediate r.cmd_sn) taken (
      result,
      stat_sn,
      subst (λ (x : TasksValue). Manages notes (count s) r x s r.function k' t result) counts
          (subst (λ (x : TasksValue). Manages notes (count s) r k1 s r.function x t result) (sym same) manages),
      ap (λ (x : TasksValue). task_management_answer (numbers x stat_sn) r.initiator_task_tag result ∷ []) (sym same),
    )

-- where a Data-Out was taken
pub data_takes : {S : Type 0} (notes : S → DoneValue → S → Type 0) (waits : DoneValue → Option ReplyTicket → Type 0) (n : Nexus) (k k' : TasksValue) (s : S) (d : DataOut) (payload : List ℕ)
    (P : List TargetPduValue → Type 0)
    → (said : List TargetPduValue) × (k' ≡ stepped k (DataCame d payload)) × Tells k' (outcome k (DataCame d payload)) said × P said
    → (said : List TargetPduValue) × Acts notes waits n k s (DataCame d payload) said k' s × P said
data_takes notes waits n k k' s d payload P took = (took.0, told_acts notes waits n k k' s s (DataCame d payload) took.0 refl took.1 took.2, took.3)

pub data_broke : {S : Type 0} (notes : S → DoneValue → S → Type 0) (waits : DoneValue → Option ReplyTicket → Type 0) (n : Nexus) (k k' : TasksValue) (s : S) (d : DataOut) (payload : List ℕ)
    → ((said : List TargetPduValue) × (k' ≡ stepped k (DataCame d payload)) × Tells k' (outcome k (DataCame d payload)) said × Unit {0}) ⊎ (k' ≡ k)
    → ((said : List TargetPduValue) × Acts notes waits n k s (DataCame d payload) said k' s × Unit {0}) ⊎ ((k' ≡ k) × (s ≡ s))
data_broke notes waits n k k' s d payload (inl took) =
    inl (took.0, told_acts notes waits n k k' s s (DataCame d payload) took.0 refl took.1 took.2, tt)
data_broke notes waits n k k' s d payload (inr same) = inr (same, refl)

-- where others had reset units, and what waited behind went on
pub resets_taken : {S A F : Type 0} (resets : ℕ → Type 0) (notes : S → DoneValue → S → Type 0) (waits : DoneValue → Option ReplyTicket → Type 0) (n : Nexus) (k left k' : TasksValue) (s t : S)
    (out out' : List ℕ) (r : Result A F) → (units : List ℕ) × All resets units × (left ≡ without_units k units)
    → (times : ℕ) × (said : List TargetPduValue) × GoesOn notes waits n times left s said k' t × Adds r out out' said
    → (units : List ℕ) × All resets units × ((said : List TargetPduValue) × TakesResets notes waits n units k s said k' t × Adds r out out' said)
resets_taken {S} resets notes waits n k left k' s t out out' r told so = (
  told.0,
  told.1,
  (so.1, (so.0, subst (λ (x : TasksValue). GoesOn notes waits n so.0 x s so.1 k' t) told.2 so.2), so.3),
)

-- where a PDU of a task was taken, and nothing else was done
pub work_broke : {S A F : Type 0} (notes : S → DoneValue → S → Type 0) (waits : DoneValue → Option ReplyTicket → Type 0) (count : S → ℕ) (n : Nexus) (h : InitiatorHeader) (payload : List ℕ)
    (k k' : TasksValue) (s t : S) (out out' : List ℕ) (other : Type 0) (r : Result A F) → IsErr r
    → ((said : List TargetPduValue) × TakesTask notes waits count n h payload k s said k' t × Unit {0}) ⊎ other
    → OrElse r other ((said : List TargetPduValue) × Works notes waits count n h payload k s said k' t × Adds r out out' said)
work_broke {S} notes waits count n h payload k k' s t out out' other r e (inr still) = by_fault _ _ r e (inr still)
work_broke {S} notes waits count n h payload k k' s t out out' other r e (inl took) =
    surely _ _ r (
      took.0 ++ [],
      record { tasks = k'; service = t; first = took.0; others = []; times = 0; said_is = refl; takes = took.1; goes_on = goes_none notes waits n k' t },
      adds_nothing r out out' (took.0 ++ []) e,
    )

-- where what waits went on behind it
pub went_on : {S : Type 0} (notes : S → DoneValue → S → Type 0) (waits : DoneValue → Option ReplyTicket → Type 0) (count : S → ℕ) (n : Nexus) (h : InitiatorHeader) (payload : List ℕ)
    (k k1 k' : TasksValue) (s m t : S) (out mid out' : List ℕ)
    → (said : List TargetPduValue) × TakesTask notes waits count n h payload k s said k1 m × (mid ≡ out ++ bytes_of_all said)
    → (times : ℕ) × (said : List TargetPduValue) × GoesOn notes waits n times k1 m said k' t × (out' ≡ mid ++ bytes_of_all said)
    → (said : List TargetPduValue) × Works notes waits count n h payload k s said k' t × (out' ≡ out ++ bytes_of_all said)
went_on {S} notes waits count n h payload k k1 k' s m t out mid out' one two = (
  one.0 ++ two.1,
  record { tasks = k1; service = m; first = one.0; others = two.1; times = two.0; said_is = refl; takes = one.1; goes_on = two.2 },
  said_more one.0 two.1 out mid out' one.2 two.3,
)

-- where what waits broke it
pub went_on_broken : {S A B F G : Type 0} (notes : S → DoneValue → S → Type 0) (waits : DoneValue → Option ReplyTicket → Type 0) (count : S → ℕ) (n : Nexus) (h : InitiatorHeader) (payload : List ℕ)
    (k k1 k' : TasksValue) (s m t : S) (out mid out' : List ℕ) (other : Type 0) (q : Result A F) (r : Result B G) → IsErr r
    → (said : List TargetPduValue) × TakesTask notes waits count n h payload k s said k1 m × (mid ≡ out ++ bytes_of_all said)
    → (times : ℕ) × (said : List TargetPduValue) × GoesOn notes waits n times k1 m said k' t × Adds q mid out' said
    → OrElse r other ((said : List TargetPduValue) × Works notes waits count n h payload k s said k' t × Adds r out out' said)
went_on_broken {S} notes waits count n h payload k k1 k' s m t out mid out' other q r e one two =
    surely _ _ r (
      one.0 ++ two.1,
      record { tasks = k1; service = m; first = one.0; others = two.1; times = two.0; said_is = refl; takes = one.1; goes_on = two.2 },
      adds_nothing r out out' (one.0 ++ two.1) e,
    )

-- where a PDU of a task was answered
pub task_said : {S A F : Type 0}
    (works : InitiatorHeader → (payload : List ℕ) → TasksValue → S → (said : List TargetPduValue) → TasksValue → S → Type 0) (p : InitiatorPduValue)
    (h : InitiatorHeader) (k k' : TasksValue) (s t : S) (out out' : List ℕ) (other : Type 0) (r : Result A F) → p.header ≡ h → is_of_tasks h ≡ true
    → OrElse r other ((said : List TargetPduValue) × works h p.payload k s said k' t × Adds r out out' said)
    → OrElse r other ((said : List TargetPduValue) × Says works p k s said k' t × Adds r out out' said)
task_said {S} works p h k k' s t out out' other (Ok value) header is so = (
  so.0,
  when _ _ (is_of_tasks p.header) (ap is_of_tasks header ∙ is)
      (subst (λ (x : InitiatorHeader). works x p.payload k s so.0 k' t) (sym header) so.1),
  so.2,
)
task_said {S} works p h k k' s t out out' other (Err fault) header is (inl so) =
    inl (
      so.0,
      when _ _ (is_of_tasks p.header) (ap is_of_tasks header ∙ is)
          (subst (λ (x : InitiatorHeader). works x p.payload k s so.0 k' t) (sym header) so.1),
      tt,
    )
task_said {S} works p h k k' s t out out' other (Err fault) header is (inr still) = inr still

-- where nothing is left to be done, nothing is once a number is used up
idle_if : (k : TasksValue) (b i : Bool) → next_of k ≡ Idle → next_of (if b then counted k i else k) ≡ Idle
idle_if k true true e = e
idle_if k true false e = e
idle_if k false i e = e

behind_idle : (k : TasksValue) (h : InitiatorHeader) → next_of k ≡ Idle → next_of (behind_other k h) ≡ Idle
behind_idle k (sent.NopOut p) e = idle_if k (is_taken k p.immediate p.cmd_sn) p.immediate e
behind_idle k (sent.TextRequest p) e = idle_if k (is_taken k p.immediate p.cmd_sn) p.immediate e
behind_idle k (sent.LogoutRequest p) e = idle_if k (is_taken k p.immediate p.cmd_sn) p.immediate e
behind_idle k (sent.Unknown p) e = idle_if k (is_taken k p.immediate p.cmd_sn) p.immediate e
behind_idle k (sent.LoginRequest p) e = e
behind_idle k (sent.SnackRequest p) e = e
behind_idle k (sent.ScsiCommand p) e = idle_if k (is_taken k p.immediate p.cmd_sn) p.immediate e
behind_idle k (sent.DataOut p) e = e
behind_idle k (sent.TaskManagementRequest p) e = idle_if k (is_taken k p.immediate p.cmd_sn) p.immediate e

pub idle_behind : {A F : Type 0} (r : Result A F) (k k' : TasksValue) (h : InitiatorHeader) → k' ≡ behind_other k h → next_of k ≡ Idle
    → OnOk r (next_of k' ≡ Idle)
idle_behind (Ok value) k k' h same e = ap next_of same ∙ behind_idle k h e
idle_behind (Err fault) k k' h same e = tt

-- where a PDU was answered that is of no task
pub other_said : {S A F : Type 0}
    (works : InitiatorHeader → (payload : List ℕ) → TasksValue → S → (said : List TargetPduValue) → TasksValue → S → Type 0) (p : InitiatorPduValue)
    (h : InitiatorHeader) (k k' : TasksValue) (s : S) (out out' : List ℕ) (other : Type 0) (r : Result A F) → p.header ≡ h → is_of_tasks h ≡ false
    → k' ≡ behind_other k h → OnOk r (AddsPlain out out')
    → OrElse r other ((said : List TargetPduValue) × Says works p k s said k' s × Adds r out out' said)
other_said {S} works p h k k' s out out' other (Ok value) header none tasks plain = (
  plain.0,
  unless _ _ (is_of_tasks p.header) (ap is_of_tasks header ∙ none) (tasks ∙ ap (behind_other k) (sym header), refl, plain.1),
  plain.2,
)
other_said {S} works p h k k' s out out' other (Err fault) header none tasks plain =
    inl ([], unless _ _ (is_of_tasks p.header) (ap is_of_tasks header ∙ none) (tasks ∙ ap (behind_other k) (sym header), refl, tt), tt)
