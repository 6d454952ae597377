-- The task that has a tag, by its place.
use Rattle.std.proofs.Common.{◌≡◌, ℕ, ◌<◌, zero, suc, Bool, true, false, cond, List, [], ◌∷◌, length, get_or, sym, ap, ◌∙◌, arith}
use Rattle.std.specs.Prelude.{slice_set}
use Rattle.iscsi_pdu.specs.declared.data_out.DataOut.{DataOut}
use Rattle.iscsi_tasks.specs.Values.{TaskValue}
use Rattle.iscsi_tasks.specs.Commands.{has_tag}
use Rattle.iscsi_tasks.specs.DataOuts.{task_after, task_answer, tasks_after, answer_among}

-- it alone takes the Data-Out
pub taken_at : (d : DataOut) (payload : List ℕ) (ts : List TaskValue) (i : ℕ) (t : TaskValue) → i < length ts → t ≡ get_or ts i t
    → has_tag d.initiator_task_tag (get_or ts i t) ≡ true → ((k : ℕ) → k < i → has_tag d.initiator_task_tag (get_or ts k t) ≡ false)
    → tasks_after ts d payload ≡ slice_set ts i (task_after t d payload)
taken_at d payload [] i t lt is tag before = absurd (omega arith)
taken_at d payload (x ∷ xs) zero t lt is tag before =
    ap (λ (b : Bool). cond b (task_after x d payload ∷ xs) (x ∷ tasks_after xs d payload)) tag
    ∙ ap (λ (u : TaskValue). task_after u d payload ∷ xs) (sym is)
taken_at d payload (x ∷ xs) (suc i) t lt is tag before =
    let here : has_tag d.initiator_task_tag x ≡ false = before 0 (omega arith) in
    let behind : tasks_after xs d payload ≡ slice_set xs i (task_after t d payload) =
    taken_at d payload xs i t (omega arith) is tag (λ k below. before (suc k) (omega arith)) in
    ap (λ (b : Bool). cond b (task_after x d payload ∷ xs) (x ∷ tasks_after xs d payload)) here ∙ ap (λ (us : List TaskValue). x ∷ us) behind

-- its answer counts
pub answered_at : (d : DataOut) (count : ℕ) (ts : List TaskValue) (i : ℕ) (t : TaskValue) → i < length ts → t ≡ get_or ts i t
    → has_tag d.initiator_task_tag (get_or ts i t) ≡ true → ((k : ℕ) → k < i → has_tag d.initiator_task_tag (get_or ts k t) ≡ false)
    → answer_among ts d count ≡ task_answer t d count
answered_at d count [] i t lt is tag before = absurd (omega arith)
answered_at d count (x ∷ xs) zero t lt is tag before =
    ap (λ (b : Bool). cond b (task_answer x d count) (answer_among xs d count)) tag ∙ ap (λ (u : TaskValue). task_answer u d count) (sym is)
answered_at d count (x ∷ xs) (suc i) t lt is tag before =
    let here : has_tag d.initiator_task_tag x ≡ false = before 0 (omega arith) in
    ap (λ (b : Bool). cond b (task_answer x d count) (answer_among xs d count)) here
    ∙ answered_at d count xs i t (omega arith) is tag (λ k below. before (suc k) (omega arith))
