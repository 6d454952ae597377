-- Tasks that end without having been answered (RFC 7143, "Task Management Function Request").
use Rattle.std.specs.Prelude.{ℕ, ◌==◌, nat_lt, Bool, false, not, ◌&&◌, ◌||◌, List, [], ◌∷◌, ◌++◌, length, drop, filter, Option, Some, None, if◌then◌else◌}
use Rattle.std.specs.List.{list_any}
use Rattle.iscsi_pdu.specs.Luns.{unit_of}
use Rattle.iscsi_tasks.specs.Values.{TaskValue, TasksValue}
use Rattle.iscsi_tasks.specs.declared.held_reply.HeldReply.{HeldReply}
use Rattle.iscsi_tasks.specs.declared.reset_tasks.ResetTask.{ResetTask}
use Rattle.iscsi_tasks.specs.Commands.{has_tag, remembered}
use Rattle.iscsi_tasks.specs.Holding.{is_reply_to}

abbrev pub tag_of : TaskValue → ℕ
tag_of t = t.command.initiator_task_tag

abbrev pub is_unit : (unit : ℕ) → Option ℕ → Bool
is_unit unit None = false
is_unit unit (Some own) = own == unit

abbrev pub is_at : (unit : ℕ) → TaskValue → Bool
is_at unit t = is_unit unit (unit_of t.command.lun)

-- a task is named by its unit and its tag
abbrev pub is_named : (unit tag : ℕ) → TaskValue → Bool
is_named unit tag t = has_tag tag t && is_at unit t

abbrev pub is_reply_at : (unit : ℕ) → HeldReply → Bool
is_reply_at unit r = is_unit unit (unit_of r.command.lun)

abbrev pub is_reply_named : (unit tag : ℕ) → HeldReply → Bool
is_reply_named unit tag r = is_reply_to tag r && is_reply_at unit r

-- it waits, or its reply is held
abbrev pub is_waiting_at : TasksValue → (unit tag : ℕ) → Bool
is_waiting_at s unit tag = list_any (is_named unit tag) s.waiting || list_any (is_reply_named unit tag) s.replies

-- its Data-Out that are under way are passed over, and its reply is never sent
abbrev pub without_named : TasksValue → (unit tag : ℕ) → TasksValue
without_named s unit tag = record s {
  waiting = filter (λ t. not (is_named unit tag t)) s.waiting;
  replies = filter (λ r. not (is_reply_named unit tag r)) s.replies;
  passed_over = remembered s.passed_over tag;
}

abbrev pub without_task : TasksValue → (unit tag : ℕ) → TasksValue
without_task s unit tag = if is_waiting_at s unit tag then without_named s unit tag else s

-- the tags of those at the unit
abbrev pub remembered_at : (unit : ℕ) → (tags : List ℕ) → List TaskValue → List ℕ
remembered_at unit tags [] = tags
remembered_at unit tags (t ∷ ts) = remembered_at unit (if is_at unit t then remembered tags (tag_of t) else tags) ts

abbrev pub without_unit : TasksValue → (unit : ℕ) → TasksValue
without_unit s unit = record s {
  waiting = filter (λ t. not (is_at unit t)) s.waiting;
  replies = filter (λ r. not (is_reply_at unit r)) s.replies;
  passed_over = remembered_at unit s.passed_over s.waiting;
}

-- ---- tasks that a reset by another session has dropped

abbrev pub reset_task : (unit tag : ℕ) → ResetTask
reset_task unit tag = record { unit = unit; initiator_task_tag = tag }

-- the last 32 of them are known
abbrev pub noted : List ResetTask → ResetTask → List ResetTask
noted tasks t = if nat_lt (length tasks) 32 then tasks ++ t ∷ [] else drop 1 tasks ++ t ∷ []

abbrev pub noted_replies : (unit : ℕ) → List ResetTask → List HeldReply → List ResetTask
noted_replies unit tasks [] = tasks
noted_replies unit tasks (r ∷ rs) =
    noted_replies unit (if is_reply_at unit r then noted tasks (reset_task unit r.command.initiator_task_tag) else tasks) rs

abbrev pub noted_waiting : (unit : ℕ) → List ResetTask → List TaskValue → List ResetTask
noted_waiting unit tasks [] = tasks
noted_waiting unit tasks (t ∷ ts) =
    noted_waiting unit (if is_at unit t then noted tasks (reset_task unit (tag_of t)) else tasks) ts

-- those at the unit: what waits has come behind the commands whose replies are held
abbrev pub noted_at : TasksValue → (unit : ℕ) → List ResetTask
noted_at s unit = noted_waiting unit (noted_replies unit s.reset_tasks s.replies) s.waiting

-- they are dropped, and known
abbrev pub reset_by_another : TasksValue → (unit : ℕ) → TasksValue
reset_by_another s unit = record (without_unit s unit) { reset_tasks = noted_at s unit }

abbrev pub is_task : (unit tag : ℕ) → ResetTask → Bool
is_task unit tag t = (t.unit == unit) && (t.initiator_task_tag == tag)

abbrev pub was_reset : TasksValue → (unit tag : ℕ) → Bool
was_reset s unit tag = list_any (is_task unit tag) s.reset_tasks
