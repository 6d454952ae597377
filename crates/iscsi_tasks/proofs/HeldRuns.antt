-- Which replies are held, which leave, which are dropped, and which stay.
use Rattle.std.proofs.Common.{◌≡◌, ℕ, ◌+◌, Bool, true, false, cond, not, List, [], ◌∷◌, ◌++◌, length, Option, Some, None, Result, Ok, Err}
use Rattle.std.proofs.Common.{inl, inr, refl, sym, ap, subst, ◌∙◌, arith}
use Rattle.std.specs.Prelude.{map, filter, slice_get, sum_by}
use Rattle.std.specs.List.{AllByRecursion}
use Rattle.std.proofs.lemmas.List.{append-nil, map-append}
use Rattle.std.proofs.lemmas.List.Filters.{sum_by-filter_both}
use Rattle.std.proofs.lemmas.List.Sums.{sum_by-append}
use Rattle.iscsi_pdu.specs.declared.scsi_command.ScsiCommand.{ScsiCommand}
use Rattle.iscsi_pdu.specs.declared.data_out.DataOut.{DataOut}
use Rattle.iscsi_tasks.specs.declared.awaiting.Awaiting.{Awaiting}
use Rattle.iscsi_tasks.specs.declared.awaiting.Awaiting.TheVariants as awaits
use Rattle.iscsi_tasks.specs.declared.fault.TasksFault.{TasksFault}
use Rattle.iscsi_tasks.specs.declared.taken.TakenCommand.{TakenCommand}
use Rattle.iscsi_tasks.specs.declared.taken.TakenCommand.TheVariants as taken
use Rattle.iscsi_tasks.specs.declared.taken.TakenData.{TakenData}
use Rattle.iscsi_tasks.specs.declared.next_task.NextTask.TheVariants as found
use Rattle.tickets.specs.declared.ticket.ReplyTicket.{ReplyTicket}
use Rattle.tickets.specs.declared.ticket.Outcome.{Outcome}
use Rattle.iscsi_tasks.specs.declared.held_reply.UnitReply.{UnitReply}
use Rattle.iscsi_tasks.specs.declared.held_reply.HeldReply.{HeldReply}
use Rattle.iscsi_tasks.specs.declared.held_reply.DueAnswer.{DueAnswer}
use Rattle.iscsi_tasks.specs.Values.{TaskValue, TasksValue}
use Rattle.iscsi_tasks.specs.Commands.{is_taken, counted, after_command, command_answer, is_waiting}
use Rattle.iscsi_tasks.specs.DataOuts.{tasks_after, data_answer, after_data}
use Rattle.iscsi_tasks.specs.Next.{is_whole, handed, request, next_at, next_for, left_at, left_for, without_first, with_first_asked}
use Rattle.iscsi_tasks.specs.Aborts.{is_reply_at, is_reply_named, is_waiting_at, without_named, without_task, without_unit, reset_by_another}
use Rattle.iscsi_tasks.specs.Holding.{answer_by, due, held_for, is_due}
use Rattle.iscsi_tasks.specs.Runs.{Act, Numbered, Commanded, DataCame, AskedNext, Aborted, Dropped, Answered, Held, Settled, stepped, run}
use Rattle.iscsi_tasks.specs.Runs.{handed_next, handed_at_once, handed_by, handed_out, IsPartOf}
use Rattle.iscsi_tasks.specs.HeldRuns.{answers, dropped, dropped_by, held_by, held_in, in_hand, in_hand_of, release, Release, released}
use Rattle.iscsi_tasks.specs.HeldRuns.{released_by, released_replies, said, said_by, IsIn, IsInTime}
use Rattle.iscsi_tasks.proofs.Parts.{part_join, part_late, whole}

-- ---- what holds no reply, and lets none go

count_replies : (s : TasksValue) (immediate : Bool) → (counted s immediate).replies ≡ s.replies
count_replies s true = refl
count_replies s false = refl

either_replies : (b : Bool) (s t u : TasksValue) → t.replies ≡ s.replies → u.replies ≡ s.replies → (cond b t u).replies ≡ s.replies
either_replies true s t u p q = p
either_replies false s t u p q = q

command_replies : (s : TasksValue) (c : ScsiCommand) (payload : List ℕ) (r : Result TakenCommand TasksFault)
    → (after_command s c payload r).replies ≡ s.replies
command_replies s c payload (Ok taken.PassedOver) = refl
command_replies s c payload (Ok (taken.Rejected reason)) = count_replies s c.immediate
command_replies s c payload (Ok (taken.Execute n)) = count_replies s c.immediate
command_replies s c payload (Ok taken.Waits) = count_replies s c.immediate
command_replies s c payload (Err fault) = refl

data_replies : (s : TasksValue) (d : DataOut) (payload : List ℕ) (r : Result TakenData TasksFault)
    → (after_data s d payload r).replies ≡ s.replies
data_replies s d payload (Ok answer) =
    either_replies (is_waiting s d.initiator_task_tag) s (record s { waiting = tasks_after s.waiting d payload }) s refl refl
data_replies s d payload (Err fault) = refl

left_replies : (s : TasksValue) (t : TaskValue) (a : Awaiting) → (left_at s t a).replies ≡ s.replies
left_replies s t awaits.Turn = either_replies (is_whole s.limit t) s (without_first s t) (with_first_asked s t) refl refl
left_replies s t (awaits.Data sequence) = refl
left_replies s t (awaits.Failing fault) = refl
left_replies s t (awaits.Failed fault) = refl

next_replies : (s : TasksValue) (o : Option TaskValue) → (left_for s o).replies ≡ s.replies
next_replies s None = refl
next_replies s (Some t) = left_replies s t t.awaiting

number_replies : (s : TasksValue) (b immediate : Bool) → (cond b (counted s immediate) s).replies ≡ s.replies
number_replies s b immediate = either_replies b s (counted s immediate) s (count_replies s immediate) refl

-- ---- once

replies_of : (t : ReplyTicket) (o : Outcome) (rs : List HeldReply) → released_replies (map (release t o) rs) ≡ rs
replies_of t o [] = refl
replies_of t o (r ∷ rs) = ap (λ (xs : List HeldReply). r ∷ xs) (replies_of t o rs)

parted : (weigh : HeldReply → ℕ) (test : HeldReply → Bool) (rs : List HeldReply)
    → sum_by weigh (filter test rs) + sum_by weigh (filter (λ r. not (test r)) rs) ≡ sum_by weigh rs
parted weigh test rs = sum_by-filter_both test (λ r. not (test r)) (λ r. refl) weigh rs

abbrev IsOnce : (weigh : HeldReply → ℕ) → (before holds leaves drops after : List HeldReply) → Type 0
IsOnce weigh before holds leaves drops after =
    sum_by weigh before + sum_by weigh holds ≡ sum_by weigh leaves + sum_by weigh drops + sum_by weigh after

quiet : (weigh : HeldReply → ℕ) (before after : List HeldReply) → after ≡ before → IsOnce weigh before [] [] [] after
quiet weigh before after e = omega (arith, ap (sum_by weigh) e)

abort_once : (weigh : HeldReply → ℕ) (s : TasksValue) (unit tag : ℕ) (b : Bool)
    → IsOnce weigh s.replies [] [] (cond b (filter (is_reply_named unit tag) s.replies) []) (cond b (without_named s unit tag) s).replies
abort_once weigh s unit tag true = omega (arith, parted weigh (is_reply_named unit tag) s.replies)
abort_once weigh s unit tag false = omega arith

step_once : (weigh : HeldReply → ℕ) (s : TasksValue) (act : Act)
    → IsOnce weigh s.replies (held_by s act) (released_replies (released_by s act)) (dropped_by s act) (stepped s act).replies
step_once weigh s (Numbered immediate cmd_sn) = quiet weigh s.replies _ (number_replies s (is_taken s immediate cmd_sn) immediate)
step_once weigh s (Commanded c payload) = quiet weigh s.replies _ (command_replies s c payload (command_answer s c payload))
step_once weigh s (DataCame d payload) = quiet weigh s.replies _ (data_replies s d payload (data_answer s d (length payload)))
step_once weigh s AskedNext = quiet weigh s.replies _ (next_replies s (slice_get s.waiting 0))
step_once weigh s (Aborted unit tag) = abort_once weigh s unit tag (is_waiting_at s unit tag)
step_once weigh s (Dropped unit by) = omega (arith, parted weigh (is_reply_at unit) s.replies)
step_once weigh s Answered = quiet weigh s.replies _ refl
step_once weigh s (Held reply ticket) = omega (arith, sum_by-append weigh s.replies (held_for reply ticket s.in_hand))
step_once weigh s (Settled t o) = omega (arith, ap (sum_by weigh) (replies_of t o (due t s.replies)), parted weigh (is_due t) s.replies)

replies-append : (es fs : List Release) → released_replies (es ++ fs) ≡ released_replies es ++ released_replies fs
replies-append es fs = map-append (λ (e : Release). e.held) es fs

pub all_once : (weigh : HeldReply → ℕ) (s : TasksValue) (acts : List Act)
    → IsOnce weigh s.replies (held_in s acts) (released_replies (released s acts)) (dropped s acts) (run s acts).replies
all_once weigh s [] = omega arith
all_once weigh s (act ∷ acts) =
    let next = stepped s act in
    omega (
      arith,
      step_once weigh s act,
      all_once weigh next acts,
      sum_by-append weigh (held_by s act) (held_in next acts),
      sum_by-append weigh (dropped_by s act) (dropped next acts),
      sum_by-append weigh (released_replies (released_by s act)) (released_replies (released next acts)),
      ap (sum_by weigh) (replies-append (released_by s act) (released next acts)),
    )

-- ---- what is answered

answers_of : (t : ReplyTicket) (o : Outcome) (rs : List HeldReply) → map (answer_by o) rs ≡ answers (map (release t o) rs)
answers_of t o [] = refl
answers_of t o (r ∷ rs) = ap (λ (xs : List DueAnswer). answer_by o r ∷ xs) (answers_of t o rs)

step_said : (s : TasksValue) (act : Act) → said_by s act ≡ answers (released_by s act)
step_said s (Numbered immediate cmd_sn) = refl
step_said s (Commanded c payload) = refl
step_said s (DataCame d payload) = refl
step_said s AskedNext = refl
step_said s (Aborted unit tag) = refl
step_said s (Dropped unit by) = refl
step_said s Answered = refl
step_said s (Held reply ticket) = refl
step_said s (Settled t o) = answers_of t o (due t s.replies)

pub all_said : (s : TasksValue) (acts : List Act) → said s acts ≡ answers (released s acts)
all_said s [] = refl
all_said s (act ∷ acts) =
    let next = stepped s act in
    (λ i. step_said s act i ++ all_said next acts i)
    ∙ sym (map-append (λ (e : Release). answer_by e.outcome e.held) (released_by s act) (released next acts))

-- ---- which commands they are of

-- an act takes the reply of the command in hand, and hands another out
abbrev Passes : (s : TasksValue) → (holds out : List ScsiCommand) → (t : TasksValue) → Type 0
Passes s holds out t = IsPartOf (holds ++ in_hand t) (in_hand s ++ out)

keeps_hand : (s t : TasksValue) → t.in_hand ≡ s.in_hand → Passes s [] [] t
keeps_hand s t e =
    subst (λ (o : Option ScsiCommand). IsPartOf (in_hand_of o) (in_hand s ++ [])) (sym e)
    (subst (λ (xs : List ScsiCommand). IsPartOf (in_hand s) xs) (sym (append-nil (in_hand s))) (whole (in_hand s)))

takes_hand : (s : TasksValue) (c : ScsiCommand) → IsPartOf (c ∷ []) (in_hand s ++ c ∷ [])
takes_hand s c = part_late (in_hand s) (c ∷ []) (c ∷ []) (whole (c ∷ []))

count_hand : (s : TasksValue) (immediate : Bool) → (counted s immediate).in_hand ≡ s.in_hand
count_hand s true = refl
count_hand s false = refl

command_hand : (s : TasksValue) (c : ScsiCommand) (payload : List ℕ) (r : Result TakenCommand TasksFault)
    → Passes s [] (handed_at_once c r) (after_command s c payload r)
command_hand s c payload (Ok taken.PassedOver) = keeps_hand s (after_command s c payload (Ok taken.PassedOver)) refl
command_hand s c payload (Ok (taken.Rejected reason)) = keeps_hand s (counted s c.immediate) (count_hand s c.immediate)
command_hand s c payload (Ok (taken.Execute n)) = takes_hand s c
command_hand s c payload (Ok taken.Waits) = keeps_hand s (after_command s c payload (Ok taken.Waits)) (count_hand s c.immediate)
command_hand s c payload (Err fault) = keeps_hand s s refl

either_hand : (b : Bool) (s t u : TasksValue) → t.in_hand ≡ s.in_hand → u.in_hand ≡ s.in_hand → (cond b t u).in_hand ≡ s.in_hand
either_hand true s t u p q = p
either_hand false s t u p q = q

data_hand : (s : TasksValue) (d : DataOut) (payload : List ℕ) (r : Result TakenData TasksFault)
    → (after_data s d payload r).in_hand ≡ s.in_hand
data_hand s d payload (Ok answer) =
    either_hand (is_waiting s d.initiator_task_tag) s (record s { waiting = tasks_after s.waiting d payload }) s refl refl
data_hand s d payload (Err fault) = refl

turn_hand : (s : TasksValue) (t : TaskValue) (b : Bool)
    → Passes s [] (handed_next (cond b (found.Execute (handed s.limit t)) (found.Ask (request s.parameters s.limit s.next_tag t))))
    (cond b (without_first s t) (with_first_asked s t))
turn_hand s t true = takes_hand s t.command
turn_hand s t false = keeps_hand s (with_first_asked s t) refl

left_hand : (s : TasksValue) (t : TaskValue) (a : Awaiting) → Passes s [] (handed_next (next_at s t a)) (left_at s t a)
left_hand s t awaits.Turn = turn_hand s t (is_whole s.limit t)
left_hand s t (awaits.Data sequence) = keeps_hand s s refl
left_hand s t (awaits.Failing fault) = keeps_hand s s refl
left_hand s t (awaits.Failed fault) = takes_hand s t.command

next_hand : (s : TasksValue) (o : Option TaskValue) → Passes s [] (handed_next (next_for s o)) (left_for s o)
next_hand s None = keeps_hand s s refl
next_hand s (Some t) = left_hand s t t.awaiting

held_command : (s : TasksValue) (reply : UnitReply) (ticket : ReplyTicket) (o : Option ScsiCommand)
    → IsPartOf (map (λ r. r.command) (held_for reply ticket o) ++ []) (in_hand_of o ++ [])
held_command s reply ticket None = tt
held_command s reply ticket (Some c) = whole (c ∷ [])

step_hand : (s : TasksValue) (act : Act) → Passes s (map (λ r. r.command) (held_by s act)) (handed_by s act) (stepped s act)
step_hand s (Numbered immediate cmd_sn) =
    keeps_hand s (stepped s (Numbered immediate cmd_sn)) (either_hand (is_taken s immediate cmd_sn) s (counted s immediate) s
    (count_hand s immediate) refl)
step_hand s (Commanded c payload) = command_hand s c payload (command_answer s c payload)
step_hand s (DataCame d payload) = keeps_hand s (stepped s (DataCame d payload)) (data_hand s d payload (data_answer s d (length payload)))
step_hand s AskedNext = next_hand s (slice_get s.waiting 0)
step_hand s (Aborted unit tag) =
    keeps_hand s (stepped s (Aborted unit tag)) (either_hand (is_waiting_at s unit tag) s (without_named s unit tag) s refl refl)
step_hand s (Dropped unit by) = keeps_hand s (stepped s (Dropped unit by)) refl
step_hand s Answered = tt
step_hand s (Held reply ticket) = held_command s reply ticket s.in_hand
step_hand s (Settled ticket outcome) = keeps_hand s (stepped s (Settled ticket outcome)) refl

pub all_handed_out : (s : TasksValue) (acts : List Act)
    → IsPartOf (map (λ r. r.command) (held_in s acts) ++ in_hand (run s acts)) (in_hand s ++ handed_out s acts)
all_handed_out s [] = keeps_hand s s refl
all_handed_out s (act ∷ acts) =
    let next = stepped s act in
    subst (λ (cs : List ScsiCommand). IsPartOf (cs ++ in_hand (run next acts)) (in_hand s ++ (handed_by s act ++ handed_out next acts)))
    (sym (map-append (λ (r : HeldReply). r.command) (held_by s act) (held_in next acts)))
    (part_join (map (λ r. r.command) (held_by s act)) (map (λ r. r.command) (held_in next acts)) (in_hand s) (in_hand next) (in_hand
    (run next acts))
    (handed_by s act) (handed_out next acts) (step_hand s act) (all_handed_out next acts))

-- ---- lists

all_both : {X : Type 0} (P : X → Type 0) (xs ys : List X) → AllByRecursion P xs → AllByRecursion P ys → AllByRecursion P (xs ++ ys)
all_both P [] ys h k = k
all_both P (x ∷ xs) ys h k = (h.0, all_both P xs ys h.1 k)

all_weaker : {X : Type 0} (P Q : X → Type 0) → ((x : X) → P x → Q x) → (xs : List X) → AllByRecursion P xs → AllByRecursion Q xs
all_weaker P Q f [] h = tt
all_weaker P Q f (x ∷ xs) h = (f x h.0, all_weaker P Q f xs h.1)

all_mapped : {X Y : Type 0} (P : Y → Type 0) (f : X → Y) (xs : List X) → AllByRecursion (λ x. P (f x)) xs → AllByRecursion P (map f xs)
all_mapped P f [] h = tt
all_mapped P f (x ∷ xs) h = (h.0, all_mapped P f xs h.1)

all_if : {X : Type 0} (P : X → Type 0) (b : Bool) (x : X) (xs : List X) → (b ≡ true → P x) → AllByRecursion P xs
    → AllByRecursion P (cond b (x ∷ xs) xs)
all_if P true x xs h k = (h refl, k)
all_if P false x xs h k = k

-- what a filter leaves stands in the list and passes
passing : {X : Type 0} (test : X → Bool) (xs : List X) → AllByRecursion (λ x. IsIn x xs × (test x ≡ true)) (filter test xs)
passing test [] = tt
passing {X} test (x ∷ xs) =
    let P : X → Type 0 = λ y. IsIn y (x ∷ xs) × (test y ≡ true) in
    all_if P (test x) x (filter test xs) (λ e. (inl refl, e))
    (all_weaker (λ y. IsIn y xs × (test y ≡ true)) P (λ y h. (inr h.0, h.1)) (filter test xs) (passing test xs))

all_filtered : {X : Type 0} (P : X → Type 0) (test : X → Bool) (xs : List X) → AllByRecursion P xs → AllByRecursion P (filter test xs)
all_filtered P test [] h = tt
all_filtered P test (x ∷ xs) h = all_if P (test x) x (filter test xs) (λ e. h.0) (all_filtered P test xs h.1)

first_all : {X : Type 0} (P : X → Type 0) (xs ys : List X) → AllByRecursion P (xs ++ ys) → AllByRecursion P xs
first_all P [] ys h = tt
first_all P (x ∷ xs) ys h = (h.0, first_all P xs ys h.1)

last_all : {X : Type 0} (P : X → Type 0) (xs ys : List X) → AllByRecursion P (xs ++ ys) → AllByRecursion P ys
last_all P [] ys h = h
last_all P (x ∷ xs) ys h = last_all P xs ys h.1

-- ---- in time

step_in_time : (s : TasksValue) (act : Act) (acts : List Act) → AllByRecursion (IsInTime s (act ∷ acts)) (released_by s act)
step_in_time s (Numbered immediate cmd_sn) acts = tt
step_in_time s (Commanded c payload) acts = tt
step_in_time s (DataCame d payload) acts = tt
step_in_time s AskedNext acts = tt
step_in_time s (Aborted unit tag) acts = tt
step_in_time s (Dropped unit by) acts = tt
step_in_time s Answered acts = tt
step_in_time s (Held reply ticket) acts = tt
step_in_time s (Settled t o) acts =
    let all = Settled t o ∷ acts in
    all_mapped (IsInTime s all) (release t o) (due t s.replies)
    (all_weaker (λ r. IsIn r s.replies × (is_due t r ≡ true)) (λ r. IsInTime s all (release t o r))
    (λ r h. record { before = []; after = acts; acts_are = refl; was_held = h.0; was_due = h.1 }) (due t s.replies) (passing
    (is_due t) s.replies))

later : (s : TasksValue) (act : Act) (acts : List Act) (e : Release) → IsInTime (stepped s act) acts e → IsInTime s (act ∷ acts) e
later s act acts e h = record {
  before = act ∷ h.before;
  after = h.after;
  acts_are = ap (λ (xs : List Act). act ∷ xs) h.acts_are;
  was_held = h.was_held;
  was_due = h.was_due;
}

pub all_in_time : (s : TasksValue) (acts : List Act) → AllByRecursion (IsInTime s acts) (released s acts)
all_in_time s [] = tt
all_in_time s (act ∷ acts) =
    let next = stepped s act in
    all_both (IsInTime s (act ∷ acts)) (released_by s act) (released next acts) (step_in_time s act acts)
    (all_weaker (IsInTime next acts) (IsInTime s (act ∷ acts)) (later s act acts) (released next acts) (all_in_time next acts))

-- ---- gone

same_all : (P : HeldReply → Type 0) (before after : List HeldReply) → after ≡ before → AllByRecursion P before → AllByRecursion P after
same_all P before after e h = subst (λ (rs : List HeldReply). AllByRecursion P rs) (sym e) h

abort_among : (P : HeldReply → Type 0) (s : TasksValue) (unit tag : ℕ) (b : Bool) → AllByRecursion P s.replies
    → AllByRecursion P (cond b (without_named s unit tag) s).replies
abort_among P s unit tag true h = all_filtered P (λ (r : HeldReply). not (is_reply_named unit tag r)) s.replies h
abort_among P s unit tag false h = h

step_among : (P : HeldReply → Type 0) (s : TasksValue) (act : Act) → AllByRecursion P s.replies → AllByRecursion P (held_by s act)
    → AllByRecursion P (stepped s act).replies
step_among P s (Numbered immediate cmd_sn) h k = same_all P s.replies _ (number_replies s (is_taken s immediate cmd_sn) immediate) h
step_among P s (Commanded c payload) h k = same_all P s.replies _ (command_replies s c payload (command_answer s c payload)) h
step_among P s (DataCame d payload) h k = same_all P s.replies _ (data_replies s d payload (data_answer s d (length payload))) h
step_among P s AskedNext h k = same_all P s.replies _ (next_replies s (slice_get s.waiting 0)) h
step_among P s (Aborted unit tag) h k = abort_among P s unit tag (is_waiting_at s unit tag) h
step_among P s (Dropped unit by) h k = all_filtered P (λ (r : HeldReply). not (is_reply_at unit r)) s.replies h
step_among P s Answered h k = h
step_among P s (Held reply ticket) h k = all_both P s.replies (held_for reply ticket s.in_hand) h k
step_among P s (Settled t o) h k = all_filtered P (λ (r : HeldReply). not (is_due t r)) s.replies h

leave_among : (P : HeldReply → Type 0) (s : TasksValue) (act : Act) → AllByRecursion P s.replies
    → AllByRecursion (λ e. P e.held) (released_by s act)
leave_among P s (Numbered immediate cmd_sn) h = tt
leave_among P s (Commanded c payload) h = tt
leave_among P s (DataCame d payload) h = tt
leave_among P s AskedNext h = tt
leave_among P s (Aborted unit tag) h = tt
leave_among P s (Dropped unit by) h = tt
leave_among P s Answered h = tt
leave_among P s (Held reply ticket) h = tt
leave_among P s (Settled t o) h = all_mapped (λ e. P e.held) (release t o) (due t s.replies) (all_filtered P (is_due t) s.replies h)

-- what leaves was held at first, or later
all_among : (P : HeldReply → Type 0) (s : TasksValue) (acts : List Act) → AllByRecursion P s.replies → AllByRecursion P (held_in s acts)
    → AllByRecursion (λ e. P e.held) (released s acts)
all_among P s [] h k = tt
all_among P s (act ∷ acts) h k =
    let next = stepped s act in
    all_both (λ (e : Release). P e.held) (released_by s act) (released next acts) (leave_among P s act h)
    (all_among P next acts (step_among P s act h (first_all P (held_by s act) (held_in next acts) k)) (last_all P (held_by s act)
    (held_in next acts) k))

not-true : (b : Bool) → not b ≡ true → b ≡ false
not-true true e = absurd cc
not-true false e = refl

without : (test : HeldReply → Bool) (held : List HeldReply) → AllByRecursion (λ r. test r ≡ false) (filter (λ r. not (test r)) held)
without test held =
    all_weaker (λ r. IsIn r held × (not (test r) ≡ true)) (λ r. test r
    ≡ false) (λ r h. not-true (test r) h.1) (filter (λ r. not (test r)) held)
    (passing (λ r. not (test r)) held)

abort_replies : (s : TasksValue) (unit tag : ℕ) (b : Bool) → b ≡ true
    → (cond b (without_named s unit tag) s).replies ≡ filter (λ r. not (is_reply_named unit tag r)) s.replies
abort_replies s unit tag true e = refl
abort_replies s unit tag false e = absurd cc

pub task_gone : (s : TasksValue) (unit tag : ℕ) (acts : List Act) → is_waiting_at s unit tag ≡ true
    → AllByRecursion (λ r. is_reply_named unit tag r ≡ false) (held_in (without_task s unit tag) acts)
    → AllByRecursion (λ e. is_reply_named unit tag e.held ≡ false) (released (without_task s unit tag) acts)
task_gone s unit tag acts is h =
    let P : HeldReply → Type 0 = λ r. is_reply_named unit tag r ≡ false in
    all_among P (without_task s unit tag) acts
    (same_all P (filter (λ r. not (is_reply_named unit tag r)) s.replies) (without_task s unit tag).replies
    (abort_replies s unit tag (is_waiting_at s unit tag) is) (without (is_reply_named unit tag) s.replies)) h

pub unit_gone : (s : TasksValue) (unit : ℕ) (acts : List Act)
    → AllByRecursion (λ r. is_reply_at unit r ≡ false) (held_in (without_unit s unit) acts)
    → AllByRecursion (λ e. is_reply_at unit e.held ≡ false) (released (without_unit s unit) acts)
unit_gone s unit acts h = all_among (λ r. is_reply_at unit r ≡ false) (without_unit s unit) acts (without (is_reply_at unit) s.replies) h

pub reset_gone : (s : TasksValue) (unit : ℕ) (acts : List Act)
    → AllByRecursion (λ r. is_reply_at unit r ≡ false) (held_in (reset_by_another s unit) acts)
    → AllByRecursion (λ e. is_reply_at unit e.held ≡ false) (released (reset_by_another s unit) acts)
reset_gone s unit acts h = all_among (λ r. is_reply_at unit r ≡ false) (reset_by_another s unit) acts (without (is_reply_at unit) s.replies) h
