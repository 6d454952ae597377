-- No more commands are under way than may, and MaxCmdSN moves on, and never back.
use Rattle.std.proofs.Common.{◌≡◌, ℕ, ◌+◌, ◌-◌, ◌%◌, ◌^◌, ◌<◌, ◌≤◌, Bool, true, false, cond, not, ◌&&◌, ◌||◌, List, [], ◌∷◌, ◌++◌, length}
use Rattle.std.proofs.Common.{Option, Some, None, Result, Ok, Err, OnOk, OnErr, refl, sym, ap, subst, ◌∙◌, arith}
use Rattle.std.specs.Prelude.{filter, slice_get, drop, nat_lt, nat_le, is_some, ◌==◌}
use Rattle.std.proofs.lemmas.Bool.{leb-false}
use Rattle.std.proofs.lemmas.Bool.Decides.{nat_tests}
use Rattle.std.proofs.lemmas.List.{append-nil}
use Rattle.std.proofs.lemmas.List.Sums.{sum_by-cons, sum_by_push}
use Rattle.iscsi_pdu.specs.SerialNumbers.{distance}
use Rattle.iscsi_pdu.specs.declared.serial_number.SerialNumber.{SerialNumber}
use Rattle.iscsi_pdu.specs.declared.scsi_command.ScsiCommand.{ScsiCommand}
use Rattle.iscsi_pdu.specs.declared.data_out.DataOut.{DataOut}
use Rattle.iscsi_pdu.specs.declared.reject_reason.RejectReason.TheVariants.{TaskInProgress, TooManyImmediateCommands}
use Rattle.iscsi_keys.specs.declared.parameters.SessionParameters.{SessionParameters}
use Rattle.iscsi_tasks.specs.declared.awaiting.Awaiting.{Awaiting}
use Rattle.iscsi_tasks.specs.declared.awaiting.Awaiting.TheVariants as awaits
use Rattle.iscsi_tasks.specs.declared.fault.TasksFault.{TasksFault}
use Rattle.iscsi_tasks.specs.declared.taken.TakenCommand.{TakenCommand}
use Rattle.iscsi_tasks.specs.declared.taken.TakenCommand.TheVariants as taken
use Rattle.iscsi_tasks.specs.declared.taken.TakenData.{TakenData}
use Rattle.tickets.specs.declared.ticket.ReplyTicket.{ReplyTicket}
use Rattle.iscsi_tasks.specs.declared.held_reply.UnitReply.{UnitReply}
use Rattle.iscsi_tasks.specs.declared.held_reply.HeldReply.{HeldReply}
use Rattle.iscsi_tasks.specs.Limits.{most_under_way, most_waiting}
use Rattle.iscsi_tasks.specs.Values.{TaskValue, TasksValue, begun_tasks}
use Rattle.iscsi_tasks.specs.Windows.{is_of, waiting_of, held_of, hand_of, under_way, pending, IsInWindow, max_cmd_sn}
use Rattle.iscsi_tasks.specs.Holding.{held_for, with_held, is_due}
use Rattle.iscsi_tasks.specs.Commands.{is_taken, is_in_use, is_crowded, counted, after_command, command_answer, begun_task, is_waiting}
use Rattle.iscsi_tasks.specs.Commands.{waits_if, IsBounded}
use Rattle.iscsi_tasks.specs.DataOuts.{tasks_after, data_answer, after_data}
use Rattle.iscsi_tasks.specs.Next.{is_whole, asked, left_at, left_for, without_first, with_first_asked}
use Rattle.iscsi_tasks.specs.Aborts.{is_at, is_named, is_reply_at, is_reply_named, is_waiting_at, without_named}
use Rattle.iscsi_tasks.specs.Runs.{Act, Numbered, Commanded, DataCame, AskedNext, Aborted, Dropped, Answered, Held, Settled, stepped, run}
use Rattle.iscsi_tasks.specs.Runs.{commands}
use Rattle.iscsi_tasks.proofs.Order.{data_commands}
use Rattle.iscsi_tasks.proofs.Bounds.{all_little}

-- ---- counts

abbrev weight : (b : Bool) → ScsiCommand → ℕ
weight b c = cond (is_of b c) 1 0

-- of the commands alone
abbrev weighed : (b : Bool) → List ScsiCommand → ℕ
weighed b [] = 0
weighed b (c ∷ cs) = weight b c + weighed b cs

waiting-cons : (b : Bool) (t : TaskValue) (ts : List TaskValue) → waiting_of b (t ∷ ts) ≡ weight b t.command + waiting_of b ts
waiting-cons b t ts = sum_by-cons (λ (u : TaskValue). cond (is_of b u.command) 1 0) t ts

waiting-push : (b : Bool) (ts : List TaskValue) (t : TaskValue) → waiting_of b (ts ++ t ∷ []) ≡ waiting_of b ts + weight b t.command
waiting-push b ts t = sum_by_push (λ (u : TaskValue). cond (is_of b u.command) 1 0) ts t

held-cons : (b : Bool) (r : HeldReply) (rs : List HeldReply) → held_of b (r ∷ rs) ≡ weight b r.command + held_of b rs
held-cons b r rs = sum_by-cons (λ (u : HeldReply). cond (is_of b u.command) 1 0) r rs

held-push : (b : Bool) (rs : List HeldReply) (r : HeldReply) → held_of b (rs ++ r ∷ []) ≡ held_of b rs + weight b r.command
held-push b rs r = sum_by_push (λ (u : HeldReply). cond (is_of b u.command) 1 0) rs r

by_commands : (b : Bool) (ts : List TaskValue) → waiting_of b ts ≡ weighed b (commands ts)
by_commands b [] = refl
by_commands b (t ∷ ts) = waiting-cons b t ts ∙ ap (λ k. weight b t.command + k) (by_commands b ts)

both_weights : (i : Bool) → cond (not i) 1 0 + cond i 1 0 ≡ 1
both_weights true = refl
both_weights false = refl

waiting_both : (ts : List TaskValue) → waiting_of false ts + waiting_of true ts ≡ length ts
waiting_both [] = refl
waiting_both (t ∷ ts) = omega (arith, waiting_both ts, waiting-cons false t ts, waiting-cons true t ts, both_weights t.command.immediate)

held_both : (rs : List HeldReply) → held_of false rs + held_of true rs ≡ length rs
held_both [] = refl
held_both (r ∷ rs) = omega (arith, held_both rs, held-cons false r rs, held-cons true r rs, both_weights r.command.immediate)

hand_both : (o : Option ScsiCommand) → is_some o ≡ true → hand_of false o + hand_of true o ≡ 1
hand_both None e = absurd cc
hand_both (Some c) e = both_weights c.immediate

pub few_waiting : (s : TasksValue) → IsInWindow s → length s.waiting ≤ most_waiting
few_waiting s w =
    let f = w.few in
    let g = w.few_immediate in omega (arith, waiting_both s.waiting)

pub few_replies : (s : TasksValue) → IsInWindow s → length s.replies ≤ most_waiting
few_replies s w =
    let f = w.few in
    let g = w.few_immediate in omega (arith, held_both s.replies)

pub room_to_hold : (s : TasksValue) → IsInWindow s → is_some s.in_hand ≡ true → length s.replies < 64
room_to_hold s w some =
    let f = w.few in
    let g = w.few_immediate in omega (arith, held_both s.replies, hand_both s.in_hand some)

pub few_of : (b : Bool) (s : TasksValue) → IsInWindow s → under_way b s ≤ most_under_way
few_of true s w = w.few_immediate
few_of false s w = w.few

-- ---- how many more are under way behind an act

one_fewer : (b : Bool) (t : TaskValue) (ts kept : List TaskValue) (k : Bool) → waiting_of b kept ≤ waiting_of b ts
    → waiting_of b (cond k (t ∷ kept) kept) ≤ waiting_of b (t ∷ ts)
one_fewer b t ts kept true h = omega (arith, h, waiting-cons b t ts, waiting-cons b t kept)
one_fewer b t ts kept false h = omega (arith, h, waiting-cons b t ts)

filter_waiting : (b : Bool) (test : TaskValue → Bool) (ts : List TaskValue) → waiting_of b (filter test ts) ≤ waiting_of b ts
filter_waiting b test [] = omega arith
filter_waiting b test (t ∷ ts) = one_fewer b t ts (filter test ts) (test t) (filter_waiting b test ts)

one_fewer_held : (b : Bool) (r : HeldReply) (rs kept : List HeldReply) (k : Bool) → held_of b kept ≤ held_of b rs
    → held_of b (cond k (r ∷ kept) kept) ≤ held_of b (r ∷ rs)
one_fewer_held b r rs kept true h = omega (arith, h, held-cons b r rs, held-cons b r kept)
one_fewer_held b r rs kept false h = omega (arith, h, held-cons b r rs)

filter_held : (b : Bool) (test : HeldReply → Bool) (rs : List HeldReply) → held_of b (filter test rs) ≤ held_of b rs
filter_held b test [] = omega arith
filter_held b test (r ∷ rs) = one_fewer_held b r rs (filter test rs) (test r) (filter_held b test rs)

counted_same : (b : Bool) (s : TasksValue) (immediate : Bool) → under_way b (counted s immediate) ≡ under_way b s
counted_same b s true = refl
counted_same b s false = refl

executed_grows : (b : Bool) (s : TasksValue) (c : ScsiCommand) (immediate : Bool)
    → under_way b (record (counted s immediate) { in_hand = Some c }) ≤ under_way b s + weight b c
executed_grows b s c true = omega arith
executed_grows b s c false = omega arith

waits_grows : (b : Bool) (s : TasksValue) (t : TaskValue) (immediate : Bool)
    → under_way b (record (counted s immediate) { waiting = s.waiting ++ t ∷ [] }) ≤ under_way b s + weight b t.command
waits_grows b s t true = omega (arith, waiting-push b s.waiting t)
waits_grows b s t false = omega (arith, waiting-push b s.waiting t)

-- a command is taken
abbrev takes : Result TakenCommand TasksFault → Bool
takes (Ok taken.PassedOver) = false
takes (Ok (taken.Rejected reason)) = false
takes (Ok (taken.Execute n)) = true
takes (Ok taken.Waits) = true
takes (Err fault) = false

grows : (b : Bool) (s : TasksValue) (c : ScsiCommand) (payload : List ℕ) (r : Result TakenCommand TasksFault)
    → under_way b (after_command s c payload r) ≤ under_way b s + cond (takes r) (weight b c) 0
grows b s c payload (Ok taken.PassedOver) = omega arith
grows b s c payload (Ok (taken.Rejected reason)) = omega (arith, counted_same b s c.immediate)
grows b s c payload (Ok (taken.Execute n)) = executed_grows b s c c.immediate
grows b s c payload (Ok taken.Waits) = waits_grows b s (begun_task s.parameters c payload) c.immediate
grows b s c payload (Err fault) = omega arith

data_waiting : (b : Bool) (ts : List TaskValue) (d : DataOut) (payload : List ℕ) → waiting_of b (tasks_after ts d payload) ≡ waiting_of b ts
data_waiting b ts d payload = by_commands b (tasks_after ts d payload) ∙ ap (weighed b) (data_commands ts d payload)
    ∙ sym (by_commands b ts)

rest_waiting : (b : Bool) (s : TasksValue) (t : TaskValue) (ts : List TaskValue) → s.waiting ≡ t ∷ ts
    → waiting_of b (drop 1 s.waiting) + weight b t.command ≤ waiting_of b s.waiting
rest_waiting b s t ts e =
    let P : List TaskValue → Type 0 = λ xs. waiting_of b (drop 1 xs) + weight b t.command ≤ waiting_of b xs in
    subst P (sym e) (omega (arith, waiting-cons b t ts))

asked_waiting : (b : Bool) (s : TasksValue) (t u : TaskValue) (ts : List TaskValue) → s.waiting ≡ t ∷ ts → u.command ≡ t.command
    → waiting_of b (u ∷ drop 1 s.waiting) ≡ waiting_of b s.waiting
asked_waiting b s t u ts e same =
    by_commands b (u ∷ drop 1 s.waiting)
    ∙ ap (λ (c : ScsiCommand). weighed b (c ∷ commands (drop 1 s.waiting))) same
    ∙ ap (λ (xs : List TaskValue). weighed b (t.command ∷ commands (drop 1 xs))) e
    ∙ sym (by_commands b (t ∷ ts)) ∙ ap (waiting_of b) (sym e)

held_grows : (b : Bool) (s : TasksValue) (reply : UnitReply) (ticket : ReplyTicket) (o : Option ScsiCommand)
    → held_of b (s.replies ++ held_for reply ticket o) ≤ hand_of b o + held_of b s.replies
held_grows b s reply ticket None = omega (arith, ap (held_of b) (append-nil s.replies))
held_grows b s reply ticket (Some c) = omega (arith, held-push b s.replies (record { command = c; reply = reply; ticket = ticket }))

-- ---- how numbers move: ExpCmdSN by a step at most, and no more are pending than there were, but for that step

record Moves (s t : TasksValue) : Type 0 where
  j : ℕ
  one : j ≤ 1
  next_is : s.exp_cmd_sn.number < 2 ^ 32 → t.exp_cmd_sn.number ≡ (s.exp_cmd_sn.number + j) % 2 ^ 32
  no_more : pending t ≤ pending s + j
  within : IsInWindow s → IsInWindow t

stays : (s t : TasksValue) → t.exp_cmd_sn ≡ s.exp_cmd_sn → ((b : Bool) → under_way b t ≤ under_way b s) → Moves s t
stays s t same fewer = record {
  j = 0;
  one = omega arith;
  next_is = λ small. omega (arith, small, ap (λ (n : SerialNumber). n.number) same);
  no_more = omega (arith, fewer false);
  within = λ w. record { few = omega (arith, w.few, fewer false); few_immediate = omega (arith, w.few_immediate, fewer true) };
}

still : (s : TasksValue) → Moves s s
still s = stays s s refl (λ b. omega arith)

counts : (s : TasksValue) (immediate : Bool) → Moves s (counted s immediate)
counts s true = still s
counts s false =
    record {
      j = 1;
      one = omega arith;
      next_is = λ small. refl;
      no_more = omega arith;
      within = λ w. record {
        few = w.few;
        few_immediate
            = w.few_immediate;
      };
    }

either_moves : (s : TasksValue) (b : Bool) (t u : TasksValue) → Moves s t → Moves s u → Moves s (cond b t u)
either_moves s true t u p q = p
either_moves s false t u p q = q

-- ---- a command

taken_only : (over again crowded now : Bool) (m : ℕ) (room : Result (Unit {0}) TasksFault)
    → takes (cond over (Ok taken.PassedOver) (cond again (Ok (taken.Rejected TaskInProgress)) (cond crowded (Ok
    (taken.Rejected TooManyImmediateCommands))
    (cond now (Ok (taken.Execute m)) (waits_if room))))) ≡ true
    → (over ≡ false) × (crowded ≡ false)
taken_only true again crowded now m room e = absurd cc
taken_only false true crowded now m room e = absurd cc
taken_only false false true now m room e = absurd cc
taken_only false false false now m room e = (refl, refl)

not-false : (b : Bool) → not b ≡ false → b ≡ true
not-false true e = refl
not-false false e = absurd cc

-- there is room for one more of its kind
kind_room : (i e : Bool) (f t : ℕ) → not (i || (e && nat_lt f most_under_way)) ≡ false → (i && nat_le most_under_way t) ≡ false
    → cond i t f < most_under_way
kind_room true e f t over crowded = omega (arith, leb-false most_under_way t crowded)
kind_room false true f t over crowded =
    let open_is : nat_lt f most_under_way ≡ true = not-false (nat_lt f most_under_way) over in grind (arith, nat_tests, open_is)
kind_room false false f t over crowded = absurd cc

fits : (b i : Bool) (f t : ℕ) → f ≤ most_under_way → t ≤ most_under_way → cond i t f < most_under_way
    → cond b t f + cond (cond b i (not i)) 1 0 ≤ most_under_way
fits true true f t few few_immediate room = omega (arith, room)
fits true false f t few few_immediate room = omega (arith, few_immediate)
fits false true f t few few_immediate room = omega (arith, few)
fits false false f t few few_immediate room = omega (arith, room)

by_kind : (b : Bool) (s : TasksValue) → under_way b s ≡ cond b (under_way true s) (under_way false s)
by_kind true s = refl
by_kind false s = refl

pub command_few : (s : TasksValue) (c : ScsiCommand) (payload : List ℕ) (b : Bool) → IsInWindow s
    → under_way b (after_command s c payload (command_answer s c payload)) ≤ most_under_way
command_few s c payload b w = by_taken (takes (command_answer s c payload)) refl
  where
    by_taken : (k : Bool) → takes (command_answer s c payload) ≡ k
        → under_way b (after_command s c payload (command_answer s c payload)) ≤ most_under_way
    by_taken true e =
        let facts = taken_only (not (is_taken s c.immediate c.cmd_sn)) (is_in_use s c.initiator_task_tag)
        (is_crowded s c.immediate) _ _ _ e in
        let room = kind_room c.immediate (c.cmd_sn.number == s.exp_cmd_sn.number) (under_way false s) (under_way true s) facts.0 facts.1 in
        omega (
          arith,
          grows b s c payload (command_answer s c payload),
          ap (λ (k : Bool). cond k (weight b c) 0) e,
          fits b c.immediate (under_way false s) (under_way true s) w.few w.few_immediate room,
          by_kind b s,
        )
    by_taken false e =
        omega (arith, grows b s c payload (command_answer s c payload), ap (λ (k : Bool). cond k (weight b c) 0) e, few_of b s w)

pub command_within : (s : TasksValue) (c : ScsiCommand) (payload : List ℕ) → IsInWindow s
    → IsInWindow (after_command s c payload (command_answer s c payload))
command_within s c payload w = record { few = command_few s c payload false w; few_immediate = command_few s c payload true w }

abbrev number_if : (immediate : Bool) → ℕ
number_if true = 0
number_if false = 1

one_if : (immediate : Bool) → number_if immediate ≤ 1
one_if true = omega arith
one_if false = omega arith

counted_next : (s : TasksValue) (immediate : Bool) → s.exp_cmd_sn.number < 2 ^ 32
    → (counted s immediate).exp_cmd_sn.number ≡ (s.exp_cmd_sn.number + number_if immediate) % 2 ^ 32
counted_next s true small = omega arith
counted_next s false small = refl

weight_if : (c : ScsiCommand) (i : Bool) → c.immediate ≡ i → weight false c ≡ number_if i
weight_if c true e = ap (λ (b : Bool). cond (not b) 1 0) e
weight_if c false e = ap (λ (b : Bool). cond (not b) 1 0) e

commanded_moves : (s : TasksValue) (c : ScsiCommand) (payload : List ℕ) (r : Result TakenCommand TasksFault)
    → (IsInWindow s → IsInWindow (after_command s c payload r)) → Moves s (after_command s c payload r)
commanded_moves s c payload (Ok taken.PassedOver) within = stays s _ refl (λ b. omega arith)
commanded_moves s c payload (Ok (taken.Rejected reason)) within = counts s c.immediate
commanded_moves s c payload (Ok (taken.Execute n)) within = record {
  j = number_if c.immediate;
  one = one_if c.immediate;
  next_is = counted_next s c.immediate;
  no_more = omega (arith, executed_grows false s c c.immediate, weight_if c c.immediate refl);
  within = within;
}
commanded_moves s c payload (Ok taken.Waits) within = record {
  j = number_if c.immediate;
  one = one_if c.immediate;
  next_is = counted_next s c.immediate;
  no_more = omega (arith, waits_grows false s (begun_task s.parameters c payload) c.immediate, weight_if c c.immediate refl);
  within = within;
}
commanded_moves s c payload (Err fault) within = still s

-- ---- the others

data_moves : (s : TasksValue) (d : DataOut) (payload : List ℕ) (r : Result TakenData TasksFault)
    → Moves s (after_data s d payload r)
data_moves s d payload (Ok answer) =
    either_moves s (is_waiting s d.initiator_task_tag) (record s { waiting = tasks_after s.waiting d payload }) s
    (stays s _ refl (λ b. omega (arith, data_waiting b s.waiting d payload))) (still s)
data_moves s d payload (Err fault) = still s

first_moves : (s : TasksValue) (t : TaskValue) (ts : List TaskValue) → s.waiting ≡ t ∷ ts → Moves s (without_first s t)
first_moves s t ts e = stays s (without_first s t) refl (λ b. omega (arith, rest_waiting b s t ts e))

left_moves : (s : TasksValue) (t : TaskValue) (ts : List TaskValue) (a : Awaiting) → s.waiting ≡ t ∷ ts
    → Moves s (left_at s t a)
left_moves s t ts awaits.Turn e =
    either_moves s (is_whole s.limit t) (without_first s t) (with_first_asked s t) (first_moves s t ts e)
    (stays s (with_first_asked s t) refl (λ b. omega (arith, asked_waiting b s t (asked s.parameters s.limit s.next_tag t) ts e refl)))
left_moves s t ts (awaits.Data sequence) e = still s
left_moves s t ts (awaits.Failing fault) e = still s
left_moves s t ts (awaits.Failed fault) e = first_moves s t ts e

next_moves : (s : TasksValue) (ws : List TaskValue) → s.waiting ≡ ws → Moves s (left_for s (slice_get ws 0))
next_moves s [] e = still s
next_moves s (t ∷ ts) e = left_moves s t ts t.awaiting e

named_fewer : (b : Bool) (s : TasksValue) (unit tag : ℕ) → under_way b (without_named s unit tag) ≤ under_way b s
named_fewer b s unit tag =
    omega (
      arith,
      filter_waiting b (λ (t : TaskValue). not (is_named unit tag t)) s.waiting,
      filter_held b (λ (r : HeldReply). not
          (is_reply_named unit tag r)) s.replies,
    )

unit_fewer : (b : Bool) (s : TasksValue) (unit : ℕ) (by : Bool) → under_way b (stepped s (Dropped unit by)) ≤ under_way b s
unit_fewer b s unit by =
    omega (
      arith,
      filter_waiting b (λ (t : TaskValue). not (is_at unit t)) s.waiting,
      filter_held b (λ (r : HeldReply). not
          (is_reply_at unit r)) s.replies,
    )

step_moves : (s : TasksValue) (act : Act) → Moves s (stepped s act)
step_moves s (Numbered immediate cmd_sn) = either_moves s (is_taken s immediate cmd_sn) (counted s immediate) s (counts s immediate)
    (still s)
step_moves s (Commanded c payload) = commanded_moves s c payload (command_answer s c payload) (command_within s c payload)
step_moves s (DataCame d payload) = data_moves s d payload (data_answer s d (length payload))
step_moves s AskedNext = next_moves s s.waiting refl
step_moves s (Aborted unit tag) =
    either_moves s (is_waiting_at s unit tag) (without_named s unit tag) s (stays s (without_named s unit tag) refl
    (λ b. named_fewer b s unit tag)) (still s)
step_moves s (Dropped unit by) = stays s (stepped s (Dropped unit by)) refl (λ b. unit_fewer b s unit by)
step_moves s Answered = stays s (stepped s Answered) refl (λ b. omega arith)
step_moves s (Held reply ticket) = stays s (with_held s reply ticket) refl (λ b. omega (arith, held_grows b s reply ticket s.in_hand))
step_moves s (Settled ticket outcome) =
    stays s (stepped s (Settled ticket outcome)) refl (λ b. omega (
      arith,
      filter_held b (λ (r : HeldReply). not
          (is_due ticket r)) s.replies,
    ))

-- ---- what the type keeps

pub fewer_within : (s t : TasksValue) → ((b : Bool) → under_way b t ≤ under_way b s) → IsInWindow s → IsInWindow t
fewer_within s t fewer w =
    record { few = omega (arith, w.few, fewer false); few_immediate = omega (arith, w.few_immediate, fewer true) }

pub filtered_within : (s : TasksValue) (test : TaskValue → Bool) (test_reply : HeldReply → Bool) (ts : List TaskValue) (rs : List HeldReply)
    (tags : List ℕ) → ts ≡ filter test s.waiting → rs ≡ filter test_reply s.replies → IsInWindow s
    → IsInWindow (record s { waiting = ts; replies = rs; passed_over = tags })
filtered_within s test test_reply ts rs tags is is_reply w =
    fewer_within s (record s { waiting = ts; replies = rs; passed_over = tags })
    (λ b. omega (
      arith,
      filter_waiting b test s.waiting,
      filter_held b test_reply s.replies,
      ap (waiting_of b) is,
      ap
          (held_of b) is_reply,
    )) w

pub taken_within : {A F : Type 0} (s : TasksValue) (d : DataOut) (payload : List ℕ) (ts : List TaskValue) (r : Result A F)
    → OnOk r (ts ≡ tasks_after s.waiting d payload) → OnErr r (ts ≡ s.waiting) → IsInWindow s → IsInWindow (record s { waiting = ts })
taken_within s d payload ts (Ok value) ok err w =
    fewer_within s (record s { waiting = ts }) (λ b. omega (arith, data_waiting b s.waiting d payload, ap (waiting_of b) ok)) w
taken_within s d payload ts (Err fault) ok err w = fewer_within s (record s { waiting = ts }) (λ b. omega (arith, ap (waiting_of b) err)) w

-- ---- runs

pub step_within : (s : TasksValue) (act : Act) → IsInWindow s → IsInWindow (stepped s act)
step_within s act w = (step_moves s act).within w

run_within : (s : TasksValue) (acts : List Act) → IsInWindow s → IsInWindow (run s acts)
run_within s [] w = w
run_within s (act ∷ acts) w = run_within (stepped s act) acts (step_within s act w)

pub all_within : (p : SessionParameters) (limit : ℕ) (n : SerialNumber) (acts : List Act) → IsInWindow (run (begun_tasks p limit n) acts)
all_within p limit n acts = run_within (begun_tasks p limit n) acts (record { few = omega arith; few_immediate = omega arith })

pub all_bounded : (p : SessionParameters) (limit : ℕ) (n : SerialNumber) (acts : List Act)
    → IsBounded (run (begun_tasks p limit n) acts).waiting
all_bounded p limit n acts =
    record { few = few_waiting (run (begun_tasks p limit n) acts) (all_within p limit n acts); little = all_little p limit n acts }

-- ---- on the circle

run_small : (s : TasksValue) (acts : List Act) → s.exp_cmd_sn.number < 2 ^ 32 → (run s acts).exp_cmd_sn.number < 2 ^ 32
run_small s [] small = small
run_small s (act ∷ acts) small = run_small (stepped s act) acts (omega (arith, (step_moves s act).next_is small))

ahead : (x k : ℕ) → k ≤ 33 → ((x + k) % 2 ^ 32 + 2 ^ 32 - x % 2 ^ 32) % 2 ^ 32 < 2 ^ 31
ahead x k few = omega arith

at : (e e' n n' j : ℕ) → e' ≡ (e + j) % 2 ^ 32 → n ≤ 32 → n' ≤ 32 → n' ≤ n + j → (e' + 31 + 2 ^ 32 - n') % 2 ^ 32 ≡ (e + 31 + 2 ^ 32 - n + (n + j - n')) % 2 ^ 32
at e e' n n' j is few few' fewer = omega arith

moves_on : (s t : TasksValue) → s.exp_cmd_sn.number < 2 ^ 32 → IsInWindow s → Moves s t → distance (max_cmd_sn s) (max_cmd_sn t) < 2 ^ 31
moves_on s t small w m =
    let n = pending s in
    let n' = pending t in
    let x = s.exp_cmd_sn.number + 31 + 2 ^ 32 - n in
    let P : ℕ → Type 0 = λ y. (y + 2 ^ 32 - x % 2 ^ 32) % 2 ^ 32 < 2 ^ 31 in
    let few' = (m.within w).few in
    subst P (sym (at s.exp_cmd_sn.number t.exp_cmd_sn.number n n' m.j (m.next_is small) w.few few' m.no_more))
    (ahead x (n + m.j - n') (omega (arith, m.one, w.few)))

pub window_moves_on : (p : SessionParameters) (limit : ℕ) (n : SerialNumber) (acts : List Act) (act : Act) → n.number < 2 ^ 32
    → distance (max_cmd_sn (run (begun_tasks p limit n) acts)) (max_cmd_sn (stepped (run (begun_tasks p limit n) acts) act)) < 2 ^ 31
window_moves_on p limit n acts act small =
    let s = run (begun_tasks p limit n) acts in
    moves_on s (stepped s act) (run_small (begun_tasks p limit n) acts small) (all_within p limit n acts) (step_moves s act)
