-- The data of a command are put together of what came under its tag.
use Rattle.std.proofs.Common.{◌≡◌, ℕ, ◌+◌, ◌≤◌, ◌==◌, Bool, true, false, cond, not, ◌&&◌, ◌||◌, List, [], ◌∷◌, ◌++◌, length, take, Option, Some, None, Result, Ok, Err, refl, sym, ap, subst, ◌∙◌, append_assoc, arith}
use Rattle.std.specs.Prelude.{filter, slice_get, drop}
use Rattle.std.specs.List.{AllByRecursion}
use Rattle.std.proofs.lemmas.List.{append-nil, length-append, length-take-le}
use Rattle.std.proofs.lemmas.Bool.{eqb-true, eq-eqb, leb-true}
use Rattle.iscsi_pdu.specs.declared.serial_number.SerialNumber.{SerialNumber}
use Rattle.iscsi_pdu.specs.declared.scsi_command.ScsiCommand.{ScsiCommand}
use Rattle.iscsi_pdu.specs.declared.data_out.DataOut.{DataOut}
use Rattle.iscsi_pdu.specs.declared.reject_reason.RejectReason.TheVariants.{TaskInProgress, TooManyImmediateCommands}
use Rattle.iscsi_keys.specs.declared.parameters.SessionParameters.{SessionParameters}
use Rattle.iscsi_tasks.specs.declared.awaiting.Awaiting.{Awaiting}
use Rattle.iscsi_tasks.specs.declared.awaiting.Awaiting.TheVariants as awaits
use Rattle.iscsi_tasks.specs.declared.sequence.DataSequence.{DataSequence}
use Rattle.iscsi_tasks.specs.declared.fault.TaskFault.{TaskFault}
use Rattle.iscsi_tasks.specs.declared.fault.TaskFault.TheVariants.{UnexpectedUnsolicitedData, IncorrectAmountOfData, DataOffsetError}
use Rattle.iscsi_tasks.specs.declared.fault.TasksFault.{TasksFault}
use Rattle.iscsi_tasks.specs.declared.taken.TakenCommand.{TakenCommand}
use Rattle.iscsi_tasks.specs.declared.taken.TakenCommand.TheVariants as taken
use Rattle.iscsi_tasks.specs.declared.taken.TakenData.{TakenData}
use Rattle.iscsi_tasks.specs.declared.next_task.NextTask.TheVariants as found
use Rattle.iscsi_tasks.specs.Values.{TaskValue, TasksValue, begun_tasks}
use Rattle.iscsi_tasks.specs.Writes.{wanted, first_awaited, data_fault}
use Rattle.iscsi_tasks.specs.Commands.{has_tag, is_taken, counted, after_command, command_answer, begun_task, unless_failed, is_waiting}
use Rattle.iscsi_tasks.specs.Commands.{is_whole_at, room_for, waits_if}
use Rattle.iscsi_tasks.specs.DataOuts.{unless_data_fault, task_at, task_after, tasks_after, data_answer, after_data}
use Rattle.iscsi_tasks.specs.Next.{is_whole, next_at, left_at, next_for, left_for, handed, request, without_first, with_first_asked}
use Rattle.iscsi_tasks.specs.Aborts.{is_at, is_named, is_waiting_at, without_named}
use Rattle.iscsi_tasks.specs.Runs.{Act, Numbered, Commanded, DataCame, AskedNext, Aborted, Dropped, Answered, Held, Settled, stepped}
use Rattle.iscsi_tasks.specs.Runs.{Executed, executed, executed_by, at_once, found_next, Piece, piece_if, pieces_of, Continue, together}
use Rattle.iscsi_tasks.specs.Runs.{IsMadeOf, IsPartOf}
use Rattle.iscsi_tasks.proofs.Parts.{part_behind, part_late, part_more, whole}
use Rattle.iscsi_tasks.proofs.Order.{count_waits}

-- what a waiting task holds came under its tag
record HasData (acts : List Act) (t : TaskValue) : Type 0 where
  pub pieces : List Piece
  pub its_own : IsPartOf pieces (pieces_of t.command.initiator_task_tag acts)
  pub in_place : Continue 0 pieces
  pub bytes_are : t.bytes ≡ together pieces

abbrev AllHaveData : List Act → List TaskValue → Type 0
AllHaveData acts ts = AllByRecursion (HasData acts) ts

-- ---- pieces of longer runs

piece-append : (its : Bool) (offset : ℕ) (bytes : List ℕ) (xs ys zs : List Piece) → xs ≡ ys ++ zs
    → piece_if its offset bytes xs ≡ piece_if its offset bytes ys ++ zs
piece-append true offset bytes xs ys zs e = ap (λ (ps : List Piece). record { offset = offset; bytes = bytes } ∷ ps) e
piece-append false offset bytes xs ys zs e = e

pieces_of-append : (tag : ℕ) (h g : List Act) → pieces_of tag (h ++ g) ≡ pieces_of tag h ++ pieces_of tag g
pieces_of-append tag [] g = refl
pieces_of-append tag (Commanded c payload ∷ h) g = piece-append (c.initiator_task_tag == tag) 0 payload _ _ _ (pieces_of-append tag h g)
pieces_of-append tag (DataCame d payload ∷ h) g = piece-append (d.initiator_task_tag == tag) d.buffer_offset payload _ _ _ (pieces_of-append tag h g)
pieces_of-append tag (Numbered immediate cmd_sn ∷ h) g = pieces_of-append tag h g
pieces_of-append tag (AskedNext ∷ h) g = pieces_of-append tag h g
pieces_of-append tag (Aborted unit aborted ∷ h) g = pieces_of-append tag h g
pieces_of-append tag (Dropped unit by ∷ h) g = pieces_of-append tag h g
pieces_of-append tag (Answered ∷ h) g = pieces_of-append tag h g
pieces_of-append tag (Held reply ticket ∷ h) g = pieces_of-append tag h g
pieces_of-append tag (Settled ticket outcome ∷ h) g = pieces_of-append tag h g

later : (tag : ℕ) (ps : List Piece) (h g : List Act) → IsPartOf ps (pieces_of tag h) → IsPartOf ps (pieces_of tag (h ++ g))
later tag ps h g p =
    subst (λ (qs : List Piece). IsPartOf ps qs) (sym (pieces_of-append tag h g)) (part_more ps (pieces_of tag h) (pieces_of tag g) p)

-- a task with the same command and data
keeps : (h g : List Act) (t u : TaskValue) → u.command ≡ t.command → u.bytes ≡ t.bytes → HasData h t → HasData (h ++ g) u
keeps h g t u c b has = record {
  pieces = has.pieces;
  its_own =
      subst (λ (x : ScsiCommand). IsPartOf has.pieces (pieces_of x.initiator_task_tag (h ++ g))) (sym c)
      (later t.command.initiator_task_tag has.pieces h g has.its_own);
  in_place = has.in_place;
  bytes_are = b ∙ has.bytes_are;
}

-- a task without data
has_none : (h : List Act) (t : TaskValue) → t.bytes ≡ [] → HasData h t
has_none h t e = record { pieces = []; its_own = tt; in_place = tt; bytes_are = e }

all_keep : (h g : List Act) (ts : List TaskValue) → AllHaveData h ts → AllHaveData (h ++ g) ts
all_keep h g [] has = tt
all_keep h g (t ∷ ts) has = (keeps h g t t refl refl has.0, all_keep h g ts has.1)

-- ---- a new task

own_piece : (h : List Act) (c : ScsiCommand) (payload : List ℕ)
    → IsPartOf (record { offset = 0; bytes = payload } ∷ []) (pieces_of c.initiator_task_tag (h ++ Commanded c payload ∷ []))
own_piece h c payload =
    let tag = c.initiator_task_tag in
    let piece : Piece = record { offset = 0; bytes = payload } in
    let here : pieces_of tag (Commanded c payload ∷ []) ≡ piece ∷ [] =
    ap (λ (b : Bool). piece_if b 0 payload []) (eq-eqb tag tag refl) in
    subst (λ (qs : List Piece). IsPartOf (piece ∷ []) qs) (sym (pieces_of-append tag h (Commanded c payload ∷ [])))
    (part_late (pieces_of tag h) (piece ∷ []) (pieces_of tag (Commanded c payload ∷ [])) (subst (λ (qs : List Piece). IsPartOf (piece ∷ []) qs) (sym here) (whole (piece ∷ []))))

with_payload : (h : List Act) (c : ScsiCommand) (a : Awaiting) (payload : List ℕ)
    → HasData (h ++ Commanded c payload ∷ []) (record { command = c; bytes = payload; awaiting = a; r2t_sn = record { number = 0 } })
with_payload h c a payload = record {
  pieces = record { offset = 0; bytes = payload } ∷ [];
  its_own = own_piece h c payload;
  in_place = (refl, tt);
  bytes_are = sym (append-nil payload);
}

by_awaiting : (h : List Act) (c : ScsiCommand) (a b : Awaiting) (payload : List ℕ)
    → HasData (h ++ Commanded c payload ∷ []) (record { command = c; bytes = unless_failed b payload; awaiting = a; r2t_sn = record { number = 0 } })
by_awaiting h c a awaits.Turn payload = with_payload h c a payload
by_awaiting h c a (awaits.Data s) payload = with_payload h c a payload
by_awaiting h c a (awaits.Failing fault) payload = has_none _ _ refl
by_awaiting h c a (awaits.Failed fault) payload = has_none _ _ refl

if_writes : (h : List Act) (c : ScsiCommand) (a : Awaiting) (payload : List ℕ) (b : Bool)
    → HasData (h ++ Commanded c payload ∷ []) (record { command = c; bytes = cond b (unless_failed a payload) []; awaiting = a; r2t_sn = record { number = 0 } })
if_writes h c a payload true = by_awaiting h c a a payload
if_writes h c a payload false = has_none _ _ refl

all_push : (h : List Act) (ts : List TaskValue) (t : TaskValue) → AllHaveData h ts → HasData h t → AllHaveData h (ts ++ t ∷ [])
all_push h [] t has new = (new, tt)
all_push h (u ∷ ts) t has new = (has.0, all_push h ts t has.1 new)

commanded_has : (h : List Act) (s : TasksValue) (c : ScsiCommand) (payload : List ℕ) (r : Result TakenCommand TasksFault) → AllHaveData h s.waiting
    → AllHaveData (h ++ Commanded c payload ∷ []) (after_command s c payload r).waiting
commanded_has h s c payload (Ok taken.PassedOver) has = all_keep h _ s.waiting has
commanded_has h s c payload (Ok (taken.Rejected reason)) has =
    subst (AllHaveData (h ++ Commanded c payload ∷ [])) (sym (count_waits s c.immediate)) (all_keep h _ s.waiting has)
commanded_has h s c payload (Ok (taken.Execute n)) has =
    subst (AllHaveData (h ++ Commanded c payload ∷ [])) (sym (count_waits s c.immediate)) (all_keep h _ s.waiting has)
commanded_has h s c payload (Ok taken.Waits) has =
    all_push _ s.waiting (begun_task s.parameters c payload) (all_keep h _ s.waiting has)
    (if_writes h c (first_awaited s.parameters c (length payload)) payload c.writes)
commanded_has h s c payload (Err fault) has = all_keep h _ s.waiting has

-- ---- a Data-Out

pub continue_push : (from : ℕ) (ps : List Piece) (q : Piece) → Continue from ps → q.offset ≡ from + length (together ps) → Continue from (ps ++ q ∷ [])
continue_push from [] q c e = (omega (arith, e), tt)
continue_push from (p ∷ ps) q c e =
    (c.0, continue_push (from + length p.bytes) ps q c.1 (omega (arith, e, length-append p.bytes (together ps))))

pub together_push : (ps : List Piece) (q : Piece) → together (ps ++ q ∷ []) ≡ together ps ++ q.bytes
together_push [] q = append-nil q.bytes
together_push (p ∷ ps) q = ap (λ (xs : List ℕ). p.bytes ++ xs) (together_push ps q) ∙ sym (append_assoc p.bytes (together ps) q.bytes)

next_piece : (h : List Act) (d : DataOut) (payload : List ℕ) (tag : ℕ) (ps : List Piece) → (tag == d.initiator_task_tag) ≡ true → IsPartOf ps (pieces_of tag h)
    → IsPartOf (ps ++ record { offset = d.buffer_offset; bytes = payload } ∷ []) (pieces_of tag (h ++ DataCame d payload ∷ []))
next_piece h d payload tag ps same own =
    let piece : Piece = record { offset = d.buffer_offset; bytes = payload } in
    let is : (d.initiator_task_tag == tag) ≡ true = eq-eqb d.initiator_task_tag tag (sym (eqb-true tag d.initiator_task_tag same)) in
    let here : pieces_of tag (DataCame d payload ∷ []) ≡ piece ∷ [] = ap (λ (b : Bool). piece_if b d.buffer_offset payload []) is in
    let all : pieces_of tag (h ++ DataCame d payload ∷ []) ≡ pieces_of tag h ++ piece ∷ [] =
    pieces_of-append tag h (DataCame d payload ∷ []) ∙ ap (λ (qs : List Piece). pieces_of tag h ++ qs) here in
    subst (λ (qs : List Piece). IsPartOf (ps ++ piece ∷ []) qs) (sym all) (part_behind (piece ∷ []) ps (pieces_of tag h) own)

-- a Data-Out with no fault continues where the data end
no_fault_by : (tag place number amount : Bool) → cond tag (Some UnexpectedUnsolicitedData) (cond (not place || number) (Some DataOffsetError) (cond amount (Some IncorrectAmountOfData) None)) ≡ None → place ≡ true
no_fault_by true place number amount e = absurd cc
no_fault_by false true number amount e = refl
no_fault_by false false number amount e = absurd cc

pub no_fault : (s : DataSequence) (held : ℕ) (d : DataOut) (count : ℕ) → data_fault s held d count ≡ None → d.buffer_offset ≡ held
no_fault s held d count e = eqb-true d.buffer_offset held (no_fault_by _ (d.buffer_offset == held) _ _ e)

added_has : (h : List Act) (t : TaskValue) (s : DataSequence) (d : DataOut) (payload : List ℕ) (o : Option TaskFault)
    → (o ≡ None → d.buffer_offset ≡ length t.bytes) → has_tag d.initiator_task_tag t ≡ true → HasData h t
    → HasData (h ++ DataCame d payload ∷ []) (unless_data_fault t s d payload o)
added_has h t s d payload (Some fault) at same has = has_none _ _ refl
added_has h t s d payload None at same has =
    let piece : Piece = record { offset = d.buffer_offset; bytes = payload } in
    record {
      pieces = has.pieces ++ piece ∷ [];
      its_own = next_piece h d payload t.command.initiator_task_tag has.pieces same has.its_own;
      in_place = continue_push 0 has.pieces piece has.in_place (omega (arith, at refl, ap length has.bytes_are));
      bytes_are = ap (λ (xs : List ℕ). xs ++ payload) has.bytes_are ∙ sym (together_push has.pieces piece);
    }

task_has : (h : List Act) (t : TaskValue) (a : Awaiting) (d : DataOut) (payload : List ℕ) → has_tag d.initiator_task_tag t ≡ true → HasData h t
    → HasData (h ++ DataCame d payload ∷ []) (task_at t a d payload)
task_has h t awaits.Turn d payload same has = has_none _ _ refl
task_has h t (awaits.Data s) d payload same has =
    added_has h t s d payload (data_fault s (length t.bytes) d (length payload)) (no_fault s (length t.bytes) d (length payload)) same has
task_has h t (awaits.Failing fault) d payload same has = keeps h _ t _ refl refl has
task_has h t (awaits.Failed fault) d payload same has = keeps h _ t t refl refl has

either_has : (h : List Act) (d : DataOut) (payload : List ℕ) (t : TaskValue) (ts after : List TaskValue) (b : Bool) → (b ≡ true → HasData h (task_after t d payload)) → HasData h t
    → AllHaveData h ts → AllHaveData h after → AllHaveData h (cond b (task_after t d payload ∷ ts) (t ∷ after))
either_has h d payload t ts after true new has all others = (new refl, all)
either_has h d payload t ts after false new has all others = (has, others)

data_has : (h : List Act) (ts : List TaskValue) (d : DataOut) (payload : List ℕ) → AllHaveData h ts → AllHaveData (h ++ DataCame d payload ∷ []) (tasks_after ts d payload)
data_has h [] d payload has = tt
data_has h (t ∷ ts) d payload has =
    either_has (h ++ DataCame d payload ∷ []) d payload t ts (tasks_after ts d payload) (has_tag d.initiator_task_tag t)
    (λ same. task_has h t t.awaiting d payload same has.0) (keeps h _ t t refl refl has.0) (all_keep h _ ts has.1) (data_has h ts d payload has.1)

if_waiting_has : (h : List Act) (s : TasksValue) (d : DataOut) (payload : List ℕ) (b : Bool) → AllHaveData h s.waiting
    → AllHaveData (h ++ DataCame d payload ∷ []) (cond b (record s { waiting = tasks_after s.waiting d payload }) s).waiting
if_waiting_has h s d payload true has = data_has h s.waiting d payload has
if_waiting_has h s d payload false has = all_keep h _ s.waiting has

after_data_has : (h : List Act) (s : TasksValue) (d : DataOut) (payload : List ℕ) (r : Result TakenData TasksFault) → AllHaveData h s.waiting
    → AllHaveData (h ++ DataCame d payload ∷ []) (after_data s d payload r).waiting
after_data_has h s d payload (Ok answer) has = if_waiting_has h s d payload (is_waiting s d.initiator_task_tag) has
after_data_has h s d payload (Err fault) has = all_keep h _ s.waiting has

-- ---- what is next, and aborts

turn_has : (h : List Act) (s : TasksValue) (t : TaskValue) (ts : List TaskValue) (b : Bool) → s.waiting ≡ t ∷ ts → AllHaveData h (t ∷ ts)
    → AllHaveData (h ++ AskedNext ∷ []) (cond b (without_first s t) (with_first_asked s t)).waiting
turn_has h s t ts true e has = subst (AllHaveData (h ++ AskedNext ∷ [])) (ap (drop 1) (sym e)) (all_keep h _ ts has.1)
turn_has h s t ts false e has =
    (keeps h _ t _ refl refl has.0, subst (AllHaveData (h ++ AskedNext ∷ [])) (ap (drop 1) (sym e)) (all_keep h _ ts has.1))

left_has : (h : List Act) (s : TasksValue) (t : TaskValue) (ts : List TaskValue) (a : Awaiting) → s.waiting ≡ t ∷ ts → AllHaveData h (t ∷ ts)
    → AllHaveData (h ++ AskedNext ∷ []) (left_at s t a).waiting
left_has h s t ts awaits.Turn e has = turn_has h s t ts (is_whole s.limit t) e has
left_has h s t ts (awaits.Data sequence) e has = subst (AllHaveData (h ++ AskedNext ∷ [])) (sym e) (all_keep h _ (t ∷ ts) has)
left_has h s t ts (awaits.Failing fault) e has = subst (AllHaveData (h ++ AskedNext ∷ [])) (sym e) (all_keep h _ (t ∷ ts) has)
left_has h s t ts (awaits.Failed fault) e has = subst (AllHaveData (h ++ AskedNext ∷ [])) (ap (drop 1) (sym e)) (all_keep h _ ts has.1)

next_has : (h : List Act) (s : TasksValue) (ws : List TaskValue) → s.waiting ≡ ws → AllHaveData h ws → AllHaveData (h ++ AskedNext ∷ []) (left_for s (slice_get ws 0)).waiting
next_has h s [] e has = subst (AllHaveData (h ++ AskedNext ∷ [])) (sym e) tt
next_has h s (t ∷ ts) e has = left_has h s t ts t.awaiting e has

filtered_has : (h : List Act) (t : TaskValue) (kept : List TaskValue) (b : Bool) → HasData h t → AllHaveData h kept → AllHaveData h (cond b (t ∷ kept) kept)
filtered_has h t kept true has all = (has, all)
filtered_has h t kept false has all = all

filter_has : (h : List Act) (test : TaskValue → Bool) (ts : List TaskValue) → AllHaveData h ts → AllHaveData h (filter test ts)
filter_has h test [] has = tt
filter_has h test (t ∷ ts) has = filtered_has h t (filter test ts) (test t) has.0 (filter_has h test ts has.1)

aborted_has : (h : List Act) (s : TasksValue) (unit tag : ℕ) (b : Bool) → AllHaveData h s.waiting
    → AllHaveData h (cond b (without_named s unit tag) s).waiting
aborted_has h s unit tag true has = filter_has h (λ (t : TaskValue). not (is_named unit tag t)) s.waiting has
aborted_has h s unit tag false has = has

numbered_has : (h : List Act) (s : TasksValue) (immediate b : Bool) → AllHaveData h s.waiting → AllHaveData h (cond b (counted s immediate) s).waiting
numbered_has h s immediate true has = subst (AllHaveData h) (sym (count_waits s immediate)) has
numbered_has h s immediate false has = has

step_has : (h : List Act) (s : TasksValue) (act : Act) → AllHaveData h s.waiting → AllHaveData (h ++ act ∷ []) (stepped s act).waiting
step_has h s (Numbered immediate cmd_sn) has = numbered_has _ s immediate (is_taken s immediate cmd_sn) (all_keep h _ s.waiting has)
step_has h s (Commanded c payload) has = commanded_has h s c payload (command_answer s c payload) has
step_has h s (DataCame d payload) has = after_data_has h s d payload (data_answer s d (length payload)) has
step_has h s AskedNext has = next_has h s s.waiting refl has
step_has h s (Aborted unit tag) has = aborted_has _ s unit tag (is_waiting_at s unit tag) (all_keep h _ s.waiting has)
step_has h s Answered has = all_keep h _ s.waiting has
step_has h s (Held reply ticket) has = all_keep h _ s.waiting has
step_has h s (Settled ticket outcome) has = all_keep h _ s.waiting has
step_has h s (Dropped unit by) has = filter_has _ (λ (t : TaskValue). not (is_at unit t)) s.waiting (all_keep h _ s.waiting has)

-- ---- what is executed

made_later : (limit : ℕ) (h g : List Act) (e : Executed) → IsMadeOf limit h e → IsMadeOf limit (h ++ g) e
made_later limit h g e made = record {
  pieces = made.pieces;
  its_own = later e.command.initiator_task_tag made.pieces h g made.its_own;
  in_place = made.in_place;
  bytes_are = made.bytes_are;
  whole = made.whole;
}

only_whole : (over again crowded alone all : Bool) (m n : ℕ) (room : Result (Unit {0}) TasksFault)
    → cond over (Ok taken.PassedOver) (cond again (Ok (taken.Rejected TaskInProgress)) (cond crowded (Ok
    (taken.Rejected TooManyImmediateCommands))
    (cond (alone && all) (Ok (taken.Execute m)) (waits_if room)))) ≡ Ok (taken.Execute n)
    → (m ≡ n) × (all ≡ true)
only_whole true again crowded alone all m n room e = absurd cc
only_whole false true crowded alone all m n room e = absurd cc
only_whole false false true alone all m n room e = absurd cc
only_whole false false false true true m n room e = (cc, refl)
only_whole false false false true false m n (Ok room) e = absurd cc
only_whole false false false true false m n (Err fault) e = absurd cc
only_whole false false false false all m n (Ok room) e = absurd cc
only_whole false false false false all m n (Err fault) e = absurd cc

whole_at : (w count : ℕ) (a : Awaiting) → is_whole_at w count a ≡ true → w ≤ count
whole_at w count awaits.Turn e = leb-true w count e
whole_at w count (awaits.Data s) e = absurd cc
whole_at w count (awaits.Failing fault) e = absurd cc
whole_at w count (awaits.Failed fault) e = absurd cc

pub at_once_facts : (s : TasksValue) (c : ScsiCommand) (payload : List ℕ) (n : ℕ) → command_answer s c payload ≡ Ok (taken.Execute n)
    → (n ≡ wanted s.limit c) × (n ≤ length payload)
at_once_facts s c payload n e =
    let w = wanted s.limit c in
    let facts = only_whole _ _ _ (length s.waiting == 0) (is_whole_at w (length payload) (first_awaited s.parameters c
    (length payload))) w n
    (room_for s.waiting (length (begun_task s.parameters c payload).bytes)) e in
    let enough : w ≤ length payload = whole_at w (length payload) (first_awaited s.parameters c (length payload)) facts.1 in
    (sym facts.0, subst (λ k. k ≤ length payload) facts.0 enough)

at_once_made : (limit : ℕ) (h : List Act) (c : ScsiCommand) (payload : List ℕ) (r : Result TakenCommand TasksFault)
    → ((n : ℕ) → r ≡ Ok (taken.Execute n) → (n ≡ wanted limit c) × (n ≤ length payload))
    → AllByRecursion (IsMadeOf limit (h ++ Commanded c payload ∷ [])) (at_once c payload r)
at_once_made limit h c payload (Ok taken.PassedOver) facts = tt
at_once_made limit h c payload (Ok (taken.Rejected reason)) facts = tt
at_once_made limit h c payload (Ok (taken.Execute n)) facts =
    let is = facts n refl in (
      record {
        pieces = record { offset = 0; bytes = payload } ∷ [];
        its_own = own_piece h c payload;
        in_place = (refl, tt);
        bytes_are = ap (λ k. take k payload) is.0 ∙ ap (take (wanted limit c)) (sym (append-nil payload));
        whole = length-take-le n payload is.1 ∙ is.0;
      },
      tt,
    )
at_once_made limit h c payload (Ok taken.Waits) facts = tt
at_once_made limit h c payload (Err fault) facts = tt

turn_made : (h : List Act) (s : TasksValue) (t : TaskValue) (b : Bool) → (b ≡ true → wanted s.limit t.command ≤ length t.bytes) → HasData h t
    → AllByRecursion (IsMadeOf s.limit (h ++ AskedNext ∷ [])) (found_next (cond b (found.Execute (handed s.limit t)) (found.Ask (request s.parameters s.limit s.next_tag t))))
turn_made h s t true all has = (
  record {
    pieces = has.pieces;
    its_own = later t.command.initiator_task_tag has.pieces h (AskedNext ∷ []) has.its_own;
    in_place = has.in_place;
    bytes_are = ap (take (wanted s.limit t.command)) has.bytes_are;
    whole = length-take-le (wanted s.limit t.command) t.bytes (all refl);
  },
  tt,
)
turn_made h s t false all has = tt

next_at_made : (h : List Act) (s : TasksValue) (t : TaskValue) (a : Awaiting) → HasData h t
    → AllByRecursion (IsMadeOf s.limit (h ++ AskedNext ∷ [])) (found_next (next_at s t a))
next_at_made h s t awaits.Turn has = turn_made h s t (is_whole s.limit t) (leb-true (wanted s.limit t.command) (length t.bytes)) has
next_at_made h s t (awaits.Data sequence) has = tt
next_at_made h s t (awaits.Failing fault) has = tt
next_at_made h s t (awaits.Failed fault) has = tt

next_made : (h : List Act) (s : TasksValue) (ws : List TaskValue) → AllHaveData h ws
    → AllByRecursion (IsMadeOf s.limit (h ++ AskedNext ∷ [])) (found_next (next_for s (slice_get ws 0)))
next_made h s [] has = tt
next_made h s (t ∷ ts) has = next_at_made h s t t.awaiting has.0

step_made : (h : List Act) (s : TasksValue) (act : Act) → AllHaveData h s.waiting → AllByRecursion (IsMadeOf s.limit (h ++ act ∷ [])) (executed_by s act)
step_made h s (Numbered immediate cmd_sn) has = tt
step_made h s (Commanded c payload) has = at_once_made s.limit h c payload (command_answer s c payload) (at_once_facts s c payload)
step_made h s (DataCame d payload) has = tt
step_made h s AskedNext has = next_made h s s.waiting has
step_made h s (Aborted unit tag) has = tt
step_made h s (Dropped unit by) has = tt
step_made h s Answered has = tt
step_made h s (Held reply ticket) has = tt
step_made h s (Settled ticket outcome) has = tt

-- ---- the limit stays

count_limit : (s : TasksValue) (immediate : Bool) → (counted s immediate).limit ≡ s.limit
count_limit s true = refl
count_limit s false = refl

either_limit : (b : Bool) (s u v : TasksValue) → u.limit ≡ s.limit → v.limit ≡ s.limit → (cond b u v).limit ≡ s.limit
either_limit true s u v p q = p
either_limit false s u v p q = q

command_limit : (s : TasksValue) (c : ScsiCommand) (payload : List ℕ) (r : Result TakenCommand TasksFault) → (after_command s c payload r).limit ≡ s.limit
command_limit s c payload (Ok taken.PassedOver) = refl
command_limit s c payload (Ok (taken.Rejected reason)) = count_limit s c.immediate
command_limit s c payload (Ok (taken.Execute n)) = count_limit s c.immediate
command_limit s c payload (Ok taken.Waits) = count_limit s c.immediate
command_limit s c payload (Err fault) = refl

data_limit : (s : TasksValue) (d : DataOut) (payload : List ℕ) (r : Result TakenData TasksFault) → (after_data s d payload r).limit ≡ s.limit
data_limit s d payload (Ok answer) = either_limit (is_waiting s d.initiator_task_tag) s (record s { waiting = tasks_after s.waiting d payload }) s refl refl
data_limit s d payload (Err fault) = refl

left_limit : (s : TasksValue) (t : TaskValue) (a : Awaiting) → (left_at s t a).limit ≡ s.limit
left_limit s t awaits.Turn = either_limit (is_whole s.limit t) s (without_first s t) (with_first_asked s t) refl refl
left_limit s t (awaits.Data sequence) = refl
left_limit s t (awaits.Failing fault) = refl
left_limit s t (awaits.Failed fault) = refl

next_limit : (s : TasksValue) (o : Option TaskValue) → (left_for s o).limit ≡ s.limit
next_limit s None = refl
next_limit s (Some t) = left_limit s t t.awaiting

pub limit_stays : (s : TasksValue) (act : Act) → (stepped s act).limit ≡ s.limit
limit_stays s (Numbered immediate cmd_sn) = either_limit (is_taken s immediate cmd_sn) s (counted s immediate) s (count_limit s immediate) refl
limit_stays s (Commanded c payload) = command_limit s c payload (command_answer s c payload)
limit_stays s (DataCame d payload) = data_limit s d payload (data_answer s d (length payload))
limit_stays s AskedNext = next_limit s (slice_get s.waiting 0)
limit_stays s (Aborted unit tag) =
    either_limit (is_waiting_at s unit tag) s (without_named s unit tag) s refl refl
limit_stays s (Dropped unit by) = refl
limit_stays s Answered = refl
limit_stays s (Held reply ticket) = refl
limit_stays s (Settled ticket outcome) = refl

-- ---- runs

all_join : (P : Executed → Type 0) (xs ys : List Executed) → AllByRecursion P xs → AllByRecursion P ys → AllByRecursion P (xs ++ ys)
all_join P [] ys p q = q
all_join P (x ∷ xs) ys p q = (p.0, all_join P xs ys p.1 q)

all_later : (limit : ℕ) (h g : List Act) (es : List Executed) → AllByRecursion (IsMadeOf limit h) es → AllByRecursion (IsMadeOf limit (h ++ g)) es
all_later limit h g [] p = tt
all_later limit h g (e ∷ es) p = (made_later limit h g e p.0, all_later limit h g es p.1)

run_made : (h : List Act) (s : TasksValue) (acts : List Act) → AllHaveData h s.waiting → AllByRecursion (IsMadeOf s.limit (h ++ acts)) (executed s acts)
run_made h s [] has = tt
run_made h s (act ∷ acts) has =
    let same : (h ++ act ∷ []) ++ acts ≡ h ++ act ∷ acts = append_assoc h (act ∷ []) acts in
    let now : AllByRecursion (IsMadeOf s.limit ((h ++ act ∷ []) ++ acts)) (executed_by s act) =
    all_later s.limit (h ++ act ∷ []) acts (executed_by s act) (step_made h s act has) in
    let then : AllByRecursion (IsMadeOf (stepped s act).limit ((h ++ act ∷ []) ++ acts)) (executed (stepped s act) acts) =
    run_made (h ++ act ∷ []) (stepped s act) acts (step_has h s act has) in
    let both : AllByRecursion (IsMadeOf s.limit ((h ++ act ∷ []) ++ acts)) (executed_by s act ++ executed (stepped s act) acts) =
    all_join (IsMadeOf s.limit ((h ++ act ∷ []) ++ acts)) (executed_by s act) (executed (stepped s act) acts) now
    (subst (λ k. AllByRecursion (IsMadeOf k ((h ++ act ∷ []) ++ acts)) (executed (stepped s act) acts)) (limit_stays s act) then) in
    subst (λ (g : List Act). AllByRecursion (IsMadeOf s.limit g) (executed_by s act ++ executed (stepped s act) acts)) same both

pub all_made : (p : SessionParameters) (limit : ℕ) (exp_cmd_sn : SerialNumber) (acts : List Act)
    → AllByRecursion (IsMadeOf limit acts) (executed (begun_tasks p limit exp_cmd_sn) acts)
all_made p limit exp_cmd_sn acts = run_made [] (begun_tasks p limit exp_cmd_sn) acts tt
