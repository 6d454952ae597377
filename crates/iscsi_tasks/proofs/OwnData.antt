-- A command that is executed has just what came for it. Whatever waits, and hasn't failed, holds what came under its tag since it was taken,
-- and no two that wait have one tag.
use Rattle.std.proofs.Common.{◌≡◌, ℕ, suc, ◌<◌, ◌≤◌, ◌==◌, nat_lt, Bool, true, false, cond, not, ◌&&◌, ◌||◌, List, [], ◌∷◌, ◌++◌, length, take, get_or}
use Rattle.std.proofs.Common.{Option, Some, None, is_some, Result, Ok, Err, inl, inr, refl, sym, ap, subst, ◌∙◌, arith}
use Rattle.std.specs.Prelude.{map, filter, slice_get, drop, position}
use Rattle.std.specs.List.{AllByRecursion, position_or_len}
use Rattle.std.proofs.lemmas.Grind.{common_steps}
use Rattle.std.proofs.lemmas.List.{append-nil, length-take-le, map-append}
use Rattle.std.proofs.lemmas.List.Sums.{fails_before_first}
use Rattle.std.proofs.lemmas.Bool.{eqb-true, eq-eqb, leb-true}
use Rattle.iscsi_pdu.specs.declared.scsi_command.ScsiCommand.{ScsiCommand}
use Rattle.iscsi_pdu.specs.declared.data_out.DataOut.{DataOut}
use Rattle.iscsi_pdu.specs.declared.serial_number.SerialNumber.{SerialNumber}
use Rattle.iscsi_pdu.specs.declared.reject_reason.RejectReason.TheVariants.{TaskInProgress, TooManyImmediateCommands}
use Rattle.iscsi_keys.specs.declared.parameters.SessionParameters.{SessionParameters}
use Rattle.iscsi_tasks.specs.declared.awaiting.Awaiting.{Awaiting}
use Rattle.iscsi_tasks.specs.declared.awaiting.Awaiting.TheVariants as awaits
use Rattle.iscsi_tasks.specs.declared.sequence.DataSequence.{DataSequence}
use Rattle.iscsi_tasks.specs.declared.fault.TaskFault.{TaskFault}
use Rattle.iscsi_tasks.specs.declared.fault.TasksFault.{TasksFault}
use Rattle.iscsi_tasks.specs.declared.taken.TakenCommand.{TakenCommand}
use Rattle.iscsi_tasks.specs.declared.taken.TakenCommand.TheVariants as taken
use Rattle.iscsi_tasks.specs.declared.taken.TakenData.{TakenData}
use Rattle.iscsi_tasks.specs.declared.next_task.NextTask.TheVariants as found
use Rattle.iscsi_tasks.specs.Values.{TaskValue, TasksValue, begun_tasks}
use Rattle.iscsi_tasks.specs.Writes.{wanted, failed, data_fault, behind_data}
use Rattle.iscsi_tasks.specs.Commands.{has_tag, is_taken, counted, after_command, command_answer, begun_task, task_awaiting, is_waiting, room_for, waits_if}
use Rattle.iscsi_tasks.specs.DataOuts.{unless_data_fault, task_at, task_after, tasks_after, data_answer, after_data}
use Rattle.iscsi_tasks.specs.Next.{is_whole, next_at, left_at, next_for, left_for, handed, request, without_first, with_first_asked}
use Rattle.iscsi_tasks.specs.Aborts.{is_at, is_named, is_waiting_at, tag_of, without_named}
use Rattle.iscsi_tasks.specs.Runs.{Act, Numbered, Commanded, DataCame, AskedNext, Aborted, Dropped, Answered, Held, Settled, run, stepped}
use Rattle.iscsi_tasks.specs.Runs.{Executed, executed_by, at_once, found_next, commands, handed_by, Piece, Continue, together, IsPartOf}
use Rattle.iscsi_tasks.specs.OwnData.{piece, first_piece, begun_with, continued_with, came_by, came_for, HasJust, ExecutesJust, EachHasJust}
use Rattle.iscsi_tasks.proofs.Parts.{part_late, part_trans, whole}
use Rattle.iscsi_tasks.proofs.Order.{at_once_alone, count_waits, step_orders, task_command}
use Rattle.iscsi_tasks.proofs.Pieces.{at_once_facts, continue_push, limit_stays, no_fault, together_push}

-- ---- lists

all_as : {X : Type 0} (P Q : X → Type 0) (xs : List X) → ((x : X) → P x → Q x) → AllByRecursion P xs → AllByRecursion Q xs
all_as P Q [] f all = tt
all_as P Q (x ∷ xs) f all = (f x all.0, all_as P Q xs f all.1)

all_both : {X : Type 0} (P Q R : X → Type 0) (xs : List X) → ((x : X) → P x → Q x → R x) → AllByRecursion P xs → AllByRecursion Q xs
    → AllByRecursion R xs
all_both P Q R [] f all others = tt
all_both P Q R (x ∷ xs) f all others = (f x all.0 others.0, all_both P Q R xs f all.1 others.1)

all_behind : {X : Type 0} (P : X → Type 0) (xs : List X) (x : X) → AllByRecursion P xs → P x → AllByRecursion P (xs ++ x ∷ [])
all_behind P [] x all new = (new, tt)
all_behind P (y ∷ ys) x all new = (all.0, all_behind P ys x all.1 new)

filtered_all : {X : Type 0} (P : X → Type 0) (x : X) (kept : List X) (b : Bool) → P x → AllByRecursion P kept → AllByRecursion P (cond b (x ∷ kept) kept)
filtered_all P x kept true has all = (has, all)
filtered_all P x kept false has all = all

all_filtered : {X : Type 0} (P : X → Type 0) (test : X → Bool) (xs : List X) → AllByRecursion P xs → AllByRecursion P (filter test xs)
all_filtered P test [] all = tt
all_filtered P test (x ∷ xs) all = filtered_all P x (filter test xs) (test x) all.0 (all_filtered P test xs all.1)

all_part : {X : Type 0} (P : X → Type 0) (xs ys : List X) → IsPartOf xs ys → AllByRecursion P ys → AllByRecursion P xs
all_part P [] ys part all = tt
all_part P (x ∷ xs) [] part all = absurd part
all_part P (x ∷ xs) (y ∷ ys) part all =
    elim part [
      | inl here ↦ (subst P (sym here.0) all.0, all_part P xs ys here.1 all.1)
      | inr later ↦ all_part P (x ∷ xs) ys later all.1
    ]

fails_at : {X : Type 0} (p : X → Bool) (d : X) (xs : List X) → ((k : ℕ) → k < length xs → p (get_or xs k d) ≡ false) → AllByRecursion (λ x. p x ≡ false) xs
fails_at p d [] fails = tt
fails_at p d (x ∷ xs) fails = (fails 0 (omega arith), fails_at p d xs (λ k low. fails (suc k) (omega arith)))

-- where none passes
none_there : (at many : ℕ) → is_some (cond (nat_lt at many) (Some at) None) ≡ false → (k : ℕ) → k < many → k < at
none_there at many e k low = grind (arith, common_steps)

none_passes : {X : Type 0} (p : X → Bool) (xs : List X) → is_some (position p xs) ≡ false → AllByRecursion (λ x. p x ≡ false) xs
none_passes p [] e = tt
none_passes p (x ∷ xs) e =
    fails_at p x (x ∷ xs)
    (λ k low. fails_before_first p (x ∷ xs) k x (none_there (position_or_len p (x ∷ xs)) (length (x ∷ xs)) e k low))

-- ---- tags

abbrev HasOther : (tag : ℕ) → ScsiCommand → Type 0
HasOther tag c = (c.initiator_task_tag == tag) ≡ false

abbrev AreApart : List ScsiCommand → Type 0
AreApart [] = Unit {0}
AreApart (c ∷ cs) = AllByRecursion (HasOther c.initiator_task_tag) cs × AreApart cs

other_way : (m n : ℕ) → (m == n) ≡ false → (n == m) ≡ false
other_way m n e = grind (arith, common_steps)

apart_part : (xs ys : List ScsiCommand) → IsPartOf xs ys → AreApart ys → AreApart xs
apart_part [] ys part apart = tt
apart_part (x ∷ xs) [] part apart = absurd part
apart_part (x ∷ xs) (y ∷ ys) part apart =
    elim part [
      | inl here ↦ (
        all_part (HasOther x.initiator_task_tag) xs ys here.1
            (subst (λ (c : ScsiCommand). AllByRecursion (HasOther c.initiator_task_tag) ys) (sym here.0) apart.0),
        apart_part xs ys here.1 apart.1,
      )
      | inr later ↦ apart_part (x ∷ xs) ys later apart.1
    ]

apart_behind : (cs : List ScsiCommand) (c : ScsiCommand) → AreApart cs → AllByRecursion (HasOther c.initiator_task_tag) cs → AreApart (cs ++ c ∷ [])
apart_behind [] c apart other = (tt, tt)
apart_behind (x ∷ xs) c apart other = (
  all_behind (HasOther x.initiator_task_tag) xs c apart.0 (other_way x.initiator_task_tag c.initiator_task_tag other.0),
  apart_behind xs c apart.1 other.1,
)

-- tasks and their commands
others_of : (tag : ℕ) (ts : List TaskValue) → AllByRecursion (HasOther tag) (commands ts) → AllByRecursion (λ t. has_tag tag t ≡ false) ts
others_of tag [] all = tt
others_of tag (t ∷ ts) all = (all.0, others_of tag ts all.1)

of_others : (tag : ℕ) (ts : List TaskValue) → AllByRecursion (λ t. has_tag tag t ≡ false) ts → AllByRecursion (HasOther tag) (commands ts)
of_others tag [] all = tt
of_others tag (t ∷ ts) all = (all.0, of_others tag ts all.1)

only_new : (over again crowded now : Bool) (m : ℕ) (room : Result (Unit {0}) TasksFault)
    → cond over (Ok taken.PassedOver) (cond again (Ok (taken.Rejected TaskInProgress)) (cond crowded (Ok
    (taken.Rejected TooManyImmediateCommands))
    (cond now (Ok (taken.Execute m)) (waits_if room)))) ≡ Ok taken.Waits → again ≡ false
only_new true again crowded now m room e = absurd cc
only_new false true crowded now m room e = absurd cc
only_new false false crowded now m room e = refl

neither : (a b : Bool) → (a || b) ≡ false → a ≡ false
neither true b e = absurd cc
neither false b e = refl

-- a command that waits has a tag of its own
is_new : (s : TasksValue) (c : ScsiCommand) (payload : List ℕ) → command_answer s c payload ≡ Ok taken.Waits
    → AllByRecursion (λ t. has_tag c.initiator_task_tag t ≡ false) s.waiting
is_new s c payload e =
    none_passes (has_tag c.initiator_task_tag) s.waiting
    (neither (is_waiting s c.initiator_task_tag) _
    (only_new _ _ _ _ _ (room_for s.waiting (length (begun_task s.parameters c payload).bytes)) e))

commanded_apart : (s : TasksValue) (c : ScsiCommand) (payload : List ℕ) (r : Result TakenCommand TasksFault) → command_answer s c payload ≡ r
    → AreApart (commands s.waiting) → AreApart (commands (after_command s c payload r).waiting)
commanded_apart s c payload (Ok taken.PassedOver) e apart = apart
commanded_apart s c payload (Ok (taken.Rejected reason)) e apart =
    subst (λ (ts : List TaskValue). AreApart (commands ts)) (sym (count_waits s c.immediate)) apart
commanded_apart s c payload (Ok (taken.Execute n)) e apart =
    subst (λ (ts : List TaskValue). AreApart (commands ts)) (sym (count_waits s c.immediate)) apart
commanded_apart s c payload (Ok taken.Waits) e apart =
    subst AreApart (sym (map-append (λ (t : TaskValue). t.command) s.waiting (begun_task s.parameters c payload ∷ [])))
    (apart_behind (commands s.waiting) c apart (of_others c.initiator_task_tag s.waiting (is_new s c payload e)))
commanded_apart s c payload (Err fault) e apart = apart

-- what waits waited before
waited : (out now before : List ScsiCommand) → IsPartOf (out ++ now) (before ++ []) → AreApart before → AreApart now
waited out now before part apart =
    apart_part now before
    (part_trans now (out ++ now) before (part_late out now now (whole now))
    (subst (λ (xs : List ScsiCommand). IsPartOf (out ++ now) xs) (append-nil before) part)) apart

still_waits : (s : TasksValue) (act : Act)
    → IsPartOf (handed_by s act ++ commands (stepped s act).waiting) (commands s.waiting ++ []) → AreApart (commands s.waiting)
    → AreApart (commands (stepped s act).waiting)
still_waits s act part apart = waited (handed_by s act) (commands (stepped s act).waiting) (commands s.waiting) part apart

step_apart : (s : TasksValue) (act : Act) → AreApart (commands s.waiting) → AreApart (commands (stepped s act).waiting)
step_apart s (Commanded c payload) apart = commanded_apart s c payload (command_answer s c payload) refl apart
step_apart s (Numbered immediate cmd_sn) apart = still_waits s (Numbered immediate cmd_sn) (step_orders s (Numbered immediate cmd_sn)) apart
step_apart s (DataCame d payload) apart = still_waits s (DataCame d payload) (step_orders s (DataCame d payload)) apart
step_apart s AskedNext apart = still_waits s AskedNext (step_orders s AskedNext) apart
step_apart s (Aborted unit tag) apart = still_waits s (Aborted unit tag) (step_orders s (Aborted unit tag)) apart
step_apart s (Dropped unit by) apart = still_waits s (Dropped unit by) (step_orders s (Dropped unit by)) apart
step_apart s Answered apart = apart
step_apart s (Held reply ticket) apart = apart
step_apart s (Settled ticket outcome) apart = apart

-- ---- what has come for a task

record HasCome (came : List Piece) (t : TaskValue) : Type 0 where
  pub in_place : Continue 0 came
  pub bytes_are : t.bytes ≡ together came

-- one that has failed keeps nothing
abbrev UnlessFailed : (came : List Piece) → TaskValue → Awaiting → Type 0
UnlessFailed came t awaits.Turn = HasCome came t
UnlessFailed came t (awaits.Data s) = HasCome came t
UnlessFailed came t (awaits.Failing fault) = Unit {0}
UnlessFailed came t (awaits.Failed fault) = Unit {0}

-- by its tag
abbrev ByTag : (came : ℕ → List Piece) → TaskValue → Type 0
ByTag came t = UnlessFailed (came (tag_of t)) t t.awaiting

abbrev AllByTag : (came : ℕ → List Piece) → List TaskValue → Type 0
AllByTag came ts = AllByRecursion (ByTag came) ts

has_failed : (came : List Piece) (t : TaskValue) (is_final : Bool) (fault : TaskFault) → UnlessFailed came t (failed is_final fault)
has_failed came t true fault = tt
has_failed came t false fault = tt

-- under other tags nothing has come
left_alone : (tag : ℕ) (came more : ℕ → List Piece) (t : TaskValue) → has_tag tag t ≡ false → ByTag came t
    → ByTag (λ other. cond (other == tag) (more other) (came other)) t
left_alone tag came more t other has =
    subst (λ (b : Bool). UnlessFailed (cond b (more (tag_of t)) (came (tag_of t))) t t.awaiting) (sym other) has

all_alone : (tag : ℕ) (came more : ℕ → List Piece) (ts : List TaskValue) → AllByRecursion (λ t. has_tag tag t ≡ false) ts → AllByTag came ts
    → AllByTag (λ other. cond (other == tag) (more other) (came other)) ts
all_alone tag came more ts others all =
    all_both (λ t. has_tag tag t ≡ false) (ByTag came) (ByTag (λ other. cond (other == tag) (more other) (came other))) ts
    (left_alone tag came more) others all

-- nothing has come at all
either_same : (b : Bool) (came : List Piece) (t : TaskValue) → UnlessFailed came t t.awaiting → UnlessFailed (cond b came came) t t.awaiting
either_same true came t has = has
either_same false came t has = has

all_same : (tag : ℕ) (came : ℕ → List Piece) (ts : List TaskValue) → AllByTag came ts
    → AllByTag (λ other. cond (other == tag) (came other) (came other)) ts
all_same tag came ts all =
    all_as (ByTag came) (ByTag (λ other. cond (other == tag) (came other) (came other))) ts
    (λ t has. either_same (tag_of t == tag) (came (tag_of t)) t has) all

-- ---- a command

with_first : (writes : Bool) (payload : List ℕ) (t : TaskValue) → t.bytes ≡ cond writes payload [] → HasCome (cond writes (piece 0 payload ∷ []) []) t
with_first true payload t e = record { in_place = (refl, tt); bytes_are = e ∙ sym (append-nil payload) }
with_first false payload t e = record { in_place = tt; bytes_are = e }

begun_by : (c : ScsiCommand) (payload : List ℕ) (a : Awaiting) → UnlessFailed (first_piece c payload) (task_awaiting c a payload) a
begun_by c payload awaits.Turn = with_first c.writes payload (task_awaiting c awaits.Turn payload) refl
begun_by c payload (awaits.Data s) = with_first c.writes payload (task_awaiting c (awaits.Data s) payload) refl
begun_by c payload (awaits.Failing fault) = tt
begun_by c payload (awaits.Failed fault) = tt

new_by_tag : (came : ℕ → List Piece) (c : ScsiCommand) (payload : List ℕ) (a : Awaiting)
    → ByTag (λ tag. cond (tag == c.initiator_task_tag) (first_piece c payload) (came tag)) (task_awaiting c a payload)
new_by_tag came c payload a =
    subst (λ (b : Bool). UnlessFailed (cond b (first_piece c payload) (came c.initiator_task_tag)) (task_awaiting c a payload) a)
    (sym (eq-eqb c.initiator_task_tag c.initiator_task_tag refl)) (begun_by c payload a)

commanded_by_tag : (came : ℕ → List Piece) (s : TasksValue) (c : ScsiCommand) (payload : List ℕ) (r : Result TakenCommand TasksFault)
    → command_answer s c payload ≡ r → AllByTag came s.waiting
    → AllByTag (λ tag. cond (tag == c.initiator_task_tag) (begun_with c payload r (came tag)) (came tag)) (after_command s c payload r).waiting
commanded_by_tag came s c payload (Ok taken.PassedOver) e all = all_same c.initiator_task_tag came s.waiting all
commanded_by_tag came s c payload (Ok (taken.Rejected reason)) e all =
    subst (AllByTag (λ tag. cond (tag == c.initiator_task_tag) (came tag) (came tag))) (sym (count_waits s c.immediate))
    (all_same c.initiator_task_tag came s.waiting all)
commanded_by_tag came s c payload (Ok (taken.Execute n)) e all =
    subst (AllByTag (λ tag. cond (tag == c.initiator_task_tag) (first_piece c payload) (came tag)))
    (sym (count_waits s c.immediate ∙ at_once_alone s c payload n e)) tt
commanded_by_tag came s c payload (Ok taken.Waits) e all =
    all_behind (ByTag (λ tag. cond (tag == c.initiator_task_tag) (first_piece c payload) (came tag))) s.waiting (begun_task s.parameters c payload)
    (all_alone c.initiator_task_tag came (λ tag. first_piece c payload) s.waiting (is_new s c payload e) all)
    (new_by_tag came c payload (begun_task s.parameters c payload).awaiting)
commanded_by_tag came s c payload (Err fault) e all = all_same c.initiator_task_tag came s.waiting all

-- ---- a Data-Out

goes_on : (came : List Piece) (t : TaskValue) (s : DataSequence) (is_final : Bool) → HasCome came t → UnlessFailed came t (behind_data is_final s)
goes_on came t s true has = has
goes_on came t s false has = has

added_to : (came : List Piece) (t : TaskValue) (s : DataSequence) (d : DataOut) (payload : List ℕ) (o : Option TaskFault)
    → (o ≡ None → d.buffer_offset ≡ length t.bytes) → HasCome came t
    → UnlessFailed (came ++ piece d.buffer_offset payload ∷ []) (unless_data_fault t s d payload o) (unless_data_fault t s d payload o).awaiting
added_to came t s d payload (Some fault) at has = has_failed _ _ d.is_final fault
added_to came t s d payload None at has =
    goes_on _ _ s d.is_final (record {
      in_place = continue_push 0 came (piece d.buffer_offset payload) has.in_place (omega (arith, at refl, ap length has.bytes_are));
      bytes_are = ap (λ (xs : List ℕ). xs ++ payload) has.bytes_are ∙ sym (together_push came (piece d.buffer_offset payload));
    })

came_to : (came : List Piece) (t : TaskValue) (a : Awaiting) (d : DataOut) (payload : List ℕ) → t.awaiting ≡ a → UnlessFailed came t a
    → UnlessFailed (came ++ piece d.buffer_offset payload ∷ []) (task_at t a d payload) (task_at t a d payload).awaiting
came_to came t awaits.Turn d payload is has = has_failed _ _ d.is_final _
came_to came t (awaits.Data s) d payload is has =
    added_to came t s d payload (data_fault s (length t.bytes) d (length payload)) (no_fault s (length t.bytes) d (length payload)) has
came_to came t (awaits.Failing fault) d payload is has = has_failed _ _ d.is_final fault
came_to came t (awaits.Failed fault) d payload is has =
    subst (UnlessFailed (came ++ piece d.buffer_offset payload ∷ []) t) (sym is) tt

abbrev longer : DataOut → (payload : List ℕ) → (came : ℕ → List Piece) → (tag : ℕ) → List Piece
longer d payload came tag = cond (tag == d.initiator_task_tag) (came tag ++ piece d.buffer_offset payload ∷ []) (came tag)

data_to : (came : ℕ → List Piece) (t : TaskValue) (d : DataOut) (payload : List ℕ) → has_tag d.initiator_task_tag t ≡ true → ByTag came t
    → ByTag (longer d payload came) (task_after t d payload)
data_to came t d payload same has =
    let new = task_after t d payload in
    let more = came (tag_of t) ++ piece d.buffer_offset payload ∷ [] in
    subst (λ (tag : ℕ). UnlessFailed (longer d payload came tag) new new.awaiting)
    (sym (ap (λ (c : ScsiCommand). c.initiator_task_tag) (task_command t t.awaiting d payload)))
    (subst (λ (b : Bool). UnlessFailed (cond b more (came (tag_of t))) new new.awaiting) (sym same)
    (came_to (came (tag_of t)) t t.awaiting d payload refl has))

either_task : (came : ℕ → List Piece) (d : DataOut) (payload : List ℕ) (t : TaskValue) (ts : List TaskValue) (b : Bool)
    → has_tag d.initiator_task_tag t ≡ b → AllByRecursion (HasOther (tag_of t)) (commands ts) → ByTag came t → AllByTag came ts
    → AllByTag (longer d payload came) (tasks_after ts d payload)
    → AllByTag (longer d payload came) (cond b (task_after t d payload ∷ ts) (t ∷ tasks_after ts d payload))
either_task came d payload t ts true same others has all after = (
  data_to came t d payload same has,
  all_alone d.initiator_task_tag came (λ tag. came tag ++ piece d.buffer_offset payload ∷ []) ts
      (others_of d.initiator_task_tag ts
      (subst (λ (tag : ℕ). AllByRecursion (HasOther tag) (commands ts)) (eqb-true (tag_of t) d.initiator_task_tag same) others))
      all,
)
either_task came d payload t ts false same others has all after =
    (left_alone d.initiator_task_tag came (λ tag. came tag ++ piece d.buffer_offset payload ∷ []) t same has, after)

tasks_by_tag : (came : ℕ → List Piece) (ts : List TaskValue) (d : DataOut) (payload : List ℕ) → AreApart (commands ts) → AllByTag came ts
    → AllByTag (longer d payload came) (tasks_after ts d payload)
tasks_by_tag came [] d payload apart all = tt
tasks_by_tag came (t ∷ ts) d payload apart all =
    either_task came d payload t ts (has_tag d.initiator_task_tag t) refl apart.0 all.0 all.1 (tasks_by_tag came ts d payload apart.1 all.1)

if_waiting_by_tag : (came : ℕ → List Piece) (s : TasksValue) (d : DataOut) (payload : List ℕ) (b : Bool) → is_waiting s d.initiator_task_tag ≡ b
    → AreApart (commands s.waiting) → AllByTag came s.waiting
    → AllByTag (longer d payload came) (cond b (record s { waiting = tasks_after s.waiting d payload }) s).waiting
if_waiting_by_tag came s d payload true is apart all = tasks_by_tag came s.waiting d payload apart all
if_waiting_by_tag came s d payload false is apart all =
    all_alone d.initiator_task_tag came (λ tag. came tag ++ piece d.buffer_offset payload ∷ []) s.waiting
    (none_passes (has_tag d.initiator_task_tag) s.waiting is) all

data_by_tag : (came : ℕ → List Piece) (s : TasksValue) (d : DataOut) (payload : List ℕ) (r : Result TakenData TasksFault) → AreApart (commands s.waiting)
    → AllByTag came s.waiting
    → AllByTag (λ tag. cond (tag == d.initiator_task_tag) (continued_with d payload r (came tag)) (came tag)) (after_data s d payload r).waiting
data_by_tag came s d payload (Ok answer) apart all =
    if_waiting_by_tag came s d payload (is_waiting s d.initiator_task_tag) refl apart all
data_by_tag came s d payload (Err fault) apart all = all_same d.initiator_task_tag came s.waiting all

-- ---- what is next, and aborts

turn_by_tag : (came : ℕ → List Piece) (s : TasksValue) (t : TaskValue) (ts : List TaskValue) (b : Bool) → s.waiting ≡ t ∷ ts
    → HasCome (came (tag_of t)) t → AllByTag came ts → AllByTag came (cond b (without_first s t) (with_first_asked s t)).waiting
turn_by_tag came s t ts true e has all = subst (AllByTag came) (ap (drop 1) (sym e)) all
turn_by_tag came s t ts false e has all =
    (record { in_place = has.in_place; bytes_are = has.bytes_are }, subst (AllByTag came) (ap (drop 1) (sym e)) all)

left_by_tag : (came : ℕ → List Piece) (s : TasksValue) (t : TaskValue) (ts : List TaskValue) (a : Awaiting) → s.waiting ≡ t ∷ ts
    → UnlessFailed (came (tag_of t)) t a → AllByTag came (t ∷ ts) → AllByTag came (left_at s t a).waiting
left_by_tag came s t ts awaits.Turn e has all = turn_by_tag came s t ts (is_whole s.limit t) e has all.1
left_by_tag came s t ts (awaits.Data sequence) e has all = subst (AllByTag came) (sym e) all
left_by_tag came s t ts (awaits.Failing fault) e has all = subst (AllByTag came) (sym e) all
left_by_tag came s t ts (awaits.Failed fault) e has all = subst (AllByTag came) (ap (drop 1) (sym e)) all.1

next_by_tag : (came : ℕ → List Piece) (s : TasksValue) (ws : List TaskValue) → s.waiting ≡ ws → AllByTag came ws
    → AllByTag came (left_for s (slice_get ws 0)).waiting
next_by_tag came s [] e all = subst (AllByTag came) (sym e) tt
next_by_tag came s (t ∷ ts) e all = left_by_tag came s t ts t.awaiting e all.0 all

aborted_by_tag : (came : ℕ → List Piece) (s : TasksValue) (unit tag : ℕ) (b : Bool) → AllByTag came s.waiting
    → AllByTag came (cond b (without_named s unit tag) s).waiting
aborted_by_tag came s unit tag true all = all_filtered (ByTag came) (λ (t : TaskValue). not (is_named unit tag t)) s.waiting all
aborted_by_tag came s unit tag false all = all

numbered_by_tag : (came : ℕ → List Piece) (s : TasksValue) (immediate b : Bool) → AllByTag came s.waiting
    → AllByTag came (cond b (counted s immediate) s).waiting
numbered_by_tag came s immediate true all = subst (AllByTag came) (sym (count_waits s immediate)) all
numbered_by_tag came s immediate false all = all

step_by_tag : (came : ℕ → List Piece) (s : TasksValue) (act : Act) → AreApart (commands s.waiting) → AllByTag came s.waiting
    → AllByTag (λ tag. came_by tag s act (came tag)) (stepped s act).waiting
step_by_tag came s (Numbered immediate cmd_sn) apart all = numbered_by_tag came s immediate (is_taken s immediate cmd_sn) all
step_by_tag came s (Commanded c payload) apart all = commanded_by_tag came s c payload (command_answer s c payload) refl all
step_by_tag came s (DataCame d payload) apart all = data_by_tag came s d payload (data_answer s d (length payload)) apart all
step_by_tag came s AskedNext apart all = next_by_tag came s s.waiting refl all
step_by_tag came s (Aborted unit tag) apart all = aborted_by_tag came s unit tag (is_waiting_at s unit tag) all
step_by_tag came s (Dropped unit by) apart all = all_filtered (ByTag came) (λ (t : TaskValue). not (is_at unit t)) s.waiting all
step_by_tag came s Answered apart all = all
step_by_tag came s (Held reply ticket) apart all = all
step_by_tag came s (Settled ticket outcome) apart all = all

-- ---- what is executed

abbrev Just : (limit : ℕ) → (came : ℕ → List Piece) → Executed → Type 0
Just limit came e = HasJust limit (came e.command.initiator_task_tag) e

first_in_place : (writes : Bool) (payload : List ℕ) → Continue 0 (cond writes (piece 0 payload ∷ []) [])
first_in_place true payload = (refl, tt)
first_in_place false payload = tt

first_together : (writes : Bool) (most : ℕ) (payload : List ℕ)
    → take (cond writes most 0) payload ≡ take (cond writes most 0) (together (cond writes (piece 0 payload ∷ []) []))
first_together true most payload = ap (take most) (sym (append-nil payload))
first_together false most payload = refl

at_once_just : (limit : ℕ) (came : ℕ → List Piece) (c : ScsiCommand) (payload : List ℕ) (r : Result TakenCommand TasksFault)
    → ((n : ℕ) → r ≡ Ok (taken.Execute n) → (n ≡ wanted limit c) × (n ≤ length payload))
    → AllByRecursion (Just limit (λ tag. cond (tag == c.initiator_task_tag) (begun_with c payload r (came tag)) (came tag))) (at_once c payload r)
at_once_just limit came c payload (Ok taken.PassedOver) facts = tt
at_once_just limit came c payload (Ok (taken.Rejected reason)) facts = tt
at_once_just limit came c payload (Ok (taken.Execute n)) facts =
    let is = facts n refl in
    let e : Executed = record { command = c; bytes = take n payload } in (
      subst (λ (b : Bool). HasJust limit (cond b (first_piece c payload) (came c.initiator_task_tag)) e)
          (sym (eq-eqb c.initiator_task_tag c.initiator_task_tag refl)) (record {
            in_place = first_in_place c.writes payload;
            bytes_are = ap (λ (k : ℕ). take k payload) is.0 ∙ first_together c.writes _ payload;
            whole = length-take-le n payload is.1 ∙ is.0;
          }),
      tt,
    )
at_once_just limit came c payload (Ok taken.Waits) facts = tt
at_once_just limit came c payload (Err fault) facts = tt

turn_just : (came : ℕ → List Piece) (s : TasksValue) (t : TaskValue) (b : Bool) → (b ≡ true → wanted s.limit t.command ≤ length t.bytes)
    → HasCome (came (tag_of t)) t
    → AllByRecursion (Just s.limit came) (found_next (cond b (found.Execute (handed s.limit t)) (found.Ask (request s.parameters s.limit s.next_tag t))))
turn_just came s t true all has = (
  record {
    in_place = has.in_place;
    bytes_are = ap (take (wanted s.limit t.command)) has.bytes_are;
    whole = length-take-le (wanted s.limit t.command) t.bytes (all refl);
  },
  tt,
)
turn_just came s t false all has = tt

next_at_just : (came : ℕ → List Piece) (s : TasksValue) (t : TaskValue) (a : Awaiting) → UnlessFailed (came (tag_of t)) t a
    → AllByRecursion (Just s.limit came) (found_next (next_at s t a))
next_at_just came s t awaits.Turn has =
    turn_just came s t (is_whole s.limit t) (leb-true (wanted s.limit t.command) (length t.bytes)) has
next_at_just came s t (awaits.Data sequence) has = tt
next_at_just came s t (awaits.Failing fault) has = tt
next_at_just came s t (awaits.Failed fault) has = tt

next_just : (came : ℕ → List Piece) (s : TasksValue) (ws : List TaskValue) → AllByTag came ws
    → AllByRecursion (Just s.limit came) (found_next (next_for s (slice_get ws 0)))
next_just came s [] all = tt
next_just came s (t ∷ ts) all = next_at_just came s t t.awaiting all.0

step_just : (came : ℕ → List Piece) (s : TasksValue) (act : Act) → AllByTag came s.waiting
    → AllByRecursion (Just s.limit (λ tag. came_by tag s act (came tag))) (executed_by s act)
step_just came s (Numbered immediate cmd_sn) all = tt
step_just came s (Commanded c payload) all =
    at_once_just s.limit came c payload (command_answer s c payload) (at_once_facts s c payload)
step_just came s (DataCame d payload) all = tt
step_just came s AskedNext all = next_just came s s.waiting all
step_just came s (Aborted unit tag) all = tt
step_just came s (Dropped unit by) all = tt
step_just came s Answered all = tt
step_just came s (Held reply ticket) all = tt
step_just came s (Settled ticket outcome) all = tt

-- ---- runs

run_limit : (s : TasksValue) (acts : List Act) → (run s acts).limit ≡ s.limit
run_limit s [] = refl
run_limit s (act ∷ acts) = run_limit (stepped s act) acts ∙ limit_stays s act

came_last : (tag : ℕ) (s : TasksValue) (acts : List Act) (act : Act) (before : List Piece)
    → came_for tag s (acts ++ act ∷ []) before ≡ came_by tag (run s acts) act (came_for tag s acts before)
came_last tag s [] act before = refl
came_last tag s (first ∷ acts) act before = came_last tag (stepped s first) acts act (came_by tag s first before)

run_by_tag : (came : ℕ → List Piece) (s : TasksValue) (acts : List Act) → AreApart (commands s.waiting) → AllByTag came s.waiting
    → AllByTag (λ tag. came_for tag s acts (came tag)) (run s acts).waiting
run_by_tag came s [] apart all = all
run_by_tag came s (act ∷ acts) apart all =
    run_by_tag (λ tag. came_by tag s act (came tag)) (stepped s act) acts (step_apart s act apart) (step_by_tag came s act apart all)

pub executes_just : (p : SessionParameters) (limit : ℕ) (n : SerialNumber) (before : List Act) (act : Act)
    → ExecutesJust (begun_tasks p limit n) before act
executes_just p limit n before act =
    let s = begun_tasks p limit n in
    let all : AllByTag (λ tag. came_for tag s before []) (run s before).waiting = run_by_tag (λ tag. []) s before tt tt in
    all_as (Just (run s before).limit (λ tag. came_by tag (run s before) act (came_for tag s before [])))
    (Just limit (λ tag. came_for tag s (before ++ act ∷ []) [])) (executed_by (run s before) act)
    (λ e just.
    subst (λ (came : List Piece). HasJust limit came e) (sym (came_last e.command.initiator_task_tag s before act []))
    (subst (λ (k : ℕ). HasJust k (came_by e.command.initiator_task_tag (run s before) act (came_for e.command.initiator_task_tag s before [])) e)
    (run_limit s before) just))
    (step_just (λ tag. came_for tag s before []) (run s before) act all)

pub each_has_just : (p : SessionParameters) (limit : ℕ) (n : SerialNumber) (acts : List Act) → EachHasJust (begun_tasks p limit n) acts
each_has_just p limit n acts before act after e = executes_just p limit n before act
