-- A conversation, step by step.
use Rattle.std.proofs.Common.{◌≡◌, ◌⊎◌, ◌≤◌, ℕ, Bool, true, false, arith, List, [], ◌++◌, drop, refl, sym, subst, append-nil, Option, Result, Ok, Err}
use Rattle.std.proofs.Common.{OnOk, IfErr, IsErr, inl, inr, All}
use Rattle.std.specs.Io.KnownBytes.{Appends}
use Rattle.iscsi_pdu.specs.Pdus.{InitiatorPduValue, TargetPduValue}
use Rattle.iscsi_answers.specs.Written.{bytes_of_all}
use Rattle.iscsi_tasks.specs.Next.{next_of}
use Rattle.iscsi_tasks.specs.declared.next_task.NextTask.TheVariants.{Idle}
use Rattle.iscsi_tasks.specs.Values.{TasksValue}
use Rattle.read_buffer.specs.Reading.{Added}
use Rattle.iscsi_session.specs.Ends.{BranchFits, EndFits, NeedsMore, ends_by_logout, is_closing}
use Rattle.iscsi_session.specs.Faults.{IsInside}
use Rattle.iscsi_session.specs.declared.fault.IscsiEnd.{IscsiEnd}
use Rattle.iscsi_session.specs.declared.fault.IscsiFault.{IscsiFault}
use Rattle.iscsi_session.specs.declared.talking.Pause.{Pause}
use Rattle.iscsi_session.specs.declared.talking.Pause.TheVariants as pause
use Rattle.iscsi_session.specs.Moments.{Advances}
use Rattle.iscsi_session.specs.Saying.{Says}
use Rattle.iscsi_session.specs.Talking.{Answers, BeginsWith, Converses, IsAskedToLeave, IsPinged, MayAsk, Moment, Writes, asked_to_leave, must_wait, pdus_of, pinged}
use Rattle.iscsi_session.specs.Worlds.{World}
use Rattle.iscsi_session.proofs.Acted.{said_more}
use Rattle.iscsi_session.specs.Releasing.{Releases}
use Rattle.iscsi_session.proofs.Talked.{answers_released, answers_resets, answers_none, answers_one, answers_pinged, answers_then}
use Rattle.iscsi_session.proofs.Talked.{converses_asked, converses_none, converses_read, converses_then, converses_within}
use Rattle.iscsi_session.proofs.Talked.{one_ends, pause_inside, pause_then, read_ends, then_ends}
use Rattle.iscsi_session.proofs.Talked.{writes_flushed, writes_said, writes_then}

pub no_matter : {A F : Type 0} (Q : Type 0) (r : Result A F) → IsErr r → OnOk r Q
no_matter Q (Ok value) e = absurd cc
no_matter Q (Err fault) e = tt

abbrev pub moment_of : {S : Type 0} → TasksValue → S → (pending out : List ℕ) → Moment S
moment_of k s pending out = record { tasks = k; service = s; pending = pending; out = out }

-- ---- what is pending

-- what was answered so far, and what was added
abbrev pub IsAnswered : {S : Type 0} → World S → Moment S → Moment S → Type 0
IsAnswered w a b = (said : List TargetPduValue) × Answers w 0 a said b b.pending × (b.out ≡ a.out ++ bytes_of_all said)

pub answered_none : {S : Type 0} (w : World S) (a : Moment S) → IsAnswered w a a
answered_none w a = ([], answers_none w a, sym (append-nil a.out))

-- a PDU more
pub answered_more : {S : Type 0} (w : World S) (a b c : Moment S) (p : InitiatorPduValue) (size : ℕ)
    → IsAnswered w a b → next_of b.tasks ≡ Idle → must_wait b.tasks p.header ≡ false → BeginsWith b.pending p size → c.pending ≡ drop size b.pending
    → (said : List TargetPduValue) × Says w.works p b.tasks b.service said c.tasks c.service × (c.out ≡ b.out ++ bytes_of_all said)
    → IsAnswered w a c
answered_more {S} w a b c p size so idle now here cut one = (
  so.0 ++ one.0,
  answers_then w a b c c.pending so.0 one.0 so.1 (answers_one w b c c.pending p size one.0 idle now here cut one.1),
  said_more so.0 one.0 a.out b.out c.out so.2 one.2,
)

-- a PDU that may have been taken, and by which the connection broke
pub answered_broken : {S : Type 0} (w : World S) (a b c : Moment S) (p : InitiatorPduValue) (size : ℕ) (r : Result Pause IscsiFault)
    → IsAnswered w a b → next_of b.tasks ≡ Idle → must_wait b.tasks p.header ≡ false → BeginsWith b.pending p size → IsErr r → IfErr r IsInside
    → ((said : List TargetPduValue) × Says w.works p b.tasks b.service said c.tasks c.service × Unit {0})
    ⊎ ((c.tasks ≡ b.tasks) × (c.service ≡ b.service))
    → Advances w r a c
answered_broken {S} w a b c p size r so idle now here e inside (inl one) = (
  so.0 ++ one.0,
  drop size b.pending,
  answers_then w a b c (drop size b.pending) so.0 one.0 so.1 (answers_one w b c (drop size b.pending) p size one.0 idle now here refl one.1),
  no_matter _ r e,
  pause_inside r _ c.tasks (drop size b.pending) e inside,
)
answered_broken {S} w a b c p size r so idle now here e inside (inr still) = (
  so.0,
  b.pending,
  subst (λ (x : TasksValue). Answers w 0 a so.0 (record c { tasks = x }) b.pending) (sym still.0)
      (subst (λ (x : S). Answers w 0 a so.0 (record b { service = x }) b.pending) (sym still.1) so.1),
  no_matter _ r e,
  pause_inside r _ c.tasks b.pending e inside,
)

-- a PDU more, a logout by which the connection ends
pub answered_last : {S : Type 0} (w : World S) (a b c : Moment S) (p : InitiatorPduValue) (size : ℕ)
    → IsAnswered w a b → next_of b.tasks ≡ Idle → must_wait b.tasks p.header ≡ false → BeginsWith b.pending p size → c.pending ≡ drop size b.pending
    → (said : List TargetPduValue) × Says w.works p b.tasks b.service said c.tasks c.service × (c.out ≡ b.out ++ bytes_of_all said)
    → is_closing p.header ≡ true → Advances w (Ok pause.LoggedOut) a c
answered_last {S} w a b c p size so idle now here cut one closing =
    let last = answers_one w b c c.pending p size one.0 idle now here cut one.1 in (
      so.0 ++ one.0,
      c.pending,
      answers_then w a b c c.pending so.0 one.0 so.1 last,
      (refl, said_more so.0 one.0 a.out b.out c.out so.2 one.2),
      then_ends w a b c c.pending so.0 one.0 so.1 last (one_ends w b c c.pending p size one.0 idle now here cut one.1 closing),
    )

-- resets by others were taken, and then PDUs were answered
pub resets_then : {S : Type 0} (w : World S) (a m b : Moment S) (r : Result Pause IscsiFault)
    → (units : List ℕ) × All w.resets units
    × ((said : List TargetPduValue) × w.takes_resets units a.tasks a.service said m.tasks m.service × (m.out ≡ a.out ++ bytes_of_all said))
    → m.pending ≡ a.pending → Advances w r m b → Advances w r a b
resets_then {S} w a m b (Ok value) so same one =
    let up = so.2 in
    let before : Answers w 0 a up.0 m m.pending =
    subst (λ (xs : List ℕ). Answers w 0 a up.0 m xs) (sym same) (answers_resets w a m so.0 up.0 so.1 up.1) in (
      up.0 ++ one.0,
      one.1,
      answers_then w a m b one.1 up.0 one.0 before one.2,
      (one.3.0, said_more up.0 one.0 a.out m.out b.out up.2 one.3.1),
      pause_then w a m b one.1 up.0 one.0 before one.2 (Ok value) one.4,
    )
resets_then {S} w a m b (Err fault) so same one =
    let up = so.2 in
    let before : Answers w 0 a up.0 m m.pending =
    subst (λ (xs : List ℕ). Answers w 0 a up.0 m xs) (sym same) (answers_resets w a m so.0 up.0 so.1 up.1) in (
      up.0 ++ one.0,
      one.1,
      answers_then w a m b one.1 up.0 one.0 before one.2,
      tt,
      one.4,
    )

-- where a fault ended it
pub resets_broken : {S : Type 0} (w : World S) (a b : Moment S) (r : Result Pause IscsiFault) (P : List TargetPduValue → Type 0)
    → IsErr r → IfErr r IsInside
    → (units : List ℕ) × All w.resets units
    × ((said : List TargetPduValue) × w.takes_resets units a.tasks a.service said b.tasks b.service × P said)
    → Advances w r a b
resets_broken {S} w a b r P e inside so =
    let up = so.2 in (up.0, a.pending, answers_resets w a b so.0 up.0 so.1 up.1, no_matter _ r e, pause_inside r _ b.tasks a.pending e inside)

released_said : {A F : Type 0} (r : Result A F) (out mid out' pending : List ℕ) (xs ys : List TargetPduValue) (rest : List ℕ)
    → mid ≡ out ++ bytes_of_all xs → OnOk r ((rest ≡ pending) × (out' ≡ mid ++ bytes_of_all ys))
    → OnOk r ((rest ≡ pending) × (out' ≡ out ++ bytes_of_all (xs ++ ys)))
released_said (Ok value) out mid out' pending xs ys rest one two = (two.0, said_more xs ys out mid out' one two.1)
released_said (Err fault) out mid out' pending xs ys rest one two = tt

-- replies were released, and then PDUs were answered
pub released_then : {S : Type 0} (w : World S) (a m b : Moment S) (r : Result Pause IscsiFault)
    → (said : List TargetPduValue) × Releases w.settles a.tasks said m.tasks × (m.out ≡ a.out ++ bytes_of_all said)
    → m.pending ≡ a.pending → m.service ≡ a.service → Advances w r m b → Advances w r a b
released_then {S} w a m b r up same still one =
    let before : Answers w 0 a up.0 m m.pending =
    subst (λ (xs : List ℕ). Answers w 0 a up.0 m xs) (sym same) (answers_released w a m up.0 still up.1) in (
      up.0 ++ one.0,
      one.1,
      answers_then w a m b one.1 up.0 one.0 before one.2,
      released_said r a.out m.out b.out b.pending up.0 one.0 one.1 up.2 one.3,
      pause_then w a m b one.1 up.0 one.0 before one.2 r one.4,
    )

-- where a fault ended it
pub released_broken : {S : Type 0} (w : World S) (a b : Moment S) (r : Result Pause IscsiFault) (P : List TargetPduValue → Type 0) → IsErr r
    → IfErr r IsInside
    → (said : List TargetPduValue) × Releases w.settles a.tasks said b.tasks × P said → b.service ≡ a.service → Advances w r a b
released_broken {S} w a b r P e inside up still =
    (up.0, a.pending, answers_released w a b up.0 still up.1, no_matter _ r e, pause_inside r _ b.tasks a.pending e inside)

-- ---- what is written

abbrev pub IsWritten : {S : Type 0} → World S → Moment S → (v0 : Option (List ℕ)) → Moment S → (v : Option (List ℕ)) → Type 0
IsWritten w a v0 b v = (said : List TargetPduValue) × Answers w 0 a said b b.pending × Writes v0 v a.out b.out said

pub written_none : {S : Type 0} (w : World S) (a : Moment S) (v : Option (List ℕ)) → IsWritten w a v a v
written_none w a v = ([], answers_none w a, writes_said v a.out a.out [] (sym (append-nil a.out)))

-- some answers more, which were written
pub written_more : {S : Type 0} (w : World S) (a b m : Moment S) (out : List ℕ) (v0 v v' : Option (List ℕ)) → IsWritten w a v0 b v
    → (said : List TargetPduValue) × (rest : List ℕ) × Answers w 0 b said m rest × ((rest ≡ m.pending) × (m.out ≡ b.out ++ bytes_of_all said))
    → Appends v v' m.out → out ≡ [] → IsWritten w a v0 (record m { out = out }) v'
written_more {S} w a b m out v0 v v' so one gone none =
    let all = so.0 ++ (one.0 ++ []) in (
      all,
      subst (λ (xs : List ℕ). Answers w 0 a all m xs) one.3.0
          (answers_then w a b m one.1 so.0 (one.0 ++ []) so.1
          (subst (λ (xs : List TargetPduValue). Answers w 0 b xs m one.1) (sym (append-nil one.0)) one.2)),
      writes_then v0 v v' a.out b.out out so.0 (one.0 ++ []) so.2
          (writes_then v v v' b.out m.out out one.0 [] (writes_said v b.out m.out one.0 one.3.1) (writes_flushed v v' m.out out gone none)),
    )

-- the last answers of all, which were written
pub written_last : {S : Type 0} (w : World S) (a b m : Moment S) (out : List ℕ) (v0 v v' : Option (List ℕ)) → IsWritten w a v0 b v
    → (said : List TargetPduValue) × (rest : List ℕ) × (answers : Answers w 0 b said m rest)
    × ((rest ≡ m.pending) × (m.out ≡ b.out ++ bytes_of_all said)) × (ends_by_logout (pdus_of answers.events) ≡ true)
    → Appends v v' m.out → out ≡ []
    → (said : List TargetPduValue) × (rest : List ℕ) × (answers : Answers w 0 a said (record m { out = out }) rest)
    × ((rest ≡ m.pending) × Writes v0 v' a.out out said) × (ends_by_logout (pdus_of answers.events) ≡ true)
written_last {S} w a b m out v0 v v' so one gone none = (
  so.0 ++ one.0,
  one.1,
  answers_then w a b m one.1 so.0 one.0 so.1 one.2,
  (
    one.3.0,
    subst (λ (xs : List TargetPduValue). Writes v0 v' a.out out (so.0 ++ xs)) (append-nil one.0)
        (writes_then v0 v v' a.out b.out out so.0 (one.0 ++ []) so.2
        (writes_then v v v' b.out m.out out one.0 [] (writes_said v b.out m.out one.0 one.3.1) (writes_flushed v v' m.out out gone none))),
  ),
  then_ends w a b m one.1 so.0 one.0 so.1 one.2 one.4,
)

-- where a fault ended it
pub written_broken : {S : Type 0} (w : World S) (a b c : Moment S) (v0 v : Option (List ℕ)) (r : Result Bool IscsiFault)
    (Q : List TargetPduValue → List ℕ → Type 0) → IsWritten w a v0 b v → IsErr r
    → (one : (said : List TargetPduValue) × (rest : List ℕ) × Answers w 0 b said c rest)
    → ((taken : List InitiatorPduValue) → BranchFits r taken c.tasks one.1)
    → (said : List TargetPduValue) × (rest : List ℕ) × (answers : Answers w 0 a said c rest) × OnOk r (Q said rest)
    × BranchFits r (pdus_of answers.events) c.tasks rest
written_broken {S} w a b c v0 v r Q so e one fits =
    (so.0 ++ one.0, one.1, answers_then w a b c one.1 so.0 one.0 so.1 one.2, no_matter _ r e, fits _)

-- ---- what is read

abbrev pub IsTalked : {S : Type 0} → World S → (most : ℕ) → Moment S → (left0 v0 : Option (List ℕ)) → Moment S
    → (left v : Option (List ℕ)) → Type 0
IsTalked w most a left0 v0 b left v =
    (said : List TargetPduValue) × Converses w most a left0 left said b b.pending × Writes v0 v a.out b.out said

pub talked_none : {S : Type 0} (w : World S) (a : Moment S) (left v : Option (List ℕ)) → IsTalked w 0 a left v a left v
talked_none w a left v = ([], converses_none w a left, writes_said v a.out a.out [] (sym (append-nil a.out)))

pub talked_more : {S : Type 0} {most : ℕ} (w : World S) (a b c : Moment S) (left0 left v0 v v' : Option (List ℕ))
    → IsTalked w most a left0 v0 b left v
    → (said : List TargetPduValue) × (rest : List ℕ) × Answers w 0 b said c rest × ((rest ≡ c.pending) × Writes v v' b.out c.out said)
    → IsTalked w most a left0 v0 c left v'
talked_more {S} {most = most} w a b c left0 left v0 v v' so one = (
  so.0 ++ one.0,
  subst (λ (xs : List ℕ). Converses w most a left0 left (so.0 ++ one.0) c xs) one.3.0
      (converses_then w a b c one.1 left0 left so.0 one.0 so.1 one.2),
  writes_then v0 v v' a.out b.out c.out so.0 one.0 so.2 one.3.1,
)

-- the last ones of all, behind a logout
pub talked_last : {S : Type 0} {most : ℕ} (w : World S) (a b c : Moment S) (left0 left v0 v v' : Option (List ℕ))
    → IsTalked w most a left0 v0 b left v
    → (said : List TargetPduValue) × (rest : List ℕ) × (answers : Answers w 0 b said c rest) × ((rest ≡ c.pending) × Writes v v' b.out c.out said)
    × (ends_by_logout (pdus_of answers.events) ≡ true)
    → (said : List TargetPduValue) × (rest : List ℕ) × (all : Converses w most a left0 left said c rest) × Writes v0 v' a.out c.out said
    × (ends_by_logout (pdus_of all.2.events) ≡ true)
talked_last {S} {most = most} w a b c left0 left v0 v v' so one = (
  so.0 ++ one.0,
  one.1,
  converses_then w a b c one.1 left0 left so.0 one.0 so.1 one.2,
  writes_then v0 v v' a.out b.out c.out so.0 one.0 so.2 one.3.1,
  read_ends w a b c one.1 left0 left so.0 one.0 so.1 one.2 one.4,
)

-- where a fault ended it
pub talked_broken : {S : Type 0} {most : ℕ} (w : World S) (a b c : Moment S) (left0 left v0 v : Option (List ℕ)) (r : Result IscsiEnd IscsiFault)
    (Q : List TargetPduValue → List ℕ → Type 0) → IsTalked w most a left0 v0 b left v → IsErr r
    → (one : (said : List TargetPduValue) × (rest : List ℕ) × Answers w 0 b said c rest)
    → ((taken : List InitiatorPduValue) → EndFits r taken c.tasks one.1 left)
    → (said : List TargetPduValue) × (rest : List ℕ) × (all : Converses w most a left0 left said c rest) × OnOk r (Q said rest)
    × EndFits r (pdus_of all.2.events) c.tasks rest left
talked_broken {S} {most = most} w a b c left0 left v0 v r Q so e one fits =
    (so.0 ++ one.0, one.1, converses_then w a b c one.1 left0 left so.0 one.0 so.1 one.2, no_matter _ r e, fits _)

-- what is left is the same by other names
pub needs_as : (k k' : TasksValue) (rest rest' : List ℕ) → k' ≡ k → rest' ≡ rest → NeedsMore k rest → NeedsMore k' rest'
needs_as k k' rest rest' tasks same none =
    subst (λ (x : TasksValue). NeedsMore x rest') (sym tasks) (subst (λ (xs : List ℕ). NeedsMore k xs) (sym same) none)

pub talked_read : {S : Type 0} {most : ℕ} (w : World S) (a b : Moment S) (pending : List ℕ) (left0 left left' v0 v : Option (List ℕ))
    → IsTalked w most a left0 v0 b left v → Added b.pending pending left left'
    → IsTalked w most a left0 v0 (record b { pending = pending }) left' v
talked_read {most = most} w a b pending left0 left left' v0 v so got =
    (so.0, converses_read w a b pending left0 left left' so.0 so.1 got, so.2)

pub talked_same : {S : Type 0} {most : ℕ} (w : World S) (a b : Moment S) (out : List ℕ) (left0 left v0 v : Option (List ℕ))
    → IsTalked w most a left0 v0 b left v → out ≡ b.out → IsTalked w most a left0 v0 (record b { out = out }) left v
talked_same {S} {most = most} w a b out left0 left v0 v so same =
    subst (λ (xs : List ℕ). IsTalked w most a left0 v0 (record b { out = xs }) left v) (sym same) so

pub talked_as : {S : Type 0} {most : ℕ} (w : World S) (a b : Moment S) (k : TasksValue) (left0 left v0 v : Option (List ℕ))
    → IsTalked w most a left0 v0 b left v → k ≡ b.tasks → IsTalked w most a left0 v0 (record b { tasks = k }) left v
talked_as {S} {most = most} w a b k left0 left v0 v so same =
    subst (λ (x : TasksValue). IsTalked w most a left0 v0 (record b { tasks = x }) left v) (sym same) so

pub talked_pinged : {S : Type 0} {most : ℕ} (w : World S) (a b : Moment S) (out : List ℕ) (left0 left v0 v : Option (List ℕ))
    → IsTalked w most a left0 v0 b left v → (out ≡ b.out) ⊎ IsPinged b.tasks b.out out
    → IsTalked w most a left0 v0 (record b { out = out }) left v
talked_pinged {most = most} w a b out left0 left v0 v so (inl same) = talked_same w a b out left0 left v0 v so same
talked_pinged {S} {most = most} w a b out left0 left v0 v so (inr ping) = (
  so.0 ++ pinged b.tasks ping.0,
  converses_then w a b b b.pending left0 left so.0 (pinged b.tasks ping.0) so.1 (answers_pinged w b ping.0),
  writes_then v0 v v a.out b.out out so.0 (pinged b.tasks ping.0) so.2 (writes_said v b.out out (pinged b.tasks ping.0) ping.1),
)

-- how often a logout was asked for
abbrev pub times_asked : Bool → ℕ
times_asked true = 1
times_asked false = 0

few_asked : (b : Bool) → times_asked b ≤ 1
few_asked true = omega arith
few_asked false = omega arith

-- once at most
pub talked_within : {S : Type 0} (asked : Bool) (w : World S) (a b : Moment S) (left0 left v0 v : Option (List ℕ))
    → IsTalked w (times_asked asked) a left0 v0 b left v → IsTalked w 1 a left0 v0 b left v
talked_within asked w a b left0 left v0 v so =
    (so.0, converses_within (times_asked asked) 1 w a b b.pending left0 left so.0 (few_asked asked) so.1, so.2)

-- a logout may have been asked for
pub talked_asked : {S : Type 0} (asked asked' : Bool) (w : World S) (a b : Moment S) (out : List ℕ) (left0 left v0 v : Option (List ℕ))
    → IsTalked w (times_asked asked) a left0 v0 b left v → MayAsk w.ends b.tasks asked asked' b.out out
    → IsTalked w (times_asked asked') a left0 v0 (record b { out = out }) left v
talked_asked {S} asked asked' w a b out left0 left v0 v so (inl still) =
    subst (λ (x : Bool). IsTalked w (times_asked x) a left0 v0 (record b { out = out }) left v) (sym still.0)
    (talked_same w a b out left0 left v0 v so still.1)
talked_asked {S} asked asked' w a b out left0 left v0 v so (inr first) =
    let one : IsTalked w 0 a left0 v0 b left v = subst (λ (x : Bool). IsTalked w (times_asked x) a left0 v0 b left v) first.0 so in
    let ask : IsAskedToLeave w.ends b.tasks b.out out = first.2 in
    subst (λ (x : Bool). IsTalked w (times_asked x) a left0 v0 (record b { out = out }) left v) (sym first.1) (
      one.0 ++ asked_to_leave b.tasks ask.0 ask.1,
      converses_asked w a b left0 left one.0 ask.0 ask.1 one.1 ask.2,
      writes_then v0 v v a.out b.out out one.0 (asked_to_leave b.tasks ask.0 ask.1) one.2
          (writes_said v b.out out (asked_to_leave b.tasks ask.0 ask.1) ask.3),
    )
