-- PDUs taken off a stream, one after another, and what is written.
use Rattle.std.proofs.Common.{◌≡◌, ◌≤◌, ◌<◌, ◌+◌, ◌*◌, ℕ, Bool, true, false, cond, List, [], ◌∷◌, ◌++◌, length, length-append, drop, refl, sym, ap, subst, ◌∙◌, append_assoc}
use Rattle.std.proofs.Common.{append-nil, Option, Some, None, Result, Ok, Err, IsErr, IsErrAnd, IfErr, arith, All}
use Rattle.std.proofs.lemmas.List.Elements.{All-append, All-cons, All-head, All-nil, All-tail}
use Rattle.std.proofs.lemmas.List.{drop-append-le}
use Rattle.std.proofs.lemmas.Grind.{common_steps, flat_map-append}
use Rattle.std.specs.Io.KnownBytes.{Appends, IsAtEnd}
use Rattle.iscsi_keys.specs.Limits.{segment_limit}
use Rattle.iscsi_pdu.specs.Pdus.{InitiatorPduValue, TargetPduValue, initiator_found, parsed_initiator}
use Rattle.iscsi_pdu.specs.declared.serial_number.SerialNumber.{SerialNumber}
use Rattle.iscsi_pdu.specs.Segments.{Found, Partial, Complete, Invalid, IsKnown, SegmentsValue, measured, padded, segments, sized}
use Rattle.iscsi_pdu.proofs.Streams.{segments_stay}
use Rattle.iscsi_answers.specs.Written.{bytes_of, bytes_of_all}
use Rattle.iscsi_tasks.specs.Next.{next_of}
use Rattle.iscsi_tasks.specs.declared.next_task.NextTask.TheVariants.{Idle}
use Rattle.iscsi_tasks.specs.Values.{TasksValue}
use Rattle.session.proofs.Read.{consumes_more, consumes_none}
use Rattle.read_buffer.specs.Reading.{Added}
use Rattle.iscsi_session.specs.Ends.{BranchFits, EndFits, EndIs, EndsBetween, EndsWithin, FaultFits, IsNone, NeedsMore, PauseFits, ends_by_logout, is_closing}
use Rattle.iscsi_session.specs.Faults.{IsInside, IsLater, IsOfReading}
use Rattle.iscsi_session.specs.Limits.{pdu_buffer_size}
use Rattle.iscsi_session.specs.declared.fault.IscsiEnd.{IscsiEnd}
use Rattle.iscsi_session.specs.declared.fault.IscsiFault.{IscsiFault}
use Rattle.iscsi_session.specs.declared.fault.IscsiFault.TheVariants as fault
use Rattle.iscsi_session.specs.declared.talking.Pause.{Pause}
use Rattle.iscsi_session.specs.declared.talking.Pause.TheVariants as pause
use Rattle.iscsi_session.specs.Saying.{Says}
use Rattle.iscsi_session.specs.Talking.{Answers, BeginsWith, Came, Converses, Ending, Event, IsSo, Moment, Released, Silence, Told, Takes, Talks, Writes}
use Rattle.iscsi_session.specs.Talking.{asked_to_leave, leave_requests, must_wait, pdus_of, pinged}
use Rattle.iscsi_tasks.specs.Runs.{Settled, stepped}
use Rattle.tickets.specs.declared.ticket.ReplyTicket.{ReplyTicket}
use Rattle.tickets.specs.declared.ticket.Outcome.{Outcome}
use Rattle.iscsi_session.specs.Releasing.{Releases, ReleasesAll, Settlement}
use Rattle.iscsi_session.specs.Worlds.{World}

known_segments : (s : Found SegmentsValue) → IsKnown (initiator_found s) → IsKnown s
known_segments (Partial wanted) known = known
known_segments (Complete s count) known = tt
known_segments (Invalid fault) known = tt

-- a PDU that was parsed
pub begins_with : (bytes pending : List ℕ) (p : InitiatorPduValue) (size : ℕ) → pending ≡ bytes → Complete p size ≡ parsed_initiator
    segment_limit pending
    → (48 ≤ size) × (size ≤ length pending) → BeginsWith bytes p size
begins_with bytes pending p size same parsed within = record {
  parsed = sym (ap (parsed_initiator segment_limit) same) ∙ sym parsed;
  some = within.0;
  whole = omega (arith, within.1, ap length same);
}

-- a PDU that is there stays, whatever follows
pub begins_before : (bytes more : List ℕ) (p : InitiatorPduValue) (size : ℕ) → BeginsWith bytes p size → BeginsWith (bytes ++ more) p size
begins_before bytes more p size here =
    let known : IsKnown (parsed_initiator segment_limit bytes) = subst IsKnown (sym here.parsed) tt in record {
      parsed = ap initiator_found (segments_stay segment_limit bytes more (known_segments (segments segment_limit bytes) known)) ∙
          here.parsed;
      some = here.some;
      whole = omega (arith, here.whole, length-append bytes more);
    }

takes_append : (ps qs : List InitiatorPduValue) (bytes mid rest : List ℕ) → Takes bytes ps mid → Takes mid qs rest → Takes bytes (ps ++ qs)
    rest
takes_append [] qs bytes mid rest one two = subst (λ (xs : List ℕ). Takes xs qs rest) one two
takes_append (p ∷ ps) qs bytes mid rest one two = (one.0, one.1, takes_append ps qs (drop one.0 bytes) mid rest one.2 two)

takes_before : (ps : List InitiatorPduValue) (bytes rest piece : List ℕ) → Takes bytes ps rest → Takes (bytes ++ piece) ps (rest ++ piece)
takes_before [] bytes rest piece so = ap (λ (xs : List ℕ). xs ++ piece) so
takes_before (p ∷ ps) bytes rest piece so =
    let here : BeginsWith bytes p so.0 = so.1 in (
      so.0,
      begins_before bytes piece p so.0 here,
      subst (λ (xs : List ℕ). Takes xs ps (rest ++ piece)) (sym (drop-append-le so.0 bytes piece here.whole))
          (takes_before ps (drop so.0 bytes) rest piece so.2),
    )

pdus_append : (es fs : List Event) → pdus_of (es ++ fs) ≡ pdus_of es ++ pdus_of fs
pdus_append [] fs = refl
pdus_append (Came p ∷ es) fs = ap (λ (ps : List InitiatorPduValue). p ∷ ps) (pdus_append es fs)
pdus_append (Silence ∷ es) fs = pdus_append es fs
pdus_append (Told units ∷ es) fs = pdus_append es fs
pdus_append (Ending seconds ∷ es) fs = pdus_append es fs
pdus_append (Released ticket outcome ∷ es) fs = pdus_append es fs

requests_append : (es fs : List Event) → leave_requests (es ++ fs) ≡ leave_requests es + leave_requests fs
requests_append [] fs = omega arith
requests_append (Came p ∷ es) fs = requests_append es fs
requests_append (Silence ∷ es) fs = requests_append es fs
requests_append (Told units ∷ es) fs = requests_append es fs
requests_append (Released ticket outcome ∷ es) fs = requests_append es fs
requests_append (Ending seconds ∷ es) fs = omega (arith, requests_append es fs)

talks_append : {S : Type 0} (w : World S) (es fs : List Event) (k k1 k' : TasksValue) (s m t : S) (a b : List TargetPduValue)
    → Talks w es k s a k1 m → Talks w fs k1 m b k' t → Talks w (es ++ fs) k s (a ++ b) k' t
talks_append {S} w [] fs k k1 k' s m t a b one two =
    subst (λ (x : List TargetPduValue). Talks w fs k s (x ++ b) k' t) (sym one.0)
    (subst (λ (x : TasksValue). Talks w fs x s b k' t) one.1 (subst (λ (x : S). Talks w fs k1 x b k' t) one.2 two))
talks_append {S} w (e ∷ es) fs k k1 k' s m t a b one two = (
  one.0,
  one.1,
  one.2,
  one.3 ++ b,
  ap (λ (xs : List TargetPduValue). xs ++ b) one.4 ∙ append_assoc one.2 one.3 b,
  one.5,
  talks_append w es fs one.0 k1 k' one.1 m t one.3 b one.6 two,
)

-- ---- what is pending

one_so : (resets ends : ℕ → Type 0) (settles : ReplyTicket → Outcome → Type 0) (e : Event) → IsSo resets ends settles e
    → All (IsSo resets ends settles) (e ∷ [])
one_so resets ends settles e so = All-cons (IsSo resets ends settles) e [] so (All-nil (IsSo resets ends settles))

pub answers_none : {S : Type 0} {most : ℕ} (w : World S) (a : Moment S) → Answers w most a [] a a.pending
answers_none {most = most} w a =
    record { events = []; so = All-nil (IsSo w.resets w.ends w.settles); asked = omega arith; talks = (refl, refl, refl); takes = refl }

answers_and : {S : Type 0} (i j most : ℕ) (w : World S) (a m b : Moment S) (rest : List ℕ) (xs ys : List TargetPduValue)
    → i + j ≤ most → Answers w i a xs m m.pending → Answers w j m ys b rest → Answers w most a (xs ++ ys) b rest
answers_and {S} i j most w a m b rest xs ys few one two = record {
  events = one.events ++ two.events;
  so = All-append (IsSo w.resets w.ends w.settles) one.events two.events one.so two.so;
  asked = omega (arith, few, one.asked, two.asked, requests_append one.events two.events);
  talks = talks_append w one.events two.events a.tasks m.tasks b.tasks a.service m.service b.service xs ys one.talks two.talks;
  takes =
      subst (λ (ps : List InitiatorPduValue). Takes a.pending ps rest) (sym (pdus_append one.events two.events))
      (takes_append (pdus_of one.events) (pdus_of two.events) a.pending m.pending rest one.takes two.takes);
}

-- more, in which no logout is asked for
pub answers_then : {S : Type 0} {most : ℕ} (w : World S) (a m b : Moment S) (rest : List ℕ) (xs ys : List TargetPduValue)
    → Answers w most a xs m m.pending → Answers w 0 m ys b rest → Answers w most a (xs ++ ys) b rest
answers_then {S} {most = most} w a m b rest xs ys one two = answers_and most 0 most w a m b rest xs ys (omega arith) one two

pub answers_one : {S : Type 0} (w : World S) (a b : Moment S) (rest : List ℕ) (p : InitiatorPduValue) (size : ℕ)
    (said : List TargetPduValue)
    → next_of a.tasks ≡ Idle → must_wait a.tasks p.header ≡ false → BeginsWith a.pending p size → rest ≡ drop size a.pending
    → Says w.works p a.tasks a.service said b.tasks b.service → Answers w 0 a said b rest
answers_one w a b rest p size said idle now here cut says = record {
  events = Came p ∷ [];
  so = one_so w.resets w.ends w.settles (Came p) tt;
  asked = omega arith;
  talks = (b.tasks, b.service, said, [], sym (append-nil said), (idle, now, says), (refl, refl, refl));
  takes = (size, here, cut);
}

pub answers_pinged : {S : Type 0} (w : World S) (a : Moment S) (stat_sn : SerialNumber) → Answers w 0 a (pinged a.tasks stat_sn) a a.pending
answers_pinged w a stat_sn = record {
  events = Silence ∷ [];
  so = one_so w.resets w.ends w.settles Silence tt;
  asked = omega arith;
  talks = (
    a.tasks,
    a.service,
    pinged a.tasks stat_sn,
    [],
    sym (append-nil (pinged a.tasks stat_sn)),
    (stat_sn, refl, refl, refl),
    (refl, refl, refl),
  );
  takes = refl;
}

pub answers_asked : {S : Type 0} (w : World S) (a : Moment S) (stat_sn : SerialNumber) (seconds : ℕ)
    → w.ends seconds → Answers w 1 a (asked_to_leave a.tasks stat_sn seconds) a a.pending
answers_asked w a stat_sn seconds so =
    let said = asked_to_leave a.tasks stat_sn seconds in record {
      events = Ending seconds ∷ [];
      so = one_so w.resets w.ends w.settles (Ending seconds) so;
      asked = omega arith;
      talks = (a.tasks, a.service, said, [], sym (append-nil said), (stat_sn, refl, refl, refl), (refl, refl, refl));
      takes = refl;
    }

pub answers_resets : {S : Type 0} (w : World S) (a b : Moment S) (units : List ℕ) (said : List TargetPduValue)
    → All w.resets units → w.takes_resets units a.tasks a.service said b.tasks b.service → Answers w 0 a said b a.pending
answers_resets w a b units said told so = record {
  events = Told units ∷ [];
  so = one_so w.resets w.ends w.settles (Told units) told;
  asked = omega arith;
  talks = (b.tasks, b.service, said, [], sym (append-nil said), so, (refl, refl, refl));
  takes = refl;
}

-- one ticket after another was settled
settled_events : List Settlement → List Event
settled_events [] = []
settled_events (x ∷ xs) = Released x.ticket x.outcome ∷ settled_events xs

events_so : {S : Type 0} (w : World S) (xs : List Settlement) → All (λ (x : Settlement). w.settles x.ticket x.outcome) xs
    → All (IsSo w.resets w.ends w.settles) (settled_events xs)
unfolding settled_events
events_so w [] so = All-nil (IsSo w.resets w.ends w.settles)
events_so w (x ∷ xs) so =
    All-cons (IsSo w.resets w.ends w.settles) (Released x.ticket x.outcome) (settled_events xs)
    (All-head (λ (y : Settlement). w.settles y.ticket y.outcome) x xs so)
    (events_so w xs (All-tail (λ (y : Settlement). w.settles y.ticket y.outcome) x xs so))

events_talk : {S : Type 0} (w : World S) (xs : List Settlement) (k k' : TasksValue) (s : S) (said : List TargetPduValue)
    → ReleasesAll xs k said k' → Talks w (settled_events xs) k s said k' s
unfolding settled_events
events_talk w [] k k' s said so = (so.0, so.1, refl)
events_talk w (x ∷ xs) k k' s said so = (
  stepped k (Settled x.ticket x.outcome),
  s,
  so.0,
  so.1,
  so.2,
  (refl, so.3, refl),
  events_talk w xs (stepped k (Settled x.ticket x.outcome)) k' s so.1 so.4,
)

events_ask : (xs : List Settlement) → leave_requests (settled_events xs) ≡ 0
unfolding settled_events
events_ask [] = refl
events_ask (x ∷ xs) = events_ask xs

events_take : (xs : List Settlement) → pdus_of (settled_events xs) ≡ []
unfolding settled_events
events_take [] = refl
events_take (x ∷ xs) = events_take xs

pub answers_released : {S : Type 0} (w : World S) (a b : Moment S) (said : List TargetPduValue) → b.service ≡ a.service
    → Releases w.settles a.tasks said b.tasks → Answers w 0 a said b a.pending
answers_released {S} w a b said still so = record {
  events = settled_events so.0;
  so = events_so w so.0 so.1;
  asked = omega (arith, events_ask so.0);
  talks =
      subst (λ (x : S). Talks w (settled_events so.0) a.tasks a.service said b.tasks x) (sym still)
      (events_talk w so.0 a.tasks b.tasks a.service said so.2);
  takes = subst (λ (ps : List InitiatorPduValue). Takes a.pending ps a.pending) (sym (events_take so.0)) refl;
}

answers_before : {S : Type 0} {most : ℕ} (w : World S) (a b : Moment S) (rest piece : List ℕ) (said : List TargetPduValue)
    → Answers w most a said b rest → Answers w most (record a { pending = a.pending ++ piece }) said b (rest ++ piece)
answers_before {most = most} w a b rest piece said so = record {
  events = so.events;
  so = so.so;
  asked = so.asked;
  talks = so.talks;
  takes = takes_before (pdus_of so.events) a.pending rest piece so.takes;
}

-- where what the answers end in is known by another name
pub answers_as : {S : Type 0} {most : ℕ} (w : World S) (a b : Moment S) (k : TasksValue) (rest : List ℕ) (said : List TargetPduValue)
    → k ≡ b.tasks → Answers w most a said b rest → Answers w most a said (record b { tasks = k }) rest
answers_as {S} {most = most} w a b k rest said same so =
    subst (λ (x : TasksValue). Answers w most a said (record b { tasks = x }) rest) (sym same) so

-- ---- and what is read

pub converses_none : {S : Type 0} {most : ℕ} (w : World S) (a : Moment S) (left : Option (List ℕ)) → Converses w most a left left [] a
    a.pending
converses_none {most = most} w a left = (
  [],
  consumes_none left,
  subst (λ (xs : List ℕ). Answers w most (record a { pending = xs }) [] a a.pending) (sym (append-nil a.pending))
      (answers_none {most = most} w a),
)

pub converses_then : {S : Type 0} {most : ℕ} (w : World S) (a m b : Moment S) (rest : List ℕ) (left left' : Option (List ℕ))
    (xs ys : List TargetPduValue) → Converses w most a left left' xs m m.pending → Answers w 0 m ys b rest
    → Converses w most a left left' (xs ++ ys) b rest
converses_then {S} {most = most} w a m b rest left left' xs ys one two =
    (one.0, one.1, answers_then w (record a { pending = a.pending ++ one.0 }) m b rest xs ys one.2 two)

pub converses_read : {S : Type 0} {most : ℕ} (w : World S) (a b : Moment S) (pending : List ℕ) (left left1 left2 : Option (List ℕ))
    (said : List TargetPduValue) → Converses w most a left left1 said b b.pending → Added b.pending pending left1 left2
    → Converses w most a left left2 said (record b { pending = pending }) pending
converses_read {S} {most = most} w a b pending left left1 left2 said so got = (
  so.0 ++ got.0,
  consumes_more left left1 left2 so.0 got.0 so.1 got.2,
  subst (λ (xs : List ℕ). Answers w most (record a { pending = a.pending ++ (so.0 ++ got.0) }) said b xs) (sym got.1)
      (subst (λ (xs : List ℕ). Answers w most (record a { pending = xs }) said b (b.pending ++ got.0)) (append_assoc a.pending so.0 got.0)
      (answers_before w (record a { pending = a.pending ++ so.0 }) b b.pending got.0 said so.2)),
)

-- a logout is asked for, the first time
pub converses_asked : {S : Type 0} (w : World S) (a b : Moment S) (left left' : Option (List ℕ)) (xs : List TargetPduValue)
    (stat_sn : SerialNumber)
    (seconds : ℕ) → Converses w 0 a left left' xs b b.pending → w.ends seconds
    → Converses w 1 a left left' (xs ++ asked_to_leave b.tasks stat_sn seconds) b b.pending
converses_asked {S} w a b left left' xs stat_sn seconds one so = (
  one.0,
  one.1,
  answers_and 0 1 1 w (record a { pending = a.pending ++ one.0 }) b b b.pending xs (asked_to_leave b.tasks stat_sn seconds) (omega arith)
      one.2
      (answers_asked w b stat_sn seconds so),
)

pub converses_within : {S : Type 0} (i most : ℕ) (w : World S) (a b : Moment S) (rest : List ℕ) (left left' : Option (List ℕ))
    (said : List TargetPduValue) → i ≤ most → Converses w i a left left' said b rest → Converses w most a left left' said b rest
converses_within i most w a b rest left left' said few so =
    let answers = so.2 in (
      so.0,
      so.1,
      record {
        events = answers.events;
        so = answers.so;
        asked = omega (arith, few, answers.asked);
        talks = answers.talks;
        takes = answers.takes;
      },
    )

-- ---- how it ends

ends_behind : (ps qs : List InitiatorPduValue) → ends_by_logout qs ≡ true → ends_by_logout (ps ++ qs) ≡ true
ends_behind [] qs e = e
ends_behind (p ∷ []) [] e = absurd cc
ends_behind (p ∷ []) (q ∷ qs) e = e
ends_behind (p ∷ (x ∷ ps)) qs e = ends_behind (x ∷ ps) qs e

-- more, whose last PDU is a logout
pub then_ends : {S : Type 0} {most : ℕ} (w : World S) (a m b : Moment S) (rest : List ℕ) (xs ys : List TargetPduValue)
    (one : Answers w most a xs m m.pending) (two : Answers w 0 m ys b rest) → ends_by_logout (pdus_of two.events) ≡ true
    → ends_by_logout (pdus_of (answers_then {most = most} w a m b rest xs ys one two).events) ≡ true
unfolding answers_then answers_and
then_ends {S} {most = most} w a m b rest xs ys one two e =
    subst (λ (ps : List InitiatorPduValue). ends_by_logout ps ≡ true) (sym (pdus_append one.events two.events))
    (ends_behind (pdus_of one.events) (pdus_of two.events) e)

pub one_ends : {S : Type 0} (w : World S) (a b : Moment S) (rest : List ℕ) (p : InitiatorPduValue) (size : ℕ) (said : List TargetPduValue)
    (idle : next_of a.tasks ≡ Idle) (now : must_wait a.tasks p.header ≡ false) (here : BeginsWith a.pending p size) (cut : rest ≡ drop size a.pending)
    (says : Says w.works p a.tasks a.service said b.tasks b.service) → is_closing p.header ≡ true
    → ends_by_logout (pdus_of (answers_one w a b rest p size said idle now here cut says).events) ≡ true
unfolding answers_one
one_ends w a b rest p size said idle now here cut says e = e

pub pause_then : {S : Type 0} {most : ℕ} (w : World S) (a m b : Moment S) (rest : List ℕ) (xs ys : List TargetPduValue)
    (one : Answers w most a xs m m.pending) (two : Answers w 0 m ys b rest) (r : Result Pause IscsiFault)
    → PauseFits r (pdus_of two.events) b.tasks rest
    → PauseFits r (pdus_of (answers_then {most = most} w a m b rest xs ys one two).events) b.tasks rest
pause_then w a m b rest xs ys one two (Ok pause.NeedsInput) fits = fits
pause_then {most = most} w a m b rest xs ys one two (Ok pause.LoggedOut) fits = then_ends {most = most} w a m b rest xs ys one two fits
pause_then w a m b rest xs ys one two (Ok pause.FlushDue) fits = tt
pause_then w a m b rest xs ys one two (Err fault) fits = fits

-- and what is read before it
pub read_ends : {S : Type 0} {most : ℕ} (w : World S) (a m b : Moment S) (rest : List ℕ) (left left' : Option (List ℕ))
    (xs ys : List TargetPduValue) (one : Converses w most a left left' xs m m.pending) (two : Answers w 0 m ys b rest)
    → ends_by_logout (pdus_of two.events) ≡ true
    → ends_by_logout (pdus_of (converses_then {most = most} w a m b rest left left' xs ys one two).2.events) ≡ true
unfolding converses_then
read_ends {S} {most = most} w a m b rest left left' xs ys one two e =
    then_ends {most = most} w (record a { pending = a.pending ++ one.0 }) m b rest xs ys one.2 two e

-- where a fault ended it
inside_fits : (f : IscsiFault) (k : TasksValue) (rest : List ℕ) → IsInside f → FaultFits f k rest
inside_fits (fault.Refused status) k rest h = absurd h
inside_fits (fault.BadPdu what) k rest h = absurd h
inside_fits fault.TooMuchData k rest h = tt
inside_fits fault.Silent k rest h = absurd h
inside_fits fault.Read k rest h = absurd h
inside_fits fault.Write k rest h = absurd h
inside_fits fault.NoMemory k rest h = tt

reading_fits : (f : IscsiFault) (k : TasksValue) (rest : List ℕ) → IsOfReading f → NeedsMore k rest → FaultFits f k rest
reading_fits (fault.Refused status) k rest h none = absurd h
reading_fits (fault.BadPdu what) k rest h none = absurd h
reading_fits fault.TooMuchData k rest h none = absurd h
reading_fits fault.Silent k rest h none = none
reading_fits fault.Read k rest h none = none
reading_fits fault.Write k rest h none = absurd h
reading_fits fault.NoMemory k rest h none = tt

pub inside_later : (f : IscsiFault) → IsInside f → IsLater f
inside_later (fault.Refused status) h = absurd h
inside_later (fault.BadPdu what) h = absurd h
inside_later fault.TooMuchData h = tt
inside_later fault.Silent h = absurd h
inside_later fault.Read h = absurd h
inside_later fault.Write h = absurd h
inside_later fault.NoMemory h = tt

-- the error that a `?` hands on
pub handed_on : {A : Type 0} (r : Result A IscsiFault) (f : IscsiFault) (P : IscsiFault → Type 0) → IsErrAnd r (λ x. x ≡ f) → P f → IfErr r P
handed_on (Ok value) f P same p = absurd same
handed_on (Err x) f P same p = subst P (sym same) p

pub pause_inside : (r : Result Pause IscsiFault) (taken : List InitiatorPduValue) (k : TasksValue) (rest : List ℕ) → IsErr r → IfErr r IsInside
    → PauseFits r taken k rest
pause_inside (Ok value) taken k rest e h = absurd cc
pause_inside (Err f) taken k rest e h = inside_fits f k rest h

pub all_inside : (r : Result IscsiEnd IscsiFault) (taken : List InitiatorPduValue) (k : TasksValue) (rest : List ℕ) (left : Option (List ℕ)) → IsErr r
    → IfErr r IsInside → EndFits r taken k rest left
all_inside (Ok value) taken k rest left e h = absurd cc
all_inside (Err f) taken k rest left e h = inside_fits f k rest h

pub all_reading : (r : Result IscsiEnd IscsiFault) (taken : List InitiatorPduValue) (k : TasksValue) (rest : List ℕ) (left : Option (List ℕ)) → IsErr r
    → IfErr r IsOfReading → NeedsMore k rest → EndFits r taken k rest left
all_reading (Ok value) taken k rest left e h none = absurd cc
all_reading (Err f) taken k rest left e h none = reading_fits f k rest h none

pub branch_written : (r : Result Bool IscsiFault) (taken : List InitiatorPduValue) (k : TasksValue) (rest : List ℕ) → IsErr r
    → IfErr r (λ f. f ≡ fault.Write) → BranchFits r taken k rest
branch_written (Ok value) taken k rest e h = absurd cc
branch_written (Err f) taken k rest e h = subst (λ (x : IscsiFault). FaultFits x k rest) (sym h) tt

-- a fault by which answering stopped stops the connection
pub branch_paused : (r : Result Bool IscsiFault) (f : IscsiFault) (taken : List InitiatorPduValue) (k : TasksValue) (rest : List ℕ) → IsErr r
    → IsErrAnd r (λ x. x ≡ f) → FaultFits f k rest → BranchFits r taken k rest
branch_paused (Ok value) f taken k rest e h fits = absurd cc
branch_paused (Err x) f taken k rest e h fits = subst (λ (y : IscsiFault). FaultFits y k rest) (sym h) fits

pub all_paused : (r : Result IscsiEnd IscsiFault) (f : IscsiFault) (taken : List InitiatorPduValue) (k : TasksValue) (rest : List ℕ) (left : Option (List ℕ))
    → IsErr r → IsErrAnd r (λ x. x ≡ f) → FaultFits f k rest → EndFits r taken k rest left
all_paused (Ok value) f taken k rest left e h fits = absurd cc
all_paused (Err x) f taken k rest left e h fits = subst (λ (y : IscsiFault). FaultFits y k rest) (sym h) fits

-- the end of input
sized_part : (ahs count : ℕ) (bytes : List ℕ) (wanted : ℕ) → sized ahs count bytes ≡ Partial wanted → length bytes < 48 + ahs + padded count
sized_part ahs count bytes wanted e = grind (arith, common_steps)

measured_part : (limit words count : ℕ) (bytes : List ℕ) (wanted : ℕ) → measured limit words count bytes ≡ Partial wanted
    → length bytes < 48 + 4 * 64 + (limit + 3)
measured_part limit words count bytes wanted e = grind (arith, common_steps)

part_is_small : (bytes : List ℕ) (wanted : ℕ) → parsed_initiator segment_limit bytes ≡ Partial wanted → length bytes < pdu_buffer_size
unfolding segments
part_is_small bytes wanted e = grind (arith, common_steps)

end_between : (end : IscsiEnd) (taken : List InitiatorPduValue) (k : TasksValue) (rest : List ℕ) (left : Option (List ℕ)) (f : Found InitiatorPduValue)
    → parsed_initiator segment_limit rest ≡ f → EndIs end rest f → IsNone k f → (length rest < pdu_buffer_size → IsAtEnd left)
    → EndFits (Ok end) taken k rest left
end_between end taken k [] left (Partial wanted) parsed is none over =
    subst (λ (x : IscsiEnd). EndFits (Ok x) taken k [] left) (sym is)
    (subst (λ (f : Found InitiatorPduValue). EndsBetween k [] f left) (sym parsed) (refl, over (part_is_small [] wanted parsed)))
end_between end taken k (byte ∷ bytes) left (Partial wanted) parsed is none over =
    subst (λ (x : IscsiEnd). EndFits (Ok x) taken k (byte ∷ bytes) left) (sym is)
    (subst (λ (f : Found InitiatorPduValue). EndsWithin (byte ∷ bytes) f left) (sym parsed)
    (λ same. absurd cc, over (part_is_small (byte ∷ bytes) wanted parsed)))
end_between end taken k rest left (Complete p size) parsed is none over =
    subst (λ (x : IscsiEnd). EndFits (Ok x) taken k rest left) (sym is)
    (subst (λ (f : Found InitiatorPduValue). EndsBetween k rest f left) (sym parsed) none)
end_between end taken k rest left (Invalid what) parsed is none over = absurd none

pub end_fits : (end : IscsiEnd) (taken : List InitiatorPduValue) (k : TasksValue) (rest : List ℕ) (left : Option (List ℕ))
    → EndIs end rest (parsed_initiator segment_limit rest) → NeedsMore k rest → (length rest < pdu_buffer_size → IsAtEnd left)
    → EndFits (Ok end) taken k rest left
end_fits end taken k rest left is none over = end_between end taken k rest left (parsed_initiator segment_limit rest) refl is none over

-- ---- what is written

pub appends_none : (w : Option (List ℕ)) → Appends w w []
appends_none None = tt
appends_none (Some xs) = sym (append-nil xs)

pub appends_more : (a b c : Option (List ℕ)) (xs ys : List ℕ) → Appends a b xs → Appends b c ys → Appends a c (xs ++ ys)
appends_more None b c xs ys one two = tt
appends_more (Some us) None c xs ys one two = absurd one
appends_more (Some us) (Some vs) None xs ys one two = absurd two
appends_more (Some us) (Some vs) (Some ws) xs ys one two = two ∙ ap (λ (l : List ℕ). l ++ ys) one ∙ append_assoc us xs ys

-- what was said waits
pub writes_said : (w : Option (List ℕ)) (out out' : List ℕ) (said : List TargetPduValue) → out' ≡ out ++ bytes_of_all said → Writes w w out
    out' said
writes_said w out out' said e = ([], appends_none w, e)

-- what waited was written
pub writes_flushed : (w w' : Option (List ℕ)) (out out' : List ℕ) → Appends w w' out → out' ≡ [] → Writes w w' out out' []
writes_flushed w w' out out' gone none = (out, gone, ap (λ (xs : List ℕ). out ++ xs) none)

pub writes_then : (w w1 w2 : Option (List ℕ)) (out mid out' : List ℕ) (a b : List TargetPduValue) → Writes w w1 out mid a → Writes w1 w2 mid
    out' b
    → Writes w w2 out out' (a ++ b)
writes_then w w1 w2 out mid out' a b one two = (
  one.0 ++ two.0,
  appends_more w w1 w2 one.0 two.0 one.1 two.1,
  append_assoc one.0 two.0 out' ∙ ap (λ (xs : List ℕ). one.0 ++ xs) two.2
      ∙ sym (append_assoc one.0 mid (bytes_of_all b)) ∙ ap (λ (xs : List ℕ). xs ++ bytes_of_all b) one.2
      ∙ append_assoc out (bytes_of_all a) (bytes_of_all b) ∙ ap (λ (xs : List ℕ). out ++ xs) (sym (flat_map-append bytes_of a b)),
)
