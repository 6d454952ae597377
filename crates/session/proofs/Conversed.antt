-- A session so far, read by read.
use Rattle.std.proofs.Common.{◌≡◌, ◌<◌, ℕ, Bool, true, false, List, [], ◌∷◌, ◌++◌, length, drop, refl, sym, ap, subst, ◌∙◌, append_assoc, append-nil}
use Rattle.std.proofs.Common.{Option}
use Rattle.std.specs.Prelude.{MatchBool}
use Rattle.std.proofs.lemmas.List.{drop-append-le}
use Rattle.std.specs.Io.KnownBytes.{Consumes, Appends, IsAtEnd}
use Rattle.scsi_cdb.specs.declared.profile.Profile.{Profile}
use Rattle.scsi_nexus.specs.declared.nexus.Nexus.{Nexus}
use Rattle.logical_unit.specs.Answers.{DoneValue}
use Rattle.frames.specs.Limits.{frame_size_limit}
use Rattle.frames.specs.Frames.{FrameValue, Login, Partial, Complete, parsed_frame}
use Rattle.read_buffer.specs.Reading.{Filled}
use Rattle.frames.specs.declared.reply_frame.LoginAnswer.TheVariants.{Accepted}
use Rattle.frames.specs.Replies.{LoginReply, reply_bytes}
use Rattle.frames.specs.Stream.{Takes}
use Rattle.frames.proofs.Streams.{stable, frame_within}
use Rattle.frames.proofs.Taking.{takes_before}
use Rattle.session.specs.declared.fault.End.{End}
use Rattle.session.specs.declared.fault.End.TheVariants as end
use Rattle.session.specs.declared.fault.SessionFault.{SessionFault}
use Rattle.session.specs.declared.fault.SessionFault.TheVariants.{NoMemory}
use Rattle.session.specs.Answering.{State, Talks, Answers, AnswersAll, ComesByCalls}
use Rattle.session.specs.Faults.{IsOfStream}
use Rattle.session.specs.Login.{end_of}
use Rattle.session.specs.Serving.{Writes, WritesAll, Converses, last_frames, greeted, IsLostBelow, IsHeld, BreaksOff}
use Rattle.session.proofs.Answered.{batch, last_batch, appends_more}
use Rattle.session.proofs.Read.{consumes_none, consumes_more, nothing_more}

-- what was read and written since what was pending at first, and what is pending now
pub record Speaks
    {S : Type 0} (pr : Profile) (notes : S → DoneValue → S → Type 0) (s : S) (before : State) (left left' written written' : Option (List ℕ))
    (after : State)
    (t : S) : Type 0 where
  pub read : List ℕ
  pub said : List ℕ
  pub consumed : Consumes left left' read
  pub appended : Appends written written' said
  pub answered : Answers pr notes s (record before { pending = before.pending ++ read }) (record after { out = said }) t
  pub partial : parsed_frame pr true after.pending ≡ Partial
  pub short : length after.pending < frame_size_limit pr

-- before the first read
pub speaks_first : (pr : Profile) {S : Type 0} (notes : S → DoneValue → S → Type 0) (s t : S) (before after : State)
    (left written written' : Option (List ℕ))
    → Writes pr notes s before written written' after t → Speaks pr notes s before left left written written' after t
speaks_first pr notes s t before after left written written' w = record {
  read = [];
  said = w.said;
  consumed = consumes_none left;
  appended = w.appended;
  answered = record {
    nexus = w.answered.nexus;
    frames = w.answered.frames;
    talked = w.answered.talked;
    taken = subst (λ (p : List ℕ). Takes pr true p w.answered.frames after.pending) (sym (append-nil before.pending)) w.answered.taken;
  };
  partial = w.partial;
  short = w.short;
}

-- frames taken before one read more brought what stays behind them
taken_on : (pr : Profile) (pending read piece rest rest' : List ℕ) (fs : List FrameValue) → Takes pr true (pending ++ read) fs rest → rest' ≡ rest ++ piece
    → Takes pr true (pending ++ (read ++ piece)) fs rest'
taken_on pr pending read piece rest rest' fs so is =
    subst (λ (r : List ℕ). Takes pr true (pending ++ (read ++ piece)) fs r) (sym is)
    (subst (λ (p : List ℕ). Takes pr true p fs (rest ++ piece)) (append_assoc pending read piece)
    (takes_before pr true (pending ++ read) fs rest piece so))

-- what was pending and what was read are answered, before what one read more brought
before_read : (pr : Profile) {S : Type 0} (notes : S → DoneValue → S → Type 0) (s t : S) (before a b : State) (read piece said : List ℕ)
    → Answers pr notes s (record before { pending = before.pending ++ read }) (record a { out = said }) t
    → b.nexus ≡ a.nexus → b.pending ≡ a.pending ++ piece → b.out ≡ []
    → Answers pr notes s (record before { pending = before.pending ++ (read ++ piece) }) (record b { out = said ++ b.out }) t
before_read pr notes s t before a b read piece said so same more empty = record {
  nexus = same ∙ so.nexus;
  frames = so.frames;
  talked =
      subst (λ (o : List ℕ). Talks notes before.nexus s so.frames before.out o t)
      (sym (ap (λ (o : List ℕ). said ++ o) empty ∙ append-nil said)) so.talked;
  taken = taken_on pr before.pending read piece a.pending b.pending so.frames so.taken more;
}

-- one read more, and what it brought answered
pub speaks_on : (pr : Profile) {S : Type 0} (notes : S → DoneValue → S → Type 0) (s t u : S) (before a b c : State) (count : ℕ)
    (left left1 left2 written written1 written2 : Option (List ℕ)) → Speaks pr notes s before left left1 written written1 a t
    → Filled count a.pending b.pending left1 left2 → b.nexus ≡ a.nexus → b.out ≡ [] → Writes pr notes t b written1 written2 c u
    → Speaks pr notes s before left left2 written written2 c u
speaks_on pr notes s t u before a b c count left left1 left2 written written1 written2 so got same empty w = record {
  read = so.read ++ got.0;
  said = so.said ++ w.said;
  consumed = consumes_more _ _ _ _ _ so.consumed got.3;
  appended = appends_more _ _ _ _ _ so.appended w.appended;
  answered =
      batch pr notes s t u (record before { pending = before.pending ++ (so.read ++ got.0) }) b (record c { out = w.said }) so.said
      (before_read pr notes s t before a b so.read got.0 so.said so.answered same got.1 empty) w.answered;
  partial = w.partial;
  short = w.short;
}

-- all frames but a LOGOUT
ends_with_logout : (pr : Profile) {S : Type 0} (notes : S → DoneValue → S → Type 0) (s t : S) (before after : State) (read said : List ℕ)
    (left left' written written' : Option (List ℕ)) → Consumes left left' read → Appends written written' said
    → AnswersAll pr notes s (record before { pending = before.pending ++ read }) (record after { out = said }) t
    → Converses pr notes s before left left' written written' end.Logout after.pending t
ends_with_logout pr notes s t before after read said left left' written written' took wrote all = record {
  read = read;
  frames = all.frames;
  said = all.said;
  consumed = took;
  taken = all.taken;
  talked = all.talked;
  appended = subst (λ (o : List ℕ). Appends written written' o) all.last wrote;
  ended = tt;
}

-- a LOGOUT before the first read
pub leaves_first : (pr : Profile) {S : Type 0} (notes : S → DoneValue → S → Type 0) (s t : S) (before after : State)
    (left written written' : Option (List ℕ))
    → WritesAll pr notes s before written written' after t → Converses pr notes s before left left written written' end.Logout after.pending t
leaves_first pr notes s t before after left written written' w = record {
  read = [];
  frames = w.answered.frames;
  said = w.answered.said;
  consumed = consumes_none left;
  taken =
      subst (λ (p : List ℕ). Takes pr true p (w.answered.frames ++ last_frames end.Logout) after.pending) (sym (append-nil before.pending))
      w.answered.taken;
  talked = w.answered.talked;
  appended = subst (λ (o : List ℕ). Appends written written' o) w.answered.last w.appended;
  ended = tt;
}

-- one read more, that brought a LOGOUT
pub leaves_on : (pr : Profile) {S : Type 0} (notes : S → DoneValue → S → Type 0) (s t u : S) (before a b c : State) (count : ℕ)
    (left left1 left2 written written1 written2 : Option (List ℕ)) → Speaks pr notes s before left left1 written written1 a t
    → Filled count a.pending b.pending left1 left2 → b.nexus ≡ a.nexus → b.out ≡ [] → WritesAll pr notes t b written1 written2 c u
    → Converses pr notes s before left left2 written written2 end.Logout c.pending u
leaves_on pr notes s t u before a b c count left left1 left2 written written1 written2 so got same empty w =
    ends_with_logout pr notes s u before c (so.read ++ got.0) (so.said ++ w.said) left left2 written written2
    (consumes_more _ _ _ _ _ so.consumed got.3) (appends_more _ _ _ _ _ so.appended w.appended)
    (last_batch pr notes s t u (record before { pending = before.pending ++ (so.read ++ got.0) }) b (record c { out = w.said }) so.said
    (before_read pr notes s t before a b so.read got.0 so.said so.answered same got.1 empty) w.answered)

-- the end of input, between frames or within one
at_end : (pr : Profile) {S : Type 0} (notes : S → DoneValue → S → Type 0) (s t : S) (before : State) (fs : List FrameValue) (read said rest : List ℕ)
    (left left' written written' : Option (List ℕ)) → Consumes left left' read → Appends written written' said
    → Talks notes before.nexus s fs before.out said t → Takes pr true (before.pending ++ read) fs rest → IsAtEnd left'
    → parsed_frame pr true rest ≡ Partial → Converses pr notes s before left left' written written' (end_of rest) rest t
at_end pr notes s t before fs read said [] left left' written written' took wrote talked taken ended partial = record {
  read = read;
  frames = fs;
  said = said;
  consumed = took;
  taken = subst (λ (gs : List FrameValue). Takes pr true (before.pending ++ read) gs []) (sym (append-nil fs)) taken;
  talked = talked;
  appended = subst (λ (o : List ℕ). Appends written written' o) (sym (append-nil said)) wrote;
  ended = (ended, partial, refl);
}
at_end pr notes s t before fs read said (byte ∷ rest) left left' written written' took wrote talked taken ended partial = record {
  read = read;
  frames = fs;
  said = said;
  consumed = took;
  taken = subst (λ (gs : List FrameValue). Takes pr true (before.pending ++ read) gs (byte ∷ rest)) (sym (append-nil fs)) taken;
  talked = talked;
  appended = subst (λ (o : List ℕ). Appends written written' o) (sym (append-nil said)) wrote;
  ended = (ended, partial, refl);
}

-- a read of nothing
pub ends : (pr : Profile) {S : Type 0} (notes : S → DoneValue → S → Type 0) (s t : S) (before a : State) (rest : List ℕ) (count : ℕ)
    (left left1 left2 written written1 : Option (List ℕ)) → Speaks pr notes s before left left1 written written1 a t
    → Filled count a.pending rest left1 left2 → count ≡ 0 → IsAtEnd left2
    → Converses pr notes s before left left2 written written1 (end_of rest) rest t
ends pr notes s t before a rest count left left1 left2 written written1 so got none ended =
    let same : rest ≡ a.pending = nothing_more a.pending rest count left1 left2 got none in
    at_end pr notes s t before so.answered.frames (so.read ++ got.0) so.said rest left left2 written written1
    (consumes_more _ _ _ _ _ so.consumed got.3) so.appended so.answered.talked
    (taken_on pr before.pending so.read got.0 a.pending rest so.answered.frames so.answered.taken got.1) ended
    (ap (parsed_frame pr true) same ∙ so.partial)

-- a session whole: the reads up to its LOGIN, what was answered behind it, and the loss of its nexus
pub held : (pr : Profile) {S : Type 0} (notes : S → DoneValue → S → Type 0) (s s1 m after t : S) (before : State) (first rest : List ℕ) (size : ℕ)
    (count : S → ℕ) (is_lost : Bool) (left middle left' written written' : Option (List ℕ)) (e : End)
    → Consumes left middle first → parsed_frame pr false first ≡ Complete (Login before.nexus) size → before.pending ≡ drop size first
    → s1 ≡ s → Converses pr notes s1 (greeted before) middle left' written written' e rest m
    → IsLostBelow notes before.nexus (count m) m after is_lost → is_lost ≡ true → t ≡ after
    → IsHeld pr notes count s left left' written written' e t
held pr {S} notes s s1 m after t before first rest size count is_lost left middle left' written written' e took login behind library so lost
    all last = record {
      nexus = before.nexus;
      read = first ++ so.read;
      frames = so.frames;
      rest = rest;
      said = so.said;
      before_loss = m;
      consumed = consumes_more left middle left' first so.read took so.consumed;
      taken = (
        size,
        stable pr false first so.read (Complete (Login before.nexus) size) login (λ e. absurd cc),
        subst (λ (p : List ℕ). Takes pr true p (so.frames ++ last_frames e) rest)
            (ap (λ (p : List ℕ). p ++ so.read) behind
            ∙ sym (drop-append-le size first so.read (frame_within pr false first (Login before.nexus) size login))) so.taken,
      );
      talked = subst (λ (x : S). Talks notes before.nexus x so.frames (reply_bytes (LoginReply Accepted)) so.said m) library so.talked;
      appended = so.appended;
      ended = so.ended;
      lost =
          subst (λ (b : Bool). IsLostBelow notes before.nexus (count m) m t b) all
          (subst (λ (x : S). IsLostBelow notes before.nexus (count m) m x is_lost) (sym last) lost);
    }

-- one that ended early
pub broken_off : (pr : Profile) {S : Type 0} (notes : S → DoneValue → S → Type 0) (s s1 m after t : S) (n : Nexus) (first : List ℕ) (size : ℕ)
    (count : S → ℕ) (is_lost all : Bool) (left middle : Option (List ℕ)) (fault : SessionFault)
    → Consumes left middle first → parsed_frame pr false first ≡ Complete (Login n) size → s1 ≡ s → ComesByCalls notes n s1 m
    → IsLostBelow notes n (count m) m after is_lost → is_lost ≡ all → t ≡ after → MatchBool all (IsOfStream fault) (fault ≡ NoMemory)
    → BreaksOff pr notes count s left fault t
broken_off pr {S} notes s s1 m after t n first size count is_lost all left middle fault took login library calls lost is last ended = record {
  nexus = n;
  read = first;
  middle = middle;
  size = size;
  before = m;
  all = all;
  consumed = took;
  login = login;
  calls = subst (λ (x : S). ComesByCalls notes n x m) library calls;
  lost =
      subst (λ (b : Bool). IsLostBelow notes n (count m) m t b) is
      (subst (λ (x : S). IsLostBelow notes n (count m) m x is_lost) (sym last) lost);
  ended = ended;
}
