-- Frames answered one after another.
use Rattle.std.proofs.Common.{◌≡◌, ℕ, true, List, [], ◌∷◌, ◌++◌, drop, refl, sym, ap, subst, ◌∙◌, append_assoc, append-nil}
use Rattle.std.proofs.Common.{Option, Some, None}
use Rattle.std.specs.Io.KnownBytes.{Appends}
use Rattle.scsi_cdb.specs.declared.profile.Profile.{Profile}
use Rattle.scsi_nexus.specs.declared.nexus.Nexus.{Nexus}
use Rattle.logical_unit.specs.Answers.{DoneValue}
use Rattle.frames.specs.Frames.{FrameValue, Login, Command, Reset, Logout, Complete, parsed_frame}
use Rattle.frames.specs.Stream.{Takes}
use Rattle.frames.specs.Replies.{ResetReply, LogoutReply, reply_bytes}
use Rattle.frames.proofs.Taking.{takes_one, takes_more}
use Rattle.session.specs.declared.fault.SessionFault.{SessionFault}
use Rattle.session.specs.declared.fault.SessionFault.TheVariants.{BadFrame, TooLong, AlreadyConnected, Read, Write, NoMemory}
use Rattle.session.specs.Faults.{IsOfAnswer, IsOfStream}
use Rattle.session.specs.Answering.{State, command_reply, Says, Talks, Answers, AnswersAll}

-- one frame more
talks_on : {S : Type 0} (notes : S → DoneValue → S → Type 0) (n : Nexus) (s : S) (fs : List FrameValue) (f : FrameValue)
    (out mid out' : List ℕ) (t u : S)
    → Talks notes n s fs out mid t → Says notes n t f mid out' u → Talks notes n s (fs ++ f ∷ []) out out' u
talks_on {S} notes n s [] f out mid out' t u so one =
    (u, out', subst (λ (x : List ℕ). Says notes n s f x out' u) so.0 (subst (λ (x : S). Says notes n x f mid out' u) so.1 one), (refl, refl))
talks_on {S} notes n s (g ∷ fs) f out mid out' t u so one =
    (so.0, so.1, so.2, talks_on notes n so.0 fs f so.1 mid out' t u so.3 one)

pub none_yet : (pr : Profile) {S : Type 0} (notes : S → DoneValue → S → Type 0) (s : S) (before : State) → Answers pr notes s before before s
none_yet pr notes s before = record { nexus = refl; frames = []; talked = (refl, refl); taken = refl }

pub one_more : (pr : Profile) {S : Type 0} (notes : S → DoneValue → S → Type 0) (s t u : S) (before mid after : State) (f : FrameValue) (k : ℕ)
    → Answers pr notes s before mid t → parsed_frame pr true mid.pending ≡ Complete f k → after.pending ≡ drop k mid.pending
    → after.nexus ≡ mid.nexus → Says notes mid.nexus t f mid.out after.out u → Answers pr notes s before after u
one_more pr notes s t u before mid after f k so is cut same one = record {
  nexus = same ∙ so.nexus;
  frames = so.frames ++ f ∷ [];
  talked =
      talks_on notes before.nexus s so.frames f before.out mid.out after.out t u so.talked
      (subst (λ (n : Nexus). Says notes n t f mid.out after.out u) so.nexus one);
  taken =
      subst (λ (x : List ℕ). Takes pr true before.pending (so.frames ++ f ∷ []) x) (sym cut)
      (takes_one pr true before.pending so.frames mid.pending f k refl so.taken is);
}

pub then_logout : (pr : Profile) {S : Type 0} (notes : S → DoneValue → S → Type 0) (s t u : S) (before mid after : State) (f : FrameValue) (k : ℕ)
    → Answers pr notes s before mid t → parsed_frame pr true mid.pending ≡ Complete f k → after.pending ≡ drop k mid.pending
    → (f ≡ Logout) × (after.out ≡ mid.out ++ reply_bytes LogoutReply) × (u ≡ t) → AnswersAll pr notes s before after u
then_logout pr {S} notes s t u before mid after f k so is cut last = record {
  frames = so.frames;
  said = mid.out;
  talked = subst (λ (x : S). Talks notes before.nexus s so.frames before.out mid.out x) (sym last.2) so.talked;
  last = last.1;
  taken =
      subst (λ (x : List ℕ). Takes pr true before.pending (so.frames ++ Logout ∷ []) x) (sym cut)
      (subst (λ (g : FrameValue). Takes pr true before.pending (so.frames ++ g ∷ []) (drop k mid.pending)) last.0
      (takes_one pr true before.pending so.frames mid.pending f k refl so.taken is));
}

talks_append : {S : Type 0} (notes : S → DoneValue → S → Type 0) (n : Nexus) (s : S) (fs gs : List FrameValue)
    (out mid out' : List ℕ) (t u : S)
    → Talks notes n s fs out mid t → Talks notes n t gs mid out' u → Talks notes n s (fs ++ gs) out out' u
talks_append {S} notes n s [] gs out mid out' t u one two =
    subst (λ (x : List ℕ). Talks notes n s gs x out' u) one.0 (subst (λ (x : S). Talks notes n x gs mid out' u) one.1 two)
talks_append {S} notes n s (f ∷ fs) gs out mid out' t u one two =
    (one.0, one.1, one.2, talks_append notes n one.0 fs gs one.1 mid out' t u one.3 two)

says_shift : {S : Type 0} (notes : S → DoneValue → S → Type 0) (n : Nexus) (s : S) (f : FrameValue) (pre out out' : List ℕ) (t : S)
    → Says notes n s f out out' t → Says notes n s f (pre ++ out) (pre ++ out') t
says_shift notes n s (Command lun cdb bytes) pre out out' t one =
    (one.0, one.1, one.2, ap (λ (x : List ℕ). pre ++ x) one.3 ∙ sym (append_assoc pre out (command_reply one.0)))
says_shift notes n s (Reset lun) pre out out' t one =
    (one.0, one.1, one.2, ap (λ (x : List ℕ). pre ++ x) one.3 ∙ sym (append_assoc pre out (reply_bytes (ResetReply one.0.reply.status))))
says_shift notes n s (Login nexus) pre out out' t one = one
says_shift notes n s Logout pre out out' t one = one

talks_shift : {S : Type 0} (notes : S → DoneValue → S → Type 0) (n : Nexus) (s : S) (fs : List FrameValue) (pre out out' : List ℕ) (t : S)
    → Talks notes n s fs out out' t → Talks notes n s fs (pre ++ out) (pre ++ out') t
talks_shift notes n s [] pre out out' t so = (ap (λ (x : List ℕ). pre ++ x) so.0, so.1)
talks_shift notes n s (f ∷ fs) pre out out' t so =
    (so.0, pre ++ so.1, says_shift notes n s f pre out so.1 so.0 so.2, talks_shift notes n so.0 fs pre so.1 out' t so.3)

-- a batch behind those whose replies were written
pub batch : (pr : Profile) {S : Type 0} (notes : S → DoneValue → S → Type 0) (s t u : S) (p q r : State) (gone : List ℕ)
    → Answers pr notes s p (record q { out = gone ++ q.out }) t → Answers pr notes t q r u
    → Answers pr notes s p (record r { out = gone ++ r.out }) u
batch pr notes s t u p q r gone one two = record {
  nexus = two.nexus ∙ one.nexus;
  frames = one.frames ++ two.frames;
  talked =
      talks_append notes p.nexus s one.frames two.frames p.out (gone ++ q.out) (gone ++ r.out) t u one.talked
      (talks_shift notes p.nexus t two.frames gone q.out r.out u
      (subst (λ (n : Nexus). Talks notes n t two.frames q.out r.out u) one.nexus two.talked));
  taken = takes_more pr true p.pending one.frames q.pending two.frames r.pending refl one.taken two.taken;
}

pub last_batch : (pr : Profile) {S : Type 0} (notes : S → DoneValue → S → Type 0) (s t u : S) (p q r : State) (gone : List ℕ)
    → Answers pr notes s p (record q { out = gone ++ q.out }) t → AnswersAll pr notes t q r u
    → AnswersAll pr notes s p (record r { out = gone ++ r.out }) u
last_batch pr notes s t u p q r gone one two = record {
  frames = one.frames ++ two.frames;
  said = gone ++ two.said;
  talked =
      talks_append notes p.nexus s one.frames two.frames p.out (gone ++ q.out) (gone ++ two.said) t u one.talked
      (talks_shift notes p.nexus t two.frames gone q.out two.said u
      (subst (λ (n : Nexus). Talks notes n t two.frames q.out two.said u) one.nexus two.talked));
  last = ap (λ (x : List ℕ). gone ++ x) two.last ∙ sym (append_assoc gone two.said (reply_bytes LogoutReply));
  taken =
      subst (λ (fs : List FrameValue). Takes pr true p.pending fs r.pending) (sym (append_assoc one.frames two.frames (Logout ∷ [])))
      (takes_more pr true p.pending one.frames q.pending (two.frames ++ Logout ∷ []) r.pending refl one.taken two.taken);
}

pub appends_none : (w : Option (List ℕ)) → Appends w w []
appends_none None = tt
appends_none (Some xs) = sym (append-nil xs)

pub appends_more : (v w x : Option (List ℕ)) (a b : List ℕ) → Appends v w a → Appends w x b → Appends v x (a ++ b)
appends_more None w x a b one two = tt
appends_more (Some xs) None x a b one two = absurd one
appends_more (Some xs) (Some ys) None a b one two = absurd two
appends_more (Some xs) (Some ys) (Some zs) a b one two = two ∙ ap (λ (l : List ℕ). l ++ b) one ∙ append_assoc xs a b

-- an answer that found memory ends the session as a stream does
pub of_answer : (fault : SessionFault) → IsOfAnswer fault → (fault ≡ NoMemory → ⊥) → IsOfStream fault
of_answer BadFrame is memory = absurd is
of_answer TooLong is memory = tt
of_answer AlreadyConnected is memory = absurd is
of_answer Read is memory = absurd is
of_answer Write is memory = absurd is
of_answer NoMemory is memory = absurd (memory refl)
