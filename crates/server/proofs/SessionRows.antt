-- Sessions at a service of one unit that keeps each answer.
use Rattle.std.proofs.Common.{◌≡◌, ◌≢◌, true, List, [], ◌∷◌, ◌++◌, Some, None, inl, inr, refl, sym, ap, ◌∙◌, append_assoc, append-nil}
use Rattle.std.specs.Prelude.{◌&&◌, not}
use Rattle.scsi_nexus.specs.declared.nexus.Nexus.{Nexus}
use Rattle.logical_unit.specs.Answers as event
use Rattle.logical_unit.specs.Answers.{DoneValue, EventValue, IsAnswer}
use Rattle.session.specs.Answering.{Calls, IsCall}
use Rattle.session.specs.Leaving.{IsLeft}
use Rattle.iscsi_session.specs.declared.register.NexusEnd.TheVariants.{Lost, GoesOn}
use Rattle.session.specs.Serving.{is_busy}
use Rattle.server.specs.SeatService.{DoesForWorker}
use Rattle.server.specs.Rows.{Gives, IsCommandOf, IsLossOf, KeepsAnswer, NeverSettles}

abbrev Kept : List DoneValue → DoneValue → List DoneValue → Type 0
Kept = DoesForWorker KeepsAnswer NeverSettles

keeps : (s : List DoneValue) (d : DoneValue) → Kept s d (s ++ d ∷ [])
keeps s d = (s ++ d ∷ [], refl, inl refl)

kept : (s t : List DoneValue) (d : DoneValue) → Kept s d t → t ≡ s ++ d ∷ []
kept s t d so = elim so.2 [ inl same ↦ same ∙ so.1 | inr settled ↦ absurd settled.1 ]

-- a command, and the loss behind it
pub session_gives : (n : Nexus) (s : List DoneValue) (d l : DoneValue) → IsCommandOf n d → IsLossOf n l → IsLeft Kept (λ _. 1) n s ((s ++ d ∷ []) ++ l ∷ [])
session_gives n s d l command loss = record {
  before = s ++ d ∷ [];
  all = true && not (is_busy l.reply.status);
  calls = (d ∷ [], (s ++ d ∷ [], inl command.0, keeps s d, refl));
  lost = (s ++ d ∷ [], true, l, (refl, refl), loss, keeps (s ++ d ∷ []) l, refl);
}

pub one_gives : (n : Nexus) (d l : DoneValue) → IsCommandOf n d → IsLossOf n l → Gives (Some (n, Lost) ∷ []) (d ∷ l ∷ [])
one_gives n d l command loss = (d ∷ l ∷ [], d ∷ l ∷ [], session_gives n [] d l command loss, inl refl, refl)

pub two_give : (n k : Nexus) (d l e m : DoneValue) → IsCommandOf n d → IsLossOf n l → IsCommandOf k e → IsLossOf k m → Gives (Some (n, Lost) ∷ Some (k, Lost) ∷ []) (d ∷ l ∷ e ∷ m ∷ [])
two_give n k d l e m command loss other gone = (
  d ∷ l ∷ [],
  d ∷ l ∷ [],
  session_gives n [] d l command loss,
  inl refl,
  (d ∷ l ∷ e ∷ m ∷ [], d ∷ l ∷ e ∷ m ∷ [], session_gives k (d ∷ l ∷ []) e m other gone, inl refl, refl),
)

-- calls are kept as they are
calls_kept : (n : Nexus) (ds s t : List DoneValue) → Calls Kept n s ds t → t ≡ s ++ ds
calls_kept n [] s t so = so ∙ sym (append-nil s)
calls_kept n (d ∷ ds) s t so =
    calls_kept n ds so.0 t so.3 ∙ ap (λ (xs : List DoneValue). xs ++ ds) (kept s so.0 d so.2) ∙ append_assoc s (d ∷ []) ds

-- what one session gives: its calls, and the loss
pub record IsGiven (n : Nexus) (answers : List DoneValue) : Type 0 where
  pub calls : List DoneValue
  pub end : List DoneValue
  pub last : DoneValue
  pub made : Calls Kept n [] calls end
  pub loss : IsLossOf n last
  pub all : answers ≡ calls ++ last ∷ []

given : (n : Nexus) (answers : List DoneValue) → Gives (Some (n, Lost) ∷ []) answers → IsGiven n answers
given n answers so =
    let left = so.2 in
    let ended : so.1 ≡ so.0 = elim so.3 [ inl same ↦ same | inr settled ↦ absurd settled.1 ] in
    let lost = left.lost in
    let last = kept lost.0 so.0 lost.2 lost.5 in record {
      calls = left.calls.0;
      end = left.before;
      last = lost.2;
      made = left.calls.1;
      loss = lost.4;
      all = so.4 ∙ ended ∙ last ∙ ap (λ (xs : List DoneValue). xs ++ lost.2 ∷ []) (lost.3.0 ∙ calls_kept n left.calls.0 [] left.before left.calls.1);
    }

head_is : (d e : DoneValue) (ds es : List DoneValue) → (d ∷ ds) ≡ (e ∷ es) → d ≡ e
head_is d e ds es same = cc

tail_is : (d e : DoneValue) (ds es : List DoneValue) → (d ∷ ds) ≡ (e ∷ es) → ds ≡ es
tail_is d e ds es same = cc

nothing_ends : (calls : List DoneValue) (last : DoneValue) → [] ≡ calls ++ last ∷ [] → ⊥
nothing_ends [] last all = absurd cc
nothing_ends (c ∷ calls) last all = absurd cc

-- a command is no loss
no_loss : (n : Nexus) (d last : DoneValue) → d ≡ last → IsCommandOf n d → IsLossOf n last → ⊥
no_loss n d last same command loss =
    let never : event.Loss ≡ event.Command (0 ∷ 0 ∷ 0 ∷ 0 ∷ 0 ∷ 0 ∷ []) [] = sym loss.2 ∙ ap (λ (x : DoneValue). x.asked) (sym same) ∙ command.2 in absurd cc

ends_with_loss : (n : Nexus) (d : DoneValue) (calls : List DoneValue) (last : DoneValue) → IsCommandOf n d → IsLossOf n last → (d ∷ []) ≡ calls ++ last ∷ [] → ⊥
ends_with_loss n d [] last command loss all = no_loss n d last (head_is d last [] [] all) command loss
ends_with_loss n d (c ∷ calls) last command loss all = nothing_ends calls last (tail_is d c [] (calls ++ last ∷ []) all)

pub needs_loss : (n : Nexus) (d : DoneValue) → IsCommandOf n d → Gives (Some (n, Lost) ∷ []) (d ∷ []) → ⊥
needs_loss n d command so = let g = given n (d ∷ []) so in ends_with_loss n d g.calls g.last command g.loss g.all

-- a call is of its session's nexus
not_another : (n k : Nexus) (c d : DoneValue) → Some k ≢ Some n → d ≡ c → IsCommandOf k d → IsCall n c → ⊥
not_another n k c d other same command (inl own) = other (sym command.0 ∙ ap (λ (x : DoneValue). x.nexus) same ∙ own)
not_another n k c d other same command (inr reset) =
    let never : Some k ≡ None = sym command.0 ∙ ap (λ (x : DoneValue). x.nexus) same ∙ reset.0 in absurd cc

begins_with_own : (n k : Nexus) (d l : DoneValue) (calls : List DoneValue) (last : DoneValue) (end : List DoneValue) → Some k ≢ Some n → IsCommandOf k d → Calls Kept n [] calls end
    → (d ∷ l ∷ []) ≡ calls ++ last ∷ [] → ⊥
begins_with_own n k d l [] last end other command made all = let never : (l ∷ []) ≡ [] = tail_is d last (l ∷ []) [] all in absurd cc
begins_with_own n k d l (c ∷ calls) last end other command made all = not_another n k c d other (head_is d c (l ∷ []) (calls ++ last ∷ []) all) command made.1

pub none_of_another : (n k : Nexus) (d l : DoneValue) → Some k ≢ Some n → IsCommandOf k d → Gives (Some (n, Lost) ∷ []) (d ∷ l ∷ []) → ⊥
none_of_another n k d l other command so = let g = given n (d ∷ l ∷ []) so in begins_with_own n k d l g.calls g.last g.end other command g.made g.all

-- a session whose nexus goes on gives its calls alone
pub goes_on : (n : Nexus) (d : DoneValue) → IsCommandOf n d → Gives (Some (n, GoesOn) ∷ []) (d ∷ [])
goes_on n d command = (d ∷ [], d ∷ [], (d ∷ [], (d ∷ [], inl command.0, keeps [] d, refl)), inl refl, refl)

own_alone : (n k : Nexus) (d : DoneValue) (calls : List DoneValue) (end : List DoneValue) → Some k ≢ Some n → IsCommandOf k d → Calls Kept n [] calls end → (d ∷ []) ≡ calls → ⊥
own_alone n k d [] end other command made all = absurd cc
own_alone n k d (c ∷ calls) end other command made all = not_another n k c d other (head_is d c [] calls all) command made.1

pub another_goes_on : (n k : Nexus) (d : DoneValue) → Some k ≢ Some n → IsCommandOf k d → Gives (Some (n, GoesOn) ∷ []) (d ∷ []) → ⊥
another_goes_on n k d other command so =
    let ended : so.1 ≡ so.0 = elim so.3 [ inl same ↦ same | inr settled ↦ absurd settled.1 ] in
    own_alone n k d so.2.0 so.0 other command so.2.1 (so.4 ∙ ended ∙ calls_kept n so.2.0 [] so.0 so.2.1)
