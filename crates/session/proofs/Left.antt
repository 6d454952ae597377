-- What a session leaves, from what it said and did.
use Rattle.std.proofs.Common.{◌≡◌, ℕ, Bool, true, List, [], ◌∷◌, Option, Some, None, inl, inr, sym, subst, ◌⊎◌}
use Rattle.scsi_cdb.specs.declared.profile.Profile.{Profile}
use Rattle.scsi_nexus.specs.declared.nexus.Nexus.{Nexus}
use Rattle.logical_unit.specs.Answers.{DoneValue}
use Rattle.frames.specs.Frames.{FrameValue, Login, Command, Reset, Logout}
use Rattle.session.specs.declared.fault.End.{End}
use Rattle.session.specs.declared.fault.SessionFault.{SessionFault}
use Rattle.session.specs.Answering.{Says, Talks, ComesByCalls}
use Rattle.session.specs.Leaving.{Leaves}
use Rattle.session.specs.Serving.{BreaksOff, IsKeptOut, IsLostBelow, Serves}
use Rattle.session.proofs.Called.{none_called, one_called, called_then}

says_calls : {S : Type 0} (notes : S → DoneValue → S → Type 0) (n : Nexus) (s : S) (f : FrameValue) (out out' : List ℕ) (t : S)
    → Says notes n s f out out' t → ComesByCalls notes n s t
says_calls notes n s (Command lun cdb bytes) out out' t one = one_called notes n s t one.0 (inl one.1.0) one.2
says_calls notes n s (Reset lun) out out' t one = one_called notes n s t one.0 (inr (one.1.0, one.1.2)) one.2
says_calls notes n s (Login nexus) out out' t one = absurd one
says_calls notes n s Logout out out' t one = absurd one

-- what frames do that are answered one after another are calls of their nexus and resets
pub talks_calls : {S : Type 0} (notes : S → DoneValue → S → Type 0) (n : Nexus) (s : S) (fs : List FrameValue) (out out' : List ℕ) (t : S)
    → Talks notes n s fs out out' t → ComesByCalls notes n s t
talks_calls {S} notes n s [] out out' t so = subst (λ (x : S). ComesByCalls notes n s x) (sym so.1) (none_called notes n s)
talks_calls notes n s (f ∷ fs) out out' t so =
    called_then notes n s so.0 t (says_calls notes n s f out so.1 so.0 so.2) (talks_calls notes n so.0 fs so.1 out' t so.3)

-- nobody was let in
pub nobody : {S : Type 0} (notes : S → DoneValue → S → Type 0) (count : S → ℕ) (s t : S) → t ≡ s → Leaves notes count s t
nobody notes count s t same = (None, same)

pub somebody : {S : Type 0} (notes : S → DoneValue → S → Type 0) (count : S → ℕ) (n : Nexus) (s before t : S) (all : Bool)
    → ComesByCalls notes n s before → IsLostBelow notes n (count before) before t all → Leaves notes count s t
somebody notes count n s before t all calls lost = (Some n, record { before = before; all = all; calls = calls; lost = lost })

-- from the directory's letting a nexus in to its leaving it
pub is_left : {S : Type 0} (notes : S → DoneValue → S → Type 0) (count : S → ℕ) (n : Nexus) (s s1 before after t : S) (units : ℕ) (all : Bool)
    → s1 ≡ s → ComesByCalls notes n s1 before → units ≡ count before → IsLostBelow notes n units before after all → t ≡ after → Leaves notes count s t
is_left {S} notes count n s s1 before after t units all library calls size lost last =
    somebody notes count n s before t all (subst (λ (x : S). ComesByCalls notes n x before) library calls)
    (subst (λ (k : ℕ). IsLostBelow notes n k before t all) size
    (subst (λ (x : S). IsLostBelow notes n units before x all) (sym last) lost))

-- a session that ended well leaves so much
pub serves_left : (pr : Profile) {S : Type 0} (notes : S → DoneValue → S → Type 0) (count : S → ℕ) (s : S) (left left' written written' : Option (List ℕ))
    (end : End) (t : S) → Serves pr notes count s left left' written written' end t → Leaves notes count s t
serves_left pr notes count s left left' written written' end t (inl never) = nobody notes count s t never.service
serves_left pr notes count s left left' written written' end t (inr held) =
    somebody notes count held.nexus s held.before_loss t true
    (talks_calls notes held.nexus s held.frames _ held.said held.before_loss held.talked) held.lost

-- and so does one that broke off
pub broken_left : (pr : Profile) {S : Type 0} (notes : S → DoneValue → S → Type 0) (count : S → ℕ) (s : S) (left left' written written' : Option (List ℕ))
    (fault : SessionFault) (t : S)
    → IsKeptOut pr s left left' written written' fault t ⊎ BreaksOff pr notes count s left fault t → Leaves notes count s t
broken_left pr notes count s left left' written written' fault t (inl out) = nobody notes count s t out.service
broken_left pr notes count s left left' written written' fault t (inr broke) =
    somebody notes count broke.nexus s broke.before t broke.all broke.calls broke.lost
