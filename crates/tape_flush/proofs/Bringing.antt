-- A sync that answered Ok and the note behind it: what the disk has then, of a file that ended with the last object of its image.
use Rattle.std.proofs.Common.{◌≡◌, ℕ, ◌≤◌, true, List, [], ◌∷◌, All, length, take, Option, Some, None, Result, Ok, Err, is_ok, OnOk}
use Rattle.std.proofs.Common.{sym, ap, subst, ◌∙◌, arith}
use Rattle.std.proofs.lemmas.List.{take_all}
use Rattle.std.proofs.lemmas.List.Elements.{All-cons, All-nil, All-weaker}
use Rattle.tape_medium.specs.Object.{Object}
use Rattle.tape_flush.specs.declared.store.StoreFault.{StoreFault}
use Rattle.tape_flush.specs.declared.known.Known.{Known}
use Rattle.tape_flush.specs.Bringing.{SyncedAndNoted, IsJustThat, IsJustThatIn, IsThere, IsThereIn}
use Rattle.tape_flush.specs.Careful.{EndsAt, IsKnown, IsInOrder}
use Rattle.tape_flush.specs.Saved.{HoldsIn, last_end}
use Rattle.tape_flush.specs.Stores.{StoreCall, Sync, Note, FileValue, DoesTo, file_value}
use Rattle.tape_flush.specs.Watched.{IsEmptyAt}
use Rattle.tape_flush.proofs.Knowing.{take_less}

pub brought : {S : Type 0} (did : S → StoreCall → S → Type 0) (r : Result (Unit {0}) StoreFault) (size n : ℕ) (before between after : S)
    → did before (Sync true) between → did between (Note size (is_ok r)) after → size ≡ n → OnOk r (SyncedAndNoted did n before after)
brought did (Ok done) size n before between after one two same =
    (between, one, subst (λ (n : ℕ). did between (Note n true) after) same two)
brought did (Err fault) size n before between after one two same = tt

-- the file ended there, as it was known
just_known : (k : Known) (size : ℕ) (file mid new : FileValue) → IsKnown k file → IsEmptyAt size k
    → mid ≡ file_value file.contents file.sound (take file.sound file.contents) file.noted
    → new ≡ file_value mid.contents mid.sound mid.synced (size ∷ []) → IsJustThat size file new
just_known k size file mid new is empty one two =
    let end : length file.contents ≡ k.sound = subst (λ t. EndsAt t (length file.contents) k.sound) empty.0 is.end in
    let all : take file.sound file.contents ≡ file.contents = take_all file.sound file.contents (omega (arith, end, is.sound)) in
    record {
      count = end ∙ empty.1;
      contents = ap (λ (f : FileValue). f.contents) two ∙ ap (λ (f : FileValue). f.contents) one;
      synced = ap (λ (f : FileValue). f.synced) two ∙ ap (λ (f : FileValue). f.synced) one ∙ all;
      noted = ap (λ (f : FileValue). f.noted) two;
    }

just_in : (k : Known) (ends : List ℕ) (size : ℕ) (objects others : List Object) (file mid new : Option FileValue)
    → HoldsIn file k ends objects others
    → IsEmptyAt size k → DoesTo (Sync true) file mid → DoesTo (Note size true) mid new → IsJustThatIn size file new
just_in k ends size objects others None mid new holds empty one two = absurd holds
just_in k ends size objects others (Some file) None new holds empty one two = absurd one
just_in k ends size objects others (Some file) (Some mid) None holds empty one two = absurd two
just_in k ends size objects others (Some file) (Some mid) (Some new) holds empty one two =
    just_known k size file mid new holds.is_known empty one two

pub just : (r : Result (Unit {0}) StoreFault) (k : Known) (ends : List ℕ) (size : ℕ) (objects others : List Object)
    (file mid new : Option FileValue)
    → HoldsIn file k ends objects others → IsEmptyAt (last_end ends) k → size ≡ last_end ends → DoesTo (Sync true) file mid
    → DoesTo (Note size (is_ok r)) mid new
    → OnOk r (IsJustThatIn (last_end ends) file new)
just (Ok done) k ends size objects others file mid new holds empty same one two =
    just_in k ends (last_end ends) objects others file mid new holds empty one (subst (λ (n : ℕ). DoesTo (Note n true) mid new) same two)
just (Err fault) k ends size objects others file mid new holds empty same one two = tt

-- what the disk has just now is there
just_there : (size : ℕ) (file new : FileValue) → IsJustThat size file new → IsThere size new
just_there size file new is =
    record {
      within = omega (arith, ap length is.synced, is.count);
      same = ap (take size) (is.synced ∙ sym is.contents);
      noted = subst (All (λ told. size ≤ told)) (sym is.noted)
          (All-cons (λ told. size ≤ told) size [] (omega arith) (All-nil (λ told. size ≤ told)));
    }

pub just_there_in : (size : ℕ) (file new : Option FileValue) → IsJustThatIn size file new → IsThereIn size new
just_there_in size None new is = absurd is
just_there_in size (Some file) None is = absurd is
just_there_in size (Some file) (Some new) is = just_there size file new is

-- what is known to be on the disk, as the record says
known_there : (k : Known) (size : ℕ) (file : FileValue) → IsInOrder k → size ≤ k.least → IsKnown k file → IsThere size file
known_there k size file order below is =
    record {
      within = omega (arith, order.0, order.2, is.synced);
      same = take_less size k.synced file.synced file.contents (omega (arith, order.0, order.2)) is.same;
      noted = All-weaker (λ told. (k.least ≤ told) × (told ≤ k.most)) (λ told. size ≤ told)
          (λ told both. omega (arith, both.0)) file.noted is.noted;
    }

pub held_there : (k : Known) (ends : List ℕ) (objects others : List Object) (file : Option FileValue) → IsInOrder k
    → last_end ends ≤ k.least
    → HoldsIn file k ends objects others → IsThereIn (last_end ends) file
held_there k ends objects others None order below holds = absurd holds
held_there k ends objects others (Some file) order below holds = known_there k (last_end ends) file order below holds.is_known

-- of what an answer that was Ok says
pub ok_there : (r : Result (Unit {0}) StoreFault) (size : ℕ) (file new : Option FileValue) → OnOk r (IsJustThatIn size file new)
    → OnOk r (IsThereIn size new)
ok_there (Ok done) size file new is = just_there_in size file new is
ok_there (Err fault) size file new is = tt
