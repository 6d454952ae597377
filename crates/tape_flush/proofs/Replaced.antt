-- A file that is cut back and written on.
use Rattle.std.proofs.Common.{◌≡◌, ◌⊎◌, inl, inr, ℕ, ◌+◌, ◌≤◌, List, ◌++◌, length, take, Option, Some, None, Result, Ok, Err, OnOk, OnErr, sym, ap, subst, ◌∙◌, arith}
use Rattle.std.specs.Prelude.{IfErr}
use Rattle.std.proofs.lemmas.List.{take-take, take_all, take-append-le}
use Rattle.tape_flush.specs.declared.fault.FlushFault.{FlushFault}
use Rattle.tape_flush.specs.declared.fault.FlushFault.TheVariants.{NoMemory, PastLastOffset, Store, Unsynced}
use Rattle.tape_flush.specs.declared.known.Known.{Known}
use Rattle.tape_flush.specs.Stores.{FileValue, contents_of, Truncates, Replaces}
use Rattle.tape_flush.specs.Careful.{IsKnown}
use Rattle.tape_flush.specs.Images.{TapePartValue, end_at}
use Rattle.tape_flush.specs.Watched.{IsEmptyAt, Same, Adds, AddsInPart, Left, LeftUnless, IsStopped}
use Rattle.tape_flush.specs.Replacing.{CutsBack, IsReplaced}
use Rattle.tape_flush.proofs.Knowing.{KnownIn, ends_empty}

added : (size : ℕ) (piece : List ℕ) (old middle new : Option (List ℕ)) → Truncates size old middle ⊎ Same old middle → Adds size piece middle new → Replaces size old new piece
added size piece None middle new cut more = tt
added size piece (Some b) None new (inl cut) more = absurd cut
added size piece (Some b) None new (inr same) more = absurd same
added size piece (Some b) (Some m) None cut more = absurd more
added size piece (Some b) (Some m) (Some n) (inl cut) more = more.1 ∙ ap (λ (z : List ℕ). z ++ piece) cut
added size piece (Some b) (Some m) (Some n) (inr same) more =
    more.1 ∙ ap (λ (z : List ℕ). z ++ piece) (same ∙ sym (take_all size b (omega (arith, more.0, ap length same))))

pub told_ok : (r : Result (Unit {0}) FlushFault) (stay : ℕ) (part : TapePartValue) (ends ends1 ends' : List ℕ) (k k' : Known) (old middle new : Option (List ℕ))
    → CutsBack stay ends ends1 k old middle → OnOk r (ends' ≡ ends1 ++ part.ends) → OnOk r (IsEmptyAt (k.sound + length part.bytes) k') → OnOk r (Adds k.sound part.bytes middle new)
    → OnOk r (IsReplaced stay part ends ends' k' old new)
told_ok (Ok done) stay part ends ends1 ends' k k' old middle new cut more empty add =
    let size : ℕ = end_at ends stay in
    record {
      ends_are = more ∙ ap (λ (es : List ℕ). es ++ part.ends) cut.ends_are;
      empty = (empty.0, empty.1 ∙ ap (λ (n : ℕ). n + length part.bytes) cut.empty.1);
      contents = added size part.bytes old middle new cut.contents (subst (λ (n : ℕ). Adds n part.bytes middle new) cut.empty.1 add);
    }
told_ok (Err fault) stay part ends ends1 ends' k k' old middle new cut more empty add = tt

left_unless : (size : ℕ) (piece : List ℕ) (k : Known) (bytes bytes' : List ℕ) (fault : FlushFault) → size ≤ k.sound → Left size piece bytes bytes' → LeftUnless size piece k bytes bytes' fault
left_unless size piece k bytes bytes' (Unsynced fault) le left = tt
left_unless size piece k bytes bytes' NoMemory le left = (le, left)
left_unless size piece k bytes bytes' PastLastOffset le left = (le, left)
left_unless size piece k bytes bytes' (Store fault) le left = (le, left)

cut_bytes : (size : ℕ) (f f1 : FileValue) → Truncates size (Some f.contents) (Some f1.contents) ⊎ Same (Some f.contents) (Some f1.contents) → length f1.contents ≡ size
    → f1.contents ≡ take size f.contents
cut_bytes size f f1 (inl cut) here = cut
cut_bytes size f f1 (inr same) here = same ∙ sym (take_all size f.contents (omega (arith, here, ap length same)))

stopped : (size : ℕ) (piece : List ℕ) (k k1 k' : Known) (f f1 f' : Option FileValue) (fault : FlushFault) → size ≤ k.sound → IsEmptyAt size k1 → (KnownIn k f → KnownIn k1 f1)
    → Truncates size (contents_of f) (contents_of f1) ⊎ Same (contents_of f) (contents_of f1) → k'.sound ≡ k1.sound → AddsInPart piece (contents_of f1) (contents_of f')
    → IsStopped size piece k f k' f' fault
stopped size piece k k1 k' None f1 f' fault le empty known cut same more = tt
stopped size piece k k1 k' (Some f) None f' fault le empty known (inl cut) same more = absurd cut
stopped size piece k k1 k' (Some f) None f' fault le empty known (inr cut) same more = absurd cut
stopped size piece k k1 k' (Some f) (Some f1) None fault le empty known cut same more = absurd more
stopped size piece k k1 k' (Some f) (Some f1) (Some f') fault le empty known cut same more = λ is.
    let was : IsKnown k1 f1 = known is in
    let here : length f1.contents ≡ size = ends_empty k1.tail (length f1.contents) k1.sound empty.0 was.end ∙ empty.1 in
    let first : f1.contents ≡ take size f.contents = cut_bytes size f f1 cut here in
    let sound : k'.sound ≡ size = same ∙ empty.1 in
    record {
      shrinks = omega (arith, sound);
      stays = ap (take k'.sound) more.1
          ∙ take-append-le k'.sound f1.contents (take more.0 piece) (omega (arith, sound, here))
          ∙ ap (take k'.sound) first
          ∙ take-take k'.sound size f.contents (omega (arith, sound));
      left = left_unless size piece k' f.contents f'.contents fault (omega (arith, sound))
          (inr (more.0, more.1 ∙ ap (λ (z : List ℕ). z ++ take more.0 piece) first));
    }

pub told_err : (r : Result (Unit {0}) FlushFault) (stay : ℕ) (ends ends1 : List ℕ) (piece : List ℕ) (k k1 k' : Known) (f f1 f' : Option FileValue) → end_at ends stay ≤ k.sound
    → CutsBack stay ends ends1 k1 (contents_of f) (contents_of f1) → (KnownIn k f → KnownIn k1 f1) → OnErr r (k'.sound ≡ k1.sound) → OnErr r (AddsInPart piece (contents_of f1) (contents_of f'))
    → IfErr r (IsStopped (end_at ends stay) piece k f k' f')
told_err (Ok done) stay ends ends1 piece k k1 k' f f1 f' le cut known same more = tt
told_err (Err fault) stay ends ends1 piece k k1 k' f f1 f' le cut known same more =
    stopped (end_at ends stay) piece k k1 k' f f1 f' fault le cut.empty known cut.contents same more
