-- What is known of a file stays so by each allowed call.
use Rattle.std.proofs.Common.{◌≡◌, ℕ, ◌+◌, ◌≤◌, min, max, true, false, List, [], length, take, Option, Some, None, sym, ap, subst, ◌∙◌, length-append, arith}
use Rattle.std.specs.Prelude.{All}
use Rattle.std.proofs.lemmas.List.{length-take, length-take-le, take-take, take-append-le}
use Rattle.std.proofs.lemmas.List.Elements.{All-cons, All-nil, All-weaker}
use Rattle.tape_flush.specs.declared.known.Known.{Known}
use Rattle.tape_flush.specs.declared.known.FileTail.{FileTail}
use Rattle.tape_flush.specs.declared.known.FileTail.TheVariants.{Unknown, Cut, Empty}
use Rattle.tape_flush.specs.Stores.{StoreCall, Truncate, Append, Sync, Note, FileValue, file_value, Does, DoesTo}
use Rattle.tape_flush.specs.Careful.{after, Allowed, GoesOn, stays, calls, lasting, EndsAt, IsKnown}

-- BEGINNINGS

pub take_less : {A : Type 0} (n m : ℕ) (xs ys : List A) → n ≤ m → take m xs ≡ take m ys → take n xs ≡ take n ys
take_less n m xs ys le same = sym (take-take n m xs le) ∙ ap (take n) same ∙ take-take n m ys le

pub long_take : (n m : ℕ) (xs : List ℕ) → n ≤ m → n ≤ length xs → n ≤ length (take m xs)
long_take n m xs le within = omega (arith, length-take m xs)

pub long_by : (n : ℕ) (xs ys : List ℕ) → take n xs ≡ take n ys → n ≤ length ys → n ≤ length xs
long_by n xs ys same within = omega (arith, ap length same, length-take n xs, length-take-le n ys within)

ends_by : (tail : FileTail) (n m : ℕ) → n ≡ m → EndsAt tail n m
ends_by Unknown n m e = tt
ends_by Cut n m e = e
ends_by Empty n m e = e

lasting_ends : (tail : FileTail) (n m : ℕ) → EndsAt tail n m → EndsAt (lasting tail) n m
lasting_ends Unknown n m e = tt
lasting_ends Cut n m e = e
lasting_ends Empty n m e = e

pub ends_empty : (tail : FileTail) (n m : ℕ) → tail ≡ Empty → EndsAt tail n m → n ≡ m
ends_empty tail n m is e = let P : FileTail → Type 0 = λ t. EndsAt t n m in subst P is e

within_noted : (least most size : ℕ) (sizes : List ℕ) → All (λ s. (least ≤ s) × (s ≤ most)) sizes → All (λ s. (min least size ≤ s) × (s ≤ max most size)) sizes
within_noted least most size sizes h = All-weaker (λ s. (least ≤ s) × (s ≤ most)) (λ s. (min least size ≤ s) × (s ≤ max most size)) (λ s k. (omega (arith, k.0), omega (arith, k.1))) sizes h

-- EACH CALL

cut_known : (k : Known) (size left : ℕ) (tail : FileTail) (file : FileValue) → IsKnown k file → k.most ≤ size → size ≤ k.sound → size ≤ left
    → EndsAt tail (length (take left file.contents)) size
    → IsKnown (record { least = k.least; most = k.most; synced = min k.synced size; sound = size; tail = tail })
    (file_value (take left file.contents) (min file.sound size) (take size file.synced) file.noted)
cut_known k size left tail file is most sound le end = record {
  noted_most = omega (arith, is.noted_most);
  in_order = omega arith;
  synced = omega (arith, length-take size file.synced, is.synced);
  same = take-take (min k.synced size) size file.synced (omega arith)
      ∙ take_less (min k.synced size) k.synced file.synced file.contents (omega arith) is.same
      ∙ sym (take-take (min k.synced size) left file.contents (omega arith));
  sound = omega (arith, is.sound);
  within = long_take size left file.contents le (omega (arith, is.within));
  end = end;
  noted = is.noted;
}

truncated : (k : Known) (size : ℕ) (file new : FileValue) → IsKnown k file → Allowed k (Truncate size true) → Does (Truncate size true) file new → IsKnown (after k (Truncate size true)) new
truncated k size file new is allowed done =
    subst (IsKnown (after k (Truncate size true))) (sym done)
    (cut_known k size size Cut file is allowed.0 allowed.1 (omega arith) (length-take-le size file.contents (omega (arith, is.within))))

not_truncated : (k : Known) (size : ℕ) (file new : FileValue) → IsKnown k file → Allowed k (Truncate size false) → Does (Truncate size false) file new → IsKnown (after k (Truncate size false)) new
not_truncated k size file new is allowed done =
    subst (IsKnown (after k (Truncate size false))) (sym done.2) (cut_known k size done.0 Unknown file is allowed.0 allowed.1 done.1 tt)

grown : (k : Known) (offset : ℕ) (bytes : List ℕ) (file new : FileValue) → IsKnown k file → Allowed k (Append offset bytes true) → Does (Append offset bytes true) file new → IsKnown (after k (Append offset bytes true)) new
grown k offset bytes file new is allowed done =
    let here : length file.contents ≡ k.sound = ends_empty k.tail (length file.contents) k.sound allowed.0 is.end in
    let size : length new.contents ≡ k.sound + length bytes = omega (arith, ap length done.1.contents, length-append file.contents bytes, here) in
    let all : length new.contents ≤ new.sound = done.1.all_sound (omega (arith, is.sound, here)) in
    record {
      noted_most = is.noted_most;
      in_order = omega (arith, is.in_order);
      synced = omega (arith, ap length done.1.synced, is.synced);
      same = ap (take k.synced) done.1.synced ∙ is.same
          ∙ sym (take-append-le k.synced file.contents bytes (omega (arith, is.in_order, is.within)))
          ∙ ap (take k.synced) (sym done.1.contents);
      sound = omega (arith, all, size);
      within = omega (arith, size);
      end = ends_by k.tail _ _ size;
      noted = subst (All (λ s. (k.least ≤ s) × (s ≤ k.most))) (sym done.1.noted) is.noted;
    }

not_grown : (k : Known) (offset : ℕ) (bytes : List ℕ) (file new : FileValue) → IsKnown k file → Does (Append offset bytes false) file new → IsKnown (after k (Append offset bytes false)) new
not_grown k offset bytes file new is done =
    let more = take done.0 bytes in
    record {
      noted_most = is.noted_most;
      in_order = is.in_order;
      synced = omega (arith, ap length done.1.synced, is.synced);
      same = ap (take k.synced) done.1.synced ∙ is.same
          ∙ sym (take-append-le k.synced file.contents more (omega (arith, is.in_order, is.within)))
          ∙ ap (take k.synced) (sym done.1.contents);
      sound = omega (arith, done.1.sound, is.sound);
      within = omega (arith, ap length done.1.contents, length-append file.contents more, is.within);
      end = tt;
      noted = subst (All (λ s. (k.least ≤ s) × (s ≤ k.most))) (sym done.1.noted) is.noted;
    }

synced : (k : Known) (file new : FileValue) → IsKnown k file → Does (Sync true) file new → IsKnown (after k (Sync true)) new
synced k file new is done =
    subst (IsKnown (after k (Sync true))) (sym done)
    record {
      noted_most = omega (arith, is.noted_most, is.in_order);
      in_order = omega arith;
      synced = long_take k.sound file.sound file.contents is.sound is.within;
      same = take-take k.sound file.sound file.contents is.sound;
      sound = is.sound;
      within = is.within;
      end = lasting_ends k.tail _ _ is.end;
      noted = is.noted;
    }

not_synced : (k : Known) (file new : FileValue) → IsKnown k file → Does (Sync false) file new → IsKnown (after k (Sync false)) new
not_synced k file new is done =
    let same : take k.synced new.contents ≡ take k.synced file.contents = take_less k.synced (length file.synced) new.contents file.contents is.synced done.front in
    record {
      noted_most = is.noted_most;
      in_order = omega arith;
      synced = omega (arith, ap length done.synced, is.synced);
      same = ap (take k.synced) done.synced ∙ is.same ∙ sym same;
      sound = omega (arith, done.sound, is.synced);
      within = long_by k.synced new.contents file.contents same (omega (arith, is.in_order, is.within));
      end = tt;
      noted = subst (All (λ s. (k.least ≤ s) × (s ≤ k.most))) (sym done.noted) is.noted;
    }

noted : (k : Known) (size : ℕ) (file new : FileValue) → IsKnown k file → Allowed k (Note size true) → Does (Note size true) file new → IsKnown (after k (Note size true)) new
noted k size file new is allowed done =
    subst (IsKnown (after k (Note size true))) (sym done)
    record {
      noted_most = allowed;
      in_order = is.in_order;
      synced = is.synced;
      same = is.same;
      sound = is.sound;
      within = is.within;
      end = is.end;
      noted = All-cons (λ s. (size ≤ s) × (s ≤ size)) size [] (omega arith, omega arith) (All-nil (λ s. (size ≤ s) × (s ≤ size)));
    }

not_noted : (k : Known) (size : ℕ) (file new : FileValue) → IsKnown k file → Allowed k (Note size false) → Does (Note size false) file new → IsKnown (after k (Note size false)) new
not_noted k size file new is allowed done =
    subst (IsKnown (after k (Note size false))) (sym done)
    record {
      noted_most = omega (arith, is.noted_most);
      in_order = is.in_order;
      synced = is.synced;
      same = is.same;
      sound = is.sound;
      within = is.within;
      end = is.end;
      noted = All-cons (λ s. (min k.least size ≤ s) × (s ≤ max k.most size)) size file.noted (omega arith, omega arith) (within_noted k.least k.most size file.noted is.noted);
    }

pub known_call : (k : Known) (call : StoreCall) (file new : FileValue) → IsKnown k file → Allowed k call → Does call file new → IsKnown (after k call) new
known_call k (Truncate size true) file new is allowed done = truncated k size file new is allowed done
known_call k (Truncate size false) file new is allowed done = not_truncated k size file new is allowed done
known_call k (Append offset bytes true) file new is allowed done = grown k offset bytes file new is allowed done
known_call k (Append offset bytes false) file new is allowed done = not_grown k offset bytes file new is done
known_call k (Sync true) file new is allowed done = synced k file new is done
known_call k (Sync false) file new is allowed done = not_synced k file new is done
known_call k (Note size true) file new is allowed done = noted k size file new is allowed done
known_call k (Note size false) file new is allowed done = not_noted k size file new is allowed done

-- WHEREVER ITS BYTES ARE KNOWN

abbrev pub KnownIn : Known → Option FileValue → Type 0
KnownIn k None = Unit {0}
KnownIn k (Some file) = IsKnown k file

call_known : (k : Known) (call : StoreCall) (file new : Option FileValue) → KnownIn k file → Allowed k call → DoesTo call file new → KnownIn (after k call) new
call_known k call None None is allowed done = tt
call_known k call None (Some new) is allowed done = absurd done
call_known k call (Some file) None is allowed done = absurd done
call_known k call (Some file) (Some new) is allowed done = known_call k call file new is allowed done

-- by allowed calls of a store of which it is known what calls do
pub goes_known : {S : Type 0} (did : S → StoreCall → S → Type 0) (file_of : S → Option FileValue)
    → ((before : S) (call : StoreCall) (after' : S) → did before call after' → DoesTo call (file_of before) (file_of after'))
    → (a b : S) (k l : Known) → GoesOn did a k b l → KnownIn k (file_of a) → KnownIn l (file_of b)
goes_known did file_of does _ _ _ _ (stays a k) is = is
goes_known did file_of does _ _ _ _ (calls a b c k l call before allowed done) is =
    call_known l call (file_of b) (file_of c) (goes_known did file_of does a b k l before is) allowed (does b call c done)
