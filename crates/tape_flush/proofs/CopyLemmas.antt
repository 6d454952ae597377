-- What a part that is written makes of the image of a tape, what is left where that fails, and how an image follows a tape.
use Rattle.std.proofs.Common.{◌≡◌, inl, inr, ℕ, ◌+◌, ◌-◌, ◌≤◌, min, Bool, true, false, List, [], ◌++◌, length, take, drop, Option, Some, None, Result, Ok, Err, OnOk, OnErr, refl, sym, ap, subst, ◌∙◌, append_assoc, length-append, arith}
use Rattle.std.proofs.Math.Seq.{take-append_seam}
use Rattle.std.specs.Prelude.{IfErr, IsSomeAnd}
use Rattle.std.proofs.lemmas.List.{take-take, take_all, drop-take, take-append-drop, append-nil, length-take, length-take-le, length-drop}
use Rattle.tape_medium.specs.Object.{Object}
use Rattle.tape_medium.specs.TapeView.{TapeView}
use Rattle.tape_medium.specs.Changes.{StayInFront, UnchangedStayInFront}
use Rattle.tape_image.specs.Images.{image_bytes}
use Rattle.tape_flush.specs.declared.fault.FlushFault.{FlushFault}
use Rattle.tape_flush.specs.declared.fault.FlushFault.TheVariants.{NoMemory, PastLastOffset, Store, Unsynced}
use Rattle.tape_flush.specs.declared.known.Known.{Known}
use Rattle.tape_flush.specs.declared.part_range.PartRange.{PartRange}
use Rattle.tape_flush.specs.Stores.{Sync, Note, FileValue, DoesTo, contents_of}
use Rattle.tape_flush.specs.declared.store.StoreFault.{StoreFault}
use Rattle.tape_flush.specs.Careful.{after, IsKnown}
use Rattle.tape_flush.specs.Watched.{IsEmptyAt, Same, Stopped, IsStopped, Left, LeftUnless}
use Rattle.tape_flush.specs.Replacing.{IsReplaced}
use Rattle.tape_flush.specs.Images.{ImageValue, image_value, TapePartValue, ends_from, end_at, between, IsPart, HoldsAll, IsWhole, IsHeld, Leaves}
use Rattle.tape_flush.specs.Saved.{SavedImageValue, image_of, last_end, ends_within, IsWholeImage, Holds, HoldsIn, Has, HasFirstOf, FollowsUpTo, Follows, IsTaken, Begins, BeginsUnless, ImagesFollowTapes}
use Rattle.tape_flush.proofs.Holding.{Split, split, same_count, holds_length, within_is_first, within_ends, all_within, end_in_first, first_of_none}
use Rattle.tape_flush.proofs.Knowing.{take_less, KnownIn, ends_empty}
use Rattle.tape_flush.proofs.Pieces.{length-ends}
use Rattle.tape_flush.proofs.Flushes.{Bytes, whole_bytes, cut_bytes, some_bytes}

zero_plus : (n : ℕ) → n ≡ 0 + n
zero_plus n = omega arith

-- AN IMAGE holds what it has, and its objects are as many as its ends

sound_bytes : (f : FileValue) (k : Known) (ends : List ℕ) (known others : List Object) → Holds f k ends known others → Bytes ends (take k.sound f.contents) known others
sound_bytes f k ends known others h = (h.front, h.behind, h.bytes, h.objects_are, h.others_begin)

pub holds_by : (f : FileValue) (k : Known) (ends : List ℕ) (known others : List Object) → IsKnown k f → Bytes ends (take k.sound f.contents) known others → Holds f k ends known others
holds_by f k ends known others is h = record { is_known = is; front = h.0; behind = h.1; bytes = h.2; objects_are = h.3; others_begin = h.4 }

pub count_in : (f : Option FileValue) (k : Known) (ends : List ℕ) (known others : List Object) → HoldsIn f k ends known others → length ends ≡ length known
count_in None k ends known others h = absurd h
count_in (Some f) k ends known others h = same_count 0 h.front known ends h.objects_are

-- all of these are as they were written
behind_in : (f : Option FileValue) (k : Known) (ends : List ℕ) (known others : List Object) (stay : ℕ) → HoldsIn f k ends known others → stay ≤ length ends → end_at ends stay ≤ k.sound
behind_in None k ends known others stay h within = absurd h
behind_in (Some f) k ends known others stay h within =
    let count : length ends ≡ length known = same_count 0 h.front known ends h.objects_are in
    let s : Split 0 stay h.front known ends = split stay 0 h.front known ends h.objects_are (omega (arith, count)) in
    omega (arith, s.end, ap length s.bytes, length-append s.front s.back, ap length h.bytes, length-append h.front h.behind, length-take k.sound f.contents)

-- WHERE SOMETHING FAILED, what is as it was written then was so before

pub shrunk_bytes : (bytes : List ℕ) (ends ends' : List ℕ) (known others : List Object) (size stay : ℕ) → Bytes ends bytes known others → stay ≤ length ends
    → ends' ≡ ends_within size (take stay ends) → Bytes ends' (take size bytes) (take (length ends') known) (drop (length ends') known ++ others)
shrunk_bytes bytes ends ends' known others size stay h within are =
    let n : ℕ = length (ends_within size (take stay ends)) in
    let first : ends_within size (take stay ends) ≡ take n (take stay ends) = within_is_first size (take stay ends) in
    let count : length ends ≡ length known = same_count 0 h.0 known ends h.3 in
    let below : n ≤ stay = omega (arith, ap length first, length-take n (take stay ends), length-take stay ends) in
    let end : end_at ends n ≤ size =
    (let P : ℕ → Type 0 = λ e. e ≤ size in subst P (end_in_first 0 n stay ends below) (within_ends 0 size (take stay ends) (omega arith))) in
    let ends_are : ends' ≡ take n ends = are ∙ first ∙ take-take n stay ends below in
    let count' : length ends' ≡ n = ap length are in
    let there : Bytes (take n ends) (take size bytes) (take n known) (drop n known ++ others) = cut_bytes n size ends bytes known others (omega (arith, count)) end h in
    subst (λ (m : ℕ). Bytes ends' (take size bytes) (take m known) (drop m known ++ others)) (sym count')
    (subst (λ (es : List ℕ). Bytes es (take size bytes) (take n known) (drop n known ++ others)) (sym ends_are) there)

pub shrunk : (f f' : FileValue) (k k' : Known) (ends ends' : List ℕ) (known others : List Object) (stay : ℕ) → Holds f k ends known others → stay ≤ length ends → IsKnown k' f'
    → k'.sound ≤ k.sound → take k'.sound f'.contents ≡ take k'.sound f.contents → ends' ≡ ends_within k'.sound (take stay ends)
    → Holds f' k' ends' (take (length ends') known) (drop (length ends') known ++ others)
shrunk f f' k k' ends ends' known others stay h within is less same are =
    let there : take k'.sound (take k.sound f.contents) ≡ take k'.sound f'.contents = take-take k'.sound k.sound f.contents less ∙ sym same in
    holds_by f' k' ends' (take (length ends') known) (drop (length ends') known ++ others) is
    (
    subst (λ (z : List ℕ). Bytes ends' z (take (length ends') known) (drop (length ends') known ++ others)) there
    (shrunk_bytes (take k.sound f.contents) ends ends' known others k'.sound stay (sound_bytes f k ends known others h) within are)
    )

-- A PART THAT IS WRITTEN

-- what is in the file then, and that it may be written on
pub record Ready (f : FileValue) (k : Known) (ends : List ℕ) (objects : List Object) : Type 0 where
  pub all : HoldsAll 0 f.contents objects ends
  pub holds : Holds f k ends objects []
  pub empty : IsEmptyAt (last_end ends) k

pub ready_by : (f : FileValue) (k : Known) (ends : List ℕ) (objects : List Object) → IsKnown k f → HoldsAll 0 f.contents objects ends → length f.contents ≡ k.sound → IsEmptyAt k.sound k → Ready f k ends objects
ready_by f k ends objects is all size empty =
    let everything : take k.sound f.contents ≡ f.contents = take_all k.sound f.contents (omega (arith, size)) in
    record {
      all = all;
      holds = holds_by f k ends objects [] is (f.contents, [], everything ∙ sym (append-nil f.contents), all, first_of_none (length f.contents) []);
      empty = (empty.0, sym size ∙ zero_plus (length f.contents) ∙ holds_length 0 f.contents objects ends all);
    }

ReadyIn : Option FileValue → Known → List ℕ → List Object → Type 0
ReadyIn None k ends objects = ⊥
ReadyIn (Some f) k ends objects = Ready f k ends objects

replaced_in : (file file' : Option FileValue) (k k' : Known) (ends ends' : List ℕ) (part : TapePartValue) (known others new : List Object) (stay : ℕ) → HoldsIn file k ends known others
    → (KnownIn k file → KnownIn k' file') → stay ≤ length ends → IsPart (end_at ends stay) new part
    → IsReplaced stay part ends ends' k' (contents_of file) (contents_of file') → ReadyIn file' k' ends' (take stay known ++ new)
unfolding ReadyIn
replaced_in None file' k k' ends ends' part known others new stay h known' within is r = absurd h
replaced_in (Some f) None k k' ends ends' part known others new stay h known' within is r = absurd r.contents
replaced_in (Some f) (Some f') k k' ends ends' part known others new stay h known' within is r =
    let was : IsKnown k' f' = known' h.is_known in
    let count : length ends ≡ length known = same_count 0 h.front known ends h.objects_are in
    let here : length f'.contents ≡ k'.sound = ends_empty k'.tail (length f'.contents) k'.sound r.empty.0 was.end in
    let bytes : f.contents ≡ h.front ++ (h.behind ++ drop k.sound f.contents) =
    sym (take-append-drop k.sound f.contents) ∙ ap (λ (z : List ℕ). z ++ drop k.sound f.contents) h.bytes ∙ append_assoc h.front h.behind (drop k.sound f.contents) in
    let written : f'.contents ≡ take (end_at ends stay) f.contents ++ image_bytes new = r.contents ∙ ap (λ (z : List ℕ). take (end_at ends stay) f.contents ++ z) is.bytes in
    let all : HoldsAll 0 f'.contents (take stay known ++ new) (take stay ends ++ ends_from (end_at ends stay) new) =
    whole_bytes stay ends f.contents f'.contents h.front (h.behind ++ drop k.sound f.contents) known new (omega (arith, count)) is.keepable bytes h.objects_are written in
    let ends_are : ends' ≡ take stay ends ++ ends_from (end_at ends stay) new = r.ends_are ∙ ap (λ (es : List ℕ). take stay ends ++ es) is.ends in
    ready_by f' k' ends' (take stay known ++ new) was (subst (λ (es : List ℕ). HoldsAll 0 f'.contents (take stay known ++ new) es) (sym ends_are) all) here (r.empty.0, refl)

-- what stays is the same in the image and on the tape
same_stay : (count : ℕ) (tape : TapeView) (known : List Object) (stay : ℕ) → count ≡ length known → Follows known tape → stay ≡ min tape.unchanged count
    → take stay known ≡ take stay tape.objects
same_stay count tape known stay same follows is =
    let here : stay ≡ min tape.unchanged (length known) = is ∙ ap (min tape.unchanged) same in
    subst (λ (k : ℕ). take k known ≡ take k tape.objects) (sym here) follows

joined : (from to : ℕ) (xs : List Object) → from ≤ to → take from xs ++ between from to xs ≡ take to xs
joined from to xs le =
    let all : from + (to - from) ≡ to = omega arith in
    ap (λ (zs : List Object). zs ++ between from to xs) (sym (take-take from to xs le))
    ∙ ap (λ (zs : List Object). take from (take to xs) ++ zs) (sym (drop-take from (to - from) xs) ∙ ap (λ (k : ℕ). drop from (take k xs)) all)
    ∙ take-append-drop from (take to xs)

ready_split : (f : Option FileValue) (k : Known) (ends : List ℕ) (objects : List Object) → ReadyIn f k ends objects
    → IsSomeAnd (contents_of f) (λ bytes. HoldsAll 0 bytes objects ends) × (HoldsIn f k ends objects [] × IsEmptyAt (last_end ends) k)
unfolding ReadyIn
ready_split None k ends objects h = absurd h
ready_split (Some f) k ends objects h = (h.all, (h.holds, h.empty))

Written : {S : Type 0} → SavedImageValue S → List Object → Type 0
Written new objects = IsWhole (image_of new) objects × (Has new objects [] × IsWholeImage new)

ready_told : {S : Type 0} (new : SavedImageValue S) (objects : List Object) → ReadyIn new.file new.known new.ends objects → Written new objects
unfolding Written
ready_told new objects h = ready_split new.file new.known new.ends objects h

wrote : {S : Type 0} (r : Result (Unit {0}) FlushFault) (kept new : SavedImageValue S) (tape : TapeView) (range : PartRange) (part : TapePartValue) (known others : List Object) (stay : ℕ)
    → Has kept known others → Follows known tape → IsTaken kept tape range part → stay ≡ range.stay → (KnownIn kept.known kept.file → KnownIn new.known new.file)
    → OnOk r (IsReplaced stay part kept.ends new.ends new.known (contents_of kept.file) (contents_of new.file)) → OnOk r (Written new (take range.end tape.objects))
wrote (Err fault) kept new tape range part known others stay has follows taken here known' r = tt
wrote (Ok done) kept new tape range part known others stay has follows taken here known' r =
    let count : length kept.ends ≡ length known = count_in kept.file kept.known kept.ends known others has in
    let objects = between range.stay range.end tape.objects in
    let r' : IsReplaced range.stay part kept.ends new.ends new.known (contents_of kept.file) (contents_of new.file) =
    subst (λ (n : ℕ). IsReplaced n part kept.ends new.ends new.known (contents_of kept.file) (contents_of new.file)) here r in
    let ready : ReadyIn new.file new.known new.ends (take range.stay known ++ objects) =
    replaced_in kept.file new.file kept.known new.known kept.ends new.ends part known others objects range.stay has known' (omega (arith, taken.stay)) taken.taken r' in
    let all : take range.stay known ++ objects ≡ take range.end tape.objects =
    ap (λ (zs : List Object). zs ++ objects) (same_stay (length kept.ends) tape known range.stay count follows taken.stay) ∙ joined range.stay range.end tape.objects taken.rising in
    ready_told new (take range.end tape.objects) (subst (λ (zs : List Object). ReadyIn new.file new.known new.ends zs) all ready)

split_told : {S : Type 0} (r : Result (Unit {0}) FlushFault) (new : SavedImageValue S) (objects : List Object) → OnOk r (Written new objects)
    → OnOk r (IsWhole (image_of new) objects) × OnOk r (Has new objects [] × IsWholeImage new)
unfolding Written
split_told (Ok done) new objects h = (h.0, h.1)
split_told (Err fault) new objects h = (tt, tt)

pub wrote_part : {S : Type 0} (r : Result (Unit {0}) FlushFault) (kept new : SavedImageValue S) (tape : TapeView) (range : PartRange) (part : TapePartValue) (known others : List Object) (stay : ℕ)
    → Has kept known others → Follows known tape → IsTaken kept tape range part → stay ≡ range.stay → (KnownIn kept.known kept.file → KnownIn new.known new.file)
    → OnOk r (IsReplaced stay part kept.ends new.ends new.known (contents_of kept.file) (contents_of new.file))
    → OnOk r (IsWhole (image_of new) (take range.end tape.objects)) × OnOk r (Has new (take range.end tape.objects) [] × IsWholeImage new)
wrote_part r kept new tape range part known others stay has follows taken here known' replaced =
    split_told r new (take range.end tape.objects) (wrote r kept new tape range part known others stay has follows taken here known' replaced)

-- A PART WITHOUT OBJECTS, for an image that is whole

ready_now : (f : Option FileValue) (k : Known) (ends : List ℕ) (known others : List Object) → HoldsIn f k ends known others → IsEmptyAt (last_end ends) k → ReadyIn f k ends known
unfolding ReadyIn
ready_now None k ends known others h empty = absurd h
ready_now (Some f) k ends known others h empty =
    let here : length f.contents ≡ k.sound = ends_empty k.tail (length f.contents) k.sound empty.0 h.is_known.end in
    let bytes : f.contents ≡ h.front ++ h.behind = sym (take_all k.sound f.contents (omega (arith, here))) ∙ h.bytes in
    let size : 0 + length h.front ≡ last_end ends = holds_length 0 h.front known ends h.objects_are in
    let front : take (length h.front) f.contents ≡ f.contents = take_all (length h.front) f.contents (omega (arith, here, size, empty.1)) in
    let first : take (length h.front) f.contents ≡ h.front = ap (take (length h.front)) bytes ∙ take-append_seam h.front h.behind in
    ready_by f k ends known h.is_known (subst (λ (z : List ℕ). HoldsAll 0 z known ends) (sym first ∙ front) h.objects_are) here (empty.0, refl)

length-between : (from to : ℕ) (xs : List Object) → to ≤ length xs → length (between from to xs) ≡ to - from
length-between from to xs within = length-take-le (to - from) (drop from xs) (omega (arith, length-drop from xs))

no_more : {S : Type 0} (kept : SavedImageValue S) (tape : TapeView) (range : PartRange) (part : TapePartValue) → IsTaken kept tape range part → part.ends ≡ [] → range.end ≡ range.stay
no_more kept tape range part taken none =
    let xs = between range.stay range.end tape.objects in
    let size : length (ends_from (end_at kept.ends range.stay) xs) ≡ 0 = ap length (sym taken.taken.ends) ∙ ap length none in
    let count : length xs ≡ range.end - range.stay = length-between range.stay range.end tape.objects taken.within in
    omega (arith, size, count, length-ends (end_at kept.ends range.stay) xs, taken.rising)

pub without_part : {S : Type 0} (kept : SavedImageValue S) (tape : TapeView) (range : PartRange) (part : TapePartValue) (known others : List Object) → Has kept known others
    → Follows known tape → IsTaken kept tape range part → part.ends ≡ [] → range.stay ≡ length kept.ends → IsWholeImage kept
    → IsWhole (image_of kept) (take range.end tape.objects) × (Has kept (take range.end tape.objects) [] × IsWholeImage kept)
unfolding Written
without_part kept tape range part known others has follows taken none all empty =
    let count : length kept.ends ≡ length known = count_in kept.file kept.known kept.ends known others has in
    let left : take range.stay known ≡ known = take_all range.stay known (omega (arith, all, count)) in
    let right : take range.stay tape.objects ≡ take range.end tape.objects = ap (λ (k : ℕ). take k tape.objects) (sym (no_more kept tape range part taken none)) in
    let are : known ≡ take range.end tape.objects = sym left ∙ same_stay (length kept.ends) tape known range.stay count follows taken.stay ∙ right in
    ready_told kept (take range.end tape.objects) (subst (λ (zs : List Object). ReadyIn kept.file kept.known kept.ends zs) are (ready_now kept.file kept.known kept.ends known others has empty))

-- A PART THAT COULDN'T BE WRITTEN

fell_in : (file file' : Option FileValue) (k k' : Known) (ends ends' : List ℕ) (piece : List ℕ) (known others : List Object) (stay : ℕ) (fault : FlushFault) → HoldsIn file k ends known others
    → (KnownIn k file → KnownIn k' file') → stay ≤ length ends → IsStopped (end_at ends stay) piece k file k' file' fault → ends' ≡ ends_within k'.sound (take stay ends)
    → HoldsIn file' k' ends' (take (length ends') known) (drop (length ends') known ++ others)
fell_in None file' k k' ends ends' piece known others stay fault h known' within stopped are = absurd h
fell_in (Some f) None k k' ends ends' piece known others stay fault h known' within stopped are = absurd stopped
fell_in (Some f) (Some f') k k' ends ends' piece known others stay fault h known' within stopped are =
    let s : Stopped (end_at ends stay) piece k f k' f' fault = stopped h.is_known in
    shrunk f f' k k' ends ends' known others stay h within (known' h.is_known) s.shrinks s.stays are

count_within : (size stay : ℕ) (ends ends' : List ℕ) → ends' ≡ ends_within size (take stay ends) → length ends' ≤ stay
count_within size stay ends ends' are =
    omega (arith, ap length are, ap length (within_is_first size (take stay ends)), length-take (length (ends_within size (take stay ends))) (take stay ends), length-take stay ends)

first_of_tape : {S : Type 0} (new : SavedImageValue S) (tape : TapeView) (known others : List Object) (stay : ℕ) → length new.ends ≤ stay → take stay known ≡ take stay tape.objects
    → Has new (take (length new.ends) known) others → HasFirstOf tape.objects new
first_of_tape new tape known others stay below same h =
    (others, subst (λ (zs : List Object). Has new zs others) (take_less (length new.ends) stay known tape.objects below same) h)

pub fell : {S : Type 0} (r : Result (Unit {0}) FlushFault) (kept new : SavedImageValue S) (tape : TapeView) (range : PartRange) (part : TapePartValue) (known others : List Object) (stay : ℕ)
    → Has kept known others → Follows known tape → IsTaken kept tape range part → stay ≡ range.stay → (KnownIn kept.known kept.file → KnownIn new.known new.file)
    → IfErr r (IsStopped (end_at kept.ends stay) part.bytes kept.known kept.file new.known new.file) → OnErr r (new.ends ≡ ends_within new.known.sound (take stay kept.ends))
    → OnErr r (HasFirstOf tape.objects new)
fell (Ok done) kept new tape range part known others stay has follows taken here known' stopped are = tt
fell (Err fault) kept new tape range part known others stay has follows taken here known' stopped are =
    let count : length kept.ends ≡ length known = count_in kept.file kept.known kept.ends known others has in
    let same : take range.stay known ≡ take range.stay tape.objects = same_stay (length kept.ends) tape known range.stay count follows taken.stay in
    let below : length new.ends ≤ range.stay = omega (arith, here, count_within new.known.sound stay kept.ends new.ends are) in
    first_of_tape new tape known (drop (length new.ends) known ++ others) range.stay below same
    (fell_in kept.file new.file kept.known new.known kept.ends new.ends part.bytes known others stay fault has known' (omega (arith, here, taken.stay)) stopped are)

-- what reads find there
LeavesUnless : (stay : ℕ) → (known others objects : List Object) → ImageValue → FlushFault → Type 0
LeavesUnless stay known others objects image (Unsynced fault) = Unit {0}
LeavesUnless stay known others objects image NoMemory = Leaves stay known others objects image
LeavesUnless stay known others objects image PastLastOffset = Leaves stay known others objects image
LeavesUnless stay known others objects image (Store fault) = Leaves stay known others objects image

leaves : (stay : ℕ) (k' : Known) (f f' : FileValue) (ends ends' : List ℕ) (part : TapePartValue) (known others new : List Object) → stay ≤ length known → IsPart (end_at ends stay) new part
    → Bytes ends f.contents known others → ends' ≡ ends_within k'.sound (take stay ends) → end_at ends stay ≤ k'.sound → Left (end_at ends stay) part.bytes f.contents f'.contents
    → Leaves stay known others new (image_value ends' (Some f'.contents))
leaves stay k' f f' ends ends' part known others new within is h are enough left =
    let s : Split 0 stay h.0 known ends = split stay 0 h.0 known ends h.3 within in
    let same : ends' ≡ take stay ends = are ∙ all_within 0 k'.sound s.front (take stay known) (take stay ends) s.first (omega (arith, s.end, enough)) in
    elim left [
      | inl cut ↦ (
          let there : Bytes (take stay ends) (take cut.0 f.contents) (take stay known) (drop stay known ++ others) = cut_bytes stay cut.0 ends f.contents known others within cut.1 h in
          inl (subst (λ (es : List ℕ). Bytes es f'.contents (take stay known) (drop stay known ++ others)) (sym same)
          (subst (λ (z : List ℕ). Bytes (take stay ends) z (take stay known) (drop stay known ++ others)) (sym cut.2) there))
          )
      | inr more ↦ (
          let written : f'.contents ≡ take (end_at ends stay) f.contents ++ take more.0 (image_bytes new) =
          more.1 ∙ ap (λ (z : List ℕ). take (end_at ends stay) f.contents ++ take more.0 z) is.bytes in
          let there : Bytes (take stay ends) f'.contents (take stay known) new = some_bytes stay more.0 ends f.contents f'.contents known others new within is.keepable h written in
          inr (subst (λ (es : List ℕ). Bytes es f'.contents (take stay known) new) (sym same) there)
          )
    ]

left_of : (stay : ℕ) (fault : FlushFault) (k' : Known) (f f' : FileValue) (ends ends' : List ℕ) (part : TapePartValue) (known others new : List Object) → stay ≤ length known
    → IsPart (end_at ends stay) new part → Bytes ends f.contents known others → ends' ≡ ends_within k'.sound (take stay ends)
    → LeftUnless (end_at ends stay) part.bytes k' f.contents f'.contents fault → LeavesUnless stay known others new (image_value ends' (Some f'.contents)) fault
unfolding LeavesUnless
left_of stay (Unsynced fault) k' f f' ends ends' part known others new within is h are left = tt
left_of stay NoMemory k' f f' ends ends' part known others new within is h are left = leaves stay k' f f' ends ends' part known others new within is h are left.0 left.1
left_of stay PastLastOffset k' f f' ends ends' part known others new within is h are left = leaves stay k' f f' ends ends' part known others new within is h are left.0 left.1
left_of stay (Store fault) k' f f' ends ends' part known others new within is h are left = leaves stay k' f f' ends ends' part known others new within is h are left.0 left.1

begins : (range : PartRange) (tape : TapeView) (known others : List Object) (image : ImageValue) → take range.stay known ≡ take range.stay tape.objects
    → Leaves range.stay known others (between range.stay range.end tape.objects) image → Begins range tape known others image
begins range tape known others image stays (inl h) = inl (subst (λ (zs : List Object). IsHeld image zs (drop range.stay known ++ others)) stays h)
begins range tape known others image stays (inr h) = inr (subst (λ (zs : List Object). IsHeld image zs (between range.stay range.end tape.objects)) stays h)

begins_by : (fault : FlushFault) (range : PartRange) (tape : TapeView) (known others : List Object) (image : ImageValue) → take range.stay known ≡ take range.stay tape.objects
    → LeavesUnless range.stay known others (between range.stay range.end tape.objects) image fault → BeginsUnless range tape known others image fault
unfolding LeavesUnless
begins_by (Unsynced fault) range tape known others image stays h = tt
begins_by NoMemory range tape known others image stays h = begins range tape known others image stays h
begins_by PastLastOffset range tape known others image stays h = begins range tape known others image stays h
begins_by (Store fault) range tape known others image stays h = begins range tape known others image stays h

begun_in : (file file' : Option FileValue) (k k' : Known) (ends ends' : List ℕ) (part : TapePartValue) (known others new : List Object) (stay : ℕ) (fault : FlushFault)
    → HoldsIn file k ends known others → IsHeld (image_value ends (contents_of file)) known others → stay ≤ length ends → IsPart (end_at ends stay) new part
    → IsStopped (end_at ends stay) part.bytes k file k' file' fault → ends' ≡ ends_within k'.sound (take stay ends)
    → LeavesUnless stay known others new (image_value ends' (contents_of file')) fault
begun_in None file' k k' ends ends' part known others new stay fault h held within is stopped are = absurd h
begun_in (Some f) None k k' ends ends' part known others new stay fault h held within is stopped are = absurd stopped
begun_in (Some f) (Some f') k k' ends ends' part known others new stay fault h held within is stopped are =
    let s : Stopped (end_at ends stay) part.bytes k f k' f' fault = stopped h.is_known in
    let count : length ends ≡ length known = same_count 0 h.front known ends h.objects_are in
    left_of stay fault k' f f' ends ends' part known others new (omega (arith, count)) is held are s.left

pub begun : {S : Type 0} (r : Result (Unit {0}) FlushFault) (kept new : SavedImageValue S) (tape : TapeView) (range : PartRange) (part : TapePartValue) (known others : List Object) (stay : ℕ)
    → Has kept known others → IsHeld (image_of kept) known others → Follows known tape → IsTaken kept tape range part → stay ≡ range.stay
    → IfErr r (IsStopped (end_at kept.ends stay) part.bytes kept.known kept.file new.known new.file) → OnErr r (new.ends ≡ ends_within new.known.sound (take stay kept.ends))
    → IfErr r (BeginsUnless range tape known others (image_of new))
begun (Ok done) kept new tape range part known others stay has held follows taken here stopped are = tt
begun (Err fault) kept new tape range part known others stay has held follows taken here stopped are =
    let count : length kept.ends ≡ length known = count_in kept.file kept.known kept.ends known others has in
    let same : take range.stay known ≡ take range.stay tape.objects = same_stay (length kept.ends) tape known range.stay count follows taken.stay in
    let stopped' : IsStopped (end_at kept.ends range.stay) part.bytes kept.known kept.file new.known new.file fault =
    subst (λ (n : ℕ). IsStopped (end_at kept.ends n) part.bytes kept.known kept.file new.known new.file fault) here stopped in
    let are' : new.ends ≡ ends_within new.known.sound (take range.stay kept.ends) = are ∙ ap (λ (n : ℕ). ends_within new.known.sound (take n kept.ends)) here in
    begins_by fault range tape known others (image_of new) same
    (begun_in kept.file new.file kept.known new.known kept.ends new.ends part known others (between range.stay range.end tape.objects) range.stay fault has held
    (omega (arith, taken.stay)) taken.taken stopped' are')

-- objects that would end behind what is as it was written are none that an image has
pub not_behind : {S : Type 0} (kept : SavedImageValue S) (known others : List Object) (stay : ℕ) → Has kept known others → stay ≤ length kept.ends → end_at kept.ends stay ≤ kept.known.sound
not_behind kept known others stay has within = behind_in kept.file kept.known kept.ends known others stay has within

-- BROUGHT TO THE DISK, or not

pub still : (f f' : Option FileValue) (k k' : Known) (ends : List ℕ) (objects others : List Object) → HoldsIn f k ends objects others → (KnownIn k f → KnownIn k' f')
    → Same (contents_of f) (contents_of f') → k'.sound ≡ k.sound → HoldsIn f' k' ends objects others
still None f' k k' ends objects others h known same sound = absurd h
still (Some f) None k k' ends objects others h known same sound = absurd same
still (Some f) (Some f') k k' ends objects others h known same sound = record {
  is_known = known h.is_known;
  front = h.front;
  behind = h.behind;
  bytes = ap (λ (n : ℕ). take n f'.contents) sound ∙ ap (take k.sound) same ∙ h.bytes;
  objects_are = h.objects_are;
  others_begin = h.others_begin;
}

pub first_now : (f : Option FileValue) (k : Known) (ends : List ℕ) (objects others : List Object) → HoldsIn f k ends objects others → HoldsIn f k ends (take (length ends) objects) others
first_now f k ends objects others h =
    let all : take (length ends) objects ≡ objects = take_all (length ends) objects (omega (arith, count_in f k ends objects others h)) in
    subst (λ (xs : List Object). HoldsIn f k ends xs others) (sym all) h

pub same_synced : (f f' : Option FileValue) → DoesTo (Sync true) f f' → Same (contents_of f) (contents_of f')
same_synced None None done = tt
same_synced None (Some f') done = tt
same_synced (Some f) None done = done
same_synced (Some f) (Some f') done = ap (λ (v : FileValue). v.contents) done

pub same_noted : (f f' : Option FileValue) (size : ℕ) (is_ok : Bool) → DoesTo (Note size is_ok) f f' → Same (contents_of f) (contents_of f')
same_noted None f' size is_ok done = tt
same_noted (Some f) None size true done = done
same_noted (Some f) None size false done = done
same_noted (Some f) (Some f') size true done = ap (λ (v : FileValue). v.contents) done
same_noted (Some f) (Some f') size false done = ap (λ (v : FileValue). v.contents) done

pub same_again : (a b c : Option (List ℕ)) → Same a b → Same b c → Same a c
same_again None b c first second = tt
same_again (Some a) None c first second = absurd first
same_again (Some a) (Some b) None first second = second
same_again (Some a) (Some b) (Some c) first second = second ∙ first

pub forgot : (f f' : Option FileValue) (k k' : Known) (ends ends' : List ℕ) (objects others : List Object) → HoldsIn f k ends objects others → (KnownIn k f → KnownIn k' f')
    → DoesTo (Sync false) f f' → k'.sound ≡ k.synced → ends' ≡ ends_within k'.sound ends
    → HoldsIn f' k' ends' (take (length ends') objects) (drop (length ends') objects ++ others)
forgot None f' k k' ends ends' objects others h known done sound are = absurd h
forgot (Some f) None k k' ends ends' objects others h known done sound are = absurd done
forgot (Some f) (Some f') k k' ends ends' objects others h known done sound are =
    shrunk f f' k k' ends ends' objects others (length ends) h (omega arith) (known h.is_known) (omega (arith, sound, h.is_known.in_order))
    (take_less k'.sound (length f.synced) f'.contents f.contents (omega (arith, sound, h.is_known.synced)) done.front)
    (are ∙ ap (ends_within k'.sound) (sym (take_all (length ends) ends (omega arith))))

pub noted_sound : (k : Known) (size : ℕ) (is_ok : Bool) → (after k (Note size is_ok)).sound ≡ k.sound
noted_sound k size true = refl
noted_sound k size false = refl

-- what holds, holds where a call answered Ok, and where it didn't
pub on_ok : (r : Result (Unit {0}) StoreFault) (P : Type 0) → P → OnOk r P
on_ok (Ok done) P p = p
on_ok (Err fault) P p = tt

pub on_err : (r : Result (Unit {0}) StoreFault) (P : Type 0) → P → OnErr r P
on_err (Ok done) P p = tt
on_err (Err fault) P p = p

-- AN IMAGE FOLLOWS A TAPE

up_to : (count stay unchanged : ℕ) (objects objects' : List Object) → count ≤ stay → count ≤ unchanged → take unchanged objects' ≡ take unchanged objects
    → FollowsUpTo count (take stay objects) objects'
up_to count stay unchanged objects objects' below within same =
    take-take count stay objects below ∙ sym (take-take count unchanged objects within) ∙ ap (take count) (sym same) ∙ take-take count unchanged objects' within

pub follows : UnchangedStayInFront → ImagesFollowTapes
follows law tape after end stay within below changed =
    let front : StayInFront end tape.objects after = law tape after end within changed in
    let size : length (take stay tape.objects) ≡ stay = length-take-le stay tape.objects (omega arith) in
    up_to (min after.unchanged (length (take stay tape.objects))) stay after.unchanged tape.objects after.objects (omega (arith, size)) (omega arith) front.same
