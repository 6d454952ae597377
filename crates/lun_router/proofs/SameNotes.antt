-- What agrees with what seats have noted agrees with it however it is handed over.
use Rattle.std.proofs.Common.{◌≡◌, ℕ, ◌+◌, ◌-◌, length, List, [], ◌∷◌, ◌++◌, map, sym, ap, ◌∙◌, subst, Result, Ok, Err, Option, Some, None, arith}
use Rattle.std.specs.Prelude.{All, IfOk, IfSome, IsPermutation}
use Rattle.std.specs.Option.{option_map}
use Rattle.std.proofs.lemmas.List.Folds.{flat_map-map}
use Rattle.std.proofs.lemmas.List.Elements.{All-nil, All-cons, All-tail}
use Rattle.audit_log.specs.declared.record.Record.{Record}
use Rattle.kept_unit.specs.Agreeing.{Agrees, SeatFits, numbers_of}
use Rattle.kept_unit.specs.Listing.{NotesValue, numbers_in}
use Rattle.settled_numbers.specs.declared.number_range.NumberRange.{NumberRange}
use Rattle.kept_unit.specs.Ranges.{span, numbers_in_ranges}

All_to_map : {S T : Type 0} (f : S → T) (P : T → Type 0) (xs : List S) → All (λ s. P (f s)) xs → All P (map f xs)
All_to_map f P [] all = All-nil P
All_to_map f P (x ∷ xs) all = All-cons P (f x) (map f xs) (all 0 x (omega arith)) (All_to_map f P xs (All-tail (λ s. P (f s)) x xs all))

All_from_map : {S T : Type 0} (f : S → T) (P : T → Type 0) (xs : List S) → All P (map f xs) → All (λ s. P (f s)) xs
All_from_map f P [] all = All-nil (λ s. P (f s))
All_from_map f P (x ∷ xs) all = All-cons (λ s. P (f s)) x xs (all 0 (f x) (omega arith)) (All_from_map f P xs (All-tail P (f x) (map f xs) all))

pub alike : {S T : Type 0} (of : S → NotesValue) (by : T → NotesValue) (lun first base : ℕ) (records : List Record) (handed : List NumberRange) (xs : List S) (ys : List T)
    → map of xs ≡ map by ys → Agrees of lun first base records handed xs → Agrees by lun first base records handed ys
alike of by lun first base records handed xs ys same a =
    let fits : NotesValue → Type 0 = λ n. SeatFits lun base records n in
    let numbers : numbers_of of lun xs ≡ numbers_of by lun ys =
    sym (flat_map-map (numbers_in lun) of xs) ∙ ap (λ (l : List NotesValue). numbers_of (λ n. n) lun l) same ∙ flat_map-map (numbers_in lun) by ys in
    record {
      once = subst (λ (l : List ℕ). IsPermutation (l ++ numbers_in_ranges handed) (span first (base + length records - first))) numbers a.once;
      handed_out = a.handed_out;
      each = All_from_map by fits ys (subst (λ (l : List NotesValue). All fits l) same (All_to_map of fits xs a.each));
    }

pub if_ok : {A E : Type 0} (r : Result A E) (P Q : A → Type 0) → ((x : A) → P x → Q x) → IfOk r P → IfOk r Q
if_ok (Ok x) P Q f h = f x h
if_ok (Err e) P Q f h = tt
