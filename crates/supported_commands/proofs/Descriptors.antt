-- A loop that writes the descriptors of those commands that pass a test, and how long all of them are.
use Rattle.std.proofs.Common.{◌≡◌, ◌≤◌, ◌+◌, ◌<◌, ℕ, Bool, true, false, cond, List, [], ◌∷◌, ◌++◌, length, take, get_or, sym, ap, ◌∙◌, lit≤}
use Rattle.std.specs.List.{flat_map, filter}
use Rattle.std.proofs.lemmas.List.{flat_map_more, append-nil}
use Rattle.std.proofs.lemmas.List.Elements.{filter_more}
use Rattle.scsi_cdb.specs.declared.kind.Kind.{Kind}
use Rattle.scsi_cdb.specs.declared.kind.Kind.TheVariants.{Drive, Changer}
use Rattle.supported_commands.specs.Commands.{table, commands_of}
use Rattle.supported_commands.specs.Answers.{descriptor}

by_test : {X A : Type 0} (f : X → List A) (front : List A) (before : List X) (x : X) (b : Bool)
    → (front ++ flat_map f before) ++ cond b (f x) [] ≡ front ++ flat_map f (before ++ cond b (x ∷ []) [])
by_test f front before x true = flat_map_more f front before x
by_test f front before x false = append-nil (front ++ flat_map f before) ∙ ap (λ xs. front ++ flat_map f xs) (sym (append-nil before))

-- one more element of a list, which is written where it passes
pub one_more : {X A : Type 0} (p : X → Bool) (f : X → List A) (front : List A) (xs : List X) (i : ℕ) (d : X) → i < length xs
    → (front ++ flat_map f (filter p (take i xs))) ++ cond (p (get_or xs i d)) (f (get_or xs i d)) []
    ≡ front ++ flat_map f (filter p (take (i + 1) xs))
one_more p f front xs i d within =
    by_test f front (filter p (take i xs)) (get_or xs i d) (p (get_or xs i d))
    ∙ ap (λ ys. front ++ flat_map f ys) (sym (filter_more p xs i d within))

pub all_are_short : (kind : Kind) (return_timeouts : Bool) → length (flat_map (descriptor return_timeouts) (commands_of kind)) ≤ 1020
unfolding table
all_are_short Drive true = lit≤ tt
all_are_short Drive false = lit≤ tt
all_are_short Changer true = lit≤ tt
all_are_short Changer false = lit≤ tt
