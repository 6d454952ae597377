-- Volumes that are taken, and added, one after another.
use Rattle.std.proofs.Common.{◌≡◌, sym, subst, List, [], ◌∷◌, ◌++◌, ◌<◌, length, get_or}
use Rattle.std.specs.Prelude.{All}
use Rattle.std.proofs.lemmas.List.Elements.{All-get_or, All-push, All-same}

-- the one that a loop takes next
pub taken : {X : Type 0} (P : X → Type 0) (all xs : List X) (x : X) → length xs < length all → x ≡ get_or all (length xs) x → All P all → P x
taken P all xs x within same h = subst P (sym same) (All-get_or P all (length xs) x within h)

pub added : {X : Type 0} (P : X → Type 0) (before after : List X) (x : X) → after ≡ before ++ x ∷ [] → All P before → P x → All P after
added P before after x is h p = All-same P after (before ++ x ∷ []) is (All-push P before x h p)
