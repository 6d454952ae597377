-- The volumes in a changer's own elements: no call loses one, and none brings one that wasn't handed in.
use Rattle.std.specs.Prelude.{◌≡◌, ℕ, List, [], ◌∷◌, ◌++◌, IsPermutation, Option, Some, None, Ok}
use Rattle.tape_medium.specs.declared.volume.VolumeTag.{VolumeTag}
use Rattle.tape_medium.specs.declared.volume.Volume.{Volume}
use Rattle.tape_medium.specs.Elements.{Elements, takes, puts, notes, moves}

-- those in a list of places, in their order
abbrev pub present : List (Option Volume) → List Volume
present [] = []
present (None ∷ places) = present places
present (Some volume ∷ places) = volume ∷ present places

-- those in the import/export and the storage elements
abbrev pub volumes : Elements → List Volume
volumes e = present e.import_export ++ present e.storage

-- taking out takes just the one that is handed out
abbrev pub TakesOne : Type 0
TakesOne = (e after : Elements) (address : ℕ) (volume : Volume) → takes e address ≡ Ok (after, volume) → IsPermutation (volumes e) (volume ∷ volumes after)

-- putting in adds just the one that is handed in
abbrev pub AddsOne : Type 0
AddsOne = (e after : Elements) (address : ℕ) (volume : Volume) → puts e address volume ≡ Ok after → IsPermutation (volume ∷ volumes e) (volumes after)

-- a move leaves the same volumes, in other places
abbrev pub KeepsAll : Type 0
KeepsAll = (e after : Elements) (source destination : ℕ) → moves e source destination ≡ Ok after → IsPermutation (volumes e) (volumes after)

-- a tag that is noted moves nothing
abbrev pub NotesMoveNothing : Type 0
NotesMoveNothing = (e after : Elements) (address : ℕ) (tag : Option VolumeTag) → notes e address tag ≡ Ok after → volumes after ≡ volumes e
