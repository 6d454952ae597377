-- The volumes in a changer's own elements, through each of its calls.
use Rattle.std.proofs.Common.{◌≡◌, ℕ, ◌<◌, zero, suc, List, [], ◌∷◌, ◌++◌, length, get_or, set, IsPermutation, Option, Some, None, Ok, refl, sym, ap, subst, arith}
use Rattle.std.proofs.lemmas.List.Sorted.{IsPermutation-refl, IsPermutation-sym, IsPermutation-cons, IsPermutation-middle, IsPermutation-trans, IsPermutation-append_left, IsPermutation-append_right}
use Rattle.tape_medium.specs.declared.volume.VolumeTag.{VolumeTag}
use Rattle.tape_medium.specs.declared.volume.Volume.{Volume}
use Rattle.tape_medium.specs.Elements.{Elements, Element, Transport, DataTransfer, ImportExport, Storage, Nowhere, element_at, held_in, holding, taken, put, moved, noted}
use Rattle.tape_medium.specs.Volumes.{present, volumes, TakesOne, AddsOne, KeepsAll, NotesMoveNothing}
use Rattle.tape_medium.proofs.ElementLemmas.{held_in-holding, IsWithin, element_at-within, within-holding}

-- two at the front change places
front-swap : (v w : Volume) (rest : List Volume) → IsPermutation (w ∷ v ∷ rest) (v ∷ w ∷ rest)
front-swap v w rest = IsPermutation-middle (w ∷ []) v rest

-- a full place is emptied
present-take : (places : List (Option Volume)) (i : ℕ) (v : Volume) → get_or places i None ≡ Some v → IsPermutation (present places) (v ∷ present (set places i None))
present-take [] i v h = cc
present-take (None ∷ places) zero v h = cc
present-take (Some w ∷ places) zero v h =
    let same : w ≡ v = cc in
    subst (λ (x : Volume). IsPermutation (w ∷ present places) (x ∷ present places)) same (IsPermutation-refl (w ∷ present places))
present-take (None ∷ places) (suc i) v h = present-take places i v h
present-take (Some w ∷ places) (suc i) v h =
    let rest : List Volume = present (set places i None) in
    IsPermutation-trans (w ∷ present places) (w ∷ v ∷ rest) (v ∷ w ∷ rest)
    (IsPermutation-cons w (present places) (v ∷ rest) (present-take places i v h)) (front-swap v w rest)

-- an empty place is filled
present-put : (places : List (Option Volume)) (i : ℕ) (v : Volume) → i < length places → get_or places i None ≡ None → IsPermutation (v ∷ present places) (present (set places i (Some v)))
present-put [] i v within h = absurd (omega arith)
present-put (None ∷ places) zero v within h = IsPermutation-refl (v ∷ present places)
present-put (Some w ∷ places) zero v within h = cc
present-put (None ∷ places) (suc i) v within h = present-put places i v (omega arith) h
present-put (Some w ∷ places) (suc i) v within h =
    let rest : List Volume = present (set places i (Some v)) in
    IsPermutation-trans (v ∷ w ∷ present places) (w ∷ v ∷ present places) (w ∷ rest)
    (front-swap w v (present places)) (IsPermutation-cons w (v ∷ present places) rest (present-put places i v (omega arith) h))

-- the same of an element
pub volumes-take : (e : Elements) (from : Element) (v : Volume) → held_in e from ≡ Some (Some v) → IsPermutation (volumes e) (v ∷ volumes (holding e from None))
volumes-take e Transport v h = cc
volumes-take e (DataTransfer i) v h = cc
volumes-take e (ImportExport i) v h =
    let full : get_or e.import_export i None ≡ Some v = cc in
    IsPermutation-append_left (present e.storage) (present e.import_export) (v ∷ present (set e.import_export i None)) (present-take e.import_export i v full)
volumes-take e (Storage i) v h =
    let full : get_or e.storage i None ≡ Some v = cc in
    let rest : List Volume = present (set e.storage i None) in
    IsPermutation-trans (volumes e) (present e.import_export ++ v ∷ rest) (v ∷ (present e.import_export ++ rest))
    (IsPermutation-append_right (present e.import_export) (present e.storage) (v ∷ rest) (present-take e.storage i v full))
    (IsPermutation-middle (present e.import_export) v rest)
volumes-take e Nowhere v h = cc

pub volumes-put : (e : Elements) (to : Element) (v : Volume) → IsWithin e to → held_in e to ≡ Some None → IsPermutation (v ∷ volumes e) (volumes (holding e to (Some v)))
volumes-put e Transport v within h = cc
volumes-put e (DataTransfer i) v within h = cc
volumes-put e (ImportExport i) v within h =
    let empty : get_or e.import_export i None ≡ None = cc in
    IsPermutation-append_left (present e.storage) (v ∷ present e.import_export) (present (set e.import_export i (Some v))) (present-put e.import_export i v within empty)
volumes-put e (Storage i) v within h =
    let empty : get_or e.storage i None ≡ None = cc in
    let rest : List Volume = present (set e.storage i (Some v)) in
    IsPermutation-trans (v ∷ volumes e) (present e.import_export ++ v ∷ present e.storage) (present e.import_export ++ rest)
    (IsPermutation-sym (present e.import_export ++ v ∷ present e.storage) (v ∷ volumes e) (IsPermutation-middle (present e.import_export) v (present e.storage)))
    (IsPermutation-append_right (present e.import_export) (v ∷ present e.storage) rest (present-put e.storage i v within empty))
volumes-put e Nowhere v within h = cc

-- what a call found and left, where it is Ok
record IsTaken (e after : Elements) (from : Element) (held : Option (Option Volume)) (v : Volume) : Type 0 where
  full : held ≡ Some (Some v)
  rest : holding e from None ≡ after

taken-ok : (e after : Elements) (from : Element) (held : Option (Option Volume)) (v : Volume) → taken e from held ≡ Ok (after, v) → IsTaken e after from held v
taken-ok e after from None v h = cc
taken-ok e after from (Some None) v h = cc
taken-ok e after from (Some (Some w)) v h =
    let both : (holding e from None, w) ≡ (after, v) = cc in
    record { full = ap (λ (x : Elements × Volume). Some (Some x.1)) both; rest = ap (λ (x : Elements × Volume). x.0) both }

record IsPut (e after : Elements) (to : Element) (held : Option (Option Volume)) (v : Volume) : Type 0 where
  empty : held ≡ Some None
  rest : holding e to (Some v) ≡ after

put-ok : (e after : Elements) (to : Element) (held : Option (Option Volume)) (v : Volume) → put e to v held ≡ Ok after → IsPut e after to held v
put-ok e after to None v h = cc
put-ok e after to (Some (Some w)) v h = cc
put-ok e after to (Some None) v h = record { empty = refl; rest = cc }

record IsMoved (e after : Elements) (from : Element) (held : Option (Option Volume)) (to : Element) (there : Option (Option Volume)) (v : Volume) : Type 0 where
  full : held ≡ Some (Some v)
  empty : there ≡ Some None
  rest : holding (holding e from None) to (Some v) ≡ after

moved-ok : (e after : Elements) (from : Element) (held : Option (Option Volume)) (to : Element) (there : Option (Option Volume))
    → moved e from held to there ≡ Ok after → (v : Volume) × IsMoved e after from held to there v
moved-ok e after from None to there h = absurd cc
moved-ok e after from (Some None) to None h = absurd cc
moved-ok e after from (Some (Some v)) to None h = absurd cc
moved-ok e after from (Some None) to (Some there) h = absurd cc
moved-ok e after from (Some (Some v)) to (Some (Some other)) h = absurd cc
moved-ok e after from (Some (Some v)) to (Some None) h = (v, record { full = refl; empty = refl; rest = cc })

pub takes_one : TakesOne
takes_one e after address v h =
    let from = element_at e address in
    let at = taken-ok e after from (held_in e from) v h in
    subst (λ (x : Elements). IsPermutation (volumes e) (v ∷ volumes x)) at.rest (volumes-take e from v at.full)

pub adds_one : AddsOne
adds_one e after address v h =
    let to = element_at e address in
    let at = put-ok e after to (held_in e to) v h in
    subst (λ (x : Elements). IsPermutation (v ∷ volumes e) (volumes x)) at.rest (volumes-put e to v (element_at-within e address) at.empty)

pub keeps_all : KeepsAll
keeps_all e after source destination h =
    let from = element_at e source in
    let to = element_at e destination in
    let found = moved-ok e after from (held_in e from) to (held_in e to) h in
    let v = found.0 in
    let at = found.1 in
    let between = holding e from None in
    subst (λ (x : Elements). IsPermutation (volumes e) (volumes x)) at.rest
    (IsPermutation-trans (volumes e) (v ∷ volumes between) (volumes (holding between to (Some v)))
    (volumes-take e from v at.full)
    (volumes-put between to v (within-holding e from to None (element_at-within e destination)) (held_in-holding e from to at.empty)))

noted-same : (e after : Elements) (at : Element) (tag : Option VolumeTag) → noted e at tag ≡ Ok after → volumes after ≡ volumes e
noted-same e after Transport tag h = cc
noted-same e after (DataTransfer i) tag h =
    let rest : record e { data_transfer = set e.data_transfer i tag } ≡ after = cc in
    sym (ap volumes rest)
noted-same e after (ImportExport i) tag h = cc
noted-same e after (Storage i) tag h = cc
noted-same e after Nowhere tag h = cc

pub notes_move_nothing : NotesMoveNothing
notes_move_nothing e after address tag h = noted-same e after (element_at e address) tag h
