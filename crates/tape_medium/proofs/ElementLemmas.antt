-- What an address names, and what an element holds after another was emptied.
use Rattle.std.proofs.Common.{◌≡◌, ℕ, ◌-◌, ◌<◌, zero, suc, Bool, true, false, List, [], ◌∷◌, length, get_or, set, length-set, Option, Some, None, refl, ap, ◌==◌, arith}
use Rattle.std.specs.Prelude.{if◌then◌else◌}
use Rattle.std.proofs.lemmas.Bool.Decides.{nat_tests}
use Rattle.tape_medium.specs.declared.volume.Volume.{Volume}
use Rattle.tape_medium.specs.Elements.{Elements, Element, Transport, DataTransfer, ImportExport, Storage, Nowhere, is_among, first_data_transfer, first_import_export, first_storage, element_at, held_in, holding}

-- no address names another element for what an element holds
pub element_at-holding : (e : Elements) (from : Element) (held : Option Volume) (address : ℕ) → element_at (holding e from held) address ≡ element_at e address
element_at-holding e Transport held address = refl
element_at-holding e (DataTransfer i) held address = refl
element_at-holding e (ImportExport i) held address = simp length-set
element_at-holding e (Storage i) held address = simp length-set
element_at-holding e Nowhere held address = refl

-- an empty place stays empty where another is emptied, and where it is the same
empty-set : {X : Type 0} (places : List (Option X)) (i j : ℕ) → get_or places j None ≡ None → get_or (set places i None) j None ≡ None
empty-set [] i j h = refl
empty-set (place ∷ places) zero zero h = refl
empty-set (place ∷ places) zero (suc j) h = h
empty-set (place ∷ places) (suc i) zero h = h
empty-set (place ∷ places) (suc i) (suc j) h = empty-set places i j h

pub held_in-holding : (e : Elements) (from to : Element) → held_in e to ≡ Some None → held_in (holding e from None) to ≡ Some None
held_in-holding e Transport to h = h
held_in-holding e (DataTransfer i) to h = h
held_in-holding e (ImportExport i) Transport h = cc
held_in-holding e (ImportExport i) (DataTransfer j) h = cc
held_in-holding e (ImportExport i) (ImportExport j) h = let empty : get_or e.import_export j None ≡ None = cc in ap Some (empty-set e.import_export i j empty)
held_in-holding e (ImportExport i) (Storage j) h = h
held_in-holding e (ImportExport i) Nowhere h = cc
held_in-holding e (Storage i) Transport h = cc
held_in-holding e (Storage i) (DataTransfer j) h = cc
held_in-holding e (Storage i) (ImportExport j) h = h
held_in-holding e (Storage i) (Storage j) h = let empty : get_or e.storage j None ≡ None = cc in ap Some (empty-set e.storage i j empty)
held_in-holding e (Storage i) Nowhere h = cc
held_in-holding e Nowhere to h = h

-- an element's number is one of its type's
abbrev pub IsWithin : Elements → Element → Type 0
IsWithin e Transport = Unit {0}
IsWithin e (DataTransfer i) = Unit {0}
IsWithin e (ImportExport i) = i < length e.import_export
IsWithin e (Storage i) = i < length e.storage
IsWithin e Nowhere = Unit {0}

among-lt : (first count address : ℕ) → is_among first count address ≡ true → address - first < count
among-lt first count address h = grind (arith, nat_tests)

chosen-within : (e : Elements) (i j k : ℕ) (t0 t1 t2 t3 : Bool) → (t2 ≡ true → j < length e.import_export) → (t3 ≡ true → k < length e.storage)
    → IsWithin e (if t0 then Transport else if t1 then DataTransfer i else if t2 then ImportExport j else if t3 then Storage k else Nowhere)
chosen-within e i j k true t1 t2 t3 second third = tt
chosen-within e i j k false true t2 t3 second third = tt
chosen-within e i j k false false true t3 second third = second refl
chosen-within e i j k false false false true second third = third refl
chosen-within e i j k false false false false second third = tt

pub element_at-within : (e : Elements) (address : ℕ) → IsWithin e (element_at e address)
element_at-within e address =
    chosen-within e (address - first_data_transfer) (address - first_import_export) (address - first_storage)
    (address == 0) (is_among first_data_transfer (length e.data_transfer) address)
    (is_among first_import_export (length e.import_export) address) (is_among first_storage (length e.storage) address)
    (among-lt first_import_export (length e.import_export) address) (among-lt first_storage (length e.storage) address)

pub within-holding : (e : Elements) (from to : Element) (held : Option Volume) → IsWithin e to → IsWithin (holding e from held) to
within-holding e from Transport held h = tt
within-holding e from (DataTransfer j) held h = tt
within-holding e from Nowhere held h = tt
within-holding e Transport (ImportExport j) held h = h
within-holding e (DataTransfer i) (ImportExport j) held h = h
within-holding e (ImportExport i) (ImportExport j) held h = simp length-set h
within-holding e (Storage i) (ImportExport j) held h = h
within-holding e Nowhere (ImportExport j) held h = h
within-holding e Transport (Storage j) held h = h
within-holding e (DataTransfer i) (Storage j) held h = h
within-holding e (ImportExport i) (Storage j) held h = h
within-holding e (Storage i) (Storage j) held h = simp length-set h
within-holding e Nowhere (Storage j) held h = h
