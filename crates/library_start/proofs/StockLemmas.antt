-- Each storage element behind the volumes is there, and empty.
use Rattle.std.proofs.Common.{◌≡◌, ◌<◌, ◌≤◌, ℕ, zero, suc, ◌+◌, ◌-◌, Bool, true, false, ◌==◌, List, [], ◌∷◌, ◌++◌, length, Option, Some, None, Result, Ok, refl, sym, ap, ◌∙◌, append_assoc, add-one, arith}
use Rattle.std.specs.Prelude.{nat_lt, replicate, slice_set, slice_index_or, if◌then◌else◌}
use Rattle.std.proofs.lemmas.List.{length-append}
use Rattle.tape_medium.specs.Elements.{Elements, Element, Transport, DataTransfer, ImportExport, Storage, Nowhere, first_data_transfer, first_import_export, first_storage, is_among, element_at, held_in, put, puts}
use Rattle.tape_medium.specs.declared.elements.MapFault.{MapFault}
use Rattle.tape_medium.specs.declared.volume.Volume.{Volume}
use Rattle.tape_medium.specs.declared.volume.VolumeTag.{VolumeTag}
use Rattle.program_options.specs.declared.library_options.LibraryOptions.{LibraryOptions}
use Rattle.program_options.specs.Options.{AreInRange}
use Rattle.library_start.specs.Stock.{volume_of, volumes_to, shelved, stocked_to}

pub length-replicate_of : {X : Type 0} (n : ℕ) (x : X) → length (replicate n x) ≡ n
length-replicate_of zero x = refl
length-replicate_of (suc n) x = ap suc (length-replicate_of n x)

length-volumes_to : (size k : ℕ) → length (volumes_to size k) ≡ k
length-volumes_to size zero = refl
length-volumes_to size (suc k) = length-append (volumes_to size k) (Some (volume_of size (k + 1)) ∷ []) ∙ omega (arith, length-volumes_to size k)

-- the element behind some others, and another there
index-behind : (xs ys : List (Option Volume)) (y d : Option Volume) → slice_index_or (xs ++ y ∷ ys) (length xs) d ≡ y
index-behind [] ys y d = refl
index-behind (x ∷ xs) ys y d = index-behind xs ys y d

set-behind : (xs ys : List (Option Volume)) (y z : Option Volume) → slice_set (xs ++ y ∷ ys) (length xs) z ≡ xs ++ z ∷ ys
set-behind [] ys y z = refl
set-behind (x ∷ xs) ys y z = ap (λ l. x ∷ l) (set-behind xs ys y z)

above : (a b : ℕ) → b ≤ a → nat_lt a b ≡ false
above a b h = grind (arith, h)

outside : (first count address : ℕ) → first + count ≤ address → is_among first count address ≡ false
outside first count address h = grind (arith, above address (first + count) h)

inside : (first count address : ℕ) → first ≤ address → address < first + count → is_among first count address ≡ true
inside first count address low high = grind (arith, low, high)

by_tests : (e : Elements) (address : ℕ) (a b c d : Bool) → (address == 0) ≡ a → is_among first_data_transfer (length e.data_transfer) address ≡ b
    → is_among first_import_export (length e.import_export) address ≡ c → is_among first_storage (length e.storage) address ≡ d
    → element_at e address ≡ (if a then Transport else if b then DataTransfer (address - first_data_transfer) else if c then ImportExport (address - first_import_export) else if d then Storage (address - first_storage) else Nowhere)
by_tests e address a b c d ha hb hc hd = rw (ha, hb, hc, hd) refl

pub at_storage : (e : Elements) (k : ℕ) → length e.data_transfer ≤ 4 → length e.import_export ≤ 16 → k < length e.storage → element_at e (0x400 + k) ≡ Storage k
at_storage e k drives import_exports there =
    by_tests e (0x400 + k) false false false true (grind arith) (outside first_data_transfer (length e.data_transfer) (0x400 + k) (omega (arith, drives)))
    (outside first_import_export (length e.import_export) (0x400 + k) (omega (arith, import_exports))) (inside first_storage (length e.storage) (0x400 + k) (omega arith) (omega (arith, there)))
    ∙ ap Storage (omega arith)

length-shelved : (size k slots : ℕ) → k ≤ slots → length (shelved size k slots) ≡ slots
length-shelved size k slots few =
    let none : Option Volume = None in
    length-append (volumes_to size k) (replicate (slots - k) none) ∙ omega (arith, length-volumes_to size k, length-replicate_of (slots - k) none, few)

-- the next volume is put into the next storage element
pub put_next : (options : LibraryOptions) (k : ℕ) → AreInRange options → k < options.slots
    → ◌≡◌ {A = Result Elements MapFault} (puts (stocked_to options k) (0x400 + k) (volume_of options.volume_size (k + 1))) (Ok (stocked_to options (k + 1)))
put_next options k range there =
    let e = stocked_to options k in
    let no_tag : Option VolumeTag = None in
    let none : Option Volume = None in
    let size = options.volume_size in
    let v = volume_of size (k + 1) in
    let rest : List (Option Volume) = replicate (options.slots - (k + 1)) None in
    let more : options.slots - k ≡ suc (options.slots - (k + 1)) = omega (arith, there) in
    let is : e.storage ≡ volumes_to size k ++ None ∷ rest = ap (λ n. volumes_to size k ++ replicate n None) more in
    let few : length e.storage ≡ options.slots = length-shelved size k options.slots (omega (arith, there)) in
    let at : element_at e (0x400 + k) ≡ Storage k = at_storage e k (omega (arith, length-replicate_of options.drives no_tag, range.few_drives)) (omega (arith, length-replicate_of options.import_exports none, range.few_import_exports)) (omega (arith, few, there)) in
    let empty : slice_index_or e.storage k None ≡ None =
    ap (λ l. slice_index_or l k None) is ∙ ap (λ n. slice_index_or (volumes_to size k ++ None ∷ rest) n None) (sym (length-volumes_to size k)) ∙ index-behind (volumes_to size k) rest None None in
    let full : slice_set e.storage k (Some v) ≡ shelved size (k + 1) options.slots =
    ap (λ l. slice_set l k (Some v)) is ∙ ap (λ n. slice_set (volumes_to size k ++ None ∷ rest) n (Some v)) (sym (length-volumes_to size k)) ∙ set-behind (volumes_to size k) rest None (Some v)
    ∙ sym (append_assoc (volumes_to size k) (Some v ∷ []) rest) ∙ ap (λ n. volumes_to size n ++ rest) (sym (add-one k)) in
    ap (λ (to : Element). put e to v (held_in e to)) at
    ∙ ap (λ (o : Option Volume). put e (Storage k) v (Some o)) empty
    ∙ ap (λ (l : List (Option Volume)). Ok (record e { storage = l })) full
