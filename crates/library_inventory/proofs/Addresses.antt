-- Elements by their addresses.
use Rattle.std.proofs.Common.{◌≡◌, ◌≤◌, ◌<◌, ℕ, ◌+◌, ◌-◌, true, false, Some, ap, ◌∙◌, arith}
use Rattle.std.specs.Prelude.{nat_lt}
use Rattle.tape_medium.specs.Elements.{first_import_export, first_storage, is_among}
use Rattle.library_inventory.specs.declared.element.Element.{Element}
use Rattle.library_inventory.specs.declared.element.Element.TheVariants.{DataTransfer, Storage, ImportExport}
use Rattle.library_inventory.specs.declared.element.LibrarySize.{LibrarySize}
use Rattle.library_inventory.specs.Elements.{AddressesReadBack}

above : (a b : ℕ) → b ≤ a → nat_lt a b ≡ false
above a b h = grind (arith, h)

outside : (first count address : ℕ) → first + count ≤ address → is_among first count address ≡ false
outside first count address h = grind (arith, above address (first + count) h)

inside : (first count address : ℕ) → first ≤ address → address < first + count → is_among first count address ≡ true
inside first count address low high = grind (arith, low, high)

pub addresses_read_back : AddressesReadBack
addresses_read_back size (DataTransfer number) few there = absurd there
addresses_read_back size (Storage number) few there =
    let not_there = outside first_import_export size.import_exports (first_storage + number) (omega (arith, few)) in
    let is_there = inside first_storage size.slots (first_storage + number) (omega arith) (omega (arith, there)) in
    rw (not_there, is_there) (ap (λ (n : ℕ). Some (Storage n)) (omega arith))
addresses_read_back size (ImportExport number) few there =
    let is_there = inside first_import_export size.import_exports (first_import_export + number) (omega arith) (omega (arith, there)) in
    rw is_there (ap (λ (n : ℕ). Some (ImportExport n)) (omega arith))
