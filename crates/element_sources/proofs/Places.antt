-- What is read at the address of an element.
use Rattle.std.proofs.Common.{◌≡◌, ℕ, ◌+◌, ◌-◌, ◌<◌, ◌==◌, true, false, nat_le, nat_lt, length, get_or, None, Ok, refl, arith}
use Rattle.std.proofs.Math.ListN.{get_or-map}
use Rattle.std.proofs.lemmas.List.{length-map}
use Rattle.tape_medium.specs.Elements.{Elements, tag_of, reads}
use Rattle.element_map.specs.declared.element_type.ElementType.{ElementType}
use Rattle.element_map.specs.declared.element_type.ElementType.TheVariants.{MediumTransport, DataTransfer, ImportExport, Storage}
use Rattle.element_map.specs.Runs.{first_of, tags_of}
use Rattle.element_sources.specs.Reports.{HasLimits}

pub reads_numbered : (e : Elements) (type : ElementType) (at : ℕ) → HasLimits e → at < length (tags_of e type)
    → reads e (first_of type + at) ≡ Ok (get_or (tags_of e type) at None)
reads_numbered e MediumTransport at limits inside =
    let first : at ≡ 0 = omega (arith, inside) in
    rw first refl
reads_numbered e DataTransfer at limits inside =
    let other : (0x100 + at == 0) ≡ false = grind arith in
    let low : nat_le 0x100 (0x100 + at) ≡ true = grind arith in
    let high : nat_lt (0x100 + at) (0x100 + length e.data_transfer) ≡ true = grind arith in
    let place : 0x100 + at - 0x100 ≡ at = omega arith in
    rw (other, low, high, place) refl
reads_numbered e ImportExport at limits inside =
    let within : at < length e.import_export = omega (arith, inside, length-map e.import_export tag_of) in
    let other : (0x200 + at == 0) ≡ false = grind arith in
    let drives : nat_lt (0x200 + at) (0x100 + length e.data_transfer) ≡ false = grind (arith, limits.drives) in
    let before : nat_le 0x100 (0x200 + at) ≡ true = grind arith in
    let low : nat_le 0x200 (0x200 + at) ≡ true = grind arith in
    let high : nat_lt (0x200 + at) (0x200 + length e.import_export) ≡ true = grind arith in
    let place : 0x200 + at - 0x200 ≡ at = omega arith in
    rw (other, before, drives, low, high, place, get_or-map tag_of e.import_export at None) refl
reads_numbered e Storage at limits inside =
    let within : at < length e.storage = omega (arith, inside, length-map e.storage tag_of) in
    let other : (0x400 + at == 0) ≡ false = grind arith in
    let drives : nat_lt (0x400 + at) (0x100 + length e.data_transfer) ≡ false = grind (arith, limits.drives) in
    let before_drives : nat_le 0x100 (0x400 + at) ≡ true = grind arith in
    let portals : nat_lt (0x400 + at) (0x200 + length e.import_export) ≡ false = grind (arith, limits.import_exports) in
    let before_portals : nat_le 0x200 (0x400 + at) ≡ true = grind arith in
    let low : nat_le 0x400 (0x400 + at) ≡ true = grind arith in
    let high : nat_lt (0x400 + at) (0x400 + length e.storage) ≡ true = grind arith in
    let place : 0x400 + at - 0x400 ≡ at = omega arith in
    rw (other, before_drives, drives, before_portals, portals, low, high, place, get_or-map tag_of e.storage at None) refl
