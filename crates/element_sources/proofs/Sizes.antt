-- How long the pages are at most.
use Rattle.std.proofs.Common.{◌≡◌, ℕ, ◌+◌, ◌*◌, ◌≤◌, ◌==◌, Bool, true, false, if◌then◌else◌, refl, arith, lit≤}
use Rattle.std.proofs.Math.Nat.{mul-le-mul_left}
use Rattle.element_map.specs.declared.element_type.ElementType.{ElementType}
use Rattle.element_map.specs.declared.element_type.ElementType.TheVariants.{MediumTransport, DataTransfer, ImportExport, Storage}
use Rattle.element_map.specs.Runs.{code_of}
use Rattle.element_sources.specs.HostStatus.{host_descriptor_length}
use Rattle.element_sources.specs.Reports.{page_length}

-- a descriptor of an element without a drive, and one of an element with a drive
plain_at_most : (type_code : ℕ) (volume_tags device_identifiers : Bool) → (type_code == 4) ≡ false → host_descriptor_length volume_tags device_identifiers type_code ≤ 52
plain_at_most type_code true true other = rw other (lit≤ tt)
plain_at_most type_code true false other = lit≤ tt
plain_at_most type_code false true other = rw other (lit≤ tt)
plain_at_most type_code false false other = lit≤ tt

drive_at_most : (volume_tags device_identifiers : Bool) → host_descriptor_length volume_tags device_identifiers 4 ≤ 86
drive_at_most true true = lit≤ tt
drive_at_most true false = lit≤ tt
drive_at_most false true = lit≤ tt
drive_at_most false false = lit≤ tt

none_or : (none : Bool) (n most : ℕ) → n ≤ most → (if none then 0 else n) ≤ most
none_or true n most le = omega arith
none_or false n most le = le

-- a page with so many descriptors
page_at_most : (volume_tags device_identifiers : Bool) (type : ElementType) (count most : ℕ) → host_descriptor_length volume_tags device_identifiers (code_of type) ≤ most
    → page_length volume_tags device_identifiers type count ≤ 8 + count * most
page_at_most volume_tags device_identifiers type count most le =
    let all : 8 + count * host_descriptor_length volume_tags device_identifiers (code_of type) ≤ 8 + count * most = omega (arith, mul-le-mul_left count le) in
    none_or (count == 0) (8 + count * host_descriptor_length volume_tags device_identifiers (code_of type)) (8 + count * most) all

sums : (transports drives portals slots a b c d : ℕ) → transports ≤ 1 → drives ≤ 4 → portals ≤ 16 → slots ≤ 1024
    → a ≤ 8 + transports * 52 → b ≤ 8 + drives * 86 → c ≤ 8 + portals * 52 → d ≤ 8 + slots * 52 → a + b + c + d ≤ 54372 + 34 * drives
sums transports drives portals slots a b c d few_transports few_drives few_portals few_slots most_a most_b most_c most_d = omega arith

-- all pages, of no more elements than there may be
pub pages_at_most : (volume_tags device_identifiers : Bool) (transports drives portals slots a b c d : ℕ) → transports ≤ 1 → drives ≤ 4 → portals ≤ 16 → slots ≤ 1024
    → a ≡ page_length volume_tags device_identifiers MediumTransport transports → b ≡ page_length volume_tags device_identifiers DataTransfer drives
    → c ≡ page_length volume_tags device_identifiers ImportExport portals → d ≡ page_length volume_tags device_identifiers Storage slots
    → a + b + c + d ≤ 54372 + 34 * drives
pages_at_most volume_tags device_identifiers transports drives portals slots a b c d few_transports few_drives few_portals few_slots is_a is_b is_c is_d =
    let most_a : a ≤ 8 + transports * 52 = rw is_a (page_at_most volume_tags device_identifiers MediumTransport transports 52 (plain_at_most 1 volume_tags device_identifiers refl)) in
    let most_b : b ≤ 8 + drives * 86 = rw is_b (page_at_most volume_tags device_identifiers DataTransfer drives 86 (drive_at_most volume_tags device_identifiers)) in
    let most_c : c ≤ 8 + portals * 52 = rw is_c (page_at_most volume_tags device_identifiers ImportExport portals 52 (plain_at_most 3 volume_tags device_identifiers refl)) in
    let most_d : d ≤ 8 + slots * 52 = rw is_d (page_at_most volume_tags device_identifiers Storage slots 52 (plain_at_most 2 volume_tags device_identifiers refl)) in
    sums transports drives portals slots a b c d few_transports few_drives few_portals few_slots most_a most_b most_c most_d
