-- The order of nexuses is total, and tells them apart.
use Rattle.std.proofs.Common.{◌≡◌, ℕ, true, ◌==◌, ◌&&◌, refl, ap, ◌∙◌, arith, Ordering}
use Rattle.std.specs.Cmp.{IsTotalOrder, nat_cmp_total}
use Rattle.std.specs.Ordering.{nat_cmp, eq_by_cmp, is_eq, ordering_then}
use Rattle.std.proofs.lemmas.Cmp.{on_total, then_total}
use Rattle.std.proofs.lemmas.Map.Lookups.{CmpEqualImpliesEq, exact_pairs, exact_unsigned}
use Rattle.std.proofs.lemmas.Map.Views.{tells_apart}
use Rattle.std.specs.declared.cmp.Ordering.TheVariants.{Less, Equal, Greater}
use Rattle.std.specs.Cmp.{unsigned_tied}
use Rattle.scsi_nexus.specs.declared.nexus.Nexus.{Nexus}
use Rattle.scsi_nexus.specs.Order.{nexus_cmp, same_nexus}

pub nexus_total : IsTotalOrder nexus_cmp
nexus_total = then_total (on_total (λ (n : Nexus). n.sas) nat_cmp_total) (on_total (λ (n : Nexus). n.port) nat_cmp_total)

pub nexus_exact : CmpEqualImpliesEq nexus_cmp
nexus_exact a b h = ap (λ (p : ℕ × ℕ). record { sas = p.0; port = p.1 }) (exact_pairs nat_cmp nat_cmp exact_unsigned exact_unsigned (a.sas, a.port) (b.sas, b.port) h)

is_eq-then : (x y : Ordering) → is_eq (ordering_then x y) ≡ (is_eq x && is_eq y)
is_eq-then Less y = refl
is_eq-then Equal y = refl
is_eq-then Greater y = refl

-- to compare alike is to be one
pub eq_by_cmp-nexus : (a b : Nexus) → eq_by_cmp nexus_cmp a b ≡ same_nexus a b
eq_by_cmp-nexus a b = is_eq-then (nat_cmp a.sas b.sas) (nat_cmp a.port b.port) ∙ ap (λ x. x && eq_by_cmp nat_cmp a.port b.port) (unsigned_tied a.sas b.sas) ∙ ap (λ x. (a.sas == b.sas) && x) (unsigned_tied a.port b.port)

pub same_nexus-true : (a b : Nexus) → same_nexus a b ≡ true → a ≡ b
same_nexus-true a b h = tells_apart nexus_exact a b (eq_by_cmp-nexus a b ∙ h)

pub same_nexus-refl : (a : Nexus) → same_nexus a a ≡ true
same_nexus-refl a = grind arith

pub same_nexus-sym : (a b : Nexus) → same_nexus a b ≡ same_nexus b a
same_nexus-sym a b = grind arith
