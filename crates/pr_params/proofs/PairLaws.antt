-- Where the key of a nexus stands among registrations.
use Rattle.std.proofs.Common.{◌≡◌, ℕ, zero, suc, ◌<◌, true, [], ◌∷◌, length, drop, get_or, arith}
use Rattle.std.proofs.lemmas.Grind.{common_steps}
use Rattle.scsi_nexus.specs.declared.nexus.Nexus.{Nexus}
use Rattle.scsi_nexus.specs.Order.{same_nexus}
use Rattle.scsi_nexus.proofs.NexusLaws.{eq_by_cmp-nexus}
use Rattle.permit_tables.specs.Pairs.{Pairs, key_in}

-- the first registration of a nexus has its key
pub key_in-drop : (n : Nexus) (x : Pairs) (i : ℕ) (d : Nexus × ℕ) → i < length x → same_nexus n (get_or x i d).0 ≡ true → key_in (drop i x) n ≡ (get_or x i d).1
key_in-drop n [] i d lt same = absurd (omega arith)
key_in-drop n (e ∷ x) zero d lt same = grind (arith, common_steps, eq_by_cmp-nexus n e.0)
key_in-drop n (e ∷ x) (suc i) d lt same = key_in-drop n x i d (omega arith) same
