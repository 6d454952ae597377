use Rattle.std.proofs.Common.{◌≡◌, ℕ, Some, Contains}
use Rattle.slab.specs.Slab.{get}
use Rattle.session.proofs.directory.key_of.Given as goal

-- a key with the nexus is among the entries that are left, and every entry left with the nexus is the slab's
abbrev pub invariant-entries : goal.invariant-entries
invariant-entries l =
    (goal.iterator-entries).can_next l.key-iterator ×
    (goal.iterator-entries).is_finite l.key-iterator ×
    ((key : ℕ) → (get l.nexuses key ≡ Some l.nexus) → Contains l.key-iterator (key, l.nexus)) ×
    ((key : ℕ) → Contains l.key-iterator (key, l.nexus) → get l.nexuses key ≡ Some l.nexus)
