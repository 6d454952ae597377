use Rattle.std.proofs.Common.{◌≡◌, ◌-◌, ◌++◌, false, length, map}
use Rattle.iscsi_answers.specs.Repeats.{first_keys, has_twice}
use Rattle.iscsi_answers.proofs.repeats.is_overdone.Given as goal

-- the keys so far, none of them twice, and those that are left
abbrev pub invariant-items : goal.invariant-items
invariant-items l =
    (map (λ k. k.now) l.keys.items ++ first_keys (65 - l.counter) l.left ≡ first_keys 65 l.text)
    × (has_twice (map (λ k. k.now) l.keys.items) ≡ false) × (length l.keys.items ≡ l.counter)
