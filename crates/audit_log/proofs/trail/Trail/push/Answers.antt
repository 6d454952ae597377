use Rattle.std.proofs.Common.{arith, ◌≡◌, ◌+◌, [], ◌∷◌, ◌++◌, length, length-append}
use Rattle.std.proofs.lemmas.Grind.{common_steps}
use Rattle.audit_log.proofs.Numbers.{IsNumbered-push}
use Rattle.audit_log.proofs.trail.Trail.push.Goals as goal

pub invariant_of-self : goal.invariant_of-self
invariant_of-self c =
    let items : c.push_reserved.new.self.items ≡ c.self.inside.records.items ++ c.args.entry ∷ [] = grind (arith, common_steps) in
    let number : c.args.entry.number ≡ c.self.inside.base + length c.self.inside.records.items + 1 = grind (arith, common_steps) in
    rw items (omega (arith, length-append c.self.inside.records.items (c.args.entry ∷ [])), IsNumbered-push _ _ _ c.self.invariant.1 number)
