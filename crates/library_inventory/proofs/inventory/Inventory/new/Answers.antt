use Rattle.std.proofs.Common.{List, [], sym, subst}
use Rattle.library_inventory.specs.declared.placed.PlacedVolume.{PlacedVolume}
use Rattle.library_inventory.specs.Kept.{AreKept, no_volume}
use Rattle.library_inventory.proofs.inventory.Inventory.new.Goals as goal

pub invariant_of-result : goal.invariant_of-result
invariant_of-result c =
    subst (λ (volumes : List PlacedVolume). AreKept c.args.size volumes c.new-2.result.items) (sym c.new.ensures.items)
    (subst (λ (missing : List PlacedVolume). AreKept c.args.size [] missing) (sym c.new-2.ensures.items) no_volume)
