use Rattle.std.proofs.Common.{List, sym, subst}
use Rattle.library_inventory.specs.declared.placed.PlacedVolume.{PlacedVolume}
use Rattle.library_inventory.specs.Kept.{AreKept, IsMissable, one_missing}
use Rattle.library_inventory.proofs.inventory.Inventory.add_missing.Goals as goal

pub invariant_of-self-2 : goal.invariant_of-self-2
invariant_of-self-2 c =
    let size = c.self.inside.size in
    let volumes = c.self.inside.volumes.items in
    let missing = c.self.inside.missing.items in
    subst (λ (ms : List PlacedVolume). AreKept size volumes ms) (sym c.in_ok-push.ensures.items)
    (one_missing volumes missing c.args.volume c.self.invariant
    (subst (λ (ms : List PlacedVolume). IsMissable size volumes ms c.args.volume) c.deref-2.ensures.value
    (subst (λ (vs : List PlacedVolume). IsMissable size vs c.deref-2.result.now c.args.volume) c.deref.ensures.value c.in_ok-look_missing.ensures.ok)))
