use Rattle.std.proofs.Common.{◌∙◌, ap, refl, arith}
use Rattle.unit_attention.specs.declared.kind.Kind.TheVariants.{BusDeviceReset}
use Rattle.unit_attention.specs.Queues.{was_reset}
use Rattle.unit_attention.proofs.SlotLemmas.{set_next, after_all_in, sorted_as, sorted-map}
use Rattle.unit_attention.proofs.queues.Queues.reset.Goals as goal

pub loop-pending-init : goal.loop-pending-init
loop-pending-init c = refl

pub loop-pending-preserved : goal.loop-pending-preserved
loop-pending-preserved c =
    set_next BusDeviceReset c.as_mut_slice-pending-items.result.now c.loop-pending.pending-items c.loop-pending.pending-index c.loop-pending-item.result c.raise.new.self (omega arith) c.loop-pending.invariant c.raise.ensures

pub returns : goal.returns
returns c =
    after_all_in BusDeviceReset c.self.inside.slots.items c.as_mut_slice-pending-items.result.now c.loop-pending.pending-items c.loop-pending.pending-index (omega arith) c.as_mut_slice-pending-items.ensures.value c.loop-pending.invariant
    ∙ ap was_reset c.self.view_is

pub invariant_of-self : goal.invariant_of-self
invariant_of-self c =
    sorted_as _ _
    (after_all_in BusDeviceReset c.self.inside.slots.items c.as_mut_slice-pending-items.result.now c.loop-pending.pending-items c.loop-pending.pending-index (omega arith) c.as_mut_slice-pending-items.ensures.value c.loop-pending.invariant)
    (sorted-map BusDeviceReset c.self.inside.slots.items c.self.invariant)
