use Rattle.std.proofs.Common.{◌≡◌, ◌++◌, take}
use Rattle.std.specs.List.{flat_map}
use Rattle.iscsi_answers.specs.Texts.{address_item}
use Rattle.iscsi_answers.proofs.send_targets.write_addresses.Given as goal

abbrev pub invariant-loop-portal : goal.invariant-loop-portal
invariant-loop-portal l =
    l.out.items ≡ l.initial.out.items ++ flat_map (address_item l.portals.group l.portals.address.now) (take l.portal-index l.portal-items)
