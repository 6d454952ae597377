use Rattle.std.proofs.Common.{◌≡◌, Some, false, is_some, option_map}
use Rattle.tape_medium.specs.Elements.{element_at, held_in}
use Rattle.element_map.proofs.MoveLemmas.{put_after, moved_over}
use Rattle.element_map.proofs.elements.Elements.move_volume.Goals as goal

pub unreachable-requires : goal.unreachable-requires
unreachable-requires c =
    let second = c.in-Some-true-Some-false.ensures' in
    let empty : option_map is_some (held_in c.args.self.now (element_at c.args.self.now c.args.destination)) ≡ Some false = cc in
    let after = put_after c.args.self.now c.take.new.self c.args.source c.args.destination c.in_ok-volume.volume c.in_ok-volume.ensures.ok empty in
    let fault = c.in-Err.ensures.fault in
    cc

pub returns-clause-ok : goal.returns-clause-ok
returns-clause-ok c =
    let second = c.in-Some-true-Some-false.ensures' in
    let empty : option_map is_some (held_in c.args.self.now (element_at c.args.self.now c.args.destination)) ≡ Some false = cc in
    moved_over c.args.self.now c.take.new.self c.put.new.self c.args.source c.args.destination c.in_ok-volume.volume c.in_ok-volume.ensures.ok empty c.in-Ok.ensures.ok
