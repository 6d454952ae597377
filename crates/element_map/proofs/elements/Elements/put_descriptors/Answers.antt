use Rattle.std.proofs.Common.{◌≡◌, ◌+◌, ◌-◌, ◌*◌, ◌≤◌, ◌<◌, ◌++◌, length, vec_len, arith, ap, ◌∙◌}
use Rattle.tape_medium.specs.ElementStatus.{descriptor_length}
use Rattle.element_map.specs.Runs.{tags_of, in_run}
use Rattle.element_map.specs.Pages.{descriptors}
use Rattle.element_map.proofs.PageLemmas.{descriptors-more, times-more, room_for_one}
use Rattle.element_map.proofs.elements.Elements.put_descriptors.Goals as goal

pub loop-at-preserved : goal.loop-at-preserved
loop-at-preserved c =
    let from : c.args.run.from ≤ c.loop-at.at = omega arith in
    let inside : c.loop-at.at < length (tags_of c.args.self.now c.args.element_type) = omega arith in
    let wrote = c.put_descriptor.ensures in
    let so_far = c.loop-at.invariant in
    record {
      items = descriptors-more c.args.self.now c.args.element_type c.args.voltag c.args.run.from c.loop-at.at c.tag_at-tag.result _ _ _ from inside c.tag_at-tag.ensures so_far.items wrote.items;
      length = wrote.length ∙ ap (λ n. n + descriptor_length c.args.voltag) so_far.length ∙ times-more (vec_len c.args.bytes.now) c.args.run.from c.loop-at.at (descriptor_length c.args.voltag) from;
      capacity = omega arith;
    }

pub put_descriptor-requires-clause-room : goal.put_descriptor-requires-clause-room
put_descriptor-requires-clause-room c =
    let from : c.args.run.from ≤ c.loop-at.at = omega arith in
    let room = room_for_one (vec_len c.args.bytes.now) c.args.run.from c.loop-at.at c.args.run.count (descriptor_length c.args.voltag) from c.loop-at-test.true in
    omega (arith, room, c.loop-at.invariant.length, c.loop-at.invariant.capacity, c.requires.room)

pub returns-clause-items : goal.returns-clause-items
returns-clause-items c =
    let all : c.loop-at.at - c.args.run.from ≡ c.args.run.count = omega (arith, c.loop-at-test.false, c.loop-at.auto) in
    c.loop-at.invariant.items ∙ ap (λ n. c.args.bytes.now.items ++ descriptors c.args.voltag (in_run c.args.self.now c.args.element_type c.args.run.from n)) all

pub returns-clause-length : goal.returns-clause-length
returns-clause-length c =
    let all : c.loop-at.at - c.args.run.from ≡ c.args.run.count = omega (arith, c.loop-at-test.false, c.loop-at.auto) in
    c.loop-at.invariant.length ∙ ap (λ n. vec_len c.args.bytes.now + n * descriptor_length c.args.voltag) all
