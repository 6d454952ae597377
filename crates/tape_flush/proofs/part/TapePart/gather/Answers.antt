use Rattle.std.proofs.Common.{◌≡◌, ◌-◌, [], drop, ap, sym, ◌∙◌, arith}
use Rattle.tape_image.specs.Images.{image_bytes}
use Rattle.tape_flush.specs.Images.{ends_from}
use Rattle.tape_flush.proofs.Pieces.{keepable_all, keepable-take, keepable-drop, last_from, last_from-nil, none_taken, gathered, next_end, next_ends}
use Rattle.tape_flush.proofs.part.TapePart.gather.Goals as goal

pub objects-init : goal.objects-init
objects-init c =
    let none = none_taken c.args.from (drop c.args.from c.args.tape.now.objects) in
    record {
      bytes = c.clear.ensures.items ∙ ap image_bytes (sym none);
      ends = c.clear-2.ensures.items ∙ ap (ends_from c.args.offset) (sym none);
      last = sym (last_from-nil c.args.offset) ∙ ap (last_from c.args.offset) (sym none);
    }

pub returns-then-saturating_sub-part_length-clause-part : goal.returns-then-saturating_sub-part_length-clause-part
returns-then-saturating_sub-part_length-clause-part c = record {
  keepable = keepable-take (c.objects.at - c.args.from) _ (keepable-drop c.args.from _ (keepable_all c.args.tape.now.objects c.object_count-end.ensures.lengths));
  bytes = c.objects.invariant.bytes;
  ends = c.objects.invariant.ends;
}

pub objects-preserved : goal.objects-preserved
objects-preserved c =
    let os = c.args.tape.now.objects in
    let last = next_end os c.args.from c.objects.at _ c.args.offset c.objects.last c.in_ok-last.last c.objects.auto.at c.object_at-object.ensures.value c.objects.invariant.last c.in_ok-last.ensures.end in
    record {
      bytes = gathered os c.args.from c.objects.at _ [] _ _ c.objects.auto.at c.object_at-object.ensures.value c.objects.invariant.bytes c.in_ok-last.ensures.bytes;
      ends = next_ends os c.args.from c.objects.at _ c.args.offset c.in_ok-last.last [] _ _ c.objects.auto.at c.object_at-object.ensures.value c.objects.invariant.ends c.in_ok-last.ensures.ends last;
      last = last;
    }

pub returns-clause-part : goal.returns-clause-part
returns-clause-part c =
    let here : c.objects.at ≡ c.object_count-end.result = omega arith in
    record {
      keepable = keepable-take (c.object_count-end.result - c.args.from) _ (keepable-drop c.args.from _ (keepable_all c.args.tape.now.objects c.object_count-end.ensures.lengths));
      bytes = rw (sym here) c.objects.invariant.bytes;
      ends = rw (sym here) c.objects.invariant.ends;
    }
