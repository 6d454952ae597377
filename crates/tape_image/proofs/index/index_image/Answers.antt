use Rattle.std.proofs.Common.{◌≡◌, ◌≤◌, ◌<◌, ◌+◌, ◌^◌, ◌++◌, ◌∙◌, ℕ, map, ap, sym, arith}
use Rattle.tape_image.specs.Indexes.{indexed}
use Rattle.tape_image.specs.Parts.{PartValue, image_part}
use Rattle.tape_image.specs.Views.{part_value}
use Rattle.tape_image.specs.Walking.{ReaderValue, part_objects, part_count}
use Rattle.tape_image.proofs.Indexes.{begun, stepped, finished, read_index, counts}
use Rattle.tape_image.proofs.index.index_image.Goals as goal

pub parts-init : goal.parts-init
parts-init g c = begun _ c.in_ok-image.image _ c.in_ok-image.ensures c.new-objects.ensures.items

pub returns-in-Some-clause-read : goal.returns-in-Some-clause-read
returns-in-Some-clause-read g c =
    read_index _ c.parts.image c.await_part.new.self _ _ _ _ c.parts.invariant c.await_part.ensures.read c.in-Some.ensures

pub returns-in-Some-clause-whole : goal.returns-in-Some-clause-whole
returns-in-Some-clause-whole g c =
    finished _ c.parts.image c.await_part.new.self _ _ _ _ c.parts.invariant c.await_part.ensures.read c.in_ok-await_part.ensures.ok c.in-Some.ensures

pub parts-smaller : goal.parts-smaller
parts-smaller g c =
    let r = c.await_part.new.self in
    let kept : r.offset ≡ c.parts.image.offset = ap (λ (v : ReaderValue). v.offset) c.await_part.ensures.read.1 in
    let on : c.pass.new.self.offset ≡ r.offset + part_count (image_part r.pending) = ap (λ (v : ReaderValue). v.offset) c.in_ok-pass.ensures.ok in
    let some : 4 ≤ part_count (image_part r.pending) = counts r (sym c.in_default.ensures) in
    let here : c.image.inside.offset ≡ r.offset = ap (λ (v : ReaderValue). v.offset) c.image.view_is in
    let below : c.image.inside.offset < 2 ^ 64 = c.image.ranges.1.0.1 in
    omega (arith, kept, on, some, here, below)

pub parts-preserved : goal.parts-preserved
parts-preserved g c =
    let r = c.await_part.new.self in
    let grown = c.in_ok-add_part.ensures
    ∙ ap (λ (o : ℕ). c.parts.objects.items ++ map indexed (part_objects o (part_value c.part-in-parts.result))) c.offset-offset.ensures
    ∙ ap (λ (p : PartValue). c.parts.objects.items ++ map indexed (part_objects r.offset p)) c.part-in-parts.ensures in
    stepped _ c.parts.image r c.pass.new.self _ _ _ _ c.parts.invariant c.await_part.ensures.read c.in_ok-pass.ensures.ok grown
