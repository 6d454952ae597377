use Rattle.std.proofs.Common.{◌≡◌, ◌≤◌, ◌<◌, ◌+◌, ◌^◌, ◌++◌, ◌∙◌, ℕ, length, map, ap, sym, arith}
use Rattle.tape_medium.specs.Tape.{settled}
use Rattle.tape_medium.specs.TapeView.{TapeView}
use Rattle.tape_image.specs.Indexes.{indexed}
use Rattle.tape_image.specs.Parts.{PartValue, image_part}
use Rattle.tape_image.specs.Views.{part_value}
use Rattle.tape_image.specs.Walking.{ReaderValue, part_objects, part_count}
use Rattle.tape_image.proofs.Indexes.{counts}
use Rattle.tape_flush.specs.Readings.{object_of, tape_with}
use Rattle.tape_flush.proofs.Readings.{begun, stepped, finished, read_from}
use Rattle.tape_flush.proofs.reading.read_tape.Goals as goal

pub parts-init : goal.parts-init
parts-init g c = begun _ c.in_ok-image.image _ _ _ c.in_ok-image.ensures c.within-tape.ensures c.new-objects.ensures.items

pub returns-in-Some-clause-read : goal.returns-in-Some-clause-read
returns-in-Some-clause-read g c =
    let n : ℕ = c.object_count.result in
    let count : n ≡ length c.parts.tape.objects = c.object_count.ensures.value ∙ ap (λ (t : TapeView). length t.objects) c.rewind.ensures in
    let back = c.settle.ensures ∙ ap (λ (t : TapeView). settled t n) c.rewind.ensures in
    read_from _ c.parts.image c.await_part.new.self _ _ _ n c.parts.tape _ _ _ c.parts.invariant c.await_part.ensures.read count back c.in-Some.ensures

pub returns-in-Some-clause-whole : goal.returns-in-Some-clause-whole
returns-in-Some-clause-whole g c =
    let n : ℕ = c.object_count.result in
    let count : n ≡ length c.parts.tape.objects = c.object_count.ensures.value ∙ ap (λ (t : TapeView). length t.objects) c.rewind.ensures in
    let back = c.settle.ensures ∙ ap (λ (t : TapeView). settled t n) c.rewind.ensures in
    finished _ c.parts.image c.await_part.new.self _ _ _ n c.parts.tape _ _ _ c.parts.invariant c.await_part.ensures.read count back
    c.in_ok-await_part.ensures.ok c.in-Some.ensures

pub parts-smaller : goal.parts-smaller
parts-smaller g c =
    let r = c.await_part.new.self in
    let kept : r.offset ≡ c.parts.image.offset = ap (λ (v : ReaderValue). v.offset) c.await_part.ensures.read.1 in
    let on : c.pass.new.self.offset ≡ r.offset + part_count (image_part r.pending) = ap (λ (v : ReaderValue). v.offset) c.in_ok-pass.ensures.ok in
    let some : 4 ≤ part_count (image_part r.pending) = counts r (sym c.in_default.ensures) in
    let here : c.image.inside.offset ≡ r.offset = ap (λ (v : ReaderValue). v.offset) c.image.view_is in
    let below : c.image.inside.offset < 2 ^ 64 = c.image.ranges.1.0.1 in
    omega (arith, kept, on, some, here, below)

pub parts-preserved : goal.parts-preserved
parts-preserved g c =
    let r = c.await_part.new.self in
    let put = c.in_ok-put_part.ensures
    ∙ ap (λ (p : PartValue). tape_with c.parts.tape.capacity (c.parts.tape.objects ++ object_of p)) c.part-part.ensures in
    let noted = c.in_ok-note_part.ensures
    ∙ ap (λ (o : ℕ). c.parts.objects.items ++ map indexed (part_objects o (part_value c.part-part.result))) c.offset-offset.ensures
    ∙ ap (λ (p : PartValue). c.parts.objects.items ++ map indexed (part_objects r.offset p)) c.part-part.ensures in
    stepped _ c.parts.image r c.pass.new.self _ _ _ c.parts.tape _ _ _ c.parts.invariant c.await_part.ensures.read c.in_ok-pass.ensures.ok put noted
