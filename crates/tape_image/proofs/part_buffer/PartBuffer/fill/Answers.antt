use Rattle.std.proofs.Common.{◌≡◌, ◌+◌, ◌++◌, ◌∙◌, ap, take, List, ℕ}
use Rattle.std.proofs.lemmas.List.{with_items_is}
use Rattle.tape_image.proofs.part_buffer.PartBuffer.fill.Goals as goal

pub returns-in-Ok-clause-ok : goal.returns-in-Ok-clause-ok
returns-in-Ok-clause-ok g c =
    let n = c.self.inside.filled in
    let got = c.in-Ok.ensures.ok in
    let back = with_items_is c.self.inside.bytes c.read_behind.new.buffer (c.in-Ok.ensures.len ∙ c.as_mut_slice.ensures.len) in
    let was : take n c.as_mut_slice.result.now ≡ c.args.self.now = ap (take n) c.as_mut_slice.ensures.value ∙ c.self.view_is in (
      got.0,
      ap (take (n + c.in-Ok.count)) back ∙ got.1 ∙ ap (λ (xs : List ℕ). xs ++ got.0) was,
      got.2,
      got.3,
    )

pub returns-in-Err-clause-err : goal.returns-in-Err-clause-err
returns-in-Err-clause-err g c =
    let n = c.self.inside.filled in
    let back = with_items_is c.self.inside.bytes c.read_behind.new.buffer (c.in-Err.ensures.len ∙ c.as_mut_slice.ensures.len) in
    let was : take n c.as_mut_slice.result.now ≡ c.args.self.now = ap (take n) c.as_mut_slice.ensures.value ∙ c.self.view_is in
    (ap (take n) back ∙ c.in-Err.ensures.err.0 ∙ was, c.in-Err.ensures.err.1)
