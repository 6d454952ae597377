use Rattle.std.proofs.Common.{◌≡◌, ◌-◌, ◌+◌, ◌++◌, ◌∙◌, ap, take, drop, List, ℕ}
use Rattle.std.proofs.lemmas.List.{with_items_is}
use Rattle.read_buffer.proofs.Buffers.{at_front}
use Rattle.read_buffer.proofs.ReadBuffer.fill.Goals as goal

pub returns-in-Ok-clause-ok : goal.returns-in-Ok-clause-ok
returns-in-Ok-clause-ok g c =
    let s = c.self.inside.start in
    let pending = c.self.inside.end - s in
    let got = c.in-Ok.ensures.ok in
    let back = with_items_is c.self.inside.bytes c.refill.new.buffer (c.in-Ok.ensures.len ∙ c.as_mut_slice.ensures.len) in
    let was : take pending (drop s c.as_mut_slice.result.now) ≡ c.args.self.now =
    ap (λ (xs : List ℕ). take pending (drop s xs)) c.as_mut_slice.ensures.value ∙ c.self.view_is in (
      got.0,
      at_front _ _ _ (pending + c.in-Ok.count) back (got.1 ∙ ap (λ (xs : List ℕ). xs ++ got.0) was),
      got.2,
      got.3,
    )

pub returns-in-Err-clause-err : goal.returns-in-Err-clause-err
returns-in-Err-clause-err g c =
    let s = c.self.inside.start in
    let pending = c.self.inside.end - s in
    let back = with_items_is c.self.inside.bytes c.refill.new.buffer (c.in-Err.ensures.len ∙ c.as_mut_slice.ensures.len) in
    let was : take pending (drop s c.as_mut_slice.result.now) ≡ c.args.self.now =
    ap (λ (xs : List ℕ). take pending (drop s xs)) c.as_mut_slice.ensures.value ∙ c.self.view_is in
    (at_front _ _ _ pending back (c.in-Err.ensures.err.0 ∙ was), c.in-Err.ensures.err.1)
