use Rattle.std.proofs.Common.{◌≤◌, ◌-◌, ◌∙◌, ap, sym, take, drop, List, ℕ, length, subst, arith}
use Rattle.read_buffer.proofs.Buffers.{passed}
use Rattle.read_buffer.proofs.ReadBuffer.consume.Goals as goal

pub returns : goal.returns
returns g c =
    let i = c.self.invariant in
    let b = c.self.inside.bytes.items in
    let e = c.self.inside.end in
    let s = c.self.inside.start in
    let within : e ≤ length b = omega (arith, i.1, i.2) in
    let short : c.args.count ≤ length (take (e - s) (drop s b)) = subst (λ (xs : List ℕ). c.args.count ≤ length xs) (sym c.self.view_is) c.requires in
    passed b s e c.args.count short i.0 within ∙ ap (λ (xs : List ℕ). drop c.args.count xs) c.self.view_is
