use Rattle.std.proofs.Common.{◌≡◌, ◌≤◌, ◌+◌, ℕ, List, [], length, drop, inl, inr, refl, ap, subst, ◌∙◌, arith, rules}
use Rattle.std.specs.Prelude.{slice_range, string_bytes}
use Rattle.std.proofs.lemmas.List.{drop_all, take_rest}
use Rattle.output_lines.specs.LeftLines.{WritesSome}
use Rattle.output_lines.proofs.Written.{appends_none, appends_kept, goes_on}
use Rattle.output_lines.proofs.left_lines.Lines.write_left.Goals as goal

rest_is : (text bytes rest : List ℕ) (from : ℕ) → rest ≡ slice_range bytes from (length bytes) → bytes ≡ text → rest ≡ drop from text
rest_is text bytes rest from here same = here ∙ take_rest bytes from ∙ ap (drop from) same

pub returns-in_default-clause-left : goal.returns-in_default-clause-left
returns-in_default-clause-left g c = record { said = []; appended = appends_none (g.W.Write.contents c.args.writer.now); rest = refl }

pub returns-in_default-clause-all : goal.returns-in_default-clause-all
returns-in_default-clause-all g c = λ _.
    let text = string_bytes c.args.self.now.text in
    let size = ap length c.as_bytes-bytes.ensures.value in
    let past : length text ≤ c.args.self.now.written =
    elim c.in_default.ensures.lookup.0 [ inl below ↦ omega (arith, below, size) | inr below ↦ absurd (omega (arith, below)) ] in
    drop_all c.args.self.now.written text past

pub returns-then-is_all-clause-all : goal.returns-then-is_all-clause-all
returns-then-is_all-clause-all g c = λ _.
    drop_all (c.args.self.now.written + c.write_some-count.result) (string_bytes c.args.self.now.text)
    (omega (arith, c.in-Some.ensures.lookup.0.3, c.if-is_all.true, ap length c.as_bytes-bytes.ensures.value))

pub returns-then-is_all-clause-left : goal.returns-then-is_all-clause-left
returns-then-is_all-clause-left g c =
    let old = g.W.Write.contents c.args.writer.now in
    let new = g.W.Write.contents c.write_some-count.new.writer in
    let from = c.args.self.now.written in
    let text = string_bytes c.args.self.now.text in
    let rest = rest_is text c.as_bytes-bytes.result.now c.in-Some.rest.now from c.in-Some.ensures.lookup.0.2 c.as_bytes-bytes.ensures.value in
    let on = goes_on old new text from c.write_some-count.result (subst (λ (bytes : List ℕ). WritesSome old new bytes c.write_some-count.result) rest c.write_some-count.ensures.written) in
    record { said = on.said; appended = appends_kept old new (g.W.Write.contents c.flush.new.self) on.said on.appended c.flush.ensures.bytes; rest = on.rest }

pub returns-else-is_all-clause-all : goal.returns-else-is_all-clause-all
returns-else-is_all-clause-all g c = search rules fits 100

pub returns-else-is_all-clause-left : goal.returns-else-is_all-clause-left
returns-else-is_all-clause-left g c =
    let old = g.W.Write.contents c.args.writer.now in
    let new = g.W.Write.contents c.write_some-count.new.writer in
    let from = c.args.self.now.written in
    let text = string_bytes c.args.self.now.text in
    let rest = rest_is text c.as_bytes-bytes.result.now c.in-Some.rest.now from c.in-Some.ensures.lookup.0.2 c.as_bytes-bytes.ensures.value in
    goes_on old new text from c.write_some-count.result (subst (λ (bytes : List ℕ). WritesSome old new bytes c.write_some-count.result) rest c.write_some-count.ensures.written)
