-- What is written piece by piece.
use Rattle.std.proofs.Common.{◌≡◌, ◌-◌, ◌+◌, ℕ, Option, Some, None, List, [], ◌++◌, length, length-append, take, drop, refl, sym, ap, subst, ◌∙◌, append_assoc, append-nil, arith}
use Rattle.std.specs.Io.KnownBytes.{Appends, Keeps}
use Rattle.std.proofs.lemmas.List.{take-append-drop, drop-drop}
use Rattle.std.proofs.lemmas.List.Prefix.{front_rest}
use Rattle.output_lines.specs.LeftLines.{WritesSome, GoesOn}

pub appends_none : (w : Option (List ℕ)) → Appends w w []
appends_none None = tt
appends_none (Some xs) = sym (append-nil xs)

pub appends_more : (a b c : Option (List ℕ)) (xs ys : List ℕ) → Appends a b xs → Appends b c ys → Appends a c (xs ++ ys)
appends_more None b c xs ys one two = tt
appends_more (Some us) None c xs ys one two = absurd one
appends_more (Some us) (Some vs) None xs ys one two = absurd two
appends_more (Some us) (Some vs) (Some ws) xs ys one two = two ∙ ap (λ (l : List ℕ). l ++ ys) one ∙ append_assoc us xs ys

pub appends_kept : (a b c : Option (List ℕ)) (xs : List ℕ) → Appends a b xs → Keeps b c → Appends a c xs
appends_kept None b c xs one two = tt
appends_kept (Some us) None c xs one two = absurd one
appends_kept (Some us) (Some vs) None xs one two = absurd two
appends_kept (Some us) (Some vs) (Some ws) xs one two = two ∙ one

-- what was written of bytes, and the rest
abbrev pub Wrote : (w w' : Option (List ℕ)) (bytes rest : List ℕ) → Type 0
Wrote w w' bytes rest = (said : List ℕ) × (bytes ≡ said ++ rest) × Appends w w' said

pub wrote_none : (w : Option (List ℕ)) (bytes : List ℕ) → Wrote w w bytes bytes
wrote_none w bytes = ([], refl, appends_none w)

pub wrote_more : (a b c : Option (List ℕ)) (bytes rest next : List ℕ) (n : ℕ) → next ≡ drop n rest → Wrote a b bytes rest → Appends b c (take n rest) → Wrote a c bytes next
wrote_more a b c bytes rest next n behind so here =
    let split : rest ≡ take n rest ++ next = subst (λ (l : List ℕ). rest ≡ take n rest ++ l) (sym behind) (sym (take-append-drop n rest)) in (
      so.0 ++ take n rest,
      so.1 ∙ ap (λ (l : List ℕ). so.0 ++ l) split ∙ sym (append_assoc so.0 (take n rest) next),
      appends_more a b c so.0 (take n rest) so.2 here,
    )

pub wrote_kept : (a b c : Option (List ℕ)) (bytes rest : List ℕ) → Wrote a b bytes rest → Keeps b c → Wrote a c bytes rest
wrote_kept a b c bytes rest so here = (so.0, so.1, appends_kept a b c so.0 so.2 here)

pub wrote_some : (a b : Option (List ℕ)) (bytes rest : List ℕ) (count : ℕ) → Wrote a b bytes rest → count ≡ length bytes - length rest → WritesSome a b bytes count
wrote_some a b bytes rest count so e =
    record {
      said = so.0;
      rest = rest;
      split = so.1;
      size = omega (arith, e, ap (λ (l : List ℕ). length l) so.1, length-append so.0 rest);
      appended = so.2;
    }

-- what was written of the rest behind the first bytes
pub goes_on : (a b : Option (List ℕ)) (bytes : List ℕ) (from count : ℕ) → WritesSome a b (drop from bytes) count → GoesOn a b (drop from bytes) (drop (from + count) bytes)
goes_on a b bytes from count so =
    let e : drop (from + count) bytes ≡ so.rest = sym (drop-drop count from bytes) ∙ subst (λ (n : ℕ). drop n (drop from bytes) ≡ so.rest) so.size (front_rest (drop from bytes) so.said so.rest so.split) in
    record { said = so.said; appended = so.appended; rest = subst (λ (l : List ℕ). drop from bytes ≡ so.said ++ l) (sym e) so.split }
