-- What a read leaves of a buffer.
use Rattle.std.proofs.Common.{◌≡◌, ℕ, ◌+◌, ◌≤◌, List, ◌++◌, length, take, sym, ap, ◌∙◌}
use Rattle.std.proofs.lemmas.List.{length-take-le, take-append-le}
use Rattle.std.proofs.Math.Seq.{take-append-add, take-append_seam}

-- bytes read behind a place
pub behind : (b r post : List ℕ) (e n : ℕ) → e ≤ length b → n ≤ length r → take (e + n) (take e b ++ (r ++ post)) ≡ take e b ++ take n r
behind b r post e n within short =
    let front : length (take e b) ≡ e = length-take-le e b within in
    ap (λ (k : ℕ). take (k + n) (take e b ++ (r ++ post))) (sym front)
    ∙ take-append-add (take e b) (r ++ post) n
    ∙ ap (λ (xs : List ℕ). take e b ++ xs) (take-append-le n r post short)

pub before : (b t : List ℕ) (e : ℕ) → e ≤ length b → take e (take e b ++ t) ≡ take e b
before b t e within = ap (λ (k : ℕ). take k (take e b ++ t)) (sym (length-take-le e b within)) ∙ take-append_seam (take e b) t
