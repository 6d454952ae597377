-- What lies between two places of a buffer.
use Rattle.std.proofs.Common.{◌≡◌, ℕ, ◌+◌, ◌-◌, ◌≤◌, List, ◌++◌, length, take, drop, sym, ap, ◌∙◌, arith}
use Rattle.std.proofs.lemmas.List.{drop-take, drop-drop, length-take-le, length-drop, take-append-le}
use Rattle.std.proofs.Math.Seq.{take-append-add, take-append_seam}

-- bytes read behind a place
pub behind : (b r post : List ℕ) (e n : ℕ) → e ≤ length b → n ≤ length r → take (e + n) (take e b ++ (r ++ post)) ≡ take e b ++ take n r
behind b r post e n within short =
    let front : length (take e b) ≡ e = length-take-le e b within in
    ap (λ (k : ℕ). take (k + n) (take e b ++ (r ++ post))) (sym front)
    ∙ take-append-add (take e b) (r ++ post) n
    ∙ ap (λ (xs : List ℕ). take e b ++ xs) (take-append-le n r post short)

pub before : (b t : List ℕ) (e : ℕ) → e ≤ length b → take e (take e b ++ t) ≡ take e b
before b t e within = ap (λ (k : ℕ). take k (take e b ++ t)) (sym (length-take-le e b within)) ∙ take-append_seam (take e b) t

-- some of what is pending is passed
pub passed : (b : List ℕ) (s e n : ℕ) → n ≤ length (take (e - s) (drop s b)) → s ≤ e → e ≤ length b
    → take (e - (s + n)) (drop (s + n) b) ≡ drop n (take (e - s) (drop s b))
passed b s e n h le within =
    let size : length (take (e - s) (drop s b)) ≡ e - s = length-take-le (e - s) (drop s b) (omega (arith, length-drop s b)) in
    let is : e - s ≡ n + (e - (s + n)) = omega (arith, size, h, le) in
    sym (ap (λ (k : ℕ). drop n (take k (drop s b))) is ∙ drop-take n (e - (s + n)) (drop s b) ∙ ap (λ (xs : List ℕ). take (e - (s + n)) xs) (drop-drop n s b))

-- what is pending begins at the front
pub at_front : (xs ys is : List ℕ) (k : ℕ) → xs ≡ ys → take k ys ≡ is → take (k - 0) xs ≡ is
at_front xs ys is k same front =
    let whole : k - 0 ≡ k = omega arith in
    ap (λ (j : ℕ). take j xs) whole ∙ ap (λ (zs : List ℕ). take k zs) same ∙ front
