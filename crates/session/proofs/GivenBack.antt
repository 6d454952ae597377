-- Seats that are given back by those who had them, in their order.
use Rattle.std.proofs.Common.{◌≡◌, ◌∙◌, ◌+◌, ◌≤◌, ◌<◌, ℕ, sym, ap, arith, List, [], ◌∷◌, ◌++◌, length, map, append_assoc}
use Rattle.std.proofs.lemmas.List.{map-append, length-append, length-map}

-- of one more its seat is back
pub back_more : {W A : Type 0} (seat : W → A) (there seats seats' : List A) (workers : List W) (w : W) (s : A)
    → seats ≡ there ++ map seat workers → s ≡ seat w → seats' ≡ seats ++ s ∷ []
    → seats' ≡ there ++ map seat (workers ++ w ∷ [])
back_more {W} {A} seat there seats seats' workers w s before is pushed =
    pushed
    ∙ ap (λ (x : A). seats ++ x ∷ []) is
    ∙ ap (λ (xs : List A). xs ++ seat w ∷ []) before
    ∙ append_assoc there (map seat workers) (seat w ∷ [])
    ∙ ap (λ (xs : List A). there ++ xs) (sym (map-append seat workers (w ∷ [])))

-- as long as one is left there is room for its seat
pub room_for_one : {W A : Type 0} (seat : W → A) (there seats : List A) (given workers : List W) (room : ℕ)
    → seats ≡ there ++ map seat given → length there + length workers ≤ room → length given < length workers
    → length seats < room
room_for_one {A} seat there seats given workers room is most more =
    let size : length seats ≡ length there + length given =
    ap (λ (xs : List A). length xs) is
    ∙ length-append there (map seat given)
    ∙ ap (λ (n : ℕ). length there + n) (length-map given seat) in omega (arith, size, most, more)
