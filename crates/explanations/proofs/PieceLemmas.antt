-- A list of pieces, one piece on.
use Rattle.std.proofs.Common.{◌≡◌, ℕ, suc, ◌+◌, ◌-◌, ◌*◌, ◌<◌, ◌≤◌, List, ◌++◌, take, drop, arith, mul-suc, refl}
use Rattle.scsi_cdb.specs.Bits.{three_bytes}
use Rattle.explanations.specs.ElementWords.{page_text, pages}
use Rattle.explanations.specs.Pieces.{pieces}

-- the pieces from a place on, the first of them first
pub pieces-more : (words : List ℕ → List ℕ) (size count place : ℕ) (rest : List ℕ) → place < count
    → pieces words size (count - place) rest ≡ words (take size rest) ++ pieces words size (count - (place + 1)) (drop size rest)
pieces-more words size count place rest h =
    let more : count - place ≡ suc (count - (place + 1)) = omega arith in
    rw more refl

-- where so many pieces are left, one is, and after it one fewer are
pub room-more : (size count place room : ℕ) → place < count → size * (count - place) ≤ room
    → (size ≤ room) × (size * (count - (place + 1)) ≤ room - size)
room-more size count place room h fits =
    let more : count - place ≡ suc (count - (place + 1)) = omega arith in
    let product : size * suc (count - (place + 1)) ≡ size * (count - (place + 1)) + size = mul-suc size (count - (place + 1)) in
    let left : size * suc (count - (place + 1)) ≤ room = rw more at fits in
    (omega arith, omega arith)

-- the pages from a place on, the first of them first
pub pages-more : (count place : ℕ) (rest : List ℕ) → place < count
    → pages (count - place) rest ≡ page_text rest ++ pages (count - (place + 1)) (drop (8 + three_bytes rest 5) rest)
pages-more count place rest h =
    let more : count - place ≡ suc (count - (place + 1)) = omega arith in
    rw more refl
