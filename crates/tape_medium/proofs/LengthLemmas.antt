use Rattle.std.proofs.Common.{◌≡◌, ℕ, ◌+◌, ◌*◌, ◌≤◌, zero, suc, List, ◌++◌, length, take, drop, length-drop, arith}
use Rattle.std.proofs.lemmas.List.{length-take-le}
use Rattle.std.proofs.lemmas.List.Elements.{All-nil, All-cons, All-take, All-append}
use Rattle.tape_medium.specs.Limits.{block_limit}
use Rattle.tape_medium.specs.Object.{Object, Block}
use Rattle.tape_medium.specs.Tape.{blocks}
use Rattle.tape_medium.specs.Kept.{HasLength, HaveLengths}

-- what is put at the position keeps the lengths of blocks
pub HaveLengths-put : (os more : List Object) (at : ℕ) → HaveLengths os → HaveLengths more → HaveLengths (take at os ++ more)
HaveLengths-put os more at old new = All-append HasLength (take at os) more (All-take HasLength at os old) new

pub HaveLengths-blocks : (size count : ℕ) (bytes : List ℕ) → 1 ≤ size → size ≤ block_limit → count * size ≤ length bytes → HaveLengths (blocks size count bytes)
HaveLengths-blocks size zero bytes some short le = All-nil HasLength
HaveLengths-blocks size (suc count) bytes some short le =
    let more : suc count * size ≡ size + count * size = grind arith in
    let first : length (take size bytes) ≡ size = length-take-le size bytes (omega arith) in
    All-cons HasLength (Block (take size bytes)) (blocks size count (drop size bytes)) (omega arith, omega arith)
    (HaveLengths-blocks size count (drop size bytes) some short (omega (arith, length-drop size bytes)))
