use Rattle.std.proofs.Common.{◌≡◌, ◌-◌, ◌*◌, ◌≤◌, ◌++◌, length}
use Rattle.explanations.specs.Pieces.{pieces}
use Rattle.explanations.specs.PieceWords.{piece_text}
use Rattle.explanations.proofs.pieces.write_pieces.Given as goal

-- what is written, and what the pieces that are left say; and that they are there
abbrev pub invariant-pieces : goal.invariant-pieces
invariant-pieces l = record {
  said : l.line.items ++ pieces (piece_text l.kind) l.size (l.place-end - l.place) l.rest
      ≡ l.initial.line.items ++ pieces (piece_text l.kind) l.size l.place-end l.initial.rest;
  room : l.size * (l.place-end - l.place) ≤ length l.rest;
}
