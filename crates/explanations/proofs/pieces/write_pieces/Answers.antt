use Rattle.std.proofs.Common.{length, ◌/◌, append_assoc, arith}
use Rattle.explanations.specs.PieceWords.{piece_text}
use Rattle.explanations.proofs.PieceLemmas.{pieces-more, room-more}
use Rattle.explanations.proofs.pieces.write_pieces.Goals as goal

pub pieces-preserved : goal.pieces-preserved
pieces-preserved c =
    let count = length c.args.list.now / c.args.size in
    let more = pieces-more (piece_text c.args.kind) c.args.size count c.pieces.place c.pieces.rest.now c.pieces-test.true in
    let room = room-more c.args.size count c.pieces.place (length c.pieces.rest.now) c.pieces-test.true c.pieces.invariant.room in
    record {
      said = rw (c.in_ok-write_piece.ensures, c.split_at.ensures.front, c.split_at.ensures.back, append_assoc) (rw more at c.pieces.invariant.said);
      room = omega (arith, room.1, c.split_at.ensures.back_len);
    }
