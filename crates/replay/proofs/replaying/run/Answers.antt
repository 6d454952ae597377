use Rattle.std.proofs.Common.{◌≡◌, sym, ◌∙◌, ap, map-id, rules}
use Rattle.std.proofs.lemmas.Iterator.Consumers.{YieldsList-end}
use Rattle.std.proofs.lemmas.Iterator.Adapters.{YieldsList-from_vec}
use Rattle.script_lines.specs.Events.{joined}
use Rattle.replay.proofs.RunLemmas.{piece_more, printed}
use Rattle.replay.proofs.replaying.run.Goals as goal

pub loop-piece-preserved : goal.loop-piece-preserved
loop-piece-preserved g c =
    let ran = c.run_piece-written.ensures in
    piece_more c.loop-piece.yielded c.in-Some.piece _ ran.0 _ _ _ c.loop-piece.invariant c.deref.ensures.value ran.1 ran.2

pub returns : goal.returns
returns g c =
    let end = YieldsList-end (YieldsList-from_vec {s = c.into_iter-piece-iterator.result} c.into_pieces-piece-items.result.items (search rules) (search rules))
    c.loop-piece.yielded c.loop-piece.piece-iterator c.loop-piece.yielded_by c.next.result c.next.new.self c.in-None.is c.next.ensures.steps in
    let all : joined c.loop-piece.yielded ≡ c.args.events = ap joined (sym (map-id c.loop-piece.yielded) ∙ end.0) ∙ c.into_pieces-piece-items.ensures in
    printed (rw all at c.loop-piece.invariant)
