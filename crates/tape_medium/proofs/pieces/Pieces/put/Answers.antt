use Rattle.std.proofs.lemmas.Grind.{common_steps}
use Rattle.std.proofs.Common.{arith}
use Rattle.tape_medium.proofs.PieceLemmas.{put-into-last, put-into-new, put-into-next}
use Rattle.tape_medium.proofs.pieces.Pieces.put.Goals as goal

pub invariant_of-self : goal.invariant_of-self
invariant_of-self c =
    let so = put-into-last _ _ _ _ c.args.home c.args.end c.args.more.now c.self.view_is c.self.invariant.1 c.if-home-self.true (omega (arith, c.self.invariant.0, c.self.inside.pieces.ok.0)) c.put_into.ensures.items c.requires.home in
    (omega (arith, c.self.invariant.0, c.put_into.ensures.len), so.0)

pub returns-then-has_room-clause-ok : goal.returns-then-has_room-clause-ok
returns-then-has_room-clause-ok c =
    (put-into-last _ _ _ _ c.args.home c.args.end c.args.more.now c.self.view_is c.self.invariant.1 c.if-home-self.true (omega (arith, c.self.invariant.0, c.self.inside.pieces.ok.0)) c.put_into.ensures.items c.requires.home).1

pub invariant_of-self-then-home-self-2 : goal.invariant_of-self-then-home-self-2
invariant_of-self-then-home-self-2 c =
    let so = put-into-new _ _ _ _ c.args.home c.args.end c.args.more.now c.self.view_is c.self.invariant.1 c.if-home-self-2.true (omega (arith, c.self.invariant.0, c.self.inside.pieces.ok.0)) c.in_ok-begin_at.ensures.ok c.requires.home in
    (omega (arith, c.in_ok-begin_at.ensures.within), so.0)

pub returns-then-home-self-2-clause-ok : goal.returns-then-home-self-2-clause-ok
returns-then-home-self-2-clause-ok c =
    (put-into-new _ _ _ _ c.args.home c.args.end c.args.more.now c.self.view_is c.self.invariant.1 c.if-home-self-2.true (omega (arith, c.self.invariant.0, c.self.inside.pieces.ok.0)) c.in_ok-begin_at.ensures.ok c.requires.home).1

pub invariant_of-self-2 : goal.invariant_of-self-2
invariant_of-self-2 c =
    let so = put-into-next _ _ _ _ _ c.args.home c.args.end c.args.more.now c.self.view_is c.self.invariant.1 c.if-home-self-2.false (omega (arith, c.self.invariant.0, c.self.inside.pieces.ok.0)) c.in_ok-begin_at-2.ensures.ok c.cut_at.ensures.items c.requires.home in
    (omega (arith, c.in_ok-begin_at-2.ensures.within, c.cut_at.ensures.len), so.0)

pub returns-clause-ok : goal.returns-clause-ok
returns-clause-ok c =
    (put-into-next _ _ _ _ _ c.args.home c.args.end c.args.more.now c.self.view_is c.self.invariant.1 c.if-home-self-2.false (omega (arith, c.self.invariant.0, c.self.inside.pieces.ok.0)) c.in_ok-begin_at-2.ensures.ok c.cut_at.ensures.items c.requires.home).1

pub put_into-requires-clause-room : goal.put_into-requires-clause-room
put_into-requires-clause-room c = grind (arith, common_steps)
