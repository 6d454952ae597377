use Rattle.std.proofs.Common.{◌≡◌, ◌-◌, suc, length, vec_len, arith, refl}
use Rattle.script_lines.proofs.Pieces.{last_more}
use Rattle.script_lines.proofs.events.Events.push.Goals as goal

pub returns : goal.returns
returns c =
    let pieces = c.self.inside.pieces in
    let last : length pieces.items ≡ suc (vec_len pieces - 1) = omega (arith, pieces.ok.0, c.in-Some.ensures.variant.0 refl) in
    rw (← c.self.view_is) (last_more _ _ _ c.push_reserved.new.self _ last c.in-Some.ensures.value c.push_reserved.ensures.items)
