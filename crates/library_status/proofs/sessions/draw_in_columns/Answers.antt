use Rattle.std.proofs.Common.{◌≤◌, length, sym, arith}
use Rattle.std.proofs.lemmas.List.{length-take-le}
use Rattle.library_status.proofs.sessions.draw_in_columns.Goals as goal

pub slice_bounds-write_glyphs-length : goal.slice_bounds-write_glyphs-length
slice_bounds-write_glyphs-length c = let room : 69 ≤ length c.args.name.now = omega arith in sym (length-take-le 69 c.args.name.now room)
