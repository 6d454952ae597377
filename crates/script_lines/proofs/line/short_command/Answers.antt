use Rattle.std.proofs.Common.{◌-◌, take, drop, length, sym, ap, arith}
use Rattle.std.proofs.lemmas.List.{take_all, drop_more, length-drop}
use Rattle.script_lines.proofs.ShortLines.{short_line}
use Rattle.script_lines.proofs.line.short_command.Goals as goal

pub returns : goal.returns
returns c profile =
    let line = c.args.line.now in
    short_line line _ _ profile c.in-Ok.nexus c.in-Ok-unit_of.lun c.in-Ok-cdb_of.cdb.items (omega arith) (omega arith) (omega arith)
    (ap (take 1) (drop_more line 19 0 (omega arith))) (take_all (length line - 21) (drop 21 line) (omega (arith, length-drop 21 line)))
    (sym c.in-Ok.ensures) (sym c.in-Ok-unit_of.ensures) c.in-Ok-cdb_of.ensures
