use Rattle.std.proofs.Common.{◌≡◌, drop}
use Rattle.record_lines.specs.Names.{name_by}
use Rattle.record_lines.proofs.names.name_by.Given as goal

-- none of those so far has this address
abbrev pub invariant-names : goal.invariant-names
invariant-names l = name_by (drop l.host-index l.names) l.fn.sas ≡ name_by l.names l.fn.sas
