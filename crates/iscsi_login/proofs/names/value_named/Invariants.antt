use Rattle.std.proofs.Common.{◌≡◌, ◌+◌, ◌-◌, length}
use Rattle.iscsi_login.specs.Names.{declared_as, declared_within}
use Rattle.iscsi_login.proofs.names.value_named.Given as goal

-- what is left has the key where the text has it
abbrev pub invariant-items : goal.invariant-items
invariant-items l = declared_within (length l.text + 1 - l.counter) l.wanted l.left ≡ declared_as l.text l.wanted
