use Rattle.std.proofs.Common.{◌≡◌, drop}
use Rattle.permit_tables.specs.Pairs.{key_in}
use Rattle.pr_params.proofs.status_data.key_of.Given as goal

-- none of the registrations so far is the nexus's
abbrev pub invariant-loop-registered : goal.invariant-loop-registered
invariant-loop-registered l = key_in l.pairs l.nexus ≡ key_in (drop l.registered-index l.pairs) l.nexus
