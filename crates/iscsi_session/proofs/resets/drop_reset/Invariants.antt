use Rattle.std.proofs.Common.{◌≡◌, ℕ, List, All}
use Rattle.iscsi_session.specs.Saying.{without_units}
use Rattle.iscsi_session.proofs.resets.drop_reset.Given as goal

-- the units that were told, and what is left without them
abbrev pub invariant-units : goal.invariant-units
invariant-units g l = (units : List ℕ) × All (g.G.SessionRegister.resets l.register) units × (l.tasks ≡ without_units l.fn.tasks units)
