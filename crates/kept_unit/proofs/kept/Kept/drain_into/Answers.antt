use Rattle.std.proofs.Common.{rules}
use Rattle.kept_unit.proofs.kept.Kept.drain_into.Goals as goal

pub returns-clause-records : goal.returns-clause-records
returns-clause-records g c = search rules fits 100

pub returns-clause-trail : goal.returns-clause-trail
returns-clause-trail g c = search rules fits 100

pub returns-clause-unit : goal.returns-clause-unit
returns-clause-unit g c = search rules fits 100
