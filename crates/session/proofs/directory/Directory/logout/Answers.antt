use Rattle.std.proofs.Common.{rules}
use Rattle.session.proofs.directory.Directory.logout.Goals as goal

pub returns-clause-gone : goal.returns-clause-gone
returns-clause-gone c = search rules fits 100
