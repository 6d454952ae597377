use Rattle.std.proofs.Common.{rules}
use Rattle.session.proofs.directory.Directory.login.Goals as goal

pub returns-then-is_some-clause-already : goal.returns-then-is_some-clause-already
returns-then-is_some-clause-already c = search rules fits 100

pub returns-clause-already : goal.returns-clause-already
returns-clause-already c = search rules fits 100
