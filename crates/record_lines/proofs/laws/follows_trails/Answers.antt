use Rattle.record_lines.proofs.Following.{follows_trails}
use Rattle.record_lines.proofs.laws.follows_trails.Goals as goal

pub returns : goal.returns
returns c = follows_trails
