use Rattle.record_lines.proofs.Sums.{add_up}
use Rattle.record_lines.proofs.laws.counts_add_up.Goals as goal

pub returns : goal.returns
returns c = add_up
