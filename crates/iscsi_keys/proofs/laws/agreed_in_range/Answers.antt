use Rattle.iscsi_keys.specs.Negotiations.{begun}
use Rattle.iscsi_keys.proofs.Ranges.{all_stay, defaults_in_range}
use Rattle.iscsi_keys.proofs.laws.agreed_in_range.Goals as goal

pub returns : goal.returns
returns c terms offers = all_stay (begun terms) offers defaults_in_range
