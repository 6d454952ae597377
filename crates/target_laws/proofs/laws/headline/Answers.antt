use Rattle.target_laws.proofs.CommandInARun.{served}
use Rattle.target_laws.proofs.laws.headline.Goals as goal

pub returns : goal.returns
returns c = served
