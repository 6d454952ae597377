use Rattle.mode_pages.proofs.Within.{stays_within}
use Rattle.mode_pages.proofs.laws.selected_stays_within.Goals as goal

pub returns : goal.returns
returns c = stays_within
