use Rattle.mode_pages.specs.ChangerData.{pages_shown}
use Rattle.mode_pages.proofs.Shown.{grown_by_five, changer_pages_short}
use Rattle.mode_pages.proofs.changer_data.all_pages.Goals as goal

pub returns-clause-value : goal.returns-clause-value
unfolding pages_shown
returns-clause-value c = grown_by_five _ _ _ _ _ _ _ _ _ _ _ c.in_ok-extend_by_shown.ensures c.in_ok-extend_by_shown-2.ensures c.in_ok-extend_by_shown-3.ensures c.in_ok-extend_by_shown-4.ensures c.in_ok-extend_by_shown-5.ensures c.new-list.ensures.items

pub returns-clause-short : goal.returns-clause-short
returns-clause-short c = changer_pages_short _ _ _ (returns-clause-value c)
