use Rattle.mode_pages.proofs.Shown.{one_drive_page, one_drive_page_short}
use Rattle.mode_pages.proofs.drive_data.one_page.Goals as goal

pub returns-clause-value : goal.returns-clause-value
returns-clause-value c = one_drive_page _ _ _ _ _ c.new-list.ensures.items c.in_ok-extend_by_shown.ensures

pub returns-clause-short : goal.returns-clause-short
returns-clause-short c = one_drive_page_short _ _ _ _ _ c.new-list.ensures.items c.in_ok-extend_by_shown.ensures
