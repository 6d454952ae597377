use Rattle.mode_pages.proofs.Sent.{descriptor, each_page, all_pages, nothing}
use Rattle.mode_pages.proofs.laws.shown_is_selected.Goals as goal

pub returns : goal.returns
returns c = record { page = each_page; all = all_pages; descriptor = descriptor; unchanged = nothing }
