use Rattle.inquiry_data.proofs.Pages.{listed_pages_are_answered, lists_ascend}
use Rattle.inquiry_data.proofs.laws.listed_pages.Goals as goal

pub returns-clause-answered : goal.returns-clause-answered
returns-clause-answered c = listed_pages_are_answered

pub returns-clause-ascending : goal.returns-clause-ascending
returns-clause-ascending c = lists_ascend
