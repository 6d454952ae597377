use Rattle.std.proofs.lemmas.Result.{err_from_is_err_and}
use Rattle.mode_pages.proofs.Walk.{end_of, refused_at, goes_on}
use Rattle.mode_pages.proofs.select.with_pages.Goals as goal

pub loop-rest-preserved : goal.loop-rest-preserved
loop-rest-preserved c =
    goes_on _ _ _ _ _ _ _ _ c.loop-rest.invariant c.is_empty.ensures c.loop-rest-test.true c.in_ok-page.ensures.value c.page_size.ensures c.with_page-values.ensures

pub returns-in_err-page : goal.returns-in_err-page
returns-in_err-page c =
    let p = err_from_is_err_and c.from_residual.result c.from_residual.ensures.1 in
    rw (p.1, p.2) (refused_at _ _ _ _ _ _ c.loop-rest.invariant c.is_empty.ensures c.loop-rest-test.true c.in_err-page.ensures.value)

pub returns : goal.returns
returns c = end_of _ _ _ _ _ c.loop-rest.invariant c.is_empty.ensures c.loop-rest-test.false
