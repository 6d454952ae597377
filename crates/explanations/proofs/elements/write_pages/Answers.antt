use Rattle.std.proofs.Common.{◌/◌, length, append_assoc}
use Rattle.explanations.proofs.PieceLemmas.{pages-more}
use Rattle.explanations.proofs.elements.write_pages.Goals as goal

pub pages-preserved : goal.pages-preserved
pages-preserved c =
    let more = pages-more (length c.args.list.now / 8) c.pages.place c.pages.rest.now c.pages-test.true in
    rw (c.in_ok-write_page.ensures, c.behind-rest.ensures, c.u24_at-length.ensures.value, append_assoc) (rw more at c.pages.invariant)
