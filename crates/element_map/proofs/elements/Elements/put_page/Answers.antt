use Rattle.std.proofs.Common.{◌++◌, append_assoc, ap, sym, ◌∙◌}
use Rattle.element_map.specs.Runs.{code_of, in_run}
use Rattle.element_map.specs.Pages.{page_header, descriptors}
use Rattle.element_map.proofs.RunLemmas.{length-in_run}
use Rattle.element_map.proofs.PageLemmas.{page_of-some}
use Rattle.element_map.proofs.elements.Elements.put_page.Goals as goal

pub returns-then-run-gt0-clause-items : goal.returns-then-run-gt0-clause-items
returns-then-run-gt0-clause-items c =
    let rs = in_run c.args.self.now c.args.element_type c.args.run.from c.args.run.count in
    let long = length-in_run c.args.self.now c.args.element_type c.args.run.from c.args.run.count c.requires.inside in
    c.put_descriptors.ensures.items
    ∙ ap (λ bytes. bytes ++ descriptors c.args.voltag rs) c.put_page_header.ensures.items
    ∙ append_assoc c.args.bytes.now.items (page_header c.args.voltag (code_of c.args.element_type) c.args.run.count) (descriptors c.args.voltag rs)
    ∙ ap (λ page. c.args.bytes.now.items ++ page) (sym (page_of-some c.args.voltag (code_of c.args.element_type) c.args.run.count rs long c.if-run-gt0.true))
