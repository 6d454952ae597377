use Rattle.std.proofs.Common.{◌<◌, ◌++◌, append_assoc, ap, sym, ◌∙◌, arith}
use Rattle.std.proofs.lemmas.Result.{IfOk-equal}
use Rattle.std.specs.List.{flat_map}
use Rattle.element_map.specs.Runs.{code_of}
use Rattle.element_map.proofs.RunLemmas.{length-in_run}
use Rattle.element_sources.specs.HostStatus.{page_header, host_descriptor, host_descriptor_length, host_form}
use Rattle.element_sources.specs.Reports.{run_elements}
use Rattle.element_sources.proofs.Pages.{page_in-some}
use Rattle.element_sources.proofs.status.put_page.Goals as goal

pub returns-clause-items : goal.returns-clause-items
returns-clause-items c =
    let request = c.args.request.now in
    let element_type = c.args.page.element_type in
    let run = c.args.page.run in
    let code = code_of element_type in
    let old = c.args.bytes.now.items in
    let rs = run_elements c.args.elements.now element_type run in
    let form = host_form c.args.sources.now c.args.library request.volume_tags request.device_identifiers in
    let long = length-in_run c.args.elements.now element_type run.from run.count c.requires.inside in
    let some : 0 < run.count = omega (arith, c.if-run-eq0.false) in
    let header = page_header request.volume_tags code (host_descriptor_length request.volume_tags request.device_identifiers code) run.count in
    let all = flat_map (host_descriptor c.args.sources.now c.args.library request.volume_tags request.device_identifiers) rs in
    IfOk-equal c.put_descriptors.result _ _ _ c.put_descriptors.ensures.items
    (ap (λ bytes. bytes ++ all) c.in_ok-put_page_header.ensures.items
    ∙ append_assoc old header all
    ∙ ap (λ page. old ++ page) (sym (page_in-some form code run.count rs long some)))
