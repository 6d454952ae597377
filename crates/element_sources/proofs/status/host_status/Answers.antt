use Rattle.std.proofs.Common.{◌≡◌, ◌+◌, length, arith}
use Rattle.tape_medium.specs.ElementStatus.{reported}
use Rattle.element_sources.specs.HostStatus.{host_form}
use Rattle.element_sources.proofs.Pages.{status-written}
use Rattle.element_sources.proofs.status.host_status.Goals as goal

pub returns-clause-status : goal.returns-clause-status
returns-clause-status c =
    let request = c.args.request.now in
    let header = c.in_ok-put_header.ensures in
    let one = c.in_ok-put_page.ensures in
    let two = c.in_ok-put_page-2.ensures in
    let three = c.in_ok-put_page-3.ensures in
    let four = c.in_ok-put_page-4.ensures in
    let long : length c.put_page-4.new.bytes.items ≡ 8 + c.length-length.result
    = omega (arith, c.put_page-4.new.bytes.ok.0, header.length, one.length, two.length, three.length, four.length, c.in_ok-bytes.ensures.len, c.length-length.ensures.length) in
    status-written c.args.elements.now (host_form c.args.sources.now c.args.library request.volume_tags request.device_identifiers) c.chosen_report-report.result
    (reported c.args.elements.now request.element_type_code request.starting_element_address request.number_of_elements) c.first_address.result c.number.result c.length-length.result
    c.in_ok-bytes.bytes.items c.put_header.new.bytes.items c.put_page.new.bytes.items c.put_page-2.new.bytes.items c.put_page-3.new.bytes.items c.put_page-4.new.bytes.items
    c.chosen_report-report.ensures.report c.chosen_report-report.ensures.inside c.first_address.ensures c.number.ensures
    c.in_ok-bytes.ensures.items header.items one.items two.items three.items four.items long
