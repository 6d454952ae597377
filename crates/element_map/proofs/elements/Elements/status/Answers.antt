use Rattle.std.proofs.Common.{◌≡◌, ◌+◌, length, arith}
use Rattle.tape_medium.specs.ElementStatus.{reported}
use Rattle.element_map.proofs.PageLemmas.{status-written}
use Rattle.element_map.proofs.elements.Elements.status.Goals as goal

pub returns-clause-status : goal.returns-clause-status
returns-clause-status c =
    let header = c.put_header.ensures in
    let one = c.put_page.ensures in
    let two = c.put_page-2.ensures in
    let three = c.put_page-3.ensures in
    let four = c.put_page-4.ensures in
    let long : length c.put_page-4.new.bytes.items ≡ 8 + c.length-length.result
    = omega (arith, c.put_page-4.new.bytes.ok.0, header.length, one.length, two.length, three.length, four.length, c.in_ok-bytes.ensures.len) in
    status-written c.args.self.now c.args.voltag c.report-report.result (reported c.args.self.now c.args.type_code c.args.start c.args.count) c.first_address.result c.number.result c.length-length.result
    c.in_ok-bytes.bytes.items c.put_header.new.bytes.items c.put_page.new.bytes.items c.put_page-2.new.bytes.items c.put_page-3.new.bytes.items c.put_page-4.new.bytes.items
    c.report-report.ensures.report c.report-report.ensures.inside c.first_address.ensures c.number.ensures
    c.in_ok-bytes.ensures.items header.items one.items two.items three.items four.items long

-- 8 bytes of header, and at most 54,372 of pages
pub returns-clause-short : goal.returns-clause-short
returns-clause-short c =
    let header = c.put_header.ensures in
    let one = c.put_page.ensures in
    let two = c.put_page-2.ensures in
    let three = c.put_page-3.ensures in
    let four = c.put_page-4.ensures in
    omega (arith, c.put_page-4.new.bytes.ok.0, header.length, one.length, two.length, three.length, four.length, c.in_ok-bytes.ensures.len, c.length-length.ensures.length, c.length-length.ensures.few)
