use Rattle.std.proofs.Common.{◌≤◌, arith}
use Rattle.element_sources.proofs.Sizes.{pages_at_most}
use Rattle.element_sources.proofs.report.Report.length.Goals as goal

pub returns-clause-few : goal.returns-clause-few
returns-clause-few c =
    let report = c.args.self in
    let transports : report.medium_transport.count ≤ 1 = omega (arith, c.requires.medium_transport) in
    let drives : report.data_transfer.count ≤ 4 = omega (arith, c.requires.data_transfer) in
    let portals : report.import_export.count ≤ 16 = omega (arith, c.requires.import_export) in
    let slots : report.storage.count ≤ 1024 = omega (arith, c.requires.storage) in
    pages_at_most c.args.request.now.volume_tags c.args.request.now.device_identifiers report.medium_transport.count report.data_transfer.count report.import_export.count report.storage.count
    c.page_length-transports.result c.page_length-drives.result c.page_length-portals.result c.page_length-slots.result
    transports drives portals slots
    c.page_length-transports.ensures c.page_length-drives.ensures c.page_length-portals.ensures c.page_length-slots.ensures
