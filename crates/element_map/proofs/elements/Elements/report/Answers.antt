use Rattle.std.proofs.Common.{sym}
use Rattle.element_map.proofs.RunLemmas.{report_is}
use Rattle.element_map.proofs.elements.Elements.report.Goals as goal

pub returns-clause-report : goal.returns-clause-report
returns-clause-report c =
    sym
    (report_is c.args.self.now c.args.type_code c.args.start c.args.count c.run-medium_transport.result c.run-data_transfer.result c.run-import_export.result c.run-storage.result
    (record { from = c.run-medium_transport.ensures.from; count = c.run-medium_transport.ensures.count; inside = c.run-medium_transport.ensures.inside })
    (record { from = c.run-data_transfer.ensures.from; count = c.run-data_transfer.ensures.count; inside = c.run-data_transfer.ensures.inside })
    (record { from = c.run-import_export.ensures.from; count = c.run-import_export.ensures.count; inside = c.run-import_export.ensures.inside })
    (record { from = c.run-storage.ensures.from; count = c.run-storage.ensures.count; inside = c.run-storage.ensures.inside }))
