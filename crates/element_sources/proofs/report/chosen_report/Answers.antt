use Rattle.std.proofs.Common.{sym, arith}
use Rattle.element_map.proofs.RunLemmas.{report_is}
use Rattle.element_sources.proofs.report.chosen_report.Goals as goal

pub returns-clause-report : goal.returns-clause-report
returns-clause-report c =
    let request = c.args.request.now in
    sym
    (report_is c.args.elements.now request.element_type_code request.starting_element_address request.number_of_elements
    (record { from = c.chosen_run-medium_transport.result.from; count = c.chosen_run-medium_transport.result.count })
    (record { from = c.chosen_run-data_transfer.result.from; count = c.chosen_run-data_transfer.result.count })
    (record { from = c.chosen_run-import_export.result.from; count = c.chosen_run-import_export.result.count })
    (record { from = c.chosen_run-storage.result.from; count = c.chosen_run-storage.result.count })
    (record { from = c.chosen_run-medium_transport.ensures.from; count = c.chosen_run-medium_transport.ensures.count; inside = c.chosen_run-medium_transport.ensures.inside })
    (record { from = c.chosen_run-data_transfer.ensures.from; count = c.chosen_run-data_transfer.ensures.count; inside = c.chosen_run-data_transfer.ensures.inside })
    (record { from = c.chosen_run-import_export.ensures.from; count = c.chosen_run-import_export.ensures.count; inside = c.chosen_run-import_export.ensures.inside })
    (record { from = c.chosen_run-storage.ensures.from; count = c.chosen_run-storage.ensures.count; inside = c.chosen_run-storage.ensures.inside }))

pub returns-clause-inside : goal.returns-clause-inside
returns-clause-inside c = record {
  limits = record { drives = c.chosen_run-data_transfer.ensures.limit; import_exports = c.chosen_run-import_export.ensures.limit; slots = c.chosen_run-storage.ensures.limit };
  medium_transport = c.chosen_run-medium_transport.ensures.inside;
  data_transfer = c.chosen_run-data_transfer.ensures.inside;
  import_export = c.chosen_run-import_export.ensures.inside;
  storage = c.chosen_run-storage.ensures.inside;
}

pub returns-clause-few : goal.returns-clause-few
returns-clause-few c = record {
  medium_transport = omega (arith, c.chosen_run-medium_transport.ensures.within);
  data_transfer = omega (arith, c.chosen_run-data_transfer.ensures.within, c.chosen_run-data_transfer.ensures.limit);
  import_export = omega (arith, c.chosen_run-import_export.ensures.within, c.chosen_run-import_export.ensures.limit);
  storage = omega (arith, c.chosen_run-storage.ensures.within, c.chosen_run-storage.ensures.limit);
}
