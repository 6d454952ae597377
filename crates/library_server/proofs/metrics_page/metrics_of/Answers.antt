use Rattle.library_server.proofs.metrics_page.metrics_of.Goals as goal

pub returns : goal.returns
returns g c = record {
  counts = c.deref.result.now;
  library = c.in_ok-summary.summary;
  server = c.in_ok-server.server;
  server_counts = c.counts_of_server-server_counts.result;
  profile = c.in_ok-summary.ensures.profile;
  shown = c.in_ok-summary.ensures.units;
  lines = c.in_ok-text.ensures;
}
