use Rattle.library_server.proofs.control.status_of.Goals as goal

pub returns : goal.returns
returns g c = record {
  library = c.in_ok-summary.summary;
  sessions = c.deref.result.now;
  server = c.in_ok-server.server;
  profile = c.in_ok-summary.ensures.profile;
  shown = c.in_ok-summary.ensures.units;
  lines = c.in_ok-text.ensures;
}
