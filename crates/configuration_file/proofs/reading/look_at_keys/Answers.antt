use Rattle.std.proofs.Common.{sym}
use Rattle.given_options.specs.declared.key.TheConstants.{SERVE_KEYS}
use Rattle.configuration_file.proofs.KeyLemmas.{all_known}
use Rattle.configuration_file.proofs.reading.look_at_keys.Goals as goal

pub returns-in-None : goal.returns-in-None
returns-in-None c = all_known SERVE_KEYS c.args.table.now.entries (sym c.in-None.ensures)
