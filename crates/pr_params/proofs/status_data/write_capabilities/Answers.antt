use Rattle.std.proofs.Common.{rules}
use Rattle.pr_params.proofs.status_data.write_capabilities.Goals as goal

pub returns : goal.returns
returns c = search rules
