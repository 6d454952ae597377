use Rattle.std.proofs.Common.{rules}
use Rattle.iscsi_chap.proofs.response.is_response.Goals as goal

pub returns : goal.returns
returns c = search rules
