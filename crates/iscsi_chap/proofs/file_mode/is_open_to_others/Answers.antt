use Rattle.std.proofs.Common.{rules}
use Rattle.iscsi_chap.proofs.file_mode.is_open_to_others.Goals as goal

pub returns : goal.returns
returns c = search rules
