use Rattle.std.proofs.Common.{rules}
use Rattle.iscsi_chap.proofs.authentication.Authentication.is_free.Goals as goal

pub returns-in-Chap : goal.returns-in-Chap
returns-in-Chap c = search rules
