use Rattle.iscsi_login.proofs.Exchanged.{begun_where_told}
use Rattle.iscsi_login.proofs.laws.told_as_begun.Goals as goal

pub returns : goal.returns
returns c target e r payload f h = begun_where_told target e r payload f h
