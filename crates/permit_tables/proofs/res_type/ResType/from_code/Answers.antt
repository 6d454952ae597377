use Rattle.std.proofs.Common.{rules}
use Rattle.permit_tables.proofs.res_type.ResType.from_code.Goals as goal

pub returns-in-1 : goal.returns-in-1
returns-in-1 c = search rules
