use Rattle.std.proofs.Common.{rules}
use Rattle.lun_router.proofs.locking.put_under_lock_if_there.Goals as goal

pub put_under_lock-lock-requires : goal.put_under_lock-lock-requires
put_under_lock-lock-requires g c = (search rules, (c.requires.parts, (c.requires.blank, (c.requires.unit c.in-Some.unit c.in-Some.is, c.requires.since c.in-Some.unit c.in-Some.is))))
