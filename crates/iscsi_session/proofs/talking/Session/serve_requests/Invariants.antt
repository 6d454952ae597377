use Rattle.std.proofs.Common.{◌≡◌}
use Rattle.iscsi_tasks.specs.Next.{next_of}
use Rattle.iscsi_tasks.specs.declared.next_task.NextTask.TheVariants.{Idle}
use Rattle.iscsi_session.specs.Moments.{moment}
use Rattle.iscsi_session.specs.Worlds.{world}
use Rattle.iscsi_session.proofs.Conversed.{IsTalked, times_asked}
use Rattle.iscsi_session.proofs.talking.Session.serve_requests.Given as goal

abbrev pub invariant-turns : goal.invariant-turns
invariant-turns g l =
    (l.self.kind ≡ l.fn.self.kind) × (next_of l.self.connection.tasks ≡ Idle)
    × IsTalked
    (world (g.K.SessionKind.works l.fn.self.kind) (g.K.SessionKind.takes_resets l.fn.self.kind)
    (g.G.SessionRegister.resets l.register) (g.G.SessionRegister.ends l.register) (g.G.SessionRegister.settles l.register))
    (times_asked l.is_asked) (moment l.fn.self l.fn.service) (g.R.Read.remaining l.fn.reader) (g.W.Write.contents l.fn.writer)
    (moment l.self l.service) (g.R.Read.remaining l.reader) (g.W.Write.contents l.writer)

abbrev pub decreases-turns : goal.decreases-turns
decreases-turns g l = l.left
