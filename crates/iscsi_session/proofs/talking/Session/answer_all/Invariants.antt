use Rattle.std.proofs.Common.{◌≡◌, length}
use Rattle.iscsi_tasks.specs.Next.{next_of}
use Rattle.iscsi_tasks.specs.declared.next_task.NextTask.TheVariants.{Idle}
use Rattle.iscsi_session.specs.Moments.{moment}
use Rattle.iscsi_session.specs.Worlds.{world}
use Rattle.iscsi_session.proofs.Conversed.{IsWritten}
use Rattle.iscsi_session.proofs.talking.Session.answer_all.Given as goal

abbrev pub invariant-batches : goal.invariant-batches
invariant-batches g l =
    (l.self.kind ≡ l.fn.self.kind) × (next_of l.self.connection.tasks ≡ Idle)
    × IsWritten
    (world (g.K.SessionKind.works l.fn.self.kind) (g.K.SessionKind.takes_resets l.fn.self.kind)
    (g.G.SessionRegister.resets l.register) (g.G.SessionRegister.ends l.register) (g.G.SessionRegister.settles l.register))
    (moment l.fn.self l.fn.service) (g.W.Write.contents l.fn.writer) (moment l.self l.service) (g.W.Write.contents l.writer)

abbrev pub decreases-batches : goal.decreases-batches
decreases-batches g l = length l.self.read_buffer
