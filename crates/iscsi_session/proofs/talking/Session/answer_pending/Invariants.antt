use Rattle.std.proofs.Common.{◌≡◌, ◌≤◌, length}
use Rattle.iscsi_tasks.specs.Next.{next_of}
use Rattle.iscsi_tasks.specs.declared.next_task.NextTask.TheVariants.{Idle}
use Rattle.iscsi_session.specs.Moments.{moment}
use Rattle.iscsi_session.specs.Worlds.{world}
use Rattle.iscsi_session.proofs.Conversed.{IsAnswered}
use Rattle.iscsi_session.proofs.talking.Session.answer_pending.Given as goal

abbrev pub invariant-pdus : goal.invariant-pdus
invariant-pdus g l =
    (l.self.kind ≡ l.fn.self.kind) × (length l.self.read_buffer ≤ length l.fn.self.read_buffer) × (next_of l.self.connection.tasks ≡ Idle)
    × IsAnswered
    (world (g.K.SessionKind.works l.fn.self.kind) (g.K.SessionKind.takes_resets l.fn.self.kind)
    (g.G.SessionRegister.resets l.register) (g.G.SessionRegister.ends l.register) (g.G.SessionRegister.settles l.register))
    (moment l.fn.self l.fn.service) (moment l.self l.service)

abbrev pub decreases-pdus : goal.decreases-pdus
decreases-pdus g l = length l.self.read_buffer
