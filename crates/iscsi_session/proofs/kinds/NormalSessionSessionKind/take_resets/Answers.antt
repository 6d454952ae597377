use Rattle.iscsi_session.proofs.Managed.{resets_taken}
use Rattle.iscsi_session.proofs.kinds.NormalSessionSessionKind.take_resets.Goals as goal

pub returns-clause-resets_taken : goal.returns-clause-resets_taken
returns-clause-resets_taken g c =
    resets_taken (g.G.SessionRegister.resets c.args.register.now) g.S.Service.notes g.S.KeepingService.waits c.args.self.nexus c.args.connection.now.tasks
    c.drop_reset.new.tasks _ c.args.service.now _ c.args.connection.now.out.items _ c.go_on.result c.drop_reset.ensures c.go_on.ensures.gone
