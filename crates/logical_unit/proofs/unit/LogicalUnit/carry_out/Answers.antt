use Rattle.std.proofs.Common.{rules, sym, ◌∙◌}
use Rattle.device_server.proofs.SameDevice.{same_commands}
use Rattle.logical_unit.proofs.History.{executes_stays}
use Rattle.logical_unit.proofs.unit.LogicalUnit.carry_out.Goals as goal

pub volume_after-volume-requires : goal.volume_after-volume-requires
volume_after-volume-requires g c =
    let stays = executes_stays c.args.self.now.unit c.answer-reply.new.self.unit c.args.received.now.nexus c.args.received.now.cdb
    c.args.received.now.bytes c.answer-reply.result.0 c.answer-reply.ensures.unit in
    c.requires ∙ sym (same_commands _ _ stays.device)

pub returns-clause-unnumbered : goal.returns-clause-unnumbered
returns-clause-unnumbered g c = search rules fits 100
