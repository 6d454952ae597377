use Rattle.std.proofs.Common.{◌∙◌, refl}
use Rattle.iscsi_session.specs.Moments.{moment}
use Rattle.iscsi_session.specs.Worlds.{world}
use Rattle.iscsi_session.proofs.Conversed.{moment_of, released_broken, released_then, resets_broken, resets_then}
use Rattle.iscsi_session.specs.Faults.{IsInside}
use Rattle.iscsi_session.proofs.Released.{releases_next}
use Rattle.iscsi_session.proofs.Talked.{handed_on}
use Rattle.iscsi_session.proofs.talking.Session.answer_batch.Goals as goal

pub returns-in_err-take_resets-clause-talks : goal.returns-in_err-take_resets-clause-talks
returns-in_err-take_resets-clause-talks g c =
    let w = world (g.K.SessionKind.works c.args.self.now.kind) (g.K.SessionKind.takes_resets c.args.self.now.kind)
    (g.G.SessionRegister.resets c.args.register.now) (g.G.SessionRegister.ends c.args.register.now) (g.G.SessionRegister.settles c.args.register.now) in
    resets_broken w (moment c.args.self.now c.args.service.now) (record {
      tasks = c.take_resets.new.connection.tasks;
      service = c.take_resets.new.service;
      pending = c.args.self.now.read_buffer;
      out = c.take_resets.new.connection.out.items;
    }) c.from_residual.result _ c.from_residual.ensures.0
    (handed_on c.from_residual.result _ IsInside c.from_residual.ensures.1 c.in_err-take_resets.ensures.fault) c.in_err-take_resets.ensures.resets_taken

pub returns-in_err-release-clause-talks : goal.returns-in_err-release-clause-talks
returns-in_err-release-clause-talks g c =
    let w = world (g.K.SessionKind.works c.args.self.now.kind) (g.K.SessionKind.takes_resets c.args.self.now.kind)
    (g.G.SessionRegister.resets c.args.register.now) (g.G.SessionRegister.ends c.args.register.now) (g.G.SessionRegister.settles c.args.register.now) in
    let m = moment_of c.take_resets.new.connection.tasks c.take_resets.new.service c.args.self.now.read_buffer
    c.take_resets.new.connection.out.items in
    let b = moment_of c.release.new.connection.tasks c.take_resets.new.service c.args.self.now.read_buffer
    c.release.new.connection.out.items in
    let r = c.from_residual-in_err-release.result in
    resets_then w (moment c.args.self.now c.args.service.now) m b r c.in_ok-take_resets.ensures.resets_taken refl
    (released_broken w m b r _ c.from_residual-in_err-release.ensures.0
    (handed_on r _ IsInside c.from_residual-in_err-release.ensures.1 c.in_err-release.ensures.fault) c.release.ensures.released refl)

pub answer_pending-requires : goal.answer_pending-requires
answer_pending-requires g c =
    let up = c.in_ok-release.ensures.released in
    releases_next (g.G.SessionRegister.settles c.args.register.now) _ _ up.0 up.1 ∙ c.in_ok-take_resets.ensures.idle c.requires

pub returns-clause-talks : goal.returns-clause-talks
returns-clause-talks g c =
    let w = world (g.K.SessionKind.works c.args.self.now.kind) (g.K.SessionKind.takes_resets c.args.self.now.kind)
    (g.G.SessionRegister.resets c.args.register.now) (g.G.SessionRegister.ends c.args.register.now) (g.G.SessionRegister.settles c.args.register.now) in
    let m = moment_of c.take_resets.new.connection.tasks c.take_resets.new.service c.args.self.now.read_buffer
    c.take_resets.new.connection.out.items in
    let n = moment_of c.release.new.connection.tasks c.take_resets.new.service c.args.self.now.read_buffer
    c.release.new.connection.out.items in
    let b = moment c.answer_pending.new.self c.answer_pending.new.service in
    resets_then w (moment c.args.self.now c.args.service.now) m b c.answer_pending.result c.in_ok-take_resets.ensures.resets_taken refl
    (released_then w m n b c.answer_pending.result c.in_ok-release.ensures.released refl refl c.answer_pending.ensures.talks)
