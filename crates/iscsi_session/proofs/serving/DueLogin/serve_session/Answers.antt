use Rattle.std.proofs.Common.{ap, inr, Err}
use Rattle.iscsi_session.specs.declared.fault.IscsiFault.TheVariants.{NoMemory}
use Rattle.scsi_nexus.specs.declared.nexus.Nexus.{Nexus}
use Rattle.iscsi_session.specs.Serving.{first_moment}
use Rattle.iscsi_session.proofs.Held.{is_held}
use Rattle.iscsi_session.proofs.Served.{converses_calls, holds}
use Rattle.iscsi_session.proofs.serving.DueLogin.serve_session.Goals as goal

pub returns-then-not-leave-clause-service : goal.returns-then-not-leave-clause-service
returns-then-not-leave-clause-service g c =
    let talk = c.begin-ended.ensures.talks in
    let first = first_moment c.args.self.begun c.enter.new.service c.args.self.read_buffer in
    let calls = converses_calls g.S.Service.notes g.S.KeepingService.waits g.S.Service.count _ first talk.1 talk.2 (g.R.Read.remaining c.args.reader.now) _ talk.0 talk.3 in
    is_held g.S.Service.notes g.S.Service.count (g.G.SessionRegister.others c.args.register.now) c.args.self.arrival.portal.group _ c.args.service.now c.enter.new.service
    c.begin-ended.new.service c.leave.new.service c.leave.result
    (ap (λ (n : Nexus). n.port) c.nexus-nexus.ensures) c.enter.ensures (rw talk.4 at calls) c.leave.ensures

pub returns-in-Ok-ended-clause-service : goal.returns-in-Ok-ended-clause-service
returns-in-Ok-ended-clause-service g c =
    let talk = c.begin-ended.ensures.talks in
    let first = first_moment c.args.self.begun c.enter.new.service c.args.self.read_buffer in
    let calls = converses_calls g.S.Service.notes g.S.KeepingService.waits g.S.Service.count _ first talk.1 talk.2 (g.R.Read.remaining c.args.reader.now) _ talk.0 talk.3 in
    is_held g.S.Service.notes g.S.Service.count (g.G.SessionRegister.others c.args.register.now) c.args.self.arrival.portal.group _ c.args.service.now c.enter.new.service
    c.begin-ended.new.service c.leave.new.service c.leave.result
    (ap (λ (n : Nexus). n.port) c.nexus-nexus.ensures) c.enter.ensures (rw talk.4 at calls) c.leave.ensures

pub returns-in-Err-ended-clause-service : goal.returns-in-Err-ended-clause-service
returns-in-Err-ended-clause-service g c =
    let talk = c.begin-ended.ensures.talks in
    let first = first_moment c.args.self.begun c.enter.new.service c.args.self.read_buffer in
    let calls = converses_calls g.S.Service.notes g.S.KeepingService.waits g.S.Service.count _ first talk.1 talk.2 (g.R.Read.remaining c.args.reader.now) _ talk.0 talk.3 in
    is_held g.S.Service.notes g.S.Service.count (g.G.SessionRegister.others c.args.register.now) c.args.self.arrival.portal.group _ c.args.service.now c.enter.new.service
    c.begin-ended.new.service c.leave.new.service c.leave.result
    (ap (λ (n : Nexus). n.port) c.nexus-nexus.ensures) c.enter.ensures (rw talk.4 at calls) c.leave.ensures

pub returns-then-not-leave-clause-session : goal.returns-then-not-leave-clause-session
returns-then-not-leave-clause-session g c =
    let talk = c.begin-ended.ensures.talks in
    let held =
    holds g.S.Service.notes g.S.KeepingService.waits g.S.Service.count c.args.self.arrival.portal.group c.args.self.begun _ talk.1 c.args.service.now
    c.enter.new.service c.begin-ended.new.service c.leave.new.service c.args.self.read_buffer talk.2
    (g.R.Read.remaining c.args.reader.now) _ (Err NoMemory) talk.0 c.leave.result c.requires c.nexus-nexus.ensures c.enter.ensures talk.3 talk.4
    c.leave.ensures tt in
    inr (talk.0, c.leave.result, held, tt)

pub returns-in-Err-ended-clause-session : goal.returns-in-Err-ended-clause-session
returns-in-Err-ended-clause-session g c =
    let talk = c.in-Err-ended.ensures.talks in
    let held =
    holds g.S.Service.notes g.S.KeepingService.waits g.S.Service.count c.args.self.arrival.portal.group c.args.self.begun _ talk.1 c.args.service.now
    c.enter.new.service c.begin-ended.new.service c.leave.new.service c.args.self.read_buffer talk.2
    (g.R.Read.remaining c.args.reader.now) _ _ talk.0 c.leave.result c.requires c.nexus-nexus.ensures c.enter.ensures talk.3 talk.4
    c.leave.ensures talk.6 in
    inr (talk.0, c.leave.result, held, tt)

pub returns-in-Ok-ended-clause-session : goal.returns-in-Ok-ended-clause-session
returns-in-Ok-ended-clause-session g c =
    let talk = c.in-Ok-ended.ensures.talks in
    let held =
    holds g.S.Service.notes g.S.KeepingService.waits g.S.Service.count c.args.self.arrival.portal.group c.args.self.begun _ talk.1 c.args.service.now
    c.enter.new.service c.begin-ended.new.service c.leave.new.service c.args.self.read_buffer talk.2
    (g.R.Read.remaining c.args.reader.now) _ _ talk.0 c.leave.result c.requires c.nexus-nexus.ensures c.enter.ensures talk.3 talk.4
    c.leave.ensures talk.6 in
    inr (talk.0, c.leave.result, held, (c.if-not-leave.false, talk.5.0, talk.5.1))
