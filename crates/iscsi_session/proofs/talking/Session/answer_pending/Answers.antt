use Rattle.std.proofs.lemmas.Grind.{common_steps}
use Rattle.std.proofs.Common.{ap, refl, sym, subst, ◌∙◌, arith}
use Rattle.std.proofs.lemmas.List.{length-drop}
use Rattle.std.proofs.Common.{length}
use Rattle.iscsi_pdu.specs.Views.{initiator_value}
use Rattle.iscsi_session.specs.Moments.{moment}
use Rattle.iscsi_session.specs.Worlds.{world}
use Rattle.iscsi_keys.specs.Limits.{segment_limit}
use Rattle.iscsi_pdu.specs.Pdus.{parsed_initiator}
use Rattle.iscsi_session.specs.Ends.{FaultFits, IsNone}
use Rattle.iscsi_session.specs.Faults.{IsInside}
use Rattle.iscsi_session.specs.declared.fault.IscsiFault.{IscsiFault}
use Rattle.iscsi_session.proofs.Conversed.{answered_broken, answered_last, answered_more, answered_none}
use Rattle.iscsi_session.proofs.Talked.{begins_with, handed_on}
use Rattle.iscsi_session.proofs.talking.Session.answer_pending.Goals as goal

pub pdus-init : goal.pdus-init
pdus-init g c = (refl, omega arith, c.requires, answered_none _ (moment c.args.self.now c.args.service.now))

pub returns-in_err-ends-in-Complete-clause-talks : goal.returns-in_err-ends-in-Complete-clause-talks
returns-in_err-ends-in-Complete-clause-talks g c =
    let w = world (g.K.SessionKind.works c.args.self.now.kind) (g.K.SessionKind.takes_resets c.args.self.now.kind)
    (g.G.SessionRegister.resets c.args.register.now) (g.G.SessionRegister.ends c.args.register.now) (g.G.SessionRegister.settles c.args.register.now) in
    let a = moment c.args.self.now c.args.service.now in
    let b = moment c.pdus.self c.pdus.service in
    let pdu = initiator_value c.in-Complete.pdu in
    let size = c.in-Complete.count in
    let here = begins_with c.pdus.self.read_buffer c.pending-pending.result.now pdu size c.pending-pending.ensures c.in-Complete.ensures.parsed
    c.in-Complete.ensures.within in
    answered_broken w a b (record {
      tasks = c.answer.new.connection.tasks;
      service = c.answer.new.service;
      pending = c.pdus.self.read_buffer;
      out = c.answer.new.connection.out.items;
    }) pdu size c.from_residual.result c.pdus.invariant.3 c.pdus.invariant.2 (sym c.must_wait.ensures ∙ c.if-must_wait.false) here c.from_residual.ensures.0
    (handed_on c.from_residual.result _ IsInside c.from_residual.ensures.1 c.in_err-ends-in-Complete.ensures.fault)
    (rw c.pdus.invariant.0 at c.in_err-ends-in-Complete.ensures.said)

pub returns-then-ends-clause-talks : goal.returns-then-ends-clause-talks
returns-then-ends-clause-talks g c =
    let w = world (g.K.SessionKind.works c.args.self.now.kind) (g.K.SessionKind.takes_resets c.args.self.now.kind)
    (g.G.SessionRegister.resets c.args.register.now) (g.G.SessionRegister.ends c.args.register.now) (g.G.SessionRegister.settles c.args.register.now) in
    let a = moment c.args.self.now c.args.service.now in
    let b = moment c.pdus.self c.pdus.service in
    let pdu = initiator_value c.in-Complete.pdu in
    let size = c.in-Complete.count in
    let here = begins_with c.pdus.self.read_buffer c.pending-pending.result.now pdu size c.pending-pending.ensures c.in-Complete.ensures.parsed
    c.in-Complete.ensures.within in
    answered_last w a b (record {
      tasks = c.answer.new.connection.tasks;
      service = c.answer.new.service;
      pending = c.consume.new.self;
      out = c.answer.new.connection.out.items;
    }) pdu size c.pdus.invariant.3 c.pdus.invariant.2 (sym c.must_wait.ensures ∙ c.if-must_wait.false) here c.consume.ensures
    (rw c.pdus.invariant.0 at c.in_ok-ends-in-Complete.ensures.said) (c.in_ok-ends-in-Complete.ensures.ends c.if-ends.true)

pub returns-then-len-ge-BATCH-clause-talks : goal.returns-then-len-ge-BATCH-clause-talks
returns-then-len-ge-BATCH-clause-talks g c =
    let w = world (g.K.SessionKind.works c.args.self.now.kind) (g.K.SessionKind.takes_resets c.args.self.now.kind)
    (g.G.SessionRegister.resets c.args.register.now) (g.G.SessionRegister.ends c.args.register.now) (g.G.SessionRegister.settles c.args.register.now) in
    let a = moment c.args.self.now c.args.service.now in
    let b = moment c.pdus.self c.pdus.service in
    let pdu = initiator_value c.in-Complete.pdu in
    let size = c.in-Complete.count in
    let here = begins_with c.pdus.self.read_buffer c.pending-pending.result.now pdu size c.pending-pending.ensures c.in-Complete.ensures.parsed
    c.in-Complete.ensures.within in
    let so = answered_more w a b (record {
      tasks = c.answer.new.connection.tasks;
      service = c.answer.new.service;
      pending = c.consume.new.self;
      out = c.answer.new.connection.out.items;
    }) pdu size c.pdus.invariant.3 c.pdus.invariant.2 (sym c.must_wait.ensures ∙ c.if-must_wait.false) here c.consume.ensures (rw c.pdus.invariant.0 at c.in_ok-ends-in-Complete.ensures.said) in
    (so.0, _, so.1, (refl, so.2), tt)

pub returns-in-Partial-clause-talks : goal.returns-in-Partial-clause-talks
returns-in-Partial-clause-talks g c =
    let so = c.pdus.invariant.3 in
    let found = ap (parsed_initiator segment_limit) (sym c.pending-pending.ensures) ∙ sym c.in-Partial.ensures.parsed in
    (so.0, _, so.1, (refl, so.2), subst (IsNone c.pdus.self.connection.tasks) (sym found) tt)

pub returns-then-must_wait-clause-talks : goal.returns-then-must_wait-clause-talks
returns-then-must_wait-clause-talks g c =
    let so = c.pdus.invariant.3 in
    let found = ap (parsed_initiator segment_limit) (sym c.pending-pending.ensures) ∙ sym c.in-Complete.ensures.parsed in
    (so.0, _, so.1, (refl, so.2), subst (IsNone c.pdus.self.connection.tasks) (sym found) (sym c.must_wait.ensures ∙ c.if-must_wait.true))

pub returns-in-Invalid-clause-talks : goal.returns-in-Invalid-clause-talks
returns-in-Invalid-clause-talks g c =
    let so = c.pdus.invariant.3 in
    let found = ap (parsed_initiator segment_limit) (sym c.pending-pending.ensures) ∙ sym c.in-Invalid.ensures.parsed in
    (so.0, _, so.1, tt, subst (λ (f : IscsiFault). FaultFits f c.pdus.self.connection.tasks c.pdus.self.read_buffer) (sym c.into.ensures) found)

pub pdus-preserved : goal.pdus-preserved
pdus-preserved g c =
    let w = world (g.K.SessionKind.works c.args.self.now.kind) (g.K.SessionKind.takes_resets c.args.self.now.kind)
    (g.G.SessionRegister.resets c.args.register.now) (g.G.SessionRegister.ends c.args.register.now) (g.G.SessionRegister.settles c.args.register.now) in
    let a = moment c.args.self.now c.args.service.now in
    let b = moment c.pdus.self c.pdus.service in
    let pdu = initiator_value c.in-Complete.pdu in
    let size = c.in-Complete.count in
    let here = begins_with c.pdus.self.read_buffer c.pending-pending.result.now pdu size c.pending-pending.ensures c.in-Complete.ensures.parsed
    c.in-Complete.ensures.within in (
      c.pdus.invariant.0,
      omega (arith, c.pdus.invariant.1, ap length c.consume.ensures, length-drop c.in-Complete.count c.pdus.self.read_buffer),
      c.in_ok-ends-in-Complete.ensures.idle c.pdus.invariant.2,
      answered_more w a b (record {
        tasks = c.answer.new.connection.tasks;
        service = c.answer.new.service;
        pending = c.consume.new.self;
        out = c.answer.new.connection.out.items;
      }) pdu size c.pdus.invariant.3 c.pdus.invariant.2 (sym c.must_wait.ensures ∙ c.if-must_wait.false) here c.consume.ensures (rw c.pdus.invariant.0 at c.in_ok-ends-in-Complete.ensures.said),
    )

pub returns-then-len-ge-BATCH-clause-full : goal.returns-then-len-ge-BATCH-clause-full
returns-then-len-ge-BATCH-clause-full g c = grind (arith, common_steps)

pub pdus-smaller : goal.pdus-smaller
pdus-smaller g c = grind (arith, common_steps)
