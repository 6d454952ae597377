use Rattle.std.proofs.Common.{◌≡◌, ◌<◌, ℕ, Bool, List, [], length, Ok, ap, sym, refl, subst, ◌∙◌}
use Rattle.iscsi_keys.specs.Limits.{segment_limit}
use Rattle.iscsi_pdu.specs.Pdus.{parsed_initiator}
use Rattle.iscsi_tasks.specs.Next.{next_of}
use Rattle.iscsi_session.specs.Ends.{BranchFits, EndIs, NeedsMore}
use Rattle.iscsi_session.specs.Faults.{IsInside, IsOfReading}
use Rattle.iscsi_session.specs.Limits.{pdu_buffer_size}
use Rattle.iscsi_session.specs.Moments.{moment}
use Rattle.iscsi_session.specs.Talking.{Writes, pdus_of}
use Rattle.iscsi_session.specs.Worlds.{world}
use Rattle.iscsi_session.proofs.Conversed.{needs_as, no_matter, talked_as, talked_asked, talked_broken, talked_last, talked_more, talked_none, talked_pinged}
use Rattle.iscsi_session.proofs.Conversed.{talked_read, talked_same, talked_within}
use Rattle.iscsi_session.proofs.Talked.{all_inside, all_paused, all_reading, end_fits, handed_on}
use Rattle.iscsi_session.proofs.talking.Session.serve_requests.Goals as goal

pub turns-init : goal.turns-init
turns-init g c =
    let a = moment c.args.self.now c.args.service.now in
    (refl, c.requires, talked_none _ a (g.R.Read.remaining c.args.reader.now) (g.W.Write.contents c.args.writer.now))

pub returns-in_err-answer_all-clause-talks : goal.returns-in_err-answer_all-clause-talks
returns-in_err-answer_all-clause-talks g c =
    let w = world (g.K.SessionKind.works c.args.self.now.kind) (g.K.SessionKind.takes_resets c.args.self.now.kind)
    (g.G.SessionRegister.resets c.args.register.now) (g.G.SessionRegister.ends c.args.register.now) (g.G.SessionRegister.settles c.args.register.now) in
    let a = moment c.args.self.now c.args.service.now in
    let b = moment c.turns.self c.turns.service in
    let l0 = g.R.Read.remaining c.args.reader.now in
    let l = g.R.Read.remaining c.turns.reader in
    let v0 = g.W.Write.contents c.args.writer.now in
    let v = g.W.Write.contents c.turns.writer in
    let m = moment c.answer_all.new.self c.answer_all.new.service in
    let t = rw c.turns.invariant.0 at c.in_err-answer_all.ensures.talks in
    talked_broken w a b m l0 l v0 v c.from_residual.result _ (talked_within c.turns.is_asked w a b l0 l v0 v c.turns.invariant.2)
    c.from_residual.ensures.0 (t.0, t.1, t.2)
    (λ taken. all_paused c.from_residual.result _ taken m.tasks t.1 l c.from_residual.ensures.0 c.from_residual.ensures.1 t.4)

pub returns-then-not-branch-clause-talks : goal.returns-then-not-branch-clause-talks
returns-then-not-branch-clause-talks g c =
    let w = world (g.K.SessionKind.works c.args.self.now.kind) (g.K.SessionKind.takes_resets c.args.self.now.kind)
    (g.G.SessionRegister.resets c.args.register.now) (g.G.SessionRegister.ends c.args.register.now) (g.G.SessionRegister.settles c.args.register.now) in
    let a = moment c.args.self.now c.args.service.now in
    let b = moment c.turns.self c.turns.service in
    let l0 = g.R.Read.remaining c.args.reader.now in
    let l = g.R.Read.remaining c.turns.reader in
    let v0 = g.W.Write.contents c.args.writer.now in
    let v = g.W.Write.contents c.turns.writer in
    let m = moment c.answer_all.new.self c.answer_all.new.service in
    let v1 = g.W.Write.contents c.answer_all.new.writer in
    let t = rw c.turns.invariant.0 at c.in_ok-answer_all.ensures.talks in
    let fits = subst (λ (goes : Bool). BranchFits (Ok goes) (pdus_of t.2.events) m.tasks t.1) c.if-not-branch.true t.4 in
    let so = talked_last w a b m l0 l v0 v v1 (talked_within c.turns.is_asked w a b l0 l v0 v c.turns.invariant.2) (t.0, t.1, t.2, t.3, fits) in
    (so.0, so.1, so.2, subst (λ (out : List ℕ). Writes v0 v1 a.out out so.0) c.answer_all.ensures.empty so.3, so.4)

pub returns-then-left-eq0-clause-talks : goal.returns-then-left-eq0-clause-talks
returns-then-left-eq0-clause-talks g c =
    let w = world (g.K.SessionKind.works c.args.self.now.kind) (g.K.SessionKind.takes_resets c.args.self.now.kind)
    (g.G.SessionRegister.resets c.args.register.now) (g.G.SessionRegister.ends c.args.register.now) (g.G.SessionRegister.settles c.args.register.now) in
    let a = moment c.args.self.now c.args.service.now in
    let b = moment c.turns.self c.turns.service in
    let l0 = g.R.Read.remaining c.args.reader.now in
    let l = g.R.Read.remaining c.turns.reader in
    let v0 = g.W.Write.contents c.args.writer.now in
    let v = g.W.Write.contents c.turns.writer in
    let m = moment c.answer_all.new.self c.answer_all.new.service in
    let v1 = g.W.Write.contents c.answer_all.new.writer in
    let t = rw c.turns.invariant.0 at c.in_ok-answer_all.ensures.talks in
    let goes = subst (λ (goes : Bool). BranchFits (Ok goes) (pdus_of t.2.events) m.tasks t.1) c.if-not-branch.false t.4 in
    let needs = subst (NeedsMore m.tasks) t.3.0 goes in
    let so = talked_more w a b m l0 l v0 v v1 (talked_within c.turns.is_asked w a b l0 l v0 v c.turns.invariant.2)
    (t.0, t.1, t.2, t.3) in
    (so.0, _, so.1, tt, needs)

pub returns-in_err-read_on-clause-talks : goal.returns-in_err-read_on-clause-talks
returns-in_err-read_on-clause-talks g c =
    let w = world (g.K.SessionKind.works c.args.self.now.kind) (g.K.SessionKind.takes_resets c.args.self.now.kind)
    (g.G.SessionRegister.resets c.args.register.now) (g.G.SessionRegister.ends c.args.register.now) (g.G.SessionRegister.settles c.args.register.now) in
    let a = moment c.args.self.now c.args.service.now in
    let b = moment c.turns.self c.turns.service in
    let l0 = g.R.Read.remaining c.args.reader.now in
    let l = g.R.Read.remaining c.turns.reader in
    let v0 = g.W.Write.contents c.args.writer.now in
    let v = g.W.Write.contents c.turns.writer in
    let m = moment c.answer_all.new.self c.answer_all.new.service in
    let v1 = g.W.Write.contents c.answer_all.new.writer in
    let t = rw c.turns.invariant.0 at c.in_ok-answer_all.ensures.talks in
    let goes = subst (λ (goes : Bool). BranchFits (Ok goes) (pdus_of t.2.events) m.tasks t.1) c.if-not-branch.false t.4 in
    let needs = subst (NeedsMore m.tasks) t.3.0 goes in
    let so = talked_more w a b m l0 l v0 v v1 (talked_within c.turns.is_asked w a b l0 l v0 v c.turns.invariant.2)
    (t.0, t.1, t.2, t.3) in
    let l1 = g.R.Read.remaining c.read_on.new.reader in
    let read = talked_read w a m c.read_on.new.self.read_buffer l0 l l1 v0 v1 so c.read_on.ensures.reads in
    let pending = c.read_on.new.self.read_buffer in
    let last = talked_as w a (record m { pending = pending }) c.read_on.new.self.connection.tasks l0 l1 v0 v1 read c.read_on.ensures.tasks in
    let r = c.from_residual-in_err-read_on.result in
    let why = c.from_residual-in_err-read_on.ensures in (
      last.0,
      _,
      last.1,
      no_matter _ r why.0,
      all_reading r _ c.read_on.new.self.connection.tasks pending l1 why.0 (handed_on r _ IsOfReading why.1 c.in_err-read_on.ensures.broke)
          (needs_as m.tasks c.read_on.new.self.connection.tasks m.pending pending c.read_on.ensures.tasks c.in_err-read_on.ensures.nothing needs),
    )

pub returns-then-branch-clause-talks : goal.returns-then-branch-clause-talks
returns-then-branch-clause-talks g c =
    let w = world (g.K.SessionKind.works c.args.self.now.kind) (g.K.SessionKind.takes_resets c.args.self.now.kind)
    (g.G.SessionRegister.resets c.args.register.now) (g.G.SessionRegister.ends c.args.register.now) (g.G.SessionRegister.settles c.args.register.now) in
    let a = moment c.args.self.now c.args.service.now in
    let b = moment c.turns.self c.turns.service in
    let l0 = g.R.Read.remaining c.args.reader.now in
    let l = g.R.Read.remaining c.turns.reader in
    let v0 = g.W.Write.contents c.args.writer.now in
    let v = g.W.Write.contents c.turns.writer in
    let m = moment c.answer_all.new.self c.answer_all.new.service in
    let v1 = g.W.Write.contents c.answer_all.new.writer in
    let t = rw c.turns.invariant.0 at c.in_ok-answer_all.ensures.talks in
    let goes = subst (λ (goes : Bool). BranchFits (Ok goes) (pdus_of t.2.events) m.tasks t.1) c.if-not-branch.false t.4 in
    let needs = subst (NeedsMore m.tasks) t.3.0 goes in
    let so = talked_more w a b m l0 l v0 v v1 (talked_within c.turns.is_asked w a b l0 l v0 v c.turns.invariant.2)
    (t.0, t.1, t.2, t.3) in
    let l1 = g.R.Read.remaining c.read_on.new.reader in
    let read = talked_read w a m c.read_on.new.self.read_buffer l0 l l1 v0 v1 so c.read_on.ensures.reads in
    let pending = c.read_on.new.self.read_buffer in
    let all = talked_same w a (record m { pending = pending }) [] l0 l1 v0 v1 read (sym c.answer_all.ensures.empty) in
    let last = talked_as w a (record m { pending = pending; out = [] }) c.read_on.new.self.connection.tasks l0 l1 v0 v1 all c.read_on.ensures.tasks in
    let ended = c.in_ok-read_on.ensures.ended (ap (λ (over : Bool). Ok over) c.if-branch.true) in
    let is = subst (λ (xs : List ℕ). EndIs c.end_behind.result xs (parsed_initiator segment_limit xs)) c.pending.ensures c.end_behind.ensures in (
      last.0,
      _,
      last.1,
      last.2,
      end_fits c.end_behind.result _ c.read_on.new.self.connection.tasks pending l1 is
          (needs_as m.tasks c.read_on.new.self.connection.tasks m.pending pending c.read_on.ensures.tasks ended.0 needs)
          (λ small. ended.1 (subst (λ (xs : List ℕ). length xs < pdu_buffer_size) ended.0 small)),
    )

pub returns-in_err-ask_to_leave-clause-talks : goal.returns-in_err-ask_to_leave-clause-talks
returns-in_err-ask_to_leave-clause-talks g c =
    let w = world (g.K.SessionKind.works c.args.self.now.kind) (g.K.SessionKind.takes_resets c.args.self.now.kind)
    (g.G.SessionRegister.resets c.args.register.now) (g.G.SessionRegister.ends c.args.register.now) (g.G.SessionRegister.settles c.args.register.now) in
    let a = moment c.args.self.now c.args.service.now in
    let b = moment c.turns.self c.turns.service in
    let l0 = g.R.Read.remaining c.args.reader.now in
    let l = g.R.Read.remaining c.turns.reader in
    let v0 = g.W.Write.contents c.args.writer.now in
    let v = g.W.Write.contents c.turns.writer in
    let m = moment c.answer_all.new.self c.answer_all.new.service in
    let v1 = g.W.Write.contents c.answer_all.new.writer in
    let t = rw c.turns.invariant.0 at c.in_ok-answer_all.ensures.talks in
    let so = talked_more w a b m l0 l v0 v v1 (talked_within c.turns.is_asked w a b l0 l v0 v c.turns.invariant.2)
    (t.0, t.1, t.2, t.3) in
    let l1 = g.R.Read.remaining c.read_on.new.reader in
    let read = talked_read w a m c.read_on.new.self.read_buffer l0 l l1 v0 v1 so c.read_on.ensures.reads in
    let pending = c.read_on.new.self.read_buffer in
    let same = c.ask_to_leave.ensures.tasks ∙ c.read_on.ensures.tasks in
    let last = talked_as w a (record m { pending = pending }) c.ask_to_leave.new.connection.tasks l0 l1 v0 v1 read same in
    let r = c.from_residual-in_err-ask_to_leave.result in
    let why = c.from_residual-in_err-ask_to_leave.ensures in (
      last.0,
      _,
      last.1,
      no_matter _ r why.0,
      all_inside r _ c.ask_to_leave.new.connection.tasks pending l1 why.0 (handed_on r _ IsInside why.1 c.in_err-ask_to_leave.ensures.fault),
    )

pub turns-preserved : goal.turns-preserved
turns-preserved g c =
    let w = world (g.K.SessionKind.works c.args.self.now.kind) (g.K.SessionKind.takes_resets c.args.self.now.kind)
    (g.G.SessionRegister.resets c.args.register.now) (g.G.SessionRegister.ends c.args.register.now) (g.G.SessionRegister.settles c.args.register.now) in
    let a = moment c.args.self.now c.args.service.now in
    let b = moment c.turns.self c.turns.service in
    let l0 = g.R.Read.remaining c.args.reader.now in
    let l = g.R.Read.remaining c.turns.reader in
    let v0 = g.W.Write.contents c.args.writer.now in
    let v = g.W.Write.contents c.turns.writer in
    let m = moment c.answer_all.new.self c.answer_all.new.service in
    let v1 = g.W.Write.contents c.answer_all.new.writer in
    let t = rw c.turns.invariant.0 at c.in_ok-answer_all.ensures.talks in
    let so = talked_more w a b m l0 l v0 v v1 c.turns.invariant.2
    (t.0, t.1, t.2, t.3) in
    let l1 = g.R.Read.remaining c.read_on.new.reader in
    let read = talked_read w a m c.read_on.new.self.read_buffer l0 l l1 v0 v1 so c.read_on.ensures.reads in
    let pending = c.read_on.new.self.read_buffer in
    let k = c.read_on.new.self.connection.tasks in
    let out = c.read_on.new.self.connection.out.items in
    let pinged = talked_pinged w a (record m { pending = pending }) out l0 l1 v0 v1 read c.in_ok-read_on.ensures.pings in
    let named = talked_as w a (record m { pending = pending; out = out }) k l0 l1 v0 v1 pinged c.read_on.ensures.tasks in
    let asked =
    talked_asked c.turns.is_asked c.ask_to_leave.new.is_asked w a (record m { tasks = k; pending = pending; out = out })
    c.ask_to_leave.new.connection.out.items l0 l1 v0 v1 named c.in_ok-ask_to_leave.ensures.asks in
    let same = c.ask_to_leave.ensures.tasks ∙ c.read_on.ensures.tasks in (
      c.read_on.ensures.kind ∙ c.answer_all.ensures.kind ∙ c.turns.invariant.0,
      ap next_of same ∙ c.in_ok-answer_all.ensures.idle,
      talked_as w a (record m { tasks = k; pending = pending; out = c.ask_to_leave.new.connection.out.items }) c.ask_to_leave.new.connection.tasks
          l0 l1 v0 v1 asked c.ask_to_leave.ensures.tasks,
    )
