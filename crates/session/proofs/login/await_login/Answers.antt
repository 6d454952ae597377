use Rattle.std.proofs.lemmas.Grind.{common_steps}
use Rattle.std.proofs.Common.{◌≡◌, ◌∙◌, ◌*◌, ℕ, List, false, ap, sym, subst, refl, length, arith}
use Rattle.std.specs.Io.KnownBytes.{Consumes}
use Rattle.frames.specs.Frames.{Complete, parsed_frame}
use Rattle.frames.specs.Views.{frame_value}
use Rattle.frames.specs.Limits.{frame_buffer_size}
use Rattle.session.specs.declared.fault.SessionFault.{SessionFault}
use Rattle.session.specs.Login.{KeepsOut, end_of, fault_before_login}
use Rattle.session.proofs.Read.{consumes_none, consumes_more, consumes_filled, keeps_out, nothing_more, reads_none, room_for_frame}
use Rattle.session.proofs.login.await_login.Goals as goal

pub reads-init : goal.reads-init
unfolding parsed_frame
reads-init g c =
    let none = c.requires.empty in (
      subst (λ (xs : List ℕ). Consumes (g.R.Read.remaining c.args.reader.now) (g.R.Read.remaining c.args.reader.now) xs) (sym none)
          (consumes_none _),
      ap (parsed_frame c.args.profile false) none ∙ refl,
      omega (arith, ap length none),
      reads_none (0 * frame_buffer_size c.args.profile) (g.R.Read.remaining c.args.reader.now),
    )

-- the read that gives nothing finds the end
pub returns-in-Ok-eq0-clause-wait : goal.returns-in-Ok-eq0-clause-wait
returns-in-Ok-eq0-clause-wait g c =
    let so = c.reads.invariant in
    let got = c.in-Ok-eq0.ensures.ok in
    let same : c.fill.new.self ≡ c.reads.read_buffer = nothing_more _ _ c.in-Ok-eq0.field-0 _ _ got c.in-Ok-eq0.field-0-test in (
      subst (λ (xs : List ℕ). Consumes (g.R.Read.remaining c.args.reader.now) (g.R.Read.remaining c.fill.new.reader) xs) (sym got.1)
          (consumes_more _ _ _ _ _ so.0 got.3),
      c.in-Ok-eq0.ensures.end c.in-Ok-eq0.field-0-test (omega (arith, so.2, room_for_frame c.args.profile, c.requires.room)),
      ap (parsed_frame c.args.profile false) same ∙ so.1,
      c.end_of.ensures ∙ ap end_of c.pending.ensures,
    )

pub returns-in-Invalid-clause-kept_out : goal.returns-in-Invalid-clause-kept_out
returns-in-Invalid-clause-kept_out g c =
    let read = c.fill.new.self in
    let shown : parsed_frame c.args.profile false read ≡ _ = sym (c.in-Invalid.ensures.parsed ∙ ap (parsed_frame c.args.profile false) c.pending-in-reads.ensures) in
    record {
      read = read;
      consumed = consumes_filled _ _ _ _ _ _ c.reads.invariant.0 c.in-Ok.ensures.ok;
      shown = subst (λ (fault : SessionFault). KeepsOut c.args.profile fault read) (sym c.into.ensures) (keeps_out c.args.profile c.in-Invalid.fault read shown);
    }

pub returns-in-Complete-Command-default-clause-kept_out : goal.returns-in-Complete-Command-default-clause-kept_out
returns-in-Complete-Command-default-clause-kept_out g c =
    let read = c.fill.new.self in
    let shown : parsed_frame c.args.profile false read ≡ _ = sym (c.in-Complete-Command-default.ensures.parsed ∙ ap (parsed_frame c.args.profile false)
    c.pending-in-reads.ensures) in
    record {
      read = read;
      consumed = consumes_filled _ _ _ _ _ _ c.reads.invariant.0 c.in-Ok.ensures.ok;
      shown =
          ap fault_before_login
          (shown ∙ ap (λ f. Complete (frame_value f) c.in-Complete-Command-default.field-1) c.in-Complete-Command-default.field-0-is);
    }

pub returns-in-Complete-Reset-default-clause-kept_out : goal.returns-in-Complete-Reset-default-clause-kept_out
returns-in-Complete-Reset-default-clause-kept_out g c =
    let read = c.fill.new.self in
    let shown : parsed_frame c.args.profile false read ≡ _ = sym (c.in-Complete-Reset-default.ensures.parsed ∙ ap (parsed_frame c.args.profile false)
    c.pending-in-reads.ensures) in
    record {
      read = read;
      consumed = consumes_filled _ _ _ _ _ _ c.reads.invariant.0 c.in-Ok.ensures.ok;
      shown =
          ap fault_before_login
          (shown ∙ ap (λ f. Complete (frame_value f) c.in-Complete-Reset-default.field-1) c.in-Complete-Reset-default.field-0-is);
    }

pub returns-in-Complete-Logout-default-clause-kept_out : goal.returns-in-Complete-Logout-default-clause-kept_out
returns-in-Complete-Logout-default-clause-kept_out g c =
    let read = c.fill.new.self in
    let shown : parsed_frame c.args.profile false read ≡ _ = sym (c.in-Complete-Logout-default.ensures.parsed ∙ ap (parsed_frame c.args.profile false)
    c.pending-in-reads.ensures) in
    record {
      read = read;
      consumed = consumes_filled _ _ _ _ _ _ c.reads.invariant.0 c.in-Ok.ensures.ok;
      shown =
          ap fault_before_login
          (shown ∙ ap (λ f. Complete (frame_value f) c.in-Complete-Logout-default.field-1) c.in-Complete-Logout-default.field-0-is);
    }

pub returns-in-Ok-eq0-clause-reads : goal.returns-in-Ok-eq0-clause-reads
returns-in-Ok-eq0-clause-reads g c = grind (arith, common_steps)
