use Rattle.std.proofs.Common.{◌≡◌, ℕ, ◌+◌, ◌-◌, ◌∷◌, ◌++◌, [], length, sym, ap, drop, ◌∙◌, arith}
use Rattle.std.proofs.lemmas.Grind.{common_steps}
use Rattle.std.proofs.lemmas.List.{drop-drop}
use Rattle.frames.specs.Frames.{Partial, Invalid, Complete, parsed_frame}
use Rattle.frames.specs.Stream.{partial, faulty}
use Rattle.frames.specs.Views.{frame_value}
use Rattle.frames.proofs.Streams.{all_read, one_more}
use Rattle.session.specs.Splitting.{values_of_frames}
use Rattle.session.proofs.splitter.frames_of.Goals as goal

pub returns-in-Partial-clause-read : goal.returns-in-Partial-clause-read
returns-in-Partial-clause-read c =
    let e : parsed_frame c.args.profile c.frames.logged c.frames.rest.now ≡ Partial = sym (rw c.in-Partial.is at c.parse_frame.ensures.parsed) in
    rw (← c.frames.invariant.rest) (all_read c.args.profile _ _ _ _ _ _ c.frames.invariant.read (partial _ _ e))

pub returns-in-Invalid-clause-read : goal.returns-in-Invalid-clause-read
returns-in-Invalid-clause-read c =
    let e : parsed_frame c.args.profile c.frames.logged c.frames.rest.now ≡ Invalid c.in-Invalid.fault = sym (rw c.in-Invalid.is at c.parse_frame.ensures.parsed) in
    all_read c.args.profile _ _ _ _ _ _ c.frames.invariant.read (faulty _ _ _ e)

-- the frame's bytes are taken off the front
pub frames-preserved : goal.frames-preserved
frames-preserved c =
    let e : parsed_frame c.args.profile c.frames.logged c.frames.rest.now ≡ Complete (frame_value c.in-Complete.frame) c.in-Complete.count = sym (rw c.in-Complete.is at c.parse_frame.ensures.parsed) in
    let grown : values_of_frames c.push.new.self.items ≡ values_of_frames c.frames.frames.items ++ frame_value c.in-Complete.frame ∷ [] = grind (arith, common_steps) in
    let before : ℕ = length c.args.bytes.now - length c.frames.rest.now in
    let taken : before + c.in-Complete.count ≡ length c.args.bytes.now - length c.split_at.result.1.now =
    omega (arith, c.frames.invariant.within, c.split_at.ensures.back_len) in
    record {
      read = λ others stop more. one_more c.args.profile _ _ _ _ _ _ _ _ c.frames.invariant.read e grown others stop (rw c.split_at.ensures.back at more);
      within = omega (arith, c.frames.invariant.within, c.split_at.ensures.back_len);
      rest =
          c.split_at.ensures.back ∙ ap (drop c.in-Complete.count) c.frames.invariant.rest ∙ drop-drop c.in-Complete.count before c.args.bytes.now
          ∙ ap (λ (k : ℕ). drop k c.args.bytes.now) taken;
    }
