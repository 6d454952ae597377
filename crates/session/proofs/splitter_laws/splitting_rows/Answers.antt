use Rattle.std.proofs.Common.{◌∷◌, [], take, true, false, refl}
use Rattle.frames.specs.declared.fault.FrameFault.TheVariants.{BadFrame}
use Rattle.frames.specs.Frames.{Login, parsed_body, parsed_frame}
use Rattle.frames.specs.Rows.{a, one_session, one_session_frames}
use Rattle.frames.specs.Stream.{Waiting, Broken, partial, faulty, frame}
use Rattle.session.proofs.splitter_laws.splitting_rows.Goals as goal

pub returns-clause-at_once : goal.returns-clause-at_once
unfolding parsed_body parsed_frame
returns-clause-at_once c = (
  one_session_frames,
  [],
  Waiting true [],
  refl,
  frame _ _ _ 15 _ _ refl (frame _ _ _ 13 _ _ refl (frame _ _ _ 5 _ _ refl (partial _ _ refl))),
  (refl, refl),
)

pub returns-clause-in_the_login : goal.returns-clause-in_the_login
unfolding parsed_body parsed_frame
returns-clause-in_the_login c = (
  [],
  one_session_frames,
  Waiting false (take 7 one_session),
  refl,
  partial _ _ refl,
  (
    one_session_frames,
    [],
    Waiting true [],
    refl,
    frame _ _ _ 15 _ _ refl (frame _ _ _ 13 _ _ refl (frame _ _ _ 5 _ _ refl (partial _ _ refl))),
    (refl, refl),
  ),
)

pub returns-clause-cut_session : goal.returns-clause-cut_session
unfolding parsed_body parsed_frame
returns-clause-cut_session c = (
  Login a ∷ [],
  [],
  Waiting true [],
  refl,
  frame _ _ _ 15 _ _ refl (partial _ _ refl),
  (
    [],
    [],
    Waiting true (0 ∷ 0 ∷ []),
    refl,
    partial _ _ refl,
    ([], [], Waiting true (0 ∷ 0 ∷ 0 ∷ []), refl, partial _ _ refl, (refl, refl)),
  ),
)

pub returns-clause-behind_a_fault : goal.returns-clause-behind_a_fault
unfolding parsed_body parsed_frame
returns-clause-behind_a_fault c = (
  Login a ∷ [],
  [],
  Broken BadFrame,
  refl,
  frame _ _ _ 15 _ _ refl (faulty _ _ _ refl),
  ([], [], Broken BadFrame, refl, (refl, refl), (refl, refl)),
)
