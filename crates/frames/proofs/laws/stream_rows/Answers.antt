use Rattle.std.proofs.Common.{refl}
use Rattle.frames.specs.Frames.{parsed_body, parsed_frame}
use Rattle.frames.specs.Stream.{partial, faulty, frame}
use Rattle.frames.proofs.laws.stream_rows.Goals as goal

pub returns-clause-one_session : goal.returns-clause-one_session
unfolding parsed_body parsed_frame
returns-clause-one_session c =
    frame _ _ _ 15 _ _ refl (frame _ _ _ 13 _ _ refl (frame _ _ _ 5 _ _ refl (partial _ _ refl)))

pub returns-clause-cut_session : goal.returns-clause-cut_session
unfolding parsed_body parsed_frame
returns-clause-cut_session c = frame _ _ _ 15 _ _ refl (partial _ _ refl)

pub returns-clause-two_logins : goal.returns-clause-two_logins
unfolding parsed_body parsed_frame
returns-clause-two_logins c = frame _ _ _ 15 _ _ refl (faulty _ _ _ refl)
