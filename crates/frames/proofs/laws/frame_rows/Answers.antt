use Rattle.std.proofs.Common.{refl}
use Rattle.frames.specs.Frames.{parsed_body, parsed_frame}
use Rattle.frames.proofs.laws.frame_rows.Goals as goal

pub returns-clause-login : goal.returns-clause-login
unfolding parsed_body parsed_frame
returns-clause-login c = refl

pub returns-clause-last_port : goal.returns-clause-last_port
unfolding parsed_body parsed_frame
returns-clause-last_port c = refl

pub returns-clause-command : goal.returns-clause-command
unfolding parsed_body parsed_frame
returns-clause-command c = refl

pub returns-clause-write : goal.returns-clause-write
unfolding parsed_body parsed_frame
returns-clause-write c = refl

pub returns-clause-reset : goal.returns-clause-reset
unfolding parsed_body parsed_frame
returns-clause-reset c = refl

pub returns-clause-logout : goal.returns-clause-logout
unfolding parsed_body parsed_frame
returns-clause-logout c = refl
