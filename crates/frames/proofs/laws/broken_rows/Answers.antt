use Rattle.std.proofs.Common.{refl}
use Rattle.frames.specs.Frames.{parsed_body, parsed_frame}
use Rattle.frames.specs.Stream.{faulty, frame}
use Rattle.frames.proofs.laws.broken_rows.Goals as goal

pub returns-clause-no_body : goal.returns-clause-no_body
unfolding parsed_body parsed_frame
returns-clause-no_body c = faulty _ _ _ refl

pub returns-clause-too_long : goal.returns-clause-too_long
unfolding parsed_body parsed_frame
returns-clause-too_long c = faulty _ _ _ refl

pub returns-clause-unknown_kind : goal.returns-clause-unknown_kind
unfolding parsed_body parsed_frame
returns-clause-unknown_kind c = faulty _ _ _ refl

pub returns-clause-port_0 : goal.returns-clause-port_0
unfolding parsed_body parsed_frame
returns-clause-port_0 c = faulty _ _ _ refl

pub returns-clause-second_login : goal.returns-clause-second_login
unfolding parsed_body parsed_frame
returns-clause-second_login c = frame _ _ _ 15 _ _ refl (faulty _ _ _ refl)

pub returns-clause-cdb_of_17 : goal.returns-clause-cdb_of_17
unfolding parsed_body parsed_frame
returns-clause-cdb_of_17 c = frame _ _ _ 15 _ _ refl (faulty _ _ _ refl)
