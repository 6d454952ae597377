use Rattle.std.proofs.Common.{refl}
use Rattle.frames.specs.Frames.{parsed_body, parsed_frame}
use Rattle.frames.proofs.laws.fault_rows.Goals as goal

pub returns-clause-no_body : goal.returns-clause-no_body
unfolding parsed_body parsed_frame
returns-clause-no_body c = refl

pub returns-clause-too_long : goal.returns-clause-too_long
unfolding parsed_body parsed_frame
returns-clause-too_long c = refl

pub returns-clause-too_long_for_hosts : goal.returns-clause-too_long_for_hosts
unfolding parsed_body parsed_frame
returns-clause-too_long_for_hosts c = refl

pub returns-clause-unknown_kind : goal.returns-clause-unknown_kind
unfolding parsed_body parsed_frame
returns-clause-unknown_kind c = refl

pub returns-clause-command_before_login : goal.returns-clause-command_before_login
unfolding parsed_body parsed_frame
returns-clause-command_before_login c = refl

pub returns-clause-logout_before_login : goal.returns-clause-logout_before_login
unfolding parsed_body parsed_frame
returns-clause-logout_before_login c = refl

pub returns-clause-second_login : goal.returns-clause-second_login
unfolding parsed_body parsed_frame
returns-clause-second_login c = refl

pub returns-clause-length_of_a_login : goal.returns-clause-length_of_a_login
unfolding parsed_body parsed_frame
returns-clause-length_of_a_login c = refl

pub returns-clause-port_0 : goal.returns-clause-port_0
unfolding parsed_body parsed_frame
returns-clause-port_0 c = refl

pub returns-clause-port_5 : goal.returns-clause-port_5
unfolding parsed_body parsed_frame
returns-clause-port_5 c = refl

pub returns-clause-command_of_three : goal.returns-clause-command_of_three
unfolding parsed_body parsed_frame
returns-clause-command_of_three c = refl

pub returns-clause-empty_cdb : goal.returns-clause-empty_cdb
unfolding parsed_body parsed_frame
returns-clause-empty_cdb c = refl

pub returns-clause-cdb_of_17 : goal.returns-clause-cdb_of_17
unfolding parsed_body parsed_frame
returns-clause-cdb_of_17 c = refl

pub returns-clause-cdb_past_the_body : goal.returns-clause-cdb_past_the_body
unfolding parsed_body parsed_frame
returns-clause-cdb_past_the_body c = refl

pub returns-clause-length_of_a_reset : goal.returns-clause-length_of_a_reset
unfolding parsed_body parsed_frame
returns-clause-length_of_a_reset c = refl

pub returns-clause-length_of_a_logout : goal.returns-clause-length_of_a_logout
unfolding parsed_body parsed_frame
returns-clause-length_of_a_logout c = refl
