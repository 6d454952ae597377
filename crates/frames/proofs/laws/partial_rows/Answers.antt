use Rattle.std.proofs.Common.{refl}
use Rattle.frames.specs.Frames.{parsed_body, parsed_frame}
use Rattle.frames.proofs.laws.partial_rows.Goals as goal

pub returns-clause-nothing : goal.returns-clause-nothing
unfolding parsed_body parsed_frame
returns-clause-nothing c = refl

pub returns-clause-in_the_length : goal.returns-clause-in_the_length
unfolding parsed_body parsed_frame
returns-clause-in_the_length c = refl

pub returns-clause-longest : goal.returns-clause-longest
unfolding parsed_body parsed_frame
returns-clause-longest c = refl

pub returns-clause-longest_for_hosts : goal.returns-clause-longest_for_hosts
unfolding parsed_body parsed_frame
returns-clause-longest_for_hosts c = refl

pub returns-clause-in_a_login : goal.returns-clause-in_a_login
unfolding parsed_body parsed_frame
returns-clause-in_a_login c = refl

pub returns-clause-before_the_length_of_a_cdb : goal.returns-clause-before_the_length_of_a_cdb
unfolding parsed_body parsed_frame
returns-clause-before_the_length_of_a_cdb c = refl

pub returns-clause-in_a_cdb : goal.returns-clause-in_a_cdb
unfolding parsed_body parsed_frame
returns-clause-in_a_cdb c = refl

pub returns-clause-before_the_unit : goal.returns-clause-before_the_unit
unfolding parsed_body parsed_frame
returns-clause-before_the_unit c = refl
