use Rattle.std.proofs.Common.{refl}
use Rattle.frames.specs.ParsedReplies.{parsed_reply_body, parsed_reply}
use Rattle.frames.proofs.reply_laws.reply_fault_rows.Goals as goal

pub returns-clause-no_body : goal.returns-clause-no_body
unfolding parsed_reply_body parsed_reply
returns-clause-no_body c = refl

pub returns-clause-too_long : goal.returns-clause-too_long
unfolding parsed_reply_body parsed_reply
returns-clause-too_long c = refl

pub returns-clause-too_long_for_hosts : goal.returns-clause-too_long_for_hosts
unfolding parsed_reply_body parsed_reply
returns-clause-too_long_for_hosts c = refl

pub returns-clause-kind_of_a_frame : goal.returns-clause-kind_of_a_frame
unfolding parsed_reply_body parsed_reply
returns-clause-kind_of_a_frame c = refl

pub returns-clause-unknown_kind : goal.returns-clause-unknown_kind
unfolding parsed_reply_body parsed_reply
returns-clause-unknown_kind c = refl

pub returns-clause-length_of_an_answer : goal.returns-clause-length_of_an_answer
unfolding parsed_reply_body parsed_reply
returns-clause-length_of_an_answer c = refl

pub returns-clause-command_of_ten : goal.returns-clause-command_of_ten
unfolding parsed_reply_body parsed_reply
returns-clause-command_of_ten c = refl

pub returns-clause-sense_past_the_body : goal.returns-clause-sense_past_the_body
unfolding parsed_reply_body parsed_reply
returns-clause-sense_past_the_body c = refl

pub returns-clause-length_of_a_reset : goal.returns-clause-length_of_a_reset
unfolding parsed_reply_body parsed_reply
returns-clause-length_of_a_reset c = refl

pub returns-clause-length_of_a_logout : goal.returns-clause-length_of_a_logout
unfolding parsed_reply_body parsed_reply
returns-clause-length_of_a_logout c = refl

pub returns-clause-unknown_answer : goal.returns-clause-unknown_answer
unfolding parsed_reply_body parsed_reply
returns-clause-unknown_answer c = refl

pub returns-clause-unknown_status : goal.returns-clause-unknown_status
unfolding parsed_reply_body parsed_reply
returns-clause-unknown_status c = refl

pub returns-clause-unknown_status_of_a_reset : goal.returns-clause-unknown_status_of_a_reset
unfolding parsed_reply_body parsed_reply
returns-clause-unknown_status_of_a_reset c = refl

pub returns-clause-sense_of_17 : goal.returns-clause-sense_of_17
unfolding parsed_reply_body parsed_reply
returns-clause-sense_of_17 c = refl

pub returns-clause-descriptor_format : goal.returns-clause-descriptor_format
unfolding parsed_reply_body parsed_reply
returns-clause-descriptor_format c = refl
