use Rattle.std.proofs.Common.{refl}
use Rattle.frames.specs.ParsedReplies.{parsed_reply_body, parsed_reply}
use Rattle.frames.proofs.reply_laws.reply_partial_rows.Goals as goal

pub returns-clause-nothing : goal.returns-clause-nothing
unfolding parsed_reply_body parsed_reply
returns-clause-nothing c = refl

pub returns-clause-in_the_length : goal.returns-clause-in_the_length
unfolding parsed_reply_body parsed_reply
returns-clause-in_the_length c = refl

pub returns-clause-longest : goal.returns-clause-longest
unfolding parsed_reply_body parsed_reply
returns-clause-longest c = refl

pub returns-clause-longest_for_hosts : goal.returns-clause-longest_for_hosts
unfolding parsed_reply_body parsed_reply
returns-clause-longest_for_hosts c = refl

pub returns-clause-before_the_answer : goal.returns-clause-before_the_answer
unfolding parsed_reply_body parsed_reply
returns-clause-before_the_answer c = refl

pub returns-clause-before_the_length_of_sense_data : goal.returns-clause-before_the_length_of_sense_data
unfolding parsed_reply_body parsed_reply
returns-clause-before_the_length_of_sense_data c = refl

pub returns-clause-in_the_sense_data : goal.returns-clause-in_the_sense_data
unfolding parsed_reply_body parsed_reply
returns-clause-in_the_sense_data c = refl

pub returns-clause-in_the_number : goal.returns-clause-in_the_number
unfolding parsed_reply_body parsed_reply
returns-clause-in_the_number c = refl

pub returns-clause-in_the_data : goal.returns-clause-in_the_data
unfolding parsed_reply_body parsed_reply
returns-clause-in_the_data c = refl
