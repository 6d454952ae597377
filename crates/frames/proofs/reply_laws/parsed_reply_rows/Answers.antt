use Rattle.std.proofs.Common.{refl}
use Rattle.frames.specs.ParsedReplies.{parsed_reply_body, parsed_reply}
use Rattle.frames.proofs.reply_laws.parsed_reply_rows.Goals as goal

pub returns-clause-accepted : goal.returns-clause-accepted
unfolding parsed_reply_body parsed_reply
returns-clause-accepted c = refl

pub returns-clause-already_connected : goal.returns-clause-already_connected
unfolding parsed_reply_body parsed_reply
returns-clause-already_connected c = refl

pub returns-clause-two_bytes_read : goal.returns-clause-two_bytes_read
unfolding parsed_reply_body parsed_reply
returns-clause-two_bytes_read c = refl

pub returns-clause-first_contact : goal.returns-clause-first_contact
unfolding parsed_reply_body parsed_reply
returns-clause-first_contact c = refl

pub returns-clause-conflict : goal.returns-clause-conflict
unfolding parsed_reply_body parsed_reply
returns-clause-conflict c = refl

pub returns-clause-reset : goal.returns-clause-reset
unfolding parsed_reply_body parsed_reply
returns-clause-reset c = refl

pub returns-clause-logout : goal.returns-clause-logout
unfolding parsed_reply_body parsed_reply
returns-clause-logout c = refl
