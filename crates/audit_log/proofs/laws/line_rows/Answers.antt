use Rattle.std.proofs.Common.{refl}
use Rattle.std.specs.Fmt.{char_count, digits, padded_integral}
use Rattle.audit_log.specs.Lines.{line_of}
use Rattle.audit_log.proofs.laws.line_rows.Goals as goal

pub returns-clause-first_contact : goal.returns-clause-first_contact
unfolding line_of digits padded_integral char_count
returns-clause-first_contact c = refl

pub returns-clause-ready : goal.returns-clause-ready
unfolding line_of digits padded_integral char_count
returns-clause-ready c = refl

pub returns-clause-wrong_key : goal.returns-clause-wrong_key
unfolding line_of digits padded_integral char_count
returns-clause-wrong_key c = refl

pub returns-clause-lost : goal.returns-clause-lost
unfolding line_of digits padded_integral char_count
returns-clause-lost c = refl

pub returns-clause-was_reset : goal.returns-clause-was_reset
unfolding line_of digits padded_integral char_count
returns-clause-was_reset c = refl

pub returns-clause-taken_out : goal.returns-clause-taken_out
unfolding line_of digits padded_integral char_count
returns-clause-taken_out c = refl

pub returns-clause-unknown_opcode : goal.returns-clause-unknown_opcode
unfolding line_of digits padded_integral char_count
returns-clause-unknown_opcode c = refl

pub returns-clause-brought_in : goal.returns-clause-brought_in
unfolding line_of digits padded_integral char_count
returns-clause-brought_in c = refl

pub returns-clause-medium_changed : goal.returns-clause-medium_changed
unfolding line_of digits padded_integral char_count
returns-clause-medium_changed c = refl

pub returns-clause-refused_field : goal.returns-clause-refused_field
unfolding line_of digits padded_integral char_count
returns-clause-refused_field c = refl
