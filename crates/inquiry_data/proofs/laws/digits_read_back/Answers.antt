use Rattle.inquiry_data.proofs.Digits.{library_number_in-library_digits}
use Rattle.inquiry_data.proofs.laws.digits_read_back.Goals as goal

pub returns : goal.returns
returns c = library_number_in-library_digits
