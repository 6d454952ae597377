use Rattle.inquiry_data.proofs.Digits.{serial_numbers_are_unique}
use Rattle.inquiry_data.proofs.laws.serial_numbers_are_unique.Goals as goal

pub returns : goal.returns
returns c = serial_numbers_are_unique
