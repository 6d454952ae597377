use Rattle.std.proofs.Common.{refl}
use Rattle.std.specs.Fmt.{digits}
use Rattle.hex.specs.Hex.{decode_pairs}
use Rattle.configuration_file.proofs.laws.worked_rows.Goals as goal

-- the digits of a library's number are read two by two
pub returns-clause-values : goal.returns-clause-values
unfolding decode_pairs
returns-clause-values c = record {
  no_number = refl;
  least = refl;
  most = refl;
  too_small = refl;
  too_large = refl;
  below_zero = refl;
  number_in_quotes = refl;
  on = refl;
  off = refl;
  one_is_no_switch = refl;
  text = refl;
  array_is_no_text = refl;
  size = refl;
  bad_size = refl;
  size_without_quotes = refl;
  profile = refl;
  bad_profile = refl;
  library = refl;
  bad_library = refl;
  library_without_quotes = refl;
  digests = refl;
  bad_digests = refl;
}

pub returns-clause-forms : goal.returns-clause-forms
unfolding digits
returns-clause-forms c = record { switch = refl; number = refl }
