use Rattle.std.proofs.Common.{refl}
use Rattle.std.specs.Fmt.{digits}
use Rattle.hex.specs.Hex.{encode_with}
use Rattle.scsi_cdb.specs.Commands.{command_of}
use Rattle.explanations.specs.CommandList.{commands_text}
use Rattle.explanations.specs.Commands.{action_text, command_text, function_text, log_code_text, log_subpage_text, one_command_text, support_text}
use Rattle.explanations.specs.Drives.{beginning_text, block_descriptor_text, medium_text, object_text, protection_text}
use Rattle.explanations.specs.ElementWords.{element_text, element_type_text, elements_in, elements_text, fullness_text, page_text, source_text, tag_text}
use Rattle.explanations.specs.Explanation.{explanation}
use Rattle.explanations.specs.Reservations.{generation_text, listed, registration_text}
use Rattle.explanations.specs.Senses.{condition_with, key_with, mark_text, sense_text}
use Rattle.explanations.specs.Units.{device_text, field_text, inquiry_cut, lun_text, luns_text, page_code_text, page_length_text, peripheral_text, qualifier_text}
use Rattle.explanations.specs.Words.{coded_text, quoted, count_text, cut, number_text}
use Rattle.explanations.proofs.laws.worked_rows.Goals as goal

pub returns-clause-statuses : goal.returns-clause-statuses
unfolding explanation
returns-clause-statuses c = record { good = refl; busy = refl; conflict = refl; check_alone = refl }

pub returns-clause-senses : goal.returns-clause-senses
unfolding explanation sense_text mark_text key_with condition_with command_of encode_with digits count_text number_text
returns-clause-senses c = record {
  power_on = refl;
  refused = refl;
  shorter = refl;
  longer = refl;
  filemark = refl;
  end_of_medium = refl;
  unknown = refl;
}

pub returns-clause-reservations : goal.returns-clause-reservations
unfolding explanation command_of generation_text listed registration_text cut encode_with digits count_text number_text
returns-clause-reservations c = record {
  keys = refl;
  two_keys = refl;
  no_keys = refl;
  length_cut = refl;
  no_data = refl;
  keys_cut = refl;
  generation_cut = refl;
  reserved = refl;
  all_registrants = refl;
  unknown_type = refl;
  nothing_reserved = refl;
  type_cut = refl;
  holder =
      refl;
  registered = refl;
  registration_cut = refl;
  nobody = refl;
  another_form = refl;
  capabilities = refl;
}

pub returns-clause-units : goal.returns-clause-units
unfolding explanation command_of peripheral_text device_text qualifier_text field_text quoted inquiry_cut page_code_text page_length_text
    lun_text luns_text encode_with digits coded_text number_text cut
returns-clause-units c = record {
  drive = refl;
  drive_cut = refl;
  kind_alone = refl;
  no_unit = refl;
  other_type = refl;
  serial_number =
      refl;
  page_cut = refl;
  page_header_cut = refl;
  two_luns = refl;
  lun_of_two_levels = refl;
  no_luns = refl;
  luns_cut = refl;
}

pub returns-clause-drives : goal.returns-clause-drives
unfolding explanation command_of beginning_text object_text medium_text protection_text block_descriptor_text encode_with digits coded_text
    number_text count_text cut
returns-clause-drives c = record {
  at_the_start = refl;
  further_on = refl;
  position_cut = refl;
  block_length = refl;
  protected = refl;
  mode_cut = refl;
  block = refl;
  no_command = refl;
  of_changers = refl;
  of_drives = refl;
}

pub returns-clause-elements : goal.returns-clause-elements
unfolding explanation command_of elements_text elements_in page_text element_text element_type_text fullness_text tag_text source_text quoted
    encode_with coded_text cut
returns-clause-elements c = record { elements = refl; tags = refl; portal = refl; none = refl; elements_cut = refl }

pub returns-clause-hosts : goal.returns-clause-hosts
unfolding explanation command_of medium_text protection_text block_descriptor_text log_code_text log_subpage_text page_length_text commands_text
    command_text action_text one_command_text support_text function_text elements_text elements_in page_text element_text element_type_text
    fullness_text tag_text source_text encode_with digits coded_text number_text count_text cut
returns-clause-hosts c = record {
  block_length = refl;
  mode_cut = refl;
  mode_of_changer = refl;
  alerts_cut = refl;
  subpages = refl;
  log_header_cut = refl;
  two_commands = refl;
  commands_with_timeouts = refl;
  no_commands = refl;
  supported = refl;
  supported_with_timeouts = refl;
  not_supported = refl;
  another_way = refl;
  functions = refl;
  other_functions = refl;
  functions_cut = refl;
  of_hosts_alone = refl;
  source = refl;
}
