use Rattle.std.proofs.Common.{refl}
use Rattle.std.specs.Fmt.{char_count, digits, padded_integral}
use Rattle.library_status.specs.Words.{key_after, nexus_after, number_after, tag_after, word_text, words_after}
use Rattle.library_status.specs.Json.{address_json, cartridge_json, element_json, holds_json, in_drive_json, objects_json, tape_json}
use Rattle.library_status.specs.Picture.{cell_of, element_picture, failing_line, first_row, in_columns, row, size_in_memory}
use Rattle.library_status.specs.Sessions.{from_json, name_json, origin_json, quoted, session_json, start_json, traffic_json, whose_json}
use Rattle.library_status.proofs.laws.worked_rows.Goals as goal

pub returns : goal.returns
unfolding key_after nexus_after number_after tag_after word_text words_after address_json cartridge_json element_json holds_json in_drive_json objects_json tape_json cell_of element_picture failing_line first_row in_columns row size_in_memory from_json name_json origin_json quoted session_json start_json traffic_json whose_json digits padded_integral char_count lib.Utf8.encode
returns c = record {
  rows = record {
    volume = refl;
    no_volume = refl;
    empty = refl;
    escaped = refl;
    held = refl;
    held_by_all = refl;
    not_held = refl;
    registration = refl;
    session = refl;
    memory = refl;
    no_memory = refl;
    failing = refl;
    first_of_a_row = refl;
    within_a_row = refl;
    short_tag = refl;
    long_tag = refl;
    size = refl;
    size_of_a_page = refl;
    not_written = refl;
  };
}
