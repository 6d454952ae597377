use Rattle.std.proofs.Common.{refl}
use Rattle.std.specs.Fmt.{char_count, digits, padded_integral}
use Rattle.metrics_text.specs.Families.{family_help, family_name, family_type, heading, help_line, type_line}
use Rattle.metrics_text.specs.Server.{bytes_line, failing_line, failing_name, memory_family, number_family, number_line, seconds_after, sync_family, sync_line}
use Rattle.metrics_text.specs.Text.{count_line, kind_labels, status_label, uncounted_family}
use Rattle.metrics_text.specs.Volumes.{place_of, volume_line}
use Rattle.metrics_text.specs.Words.{label_after, number_after, value_after, word_text}
use Rattle.metrics_text.proofs.laws.worked_rows.Goals as goal

pub returns : goal.returns
unfolding family_help family_name family_type heading help_line type_line bytes_line failing_line failing_name memory_family number_family number_line seconds_after sync_family sync_line count_line kind_labels status_label uncounted_family place_of volume_line label_after number_after value_after word_text char_count digits padded_integral lib.Utf8.encode
returns c = record {
  records = refl;
  waiting = refl;
  conflict = refl;
  no_cell = refl;
  uncounted = refl;
  unsaved = refl;
  memory = refl;
  no_memory = refl;
  sessions = refl;
  awaited = refl;
  received = refl;
  sent = refl;
  failing = refl;
  sync = refl;
  short_sync = refl;
  no_sync = refl;
}
