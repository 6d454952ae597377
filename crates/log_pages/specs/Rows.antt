-- Commands, counters and volumes of worked rows.
use Rattle.std.specs.Prelude.{ℕ, Bool, false, Some, None}
use Rattle.log_pages.specs.declared.counters.LogCounters.{LogCounters}
use Rattle.log_pages.specs.declared.drive_log.DriveLog.{DriveLog}
use Rattle.log_pages.specs.declared.drive_log.VolumeLog.{VolumeLog}
use Rattle.log_pages.specs.declared.log_select.LogSelect.{LogSelect}
use Rattle.log_pages.specs.declared.log_sense.LogSense.{LogSense}

-- LOG SENSE of a page and a subpage, with a parameter pointer
abbrev pub log_sense : (page_code subpage_code parameter_pointer : ℕ) → LogSense
log_sense page_code subpage_code parameter_pointer = record {
  parameter_pointer_control = false;
  save_parameters = false;
  page_code = page_code;
  subpage_code = subpage_code;
  parameter_pointer = parameter_pointer;
}

-- LOG SELECT without SP
abbrev pub log_select : (parameter_code_reset : Bool) → (page_code subpage_code list_length : ℕ) → LogSelect
log_select parameter_code_reset page_code subpage_code list_length = record {
  parameter_code_reset = parameter_code_reset;
  save_parameters = false;
  page_code = page_code;
  subpage_code = subpage_code;
  list_length = list_length;
}

abbrev pub counters_of : (written processed received passed sent : ℕ) → LogCounters
counters_of written processed received passed sent = record {
  write_bytes_processed = written;
  read_bytes_processed = processed;
  data_bytes_received = received;
  data_bytes_read = passed;
  data_bytes_sent = sent;
}

-- counters that all differ
abbrev pub some_counters : LogCounters
some_counters = counters_of 0x0102030405060708 0x1112131415161718 0x2122232425262728 0x3132333435363738 0x4142434445464748

-- 16 MiB, of which 12 MiB are written, with 2 MiB from early warning on, at 3,999,999 bytes
abbrev pub some_volume : VolumeLog
some_volume = record { capacity = 16777216; to_end_of_data = 12582912; position = 3999999; early_warning = 2097152 }

abbrev pub loaded : DriveLog
loaded = record { counters = some_counters; volume = Some some_volume }

abbrev pub empty : DriveLog
empty = record { counters = some_counters; volume = None }
