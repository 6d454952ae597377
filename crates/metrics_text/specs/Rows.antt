-- Worked rows: lines of metrics.
use Rattle.std.specs.Prelude.{◌≡◌, None, Some, [], ◌++◌, codes, false, replicate}
use Rattle.record_lines.specs.Counts.{Count}
use Rattle.library_status.specs.declared.summary.VolumeSummary.{VolumeSummary}
use Rattle.metrics_text.specs.Families.{heading}
use Rattle.metrics_text.specs.Server.{bytes_line, failing_line, memory_family, number_family, sync_family, sync_line}
use Rattle.metrics_text.specs.Text.{count_line, uncounted_family}
use Rattle.metrics_text.specs.Volumes.{volume_line}
use Rattle.metrics_text.specs.declared.family.Family.TheVariants as family
use Rattle.metrics_text.specs.declared.family.UnitNumber.TheVariants as number
use Rattle.metrics_text.specs.declared.family.VolumeNumber.TheVariants as volume
use Rattle.metrics_text.specs.declared.family.ServerNumber.TheVariants as server
use Rattle.metrics_text.specs.declared.word.Word.TheVariants as word

abbrev pub conflict : Count
conflict = record { kind = record { class = codes "WRITE-6"; res_type = codes "WE"; role = codes "OTHER"; status = codes "18" }; count = 12 }

abbrev pub no_cell : Count
no_cell = record { kind = record { class = codes "RESET"; res_type = []; role = []; status = codes "00" }; count = 1 }

abbrev pub in_drive : VolumeSummary
in_drive = record { tag = record { 0 = codes "A\"\\B" ++ replicate 28 32 }; is_protected = false; position = 2; objects = 7; unchanged = 4; bytes = 4096 }

pub record LinesOfMetrics : Type 0 where
  pub records : heading family.Records
      ≡ codes "# HELP vtl_records_total Records taken out of units, by what they say.\n# TYPE vtl_records_total counter\n"
  pub waiting : heading (family.Unit number.Waiting)
      ≡ codes "# HELP vtl_records_waiting Records that a unit hasn't handed out.\n# TYPE vtl_records_waiting gauge\n"
  pub conflict : count_line conflict ≡ codes "vtl_records_total{class=\"WRITE-6\",type=\"WE\",role=\"OTHER\",status=\"18\"} 12\n"
  pub no_cell : count_line no_cell ≡ codes "vtl_records_total{class=\"RESET\",type=\"\",role=\"\",status=\"00\"} 1\n"
  pub uncounted : uncounted_family 3
      ≡ codes "# HELP vtl_uncounted_records_total Records that couldn't be counted, for want of memory.\n# TYPE vtl_uncounted_records_total counter\nvtl_uncounted_records_total 3\n"
  pub unsaved : volume_line volume.Unsaved 1 in_drive ≡ codes "vtl_volume_unsaved_objects{unit=\"1\",volume=\"A\\\"\\\\B\"} 3\n"
  pub memory : memory_family (Some 12906496)
      ≡ codes "# HELP process_resident_memory_bytes Resident memory of the server, in bytes.\n# TYPE process_resident_memory_bytes gauge\nprocess_resident_memory_bytes 12906496\n"
  pub no_memory : memory_family None
      ≡ codes "# HELP process_resident_memory_bytes Resident memory of the server, in bytes.\n# TYPE process_resident_memory_bytes gauge\n"
  pub sessions : number_family server.Sessions 2 ≡ codes "# HELP vtl_sessions Sessions that go on.\n# TYPE vtl_sessions gauge\nvtl_sessions 2\n"
  pub awaited : number_family server.AwaitedSaves 1
      ≡ codes "# HELP vtl_awaited_saves Saves that replies wait for.\n# TYPE vtl_awaited_saves gauge\nvtl_awaited_saves 1\n"
  pub received : bytes_line word.Received 96 ≡ codes "vtl_session_bytes_total{direction=\"received\"} 96\n"
  pub sent : bytes_line word.Sent 1100 ≡ codes "vtl_session_bytes_total{direction=\"sent\"} 1100\n"
  pub failing : failing_line in_drive.tag ≡ codes "vtl_image_failing{volume=\"A\\\"\\\\B\"} 1\n"
  pub sync : sync_line 12003456 ≡ codes "vtl_last_sync_seconds 12.003456\n"
  pub short_sync : sync_line 81 ≡ codes "vtl_last_sync_seconds 0.000081\n"
  pub no_sync : sync_family None
      ≡ codes "# HELP vtl_last_sync_seconds How long the last save took that a reply waited for.\n# TYPE vtl_last_sync_seconds gauge\n"
