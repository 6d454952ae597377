-- The text of all metrics (profile).
use Rattle.std.specs.Prelude.{ℕ, List, ◌++◌}
use Rattle.std.specs.List.{flat_map}
use Rattle.record_lines.specs.Counts.{Count, Counts, Kind}
use Rattle.library_status.specs.declared.summary.LibrarySummary.{LibrarySummary}
use Rattle.library_status.specs.declared.summary.ServerSummary.{ServerSummary}
use Rattle.metrics_text.specs.Families.{family_name, heading}
use Rattle.metrics_text.specs.Server.{server_metrics}
use Rattle.metrics_text.specs.Units.{unit_metrics}
use Rattle.metrics_text.specs.Volumes.{volume_metrics}
use Rattle.metrics_text.specs.Words.{label_after, value_after}
use Rattle.metrics_text.specs.declared.server_counts.ServerCounts.{ServerCounts}
use Rattle.metrics_text.specs.declared.word.Word.TheVariants as word
use Rattle.metrics_text.specs.declared.family.Family.TheVariants as family

-- what was asked, and the cell; type and role are empty without one
unfoldable pub kind_labels : Kind → List ℕ
kind_labels k = label_after word.Class k.class ++ label_after word.ResType k.res_type ++ label_after word.Role k.role

unfoldable pub status_label : Kind → List ℕ
status_label k = label_after word.Status k.status

unfoldable pub count_line : Count → List ℕ
count_line c = family_name family.Records ++ kind_labels c.kind ++ status_label c.kind ++ value_after word.EndOfLabels c.count

unfoldable pub records_family : List Count → List ℕ
records_family cs = heading family.Records ++ flat_map count_line cs

unfoldable pub uncounted_family : ℕ → List ℕ
uncounted_family n = heading family.Uncounted ++ family_name family.Uncounted ++ value_after word.Space n

-- what was counted, each unit, each volume in a drive, and the server
unfoldable pub metrics : Counts → LibrarySummary → ServerSummary → ServerCounts → List ℕ
metrics c l s n =
    records_family c.counts ++ uncounted_family c.uncounted ++ unit_metrics l.units.items ++ volume_metrics l.units.items
    ++ server_metrics s n
