-- The metrics of the server (profile).
use Rattle.std.specs.Prelude.{ℕ, ◌-◌, ◌/◌, ◌%◌, ◌^◌, false, List, [], ◌++◌, length, Option, None, Some}
use Rattle.std.specs.Fmt.{decimal, format_spec, padded_integral}
use Rattle.std.specs.List.{flat_map}
use Rattle.tape_medium.specs.declared.volume.VolumeTag.{VolumeTag}
use Rattle.library_status.specs.Words.{trimmed}
use Rattle.library_status.specs.declared.summary.ServerSummary.{ServerSummary}
use Rattle.metrics_text.specs.Families.{family_name, heading}
use Rattle.metrics_text.specs.Units.{truth}
use Rattle.metrics_text.specs.Words.{label_after, number_after, value_after, word_text}
use Rattle.metrics_text.specs.declared.word.Word.{Word}
use Rattle.metrics_text.specs.declared.word.Word.TheVariants as word
use Rattle.metrics_text.specs.declared.family.Family.TheVariants as family
use Rattle.metrics_text.specs.declared.family.ServerNumber.{ServerNumber}
use Rattle.metrics_text.specs.declared.family.ServerNumber.TheVariants as number
use Rattle.metrics_text.specs.declared.server_counts.ServerCounts.{ServerCounts}

unfoldable pub number_line : ServerNumber → ℕ → List ℕ
number_line n value = family_name (family.Server n) ++ value_after word.Space value

-- a family of one metric
unfoldable pub number_family : ServerNumber → ℕ → List ℕ
number_family n value = heading (family.Server n) ++ number_line n value

-- MEMORY

abbrev pub memory_lines : Option ℕ → List ℕ
memory_lines None = []
memory_lines (Some bytes) = number_line number.Memory bytes

unfoldable pub memory_family : Option ℕ → List ℕ
memory_family memory = heading (family.Server number.Memory) ++ memory_lines memory

-- SESSIONS

unfoldable pub bytes_line : (direction : Word) → ℕ → List ℕ
bytes_line direction bytes = family_name (family.Server number.Bytes) ++ word_text direction ++ value_after word.EndOfLabels bytes

unfoldable pub bytes_family : ServerCounts → List ℕ
bytes_family c = heading (family.Server number.Bytes) ++ bytes_line word.Received c.received ++ bytes_line word.Sent c.sent

unfoldable pub session_metrics : ServerCounts → List ℕ
session_metrics c = number_family number.Sessions c.sessions ++ number_family number.Commands c.commands ++ bytes_family c

-- WHAT IS SAVED

-- a volume whose image can't be written, by its tag without the spaces at its end
unfoldable pub failing_name : VolumeTag → List ℕ
failing_name tag = family_name (family.Server number.ImageFailing) ++ label_after word.OfVolume (trimmed tag.0 (length tag.0))

unfoldable pub failing_line : VolumeTag → List ℕ
failing_line tag = failing_name tag ++ value_after word.EndOfLabels 1

unfoldable pub failing_family : List VolumeTag → List ℕ
failing_family tags = heading (family.Server number.ImageFailing) ++ flat_map failing_line tags

unfoldable pub failing_metrics : ServerSummary → List ℕ
failing_metrics s = failing_family s.failing.items ++ number_family number.InventoryFailing (truth s.is_inventory_failing)

-- microseconds as seconds, with six digits behind the point
unfoldable pub seconds_after : Word → (micros : ℕ) → List ℕ
seconds_after before micros =
    number_after before (micros / 1000000) ++ word_text word.Point
    ++ padded_integral (format_spec 32 0 4 6 (2 ^ 64 - 1)) false [] (decimal (micros % 1000000))

unfoldable pub sync_line : (micros : ℕ) → List ℕ
sync_line micros = family_name (family.Server number.LastSync) ++ seconds_after word.Space micros ++ word_text word.EndOfLine

abbrev pub sync_lines : Option ℕ → List ℕ
sync_lines None = []
sync_lines (Some micros) = sync_line micros

unfoldable pub sync_family : Option ℕ → List ℕ
sync_family micros = heading (family.Server number.LastSync) ++ sync_lines micros

unfoldable pub server_metrics : ServerSummary → ServerCounts → List ℕ
server_metrics s c =
    memory_family s.memory ++ session_metrics c ++ failing_metrics s ++ number_family number.AwaitedSaves c.awaited_saves
    ++ sync_family c.last_sync
