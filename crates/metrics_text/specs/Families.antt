-- Families of metrics: those of the same name, with one heading (profile).
use Rattle.std.specs.Prelude.{ℕ, List, ◌++◌, codes}
use Rattle.metrics_text.specs.Words.{word_text}
use Rattle.metrics_text.specs.declared.word.Word.TheVariants as word
use Rattle.metrics_text.specs.declared.family.Family.{Family}
use Rattle.metrics_text.specs.declared.family.Family.TheVariants as family
use Rattle.metrics_text.specs.declared.family.UnitNumber.TheVariants as number
use Rattle.metrics_text.specs.declared.family.VolumeNumber.TheVariants as volume
use Rattle.metrics_text.specs.declared.family.ServerNumber.TheVariants as server

unfoldable pub family_name : Family → List ℕ
family_name family.Records = codes "vtl_records_total"
family_name family.Uncounted = codes "vtl_uncounted_records_total"
family_name (family.Unit number.Last) = codes "vtl_records_last"
family_name (family.Unit number.Waiting) = codes "vtl_records_waiting"
family_name (family.Unit number.Slots) = codes "vtl_slots_used"
family_name (family.Unit number.Registrations) = codes "vtl_registrations"
family_name (family.Unit number.Reserved) = codes "vtl_reserved"
family_name (family.Unit number.Prevented) = codes "vtl_removal_prevented"
family_name (family.Volume volume.Position) = codes "vtl_volume_position"
family_name (family.Volume volume.Objects) = codes "vtl_volume_objects"
family_name (family.Volume volume.Unsaved) = codes "vtl_volume_unsaved_objects"
family_name (family.Volume volume.Bytes) = codes "vtl_volume_bytes"
family_name (family.Server server.Memory) = codes "process_resident_memory_bytes"
family_name (family.Server server.Sessions) = codes "vtl_sessions"
family_name (family.Server server.Commands) = codes "vtl_session_commands_total"
family_name (family.Server server.Bytes) = codes "vtl_session_bytes_total"
family_name (family.Server server.ImageFailing) = codes "vtl_image_failing"
family_name (family.Server server.InventoryFailing) = codes "vtl_inventory_failing"
family_name (family.Server server.AwaitedSaves) = codes "vtl_awaited_saves"
family_name (family.Server server.LastSync) = codes "vtl_last_sync_seconds"

unfoldable pub family_help : Family → List ℕ
family_help family.Records = codes "Records taken out of units, by what they say."
family_help family.Uncounted = codes "Records that couldn't be counted, for want of memory."
family_help (family.Unit number.Last) = codes "The number of a unit's last record."
family_help (family.Unit number.Waiting) = codes "Records that a unit hasn't handed out."
family_help (family.Unit number.Slots) = codes "Slots for nexuses that are used, of 128."
family_help (family.Unit number.Registrations) = codes "Registered nexuses."
family_help (family.Unit number.Reserved) = codes "Whether a reservation is held."
family_help (family.Unit number.Prevented) = codes "Whether removal is prevented."
family_help (family.Volume volume.Position) = codes "Objects before the position."
family_help (family.Volume volume.Objects) = codes "Blocks and filemarks of a volume."
family_help (family.Volume volume.Unsaved) = codes "Objects that its image hasn't."
family_help (family.Volume volume.Bytes) = codes "Bytes in the blocks of a volume."
family_help (family.Server server.Memory) = codes "Resident memory of the server, in bytes."
family_help (family.Server server.Sessions) = codes "Sessions that go on."
family_help (family.Server server.Commands) = codes "Commands that came in sessions."
family_help (family.Server server.Bytes) = codes "Bytes that came in sessions, and that were sent."
family_help (family.Server server.ImageFailing) = codes "Volumes whose images can't be written."
family_help (family.Server server.InventoryFailing) = codes "Whether the inventory can't be written."
family_help (family.Server server.AwaitedSaves) = codes "Saves that replies wait for."
family_help (family.Server server.LastSync) = codes "How long the last save took that a reply waited for."

-- what only grows while a library is served is a counter
unfoldable pub family_type : Family → List ℕ
family_type family.Records = codes "counter"
family_type family.Uncounted = codes "counter"
family_type (family.Unit number.Last) = codes "counter"
family_type (family.Unit number.Waiting) = codes "gauge"
family_type (family.Unit number.Slots) = codes "gauge"
family_type (family.Unit number.Registrations) = codes "gauge"
family_type (family.Unit number.Reserved) = codes "gauge"
family_type (family.Unit number.Prevented) = codes "gauge"
family_type (family.Volume volume.Position) = codes "gauge"
family_type (family.Volume volume.Objects) = codes "gauge"
family_type (family.Volume volume.Unsaved) = codes "gauge"
family_type (family.Volume volume.Bytes) = codes "gauge"
family_type (family.Server server.Memory) = codes "gauge"
family_type (family.Server server.Sessions) = codes "gauge"
family_type (family.Server server.Commands) = codes "counter"
family_type (family.Server server.Bytes) = codes "counter"
family_type (family.Server server.ImageFailing) = codes "gauge"
family_type (family.Server server.InventoryFailing) = codes "gauge"
family_type (family.Server server.AwaitedSaves) = codes "gauge"
family_type (family.Server server.LastSync) = codes "gauge"

unfoldable pub help_line : Family → List ℕ
help_line f = word_text word.Help ++ family_name f ++ word_text word.Space ++ family_help f

unfoldable pub type_line : Family → List ℕ
type_line f = word_text word.Type ++ family_name f ++ word_text word.Space ++ family_type f

-- the two lines before the metrics of a family
unfoldable pub heading : Family → List ℕ
heading f = help_line f ++ type_line f ++ word_text word.EndOfLine
