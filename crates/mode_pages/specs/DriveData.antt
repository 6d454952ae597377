-- The data of MODE SENSE of a drive (SSC-4, "Mode parameters").
use Rattle.std.specs.Prelude.{ℕ, Bool, true, false, List, [], ◌∷◌, flat_map, Option, Some, None, is_some, Result, Ok, Err}
use Rattle.scsi_cdb.specs.Bytes.{three}
use Rattle.scsi_sense.specs.declared.condition.Condition.{Condition}
use Rattle.mode_pages.specs.Values.{default_values}
use Rattle.mode_pages.specs.Lists.{mode_data}
use Rattle.mode_pages.specs.Asked.{asked, asked_fault, those_asked}
use Rattle.mode_pages.specs.DrivePages.{drive_pages, page_of_code, page_values, changeable_bits}
use Rattle.mode_pages.specs.declared.drive_page.DrivePage.{DrivePage}
use Rattle.mode_pages.specs.declared.request.ModeSense.{ModeSense}
use Rattle.mode_pages.specs.declared.request.PageControl.{PageControl}
use Rattle.mode_pages.specs.declared.request.PageControl.TheVariants as control
use Rattle.mode_pages.specs.declared.values.DriveState.{DriveState}
use Rattle.mode_pages.specs.declared.values.ModeValues.{ModeValues}

-- a page by the page control; of saved values there are none
abbrev pub page_shown : PageControl → ModeValues → DrivePage → List ℕ
page_shown control.Current values page = page_values page values.compression
page_shown control.Changeable values page = changeable_bits page
page_shown control.Default values page = page_values page default_values.compression
page_shown control.Saved values page = []

-- all bits of the block length can be changed
abbrev pub block_length_shown : PageControl → ModeValues → ℕ
block_length_shown control.Current values = values.block_length
block_length_shown control.Changeable values = 0xFFFFFF
block_length_shown control.Default values = default_values.block_length
block_length_shown control.Saved values = 0

-- the block descriptor, unless it is disabled: density code 00h, no number of blocks, the block length
abbrev pub descriptors : (disabled : Bool) → (block_length : ℕ) → List ℕ
descriptors true block_length = []
descriptors false block_length = 0x00 ∷ 0 ∷ 0 ∷ 0 ∷ 0 ∷ three block_length

-- the medium type is 80h with a volume in the bay (profile)
abbrev pub medium_type : (has_volume : Bool) → ℕ
medium_type true = 0x80
medium_type false = 0x00

-- WP and the buffered mode, 1
abbrev pub device_specific : (write_protected : Bool) → ℕ
device_specific true = 0x90
device_specific false = 0x10

abbrev pub drive_fault : ModeSense → Option Condition
drive_fault sense = asked_fault sense.page_control (asked sense.page_code sense.subpage_code) (is_some (page_of_code sense.page_code))

abbrev pub drive_pages_asked : ModeSense → List DrivePage
drive_pages_asked sense = those_asked (asked sense.page_code sense.subpage_code) drive_pages (page_of_code sense.page_code)

-- the pages' bytes
unfoldable pub pages_shown : PageControl → ModeValues → List DrivePage → List ℕ
pages_shown page_control values pages = flat_map (page_shown page_control values) pages

-- the data of a MODE SENSE that isn't refused
abbrev pub drive_data : ModeSense → DriveState → List ℕ
drive_data sense state =
    mode_data sense.form (medium_type state.has_volume) (device_specific state.write_protected)
    (descriptors sense.disable_block_descriptors (block_length_shown sense.page_control state.values))
    (pages_shown sense.page_control state.values (drive_pages_asked sense))

abbrev pub answered : Option Condition → List ℕ → Result (List ℕ) Condition
answered (Some fault) bytes = Err fault
answered None bytes = Ok bytes

-- THE ANSWER of a drive to MODE SENSE, before it is cut at the allocation length
abbrev pub drive_answer : ModeSense → DriveState → Result (List ℕ) Condition
drive_answer sense state = answered (drive_fault sense) (drive_data sense state)
