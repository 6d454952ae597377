-- Words for rows and laws.
use Rattle.std.specs.Prelude.{◌≡◌, ℕ, ◌^◌, ◌<◌, ◌≤◌, Bool, true, false, ◌+◌, if◌then◌else◌, List, length, slice_index, Result, Ok, IfOk, Some}
use Rattle.scsi_sense.specs.declared.condition.Condition.{Condition}
use Rattle.mode_pages.specs.DriveData.{drive_data}
use Rattle.mode_pages.specs.DrivePages.{changeable_bits, page_code, page_length, page_of_code, page_values}
use Rattle.mode_pages.specs.Select.{selected}
use Rattle.mode_pages.specs.Values.{mode_values}
use Rattle.mode_pages.specs.declared.drive_page.DrivePage.{DrivePage}
use Rattle.mode_pages.specs.declared.drive_page.DrivePage.TheVariants.{DataCompression, DeviceConfiguration}
use Rattle.mode_pages.specs.declared.elements.ElementAddresses.{ElementAddresses}
use Rattle.mode_pages.specs.declared.request.HeaderForm.{HeaderForm}
use Rattle.mode_pages.specs.declared.request.ModeSense.{ModeSense}
use Rattle.mode_pages.specs.declared.request.PageControl.{PageControl}
use Rattle.mode_pages.specs.declared.request.PageControl.TheVariants.{Current}
use Rattle.mode_pages.specs.declared.values.DriveState.{DriveState}
use Rattle.mode_pages.specs.declared.values.ModeValues.{ModeValues}

abbrev pub sense : HeaderForm → (disable_block_descriptors : Bool) → PageControl → (page_code subpage_code : ℕ) → ModeSense
sense form disable_block_descriptors page_control page_code subpage_code = record {
  form = form;
  disable_block_descriptors = disable_block_descriptors;
  page_control = page_control;
  page_code = page_code;
  subpage_code = subpage_code;
}

abbrev pub drive_state : ModeValues → (write_protected has_volume : Bool) → DriveState
drive_state values write_protected has_volume = record { values = values; write_protected = write_protected; has_volume = has_volume }

-- a drive's answer where it shows current values with the block descriptor
abbrev pub shown : HeaderForm → (page_code : ℕ) → DriveState → List ℕ
shown form page_code state = drive_data (sense form false Current page_code 0x00) state

-- a MODE SELECT of a whole list, without SP
abbrev pub sent : ModeValues → (most_block : ℕ) → HeaderForm → List ℕ → Result ModeValues Condition
sent before most_block form list = selected before most_block form false (length list) list

-- the two pages that show whether compression is on
abbrev pub shows_compression : DrivePage → Bool
shows_compression DataCompression = true
shows_compression DeviceConfiguration = true
shows_compression page = false

-- the block length can be sent back: it has 24 bits and isn't above the longest block
abbrev pub CanBeSent : (most_block : ℕ) → DriveState → Type 0
CanBeSent most_block state = (state.values.block_length ≤ most_block) × (state.values.block_length < 2 ^ 24)

-- A page as it is shown may be sent: the values are then those shown. Values that the page doesn't show stay.
abbrev pub EachPageIsSelected : Type 0
EachPageIsSelected = (form : HeaderForm) (page : DrivePage) (before : ModeValues) (state : DriveState) (most_block : ℕ) → CanBeSent most_block state
    → sent before most_block form (shown form (page_code page) state)
    ≡ Ok (mode_values state.values.block_length (if shows_compression page then state.values.compression else before.compression))

-- all pages as they are shown, with the block descriptor or without
abbrev pub AllPagesAreSelected : Type 0
AllPagesAreSelected = (form : HeaderForm) (disabled : Bool) (before : ModeValues) (state : DriveState) (most_block : ℕ) → CanBeSent most_block state
    → sent before most_block form (drive_data (sense form disabled Current 0x3F 0x00) state)
    ≡ Ok (mode_values (if disabled then before.block_length else state.values.block_length) state.values.compression)

-- the block descriptor alone
abbrev pub DescriptorIsSelected : Type 0
DescriptorIsSelected = (form : HeaderForm) (before : ModeValues) (state : DriveState) (most_block : ℕ) → CanBeSent most_block state
    → sent before most_block form (shown form 0x00 state) ≡ Ok (mode_values state.values.block_length before.compression)

-- what a drive shows, sent back, changes nothing
abbrev pub ShownChangesNothing : Type 0
ShownChangesNothing = (form : HeaderForm) (page : DrivePage) (state : DriveState) (most_block : ℕ) → CanBeSent most_block state
    → sent state.values most_block form (shown form (page_code page) state) ≡ Ok state.values

-- what is selected has no longer blocks than the longest
abbrev pub LengthStaysWithin : Type 0
LengthStaysWithin = (before : ModeValues) (most_block : ℕ) (form : HeaderForm) (save_pages : Bool) (list_length : ℕ) (list : List ℕ) → before.block_length ≤ most_block
    → IfOk (selected before most_block form save_pages list_length list) (λ values. values.block_length ≤ most_block)

-- a page begins with its code and PAGE LENGTH, has that length, and is found by its code
abbrev pub PagesAreWhole : Type 0
PagesAreWhole = (page : DrivePage) (compression : Bool)
    → (length (page_values page compression) ≡ 2 + page_length page) × (slice_index (page_values page compression) 0 ≡ page_code page)
    × (slice_index (page_values page compression) 1 ≡ page_length page) × (length (changeable_bits page) ≡ 2 + page_length page)
    × (slice_index (changeable_bits page) 0 ≡ page_code page) × (slice_index (changeable_bits page) 1 ≡ page_length page)
    × (page_of_code (page_code page) ≡ Some page)

-- a changer with these numbers of storage, import/export and data transfer elements, at the addresses of this target (profile)
abbrev pub elements : (storage import_export data_transfer : ℕ) → ElementAddresses
elements storage import_export data_transfer = record {
  medium_transport = record { first = 0x000; count = 1 };
  storage = record { first = 0x400; count = storage };
  import_export = record { first = 0x200; count = import_export };
  data_transfer = record { first = 0x100; count = data_transfer };
}
