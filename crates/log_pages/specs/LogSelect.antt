-- LOG SELECT (SPC-4, "LOG SELECT command").
use Rattle.std.specs.Prelude.{ℕ, ◌==◌, ◌&&◌, not, Option, Some, None, Result, Ok, Err, if◌then◌else◌}
use Rattle.std.specs.Option.{option_map}
use Rattle.scsi_cdb.specs.declared.kind.Kind.{Kind}
use Rattle.scsi_cdb.specs.declared.kind.Kind.TheVariants.{Drive, Changer}
use Rattle.scsi_sense.specs.declared.condition.Condition.{Condition}
use Rattle.scsi_sense.specs.declared.condition.Condition.TheVariants.{InvalidFieldInCdb, ParameterListLengthError, InvalidFieldInParameterList}
use Rattle.log_pages.specs.declared.change.LogChange.{LogChange}
use Rattle.log_pages.specs.declared.change.LogChange.TheVariants as change
use Rattle.log_pages.specs.declared.log_select.LogSelect.{LogSelect}
use Rattle.log_pages.specs.declared.page.CommonLogPage.{CommonLogPage}
use Rattle.log_pages.specs.declared.page.CommonLogPage.TheVariants.{SupportedLogPages, SupportedLogPagesAndSubpages, TapeAlert}
use Rattle.log_pages.specs.declared.page.DriveLogPage.{DriveLogPage}
use Rattle.log_pages.specs.declared.page.DriveLogPage.TheVariants.{Common, WriteErrorCounters, ReadErrorCounters, SequentialAccessDevice, TapeCapacity}
use Rattle.log_pages.specs.Pages.{common_page_at, drive_page_at}

-- what PCR resets where a command names a page: page 00h, with each of its subpages, is for all pages
abbrev pub common_pages_reset : CommonLogPage → LogChange
common_pages_reset SupportedLogPages = change.AllPages
common_pages_reset SupportedLogPagesAndSubpages = change.AllPages
common_pages_reset TapeAlert = change.PageWithoutCounters

abbrev pub drive_pages_reset : DriveLogPage → LogChange
drive_pages_reset (Common page) = common_pages_reset page
drive_pages_reset WriteErrorCounters = change.WriteErrorCounters
drive_pages_reset ReadErrorCounters = change.ReadErrorCounters
drive_pages_reset SequentialAccessDevice = change.SequentialAccessDevice
drive_pages_reset TapeCapacity = change.PageWithoutCounters

abbrev pub pages_reset : Kind → (page_code subpage_code : ℕ) → Option LogChange
pages_reset Drive page_code subpage_code = option_map drive_pages_reset (drive_page_at page_code subpage_code)
pages_reset Changer page_code subpage_code = option_map common_pages_reset (common_page_at page_code subpage_code)

-- of the pages that a command names, where the unit has them
abbrev pub selected_pages : Option LogChange → LogSelect → (data_length : ℕ) → Result LogChange Condition
selected_pages None select data_length = Err InvalidFieldInCdb
selected_pages (Some pages) select data_length =
    if select.save_parameters then Err InvalidFieldInCdb
    else if select.parameter_code_reset && not (select.list_length == 0) then Err InvalidFieldInCdb
    else if select.parameter_code_reset then Ok pages
    else if select.list_length == 0 then Ok change.Unchanged
    else if not (select.list_length == data_length) then Err ParameterListLengthError
    else Err InvalidFieldInParameterList

-- what a LOG SELECT with data of so many bytes does, or why it is refused
abbrev pub selected : Kind → LogSelect → (data_length : ℕ) → Result LogChange Condition
selected kind select data_length = selected_pages (pages_reset kind select.page_code select.subpage_code) select data_length
