-- LOG SENSE (SPC-4, "LOG SENSE command").
use Rattle.std.specs.Prelude.{◌≡◌, ℕ, nat_lt, Bool, ◌||◌, List, Option, Some, None, Result, Ok, Err, if◌then◌else◌}
use Rattle.std.specs.Option.{option_map}
use Rattle.scsi_sense.specs.declared.condition.Condition.{Condition}
use Rattle.scsi_sense.specs.declared.condition.Condition.TheVariants.{InvalidFieldInCdb}
use Rattle.log_pages.specs.declared.drive_log.DriveLog.{DriveLog}
use Rattle.log_pages.specs.declared.log_sense.LogSense.{LogSense}
use Rattle.log_pages.specs.declared.page.CommonLogPage.{CommonLogPage}
use Rattle.log_pages.specs.declared.page.CommonLogPage.TheVariants.{SupportedLogPages, SupportedLogPagesAndSubpages, TapeAlert}
use Rattle.log_pages.specs.declared.page.DriveLogPage.{DriveLogPage}
use Rattle.log_pages.specs.declared.page.DriveLogPage.TheVariants.{Common, WriteErrorCounters, ReadErrorCounters, SequentialAccessDevice, TapeCapacity}
use Rattle.log_pages.specs.Parameters.{parameter_page}
use Rattle.log_pages.specs.Pages.{common_page_at, drive_page_at, last_of_common, last_of_drive, drive_log_pages, drive_log_pages_and_subpages, changer_log_pages, changer_log_pages_and_subpages, error_counters, sequential_access, tape_alert_flags, tape_capacity}

-- what no unit supports: PPC, SP, and a parameter pointer above the last code of the page
abbrev pub is_refused : LogSense → (last_code : ℕ) → Bool
is_refused sense last_code =
    sense.parameter_pointer_control || sense.save_parameters || nat_lt last_code sense.parameter_pointer

-- a page of a drive, from the parameter pointer on
abbrev pub drive_page : DriveLogPage → (pointer : ℕ) → DriveLog → List ℕ
drive_page (Common SupportedLogPages) pointer log = drive_log_pages
drive_page (Common SupportedLogPagesAndSubpages) pointer log = drive_log_pages_and_subpages
drive_page (Common TapeAlert) pointer log = parameter_page 0x2E pointer tape_alert_flags
drive_page WriteErrorCounters pointer log = parameter_page 0x02 pointer (error_counters log.counters.write_bytes_processed)
drive_page ReadErrorCounters pointer log = parameter_page 0x03 pointer (error_counters log.counters.read_bytes_processed)
drive_page SequentialAccessDevice pointer log = parameter_page 0x0C pointer (sequential_access log.counters log.volume)
drive_page TapeCapacity pointer log = parameter_page 0x31 pointer (tape_capacity log.volume)

-- a page of a changer
abbrev pub changer_page : CommonLogPage → (pointer : ℕ) → List ℕ
changer_page SupportedLogPages pointer = changer_log_pages
changer_page SupportedLogPagesAndSubpages pointer = changer_log_pages_and_subpages
changer_page TapeAlert pointer = parameter_page 0x2E pointer tape_alert_flags

abbrev pub drive_data : Option DriveLogPage → LogSense → DriveLog → Result (List ℕ) Condition
drive_data None sense log = Err InvalidFieldInCdb
drive_data (Some page) sense log =
    if is_refused sense (last_of_drive page) then Err InvalidFieldInCdb else Ok (drive_page page sense.parameter_pointer log)

abbrev pub changer_data : Option CommonLogPage → LogSense → Result (List ℕ) Condition
changer_data None sense = Err InvalidFieldInCdb
changer_data (Some page) sense =
    if is_refused sense (last_of_common page) then Err InvalidFieldInCdb else Ok (changer_page page sense.parameter_pointer)

-- why LOG SENSE is refused by its fields, where its page has this last parameter code, or the unit hasn't the page
abbrev pub page_fault : (last_code : Option ℕ) → LogSense → Option Condition
page_fault None sense = Some InvalidFieldInCdb
page_fault (Some last_code) sense = if is_refused sense last_code then Some InvalidFieldInCdb else None

abbrev pub drive_log_fault : LogSense → Option Condition
drive_log_fault sense = page_fault (option_map last_of_drive (drive_page_at sense.page_code sense.subpage_code)) sense

abbrev pub changer_log_fault : LogSense → Option Condition
changer_log_fault sense = page_fault (option_map last_of_common (common_page_at sense.page_code sense.subpage_code)) sense

-- the data of LOG SENSE, or why it is refused
abbrev pub drive_log_data : LogSense → DriveLog → Result (List ℕ) Condition
drive_log_data sense log = drive_data (drive_page_at sense.page_code sense.subpage_code) sense log

abbrev pub changer_log_data : LogSense → Result (List ℕ) Condition
changer_log_data sense = changer_data (common_page_at sense.page_code sense.subpage_code) sense

-- Law: it is refused for what its fields say alone
abbrev pub why_not : Result (List ℕ) Condition → Option Condition
why_not (Ok bytes) = None
why_not (Err condition) = Some condition

abbrev pub DrivesRefuseFields : Type 0
DrivesRefuseFields = (sense : LogSense) (log : DriveLog) → why_not (drive_log_data sense log) ≡ drive_log_fault sense

abbrev pub ChangersRefuseFields : Type 0
ChangersRefuseFields = (sense : LogSense) → why_not (changer_log_data sense) ≡ changer_log_fault sense
