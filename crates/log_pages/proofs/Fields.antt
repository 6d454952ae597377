-- LOG SENSE is refused for what its fields say alone.
use Rattle.std.proofs.Common.{◌≡◌, ℕ, Bool, true, false, cond, List, Option, Some, None, Ok, Err, refl}
use Rattle.std.specs.Option.{option_map}
use Rattle.scsi_sense.specs.declared.condition.Condition.TheVariants.{InvalidFieldInCdb}
use Rattle.log_pages.specs.LogSense.{is_refused, drive_page, drive_data, changer_page, changer_data, page_fault, why_not, DrivesRefuseFields, ChangersRefuseFields}
use Rattle.log_pages.specs.Pages.{last_of_common, last_of_drive, common_page_at, drive_page_at}
use Rattle.log_pages.specs.declared.drive_log.DriveLog.{DriveLog}
use Rattle.log_pages.specs.declared.log_sense.LogSense.{LogSense}
use Rattle.log_pages.specs.declared.page.CommonLogPage.{CommonLogPage}
use Rattle.log_pages.specs.declared.page.DriveLogPage.{DriveLogPage}

tested : (refused : Bool) (bytes : List ℕ) → why_not (cond refused (Err InvalidFieldInCdb) (Ok bytes)) ≡ cond refused (Some InvalidFieldInCdb) None
tested true bytes = refl
tested false bytes = refl

of_drive : (page : Option DriveLogPage) (sense : LogSense) (log : DriveLog) → why_not (drive_data page sense log) ≡ page_fault (option_map last_of_drive page) sense
of_drive None sense log = refl
of_drive (Some page) sense log = tested (is_refused sense (last_of_drive page)) (drive_page page sense.parameter_pointer log)

of_changer : (page : Option CommonLogPage) (sense : LogSense) → why_not (changer_data page sense) ≡ page_fault (option_map last_of_common page) sense
of_changer None sense = refl
of_changer (Some page) sense = tested (is_refused sense (last_of_common page)) (changer_page page sense.parameter_pointer)

pub drives_refuse_fields : DrivesRefuseFields
drives_refuse_fields sense log = of_drive (drive_page_at sense.page_code sense.subpage_code) sense log

pub changers_refuse_fields : ChangersRefuseFields
changers_refuse_fields sense = of_changer (common_page_at sense.page_code sense.subpage_code) sense
