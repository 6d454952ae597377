-- The log pages of each kind of unit, by their codes, and the parameters of each (SPC-4, "Log parameters"; SSC-4, "Log parameters").
use Rattle.std.specs.Prelude.{ℕ, zero, suc, ◌-◌, ◌/◌, ◌^◌, ◌==◌, min, ◌&&◌, List, [], ◌∷◌, ◌++◌, Option, Some, None, if◌then◌else◌}
use Rattle.log_pages.specs.declared.counters.LogCounters.{LogCounters}
use Rattle.log_pages.specs.declared.drive_log.VolumeLog.{VolumeLog}
use Rattle.log_pages.specs.declared.page.CommonLogPage.{CommonLogPage}
use Rattle.log_pages.specs.declared.page.CommonLogPage.TheVariants.{SupportedLogPages, SupportedLogPagesAndSubpages, TapeAlert}
use Rattle.log_pages.specs.declared.page.DriveLogPage.{DriveLogPage}
use Rattle.log_pages.specs.declared.page.DriveLogPage.TheVariants.{Common, WriteErrorCounters, ReadErrorCounters, SequentialAccessDevice, TapeCapacity}
use Rattle.log_pages.specs.declared.parameter.LogParameter.{LogParameter}
use Rattle.log_pages.specs.declared.parameter.ParameterValue.TheVariants.{OneByte}
use Rattle.log_pages.specs.Parameters.{number, counter, log_page}

-- the pages that every unit has
abbrev pub common_page_at : (page_code subpage_code : ℕ) → Option CommonLogPage
common_page_at page_code subpage_code =
    if page_code == 0x00 && subpage_code == 0x00 then Some SupportedLogPages
    else if page_code == 0x00 && subpage_code == 0xFF then Some SupportedLogPagesAndSubpages
    else if page_code == 0x2E && subpage_code == 0x00 then Some TapeAlert
    else None

abbrev pub of_drive : Option CommonLogPage → Option DriveLogPage
of_drive None = None
of_drive (Some page) = Some (Common page)

-- those of a drive
abbrev pub drive_page_at : (page_code subpage_code : ℕ) → Option DriveLogPage
drive_page_at page_code subpage_code =
    if page_code == 0x02 && subpage_code == 0x00 then Some WriteErrorCounters
    else if page_code == 0x03 && subpage_code == 0x00 then Some ReadErrorCounters
    else if page_code == 0x0C && subpage_code == 0x00 then Some SequentialAccessDevice
    else if page_code == 0x31 && subpage_code == 0x00 then Some TapeCapacity
    else of_drive (common_page_at page_code subpage_code)

-- the last parameter code of a page, 0 where it has no parameters
abbrev pub last_of_common : CommonLogPage → ℕ
last_of_common SupportedLogPages = 0x0000
last_of_common SupportedLogPagesAndSubpages = 0x0000
last_of_common TapeAlert = 0x0040

abbrev pub last_of_drive : DriveLogPage → ℕ
last_of_drive (Common page) = last_of_common page
last_of_drive WriteErrorCounters = 0x0006
last_of_drive ReadErrorCounters = 0x0006
last_of_drive SequentialAccessDevice = 0x0100
last_of_drive TapeCapacity = 0x0004

-- the supported pages: their codes, and pairs of page and subpage code
abbrev pub drive_log_pages : List ℕ
drive_log_pages = log_page 0x00 0x00 (0x00 ∷ 0x02 ∷ 0x03 ∷ 0x0C ∷ 0x2E ∷ 0x31 ∷ [])

abbrev pub drive_log_pages_and_subpages : List ℕ
drive_log_pages_and_subpages = log_page 0x40 0xFF
    (0x00 ∷ 0x00 ∷ 0x00 ∷ 0xFF ∷ 0x02 ∷ 0x00 ∷ 0x03 ∷ 0x00 ∷ 0x0C ∷ 0x00 ∷ 0x2E ∷ 0x00 ∷ 0x31 ∷ 0x00 ∷ [])

abbrev pub changer_log_pages : List ℕ
changer_log_pages = log_page 0x00 0x00 (0x00 ∷ 0x2E ∷ [])

abbrev pub changer_log_pages_and_subpages : List ℕ
changer_log_pages_and_subpages = log_page 0x40 0xFF (0x00 ∷ 0x00 ∷ 0x00 ∷ 0xFF ∷ 0x2E ∷ 0x00 ∷ [])

-- whole megabytes (10 ^ 6 bytes) and mebibytes (2 ^ 20), at most 0xFFFFFFFE (profile)
abbrev pub megabytes : (bytes : ℕ) → ℕ
megabytes bytes = min (bytes / 1_000_000) 0xFFFFFFFE

abbrev pub mebibytes : (bytes : ℕ) → ℕ
mebibytes bytes = min (bytes / 2 ^ 20) 0xFFFFFFFE

-- an error counter page: nothing was corrected and nothing failed, 0005h is the total of bytes processed
abbrev pub error_counters : (total_bytes_processed : ℕ) → List LogParameter
error_counters total_bytes_processed =
    number 0x0000 0 ∷ number 0x0001 0 ∷ number 0x0002 0 ∷ number 0x0003 0 ∷ number 0x0004 0
    ∷ counter 0x0005 total_bytes_processed ∷ number 0x0006 0 ∷ []

-- to the end of data, to early warning, from there on, and to the position, in megabytes; 0xFFFFFFFF without a volume
abbrev pub volume_parameters : Option VolumeLog → List LogParameter
volume_parameters None =
    number 0x0004 0xFFFFFFFF ∷ number 0x0005 0xFFFFFFFF ∷ number 0x0006 0xFFFFFFFF ∷ number 0x0007 0xFFFFFFFF ∷ []
volume_parameters (Some volume) =
    number 0x0004 (megabytes volume.to_end_of_data)
    ∷ number 0x0005 (megabytes (volume.capacity - volume.early_warning))
    ∷ number 0x0006 (megabytes volume.early_warning)
    ∷ number 0x0007 (megabytes volume.position) ∷ []

-- the Sequential-Access Device page: bytes received and written by WRITE, read and sent by READ, then the volume, nothing in the object
-- buffer, and no cleaning required
abbrev pub sequential_access : LogCounters → Option VolumeLog → List LogParameter
sequential_access counters volume =
    counter 0x0000 counters.data_bytes_received ∷ counter 0x0001 counters.data_bytes_received
    ∷ counter 0x0002 counters.data_bytes_read ∷ counter 0x0003 counters.data_bytes_sent ∷ []
    ++ volume_parameters volume
    ++ number 0x0008 0 ∷ number 0x0100 0 ∷ []

-- the TapeAlert flags from 1 to n: none is set
abbrev pub flags_to : (n : ℕ) → List LogParameter
flags_to zero = []
flags_to (suc n) = flags_to n ++ record { code = suc n; value = OneByte 0 } ∷ []

unfoldable pub tape_alert_flags : List LogParameter
tape_alert_flags = flags_to 64

-- the Tape Capacity page: mebibytes left in partitions 0 and 1, and those of each; there is no partition 1
abbrev pub capacities : (left capacity : ℕ) → List LogParameter
capacities left capacity = number 0x0001 left ∷ number 0x0002 0 ∷ number 0x0003 capacity ∷ number 0x0004 0 ∷ []

abbrev pub tape_capacity : Option VolumeLog → List LogParameter
tape_capacity None = capacities 0 0
tape_capacity (Some volume) = capacities (mebibytes (volume.capacity - volume.to_end_of_data)) (mebibytes volume.capacity)
