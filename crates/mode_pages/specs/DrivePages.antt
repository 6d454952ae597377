-- The mode pages of a drive (SPC-4 and SSC-4, "Mode parameters"), each to the byte.
use Rattle.std.specs.Prelude.{ℕ, ◌==◌, Bool, true, false, if◌then◌else◌, List, [], ◌∷◌, ◌++◌, replicate, Option, Some, None}
use Rattle.mode_pages.specs.declared.drive_page.DrivePage.{DrivePage}
use Rattle.mode_pages.specs.declared.drive_page.DrivePage.TheVariants.{ReadWriteErrorRecovery, DisconnectReconnect, Control, DataCompression, DeviceConfiguration, MediumPartition, InformationalExceptionsControl, MediumConfiguration}

-- the pages, ascending by page code; none has a subpage
abbrev pub drive_pages : List DrivePage
drive_pages =
    ReadWriteErrorRecovery ∷ DisconnectReconnect ∷ Control ∷ DataCompression ∷ DeviceConfiguration ∷ MediumPartition
    ∷ InformationalExceptionsControl ∷ MediumConfiguration ∷ []

abbrev pub page_code : DrivePage → ℕ
page_code ReadWriteErrorRecovery = 0x01
page_code DisconnectReconnect = 0x02
page_code Control = 0x0A
page_code DataCompression = 0x0F
page_code DeviceConfiguration = 0x10
page_code MediumPartition = 0x11
page_code InformationalExceptionsControl = 0x1C
page_code MediumConfiguration = 0x1D

-- PAGE LENGTH: how many bytes follow the first two
abbrev pub page_length : DrivePage → ℕ
page_length ReadWriteErrorRecovery = 0x0A
page_length DisconnectReconnect = 0x0E
page_length Control = 0x0A
page_length DataCompression = 0x0E
page_length DeviceConfiguration = 0x0E
page_length MediumPartition = 0x06
page_length InformationalExceptionsControl = 0x0A
page_length MediumConfiguration = 0x1E

-- the page of a page code, where there is one
abbrev pub page_of_code : ℕ → Option DrivePage
page_of_code code =
    if code == 0x01 then Some ReadWriteErrorRecovery
    else if code == 0x02 then Some DisconnectReconnect
    else if code == 0x0A then Some Control
    else if code == 0x0F then Some DataCompression
    else if code == 0x10 then Some DeviceConfiguration
    else if code == 0x11 then Some MediumPartition
    else if code == 0x1C then Some InformationalExceptionsControl
    else if code == 0x1D then Some MediumConfiguration
    else None

-- DCE and DCC: compression is on, and the drive is capable of it
abbrev pub compression_flags : (compression : Bool) → ℕ
compression_flags true = 0xC0
compression_flags false = 0x40

-- SELECT DATA COMPRESSION ALGORITHM: 0 is none
abbrev pub compression_algorithm : (compression : Bool) → ℕ
compression_algorithm true = 0x01
compression_algorithm false = 0x00

-- A page by the one value that it shows. Retries of reading and writing, 8; GLTSD; DCE and DCC, DDE, the algorithms; the identifiers of
-- objects, EEG and SEW, the algorithm, REWIND ON RESET; no additional partition, megabytes, recognition of format and partition; DEXCPT.
abbrev pub page_values : DrivePage → (compression : Bool) → List ℕ
page_values ReadWriteErrorRecovery compression = 0x01 ∷ 0x0A ∷ 0x00 ∷ 0x08 ∷ 0 ∷ 0 ∷ 0 ∷ 0 ∷ 0x08 ∷ 0 ∷ 0 ∷ 0 ∷ []
page_values DisconnectReconnect compression = 0x02 ∷ 0x0E ∷ replicate 14 0
page_values Control compression = 0x0A ∷ 0x0A ∷ 0x02 ∷ replicate 9 0
page_values DataCompression compression =
    0x0F ∷ 0x0E ∷ compression_flags compression ∷ 0x80 ∷ 0 ∷ 0 ∷ 0 ∷ 0xFF ∷ 0 ∷ 0 ∷ 0 ∷ 0xFF ∷ 0 ∷ 0 ∷ 0 ∷ 0 ∷ []
page_values DeviceConfiguration compression =
    0x10 ∷ 0x0E ∷ 0 ∷ 0 ∷ 0 ∷ 0 ∷ 0 ∷ 0 ∷ 0x40 ∷ 0 ∷ 0x18 ∷ 0 ∷ 0 ∷ 0 ∷ compression_algorithm compression ∷ 0x08 ∷ []
page_values MediumPartition compression = 0x11 ∷ 0x06 ∷ 0x00 ∷ 0x00 ∷ 0x10 ∷ 0x03 ∷ 0 ∷ 0 ∷ []
page_values InformationalExceptionsControl compression = 0x1C ∷ 0x0A ∷ 0x08 ∷ 0x03 ∷ replicate 8 0
page_values MediumConfiguration compression = 0x1D ∷ 0x1E ∷ replicate 30 0

-- a page with ones where MODE SELECT can change a bit: DCE of the data compression page, the algorithm of the device configuration page
abbrev pub changeable_bits : DrivePage → List ℕ
changeable_bits DataCompression = 0x0F ∷ 0x0E ∷ 0x80 ∷ replicate 13 0
changeable_bits DeviceConfiguration = 0x10 ∷ 0x0E ∷ (replicate 12 0 ++ 0xFF ∷ 0x00 ∷ [])
changeable_bits page = page_code page ∷ page_length page ∷ replicate (page_length page) 0
