-- What is refused of a device's commands by the fields of the CDB, and of the data sent with it, alone, in the default profile. The medium
-- isn't looked at.
use Rattle.std.specs.Prelude.{ℕ, ◌==◌, nat_lt, Bool, true, false, not, ◌&&◌, ◌||◌, List, length, Option, Some, None, if◌then◌else◌}
use Rattle.scsi_cdb.specs.declared.kind.Kind.{Kind}
use Rattle.scsi_cdb.specs.declared.kind.Kind.TheVariants as kind
use Rattle.scsi_cdb.specs.declared.profile.Profile.{Profile}
use Rattle.scsi_cdb.specs.declared.profile.Profile.TheVariants.{Spec}
use Rattle.scsi_cdb.specs.declared.request.Request.{Request}
use Rattle.scsi_cdb.specs.declared.request.Request.TheVariants.{Read, Write, WriteFilemarks, Space, ModeSelect, ModeSense, LoadUnload, Locate, MoveMedium, ReadElementStatus}
use Rattle.scsi_sense.specs.declared.condition.Condition.{Condition}
use Rattle.scsi_sense.specs.declared.condition.Condition.TheVariants.{InvalidFieldInCdb, SavingParametersNotSupported}
use Rattle.tape_medium.specs.Limits.{most_block}
use Rattle.device_server.specs.Mode.{list_fault}

abbrev pub invalid_where : Bool → Option Condition
invalid_where wrong = if wrong then Some InvalidFieldInCdb else None

-- SPACE over blocks, over filemarks, to the end of data
abbrev pub is_space_code : ℕ → Bool
is_space_code code = code == 0 || code == 1 || code == 3

-- the mode pages that MODE SENSE offers: all pages, 3Fh, and of a drive the page 00h, of a changer the element address
-- assignment page 1Dh
abbrev pub is_page_of : Kind → ℕ → Bool
is_page_of kind.Drive page = page == 0x00 || page == 0x3F
is_page_of kind.Changer page = page == 0x1D || page == 0x3F

-- MODE SENSE: saved values aren't kept, and of the others only current and (profile) no changeable or default values are told
abbrev pub mode_sense_fault : Kind → (page_control page subpage : ℕ) → Option Condition
mode_sense_fault kind page_control page subpage =
    if page_control == 3 then Some SavingParametersNotSupported
    else invalid_where (not (page_control == 0) || not (subpage == 0) || not (is_page_of kind page))

-- a variable WRITE comes with as many bytes as it says, which make a block; the data of a fixed one is the drive's to look at
abbrev pub write_fault : Profile → (fixed : Bool) → (transfer_length : ℕ) → List ℕ → Option Condition
write_fault profile true transfer_length bytes = None
write_fault profile false transfer_length bytes = invalid_where (nat_lt (most_block profile) transfer_length || not (length bytes == transfer_length))

-- saving mode pages isn't offered
abbrev pub mode_select_fault : (save_pages : Bool) → (list_length : ℕ) → List ℕ → Option Condition
mode_select_fault true list_length bytes = Some InvalidFieldInCdb
mode_select_fault false list_length bytes = list_fault list_length bytes

abbrev pub spec_field_fault : Kind → Request → List ℕ → Option Condition
spec_field_fault kind (Read sili fixed transfer_length) bytes = invalid_where (sili && fixed)
spec_field_fault kind (Write fixed transfer_length) bytes = write_fault Spec fixed transfer_length bytes
spec_field_fault kind (WriteFilemarks wsmk immed count) bytes = invalid_where wsmk
spec_field_fault kind (Space code count) bytes = invalid_where (not (is_space_code code))
spec_field_fault kind (ModeSelect sp list_length) bytes = mode_select_fault sp list_length bytes
spec_field_fault kind (ModeSense dbd page_control page subpage allocation_length) bytes = mode_sense_fault kind page_control page subpage
spec_field_fault kind (LoadUnload hold eot load) bytes = invalid_where (hold || eot)
spec_field_fault kind (Locate bt cp object partition) bytes = invalid_where (bt || cp)
spec_field_fault kind (MoveMedium transport source destination invert) bytes = invalid_where invert
spec_field_fault kind (ReadElementStatus voltag type_code start count curdata dvcid allocation_length) bytes = invalid_where (nat_lt 4 type_code || dvcid)
spec_field_fault kind request bytes = None
