-- A medium changer's step by each command (SMC-3, "MOVE MEDIUM command", "READ ELEMENT STATUS command", "Element address
-- assignment mode page").
use Rattle.std.specs.Prelude.{ℕ, List, [], ◌∷◌, ◌++◌, length, take, Option, Some, None, Result, Ok, Err}
use Rattle.scsi_cdb.specs.declared.request.Request.{Request}
use Rattle.scsi_cdb.specs.declared.request.Request.TheVariants.{TestUnitReady, InitializeElementStatus, ModeSense, MoveMedium, ReadElementStatus}
use Rattle.scsi_sense.specs.declared.condition.Condition.{Condition}
use Rattle.scsi_sense.specs.declared.condition.Condition.TheVariants.{InternalTargetFailure, InvalidCommandOperationCode, InvalidElementAddress, MediumDestinationElementFull, MediumSourceElementEmpty}
use Rattle.tape_medium.specs.declared.elements.MapFault.{MapFault}
use Rattle.tape_medium.specs.declared.elements.MapFault.TheVariants.{BadAddress, SourceEmpty, DestinationFull}
use Rattle.tape_medium.specs.Elements.{Elements, first_data_transfer, first_import_export, first_storage, moves, move_refusal}
use Rattle.tape_medium.specs.ElementStatus.{two_bytes, element_status}
use Rattle.device_server.specs.declared.outcome.Outcome.{Outcome}
use Rattle.device_server.specs.Outcomes.{done, refused}

-- the first address and the number of the elements of a type
abbrev pub assigned : (first count : ℕ) → List ℕ
assigned first count = two_bytes first ++ two_bytes count

-- the element address assignment page, 1Dh: the one medium transport element, the storage, import/export and data transfer elements
abbrev pub address_assignment : Elements → List ℕ
address_assignment e =
    0x1D ∷ 0x12 ∷ []
    ++ assigned 0 1
    ++ assigned first_storage (length e.storage)
    ++ assigned first_import_export (length e.import_export)
    ++ assigned first_data_transfer (length e.data_transfer)
    ++ 0x00 ∷ 0x00 ∷ []

-- the data of MODE SENSE: how many bytes follow, three bytes of zero since there is no block descriptor, then the page
abbrev pub changer_mode_data : Elements → List ℕ
changer_mode_data e = 0x17 ∷ 0x00 ∷ 0x00 ∷ 0x00 ∷ address_assignment e

-- what a refused move reports
abbrev pub move_condition : MapFault → Condition
move_condition BadAddress = InvalidElementAddress
move_condition SourceEmpty = MediumSourceElementEmpty
move_condition DestinationFull = MediumDestinationElementFull

-- The changer moves a volume between its own elements, those of storage and import/export. A drive's volume is in the drive's own hands:
-- such a move isn't one for the changer alone.
abbrev pub moved_alone : Elements → Result Elements MapFault → Elements × Outcome
moved_alone e (Ok after) = (after, done [])
moved_alone e (Err fault) = (e, refused InternalTargetFailure)

-- MOVE MEDIUM: first what the map and the marks at the data transfer elements refuse
abbrev pub carried : Elements → (source destination : ℕ) → Option MapFault → Elements × Outcome
carried e source destination (Some fault) = (e, refused (move_condition fault))
carried e source destination None = moved_alone e (moves e source destination)

-- THE STEP of a changer of the default profile by a command whose fields aren't refused. No command of a changer has data sent with it; a command that a changer
-- doesn't have isn't its own.
abbrev pub changer_step : Elements → Request → Elements × Outcome
changer_step e TestUnitReady = (e, done [])
changer_step e InitializeElementStatus = (e, done [])
changer_step e (ModeSense dbd page_control page subpage allocation_length) = (e, done (take allocation_length (changer_mode_data e)))
changer_step e (MoveMedium transport source destination invert) =
    carried e source destination (move_refusal e transport source destination)
changer_step e (ReadElementStatus voltag type_code start count curdata dvcid allocation_length) =
    (e, done (take allocation_length (element_status e type_code start count voltag)))
changer_step e request = (e, refused InvalidCommandOperationCode)
