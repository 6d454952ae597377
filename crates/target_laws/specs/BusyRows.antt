-- Rows: when an event at a target may be BUSY.
use Rattle.std.specs.Prelude.{ℕ, List, [], ◌∷◌, Option, Some, None}
use Rattle.device_server.specs.Drive.{empty_drive}
use Rattle.device_server.specs.View.{Drive}
use Rattle.judgement.specs.Replies.{busy}
use Rattle.logical_unit.specs.Step.{made}
use Rattle.logical_unit.specs.UnitView.{UnitView, UnitWithRoom}
use Rattle.target_core.specs.Busy.{CommandIsBusyOnlyFor, IsBusyOnlyForRecordAt}
use Rattle.target_laws.specs.Rows.{a, test_unit_ready, changer, last_number_used, with_slots}

-- a unit with room for so many records more
abbrev pub roomy : (room : ℕ) → UnitView → UnitWithRoom
roomy room u = record { unit = u; room = room }

abbrev pub drive : UnitView
drive = made (Drive empty_drive) 1 2 0

abbrev pub inquiry : List ℕ
inquiry = 0x12 ∷ 0 ∷ 0 ∷ 0 ∷ 36 ∷ 0 ∷ []

-- BUSY may answer a command of A at a logical unit of a changer and this drive
abbrev pub MayBeBusy : (drive : UnitWithRoom) → (lun : ℕ) → (cdb : List ℕ) → Type 0
MayBeBusy d lun cdb = CommandIsBusyOnlyFor (roomy 1 changer ∷ d ∷ []) lun a cdb [] busy

-- and a loss or a reset of a unit
abbrev pub MayBeBusyAtLoss : Option UnitWithRoom → Type 0
MayBeBusyAtLoss x = IsBusyOnlyForRecordAt x busy

pub record WhenBusy : Type 0 where
  -- a command that takes no memory, where there is a slot, a number and room for the record
  pub never : MayBeBusy (roomy 1 drive) 1 test_unit_ready → ⊥
  pub never_at_the_changer : MayBeBusy (roomy 0 drive) 0 test_unit_ready → ⊥
  pub no_room : MayBeBusy (roomy 0 drive) 1 test_unit_ready
  pub no_number : MayBeBusy (roomy 1 last_number_used) 1 test_unit_ready
  pub no_slot : MayBeBusy (roomy 1 (with_slots 128)) 1 test_unit_ready
  -- one that takes memory for its data
  pub with_data : MayBeBusy (roomy 1 drive) 1 inquiry
  -- a unit that isn't there has data alone that take memory
  pub never_absent : MayBeBusy (roomy 0 drive) 2 test_unit_ready → ⊥
  pub absent_with_data : MayBeBusy (roomy 1 drive) 2 inquiry
  pub never_lost : MayBeBusyAtLoss (Some (roomy 1 drive)) → ⊥
  pub no_room_for_the_loss : MayBeBusyAtLoss (Some (roomy 0 drive))
  pub no_number_for_the_loss : MayBeBusyAtLoss (Some (roomy 1 last_number_used))
  pub never_lost_absent : MayBeBusyAtLoss None → ⊥
