-- Worked rows: what an entry keeps of an act, and the numbers of records by unit.
use Rattle.std.specs.Prelude.{◌≡◌, ℕ, true, false, List, [], ◌∷◌, Some, None}
use Rattle.scsi_cdb.specs.declared.service_action.OutServiceAction.TheVariants as out
use Rattle.scsi_cdb.specs.declared.classes.Class.TheVariants as class
use Rattle.permit_tables.specs.declared.out_params.OutParams.{OutParams}
use Rattle.audit_log.specs.declared.act.Act.TheVariants as act
use Rattle.logical_unit.specs.declared.act_kind.ActKind.TheVariants as kind
use Rattle.logical_unit.specs.Answers.{Reset, Command, own_number, at, count_at, OnlyAt}
use Rattle.logical_unit.specs.AtOnce.{asks_at_once}
use Rattle.logical_unit.specs.ActKinds.{act_kind_of, act_kind_if}

-- a PREEMPT
abbrev pub preempt : OutParams
preempt = record { rk = 5; sark = 2; dest = None; act = out.Preempt; scope_type = 3; unreg = false; defect = None; all_ports = false; listed = false; targets = record { items = [] } }

pub record ActKindRows : Type 0 where
  -- a command by its class, PERSISTENT RESERVE OUT by that of its service action
  pub write : act_kind_of (act.Command class.Write) ≡ kind.Command class.Write
  pub reserve_out : act_kind_of (act.ReserveOut preempt) ≡ kind.Command class.Preempt
  pub invalid : act_kind_of act.Invalid ≡ kind.Invalid
  pub loss : act_kind_of act.Loss ≡ kind.Loss
  pub was_reset : act_kind_of act.Reset ≡ kind.Reset
  -- a volume, whichever way it goes
  pub came_in : act_kind_of act.MediumIn ≡ kind.Medium
  pub taken_out : act_kind_of act.MediumOut ≡ kind.Medium
  -- where there is no record, nothing
  pub recorded : act_kind_if ((1, 7) ∷ []) kind.Loss ≡ Some kind.Loss
  pub unrecorded : act_kind_if [] kind.Loss ≡ None

pub record AtOnceRows : Type 0 where
  pub filemark : asks_at_once (Command (0x10 ∷ 0 ∷ 0 ∷ 0 ∷ 1 ∷ 0 ∷ []) []) ≡ false
  pub immediate : asks_at_once (Command (0x10 ∷ 1 ∷ 0 ∷ 0 ∷ 1 ∷ 0 ∷ []) []) ≡ true
  -- no IMMED: FIXED of a WRITE, IMMED of ERASE and of LOAD UNLOAD, which always wait
  pub fixed : asks_at_once (Command (0x0A ∷ 1 ∷ 0 ∷ 0 ∷ 1 ∷ 0 ∷ []) []) ≡ false
  pub erase : asks_at_once (Command (0x19 ∷ 2 ∷ 0 ∷ 0 ∷ 0 ∷ 0 ∷ []) []) ≡ false
  pub unload : asks_at_once (Command (0x1B ∷ 1 ∷ 0 ∷ 0 ∷ 0 ∷ 0 ∷ []) []) ≡ false
  pub no_command : asks_at_once (Command (0x10 ∷ 1 ∷ []) []) ≡ false
  pub was_reset : asks_at_once Reset ≡ false

-- the numbers of a move from drive 2 to drive 4: record 9 of the changer, 3 and 9 of the drives
abbrev pub of_a_move : List (ℕ × ℕ)
of_a_move = (0, 9) ∷ (2, 3) ∷ (4, 9) ∷ []

pub record CountRows : Type 0 where
  pub own : own_number 1 7 ≡ (1, 7) ∷ []
  pub none : own_number 1 0 ≡ []
  pub one : count_at 2 of_a_move ≡ 1
  pub other : count_at 9 of_a_move ≡ 0
  pub number : at 4 of_a_move ≡ 9 ∷ []
  pub several : at 1 ((1, 7) ∷ (0, 9) ∷ (1, 8) ∷ []) ≡ 7 ∷ 8 ∷ []
  pub only : OnlyAt 1 ((1, 7) ∷ [])
  pub not_only : OnlyAt 0 of_a_move → ⊥
