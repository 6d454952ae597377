-- The stages in which a command is judged (profile).
use Rattle.std.specs.Prelude.{ℕ}
use Rattle.audit_log.specs.declared.stage.Stage.{Stage}
use Rattle.audit_log.specs.declared.stage.Stage.TheVariants.{Decoding, ResetAttention, ReservationCheck, OtherAttention, Fields, Device}

-- in their order, from 1
abbrev pub stage_number : Stage → ℕ
stage_number Decoding = 1
stage_number ResetAttention = 2
stage_number ReservationCheck = 3
stage_number OtherAttention = 4
stage_number Fields = 5
stage_number Device = 6
