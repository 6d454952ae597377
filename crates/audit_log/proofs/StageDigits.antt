-- A stage's number in decimal: one digit; 48 is the code of the digit 0.
use Rattle.std.proofs.Common.{◌≡◌, ◌+◌, [], ◌∷◌, refl}
use Rattle.std.specs.Fmt.{decimal, digits}
use Rattle.audit_log.specs.Stages.{stage_number}
use Rattle.audit_log.specs.declared.stage.Stage.{Stage}
use Rattle.audit_log.specs.declared.stage.Stage.TheVariants.{Decoding, ResetAttention, ReservationCheck, OtherAttention, Fields, Device}

pub stage_digits : (s : Stage) → decimal (stage_number s) ≡ (48 + stage_number s) ∷ []
unfolding digits
stage_digits Decoding = refl
stage_digits ResetAttention = refl
stage_digits ReservationCheck = refl
stage_digits OtherAttention = refl
stage_digits Fields = refl
stage_digits Device = refl
