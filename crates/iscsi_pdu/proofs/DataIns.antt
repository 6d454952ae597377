-- A Data-In is read again, with each way that it may tell of the command's end.
use Rattle.std.proofs.Common.{◌≡◌, ℕ, ◌^◌, ◌<◌, Bool, true, false, Option, Some, None, rules}
use Rattle.iscsi_pdu.specs.Headers.{header_bytes}
use Rattle.iscsi_pdu.specs.Responses.{data_in, data_in_header}
use Rattle.iscsi_pdu.specs.Widths.{FitsResidual, FitsCompletion, FitsDataIn}
use Rattle.iscsi_pdu.specs.declared.scsi_status.ScsiStatus.{ScsiStatus}
use Rattle.iscsi_pdu.specs.declared.residual.Residual.{Residual}
use Rattle.iscsi_pdu.specs.declared.residual.Residual.TheVariants.{Exact, Overflow, Underflow}
use Rattle.iscsi_pdu.specs.declared.completion.Completion.{Completion}
use Rattle.iscsi_pdu.specs.declared.data_in.DataIn.{DataIn}

abbrev with_end : DataIn → (f : Bool) → Option Completion → DataIn
with_end p f o = record p { is_final = f; completion = o }

abbrev Again : DataIn → (f : Bool) → Option Completion → (w n : ℕ) → Type 0
Again p f o w n = data_in (header_bytes w n (data_in_header (with_end p f o))) ≡ with_end p f o

ended : (p : DataIn) (f : Bool) (status : ScsiStatus) (sn : ℕ) (r : Residual) (w n : ℕ) → FitsDataIn p → sn < 2 ^ 32 → FitsResidual r
    → Again p f (Some (record { status = status; stat_sn = record { number = sn }; residual = r })) w n
ended p true status sn Exact w n fits hs hr = search rules
ended p true status sn (Overflow k) w n fits hs hr = search rules
ended p true status sn (Underflow k) w n fits hs hr = search rules
ended p false status sn Exact w n fits hs hr = search rules
ended p false status sn (Overflow k) w n fits hs hr = search rules
ended p false status sn (Underflow k) w n fits hs hr = search rules

unended : (p : DataIn) (f : Bool) (w n : ℕ) → FitsDataIn p → Again p f None w n
unended p true w n fits = search rules
unended p false w n fits = search rules

by_end : (p : DataIn) (o : Option Completion) (w n : ℕ) → FitsDataIn p → FitsCompletion o → Again p p.is_final o w n
by_end p None w n fits ends = unended p p.is_final w n fits
by_end p (Some c) w n fits ends = ended p p.is_final c.status c.stat_sn.number c.residual w n fits ends.0 ends.1

pub data_in_again : (p : DataIn) (w n : ℕ) → FitsDataIn p → data_in (header_bytes w n (data_in_header p)) ≡ p
data_in_again p w n fits = by_end p p.completion w n fits fits.1
