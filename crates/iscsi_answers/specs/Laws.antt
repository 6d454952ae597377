-- Laws of answers.
use Rattle.std.specs.Prelude.{ℕ, List}
use Rattle.iscsi_pdu.specs.Pdus.{TargetPduValue}
use Rattle.iscsi_pdu.specs.declared.residual.Residual.{Residual}
use Rattle.iscsi_pdu.specs.declared.residual.Residual.TheVariants.{Exact, Overflow, Underflow}
use Rattle.std.specs.List.{flat_map}

-- the data segments of PDUs put together
abbrev pub payloads : List TargetPduValue → List ℕ
payloads pdus = flat_map (λ (p : TargetPduValue). p.payload) pdus

-- how much more, and how much less, there was than expected
abbrev pub over : Residual → ℕ
over (Overflow count) = count
over (Underflow count) = 0
over Exact = 0

abbrev pub under : Residual → ℕ
under (Overflow count) = 0
under (Underflow count) = count
under Exact = 0
