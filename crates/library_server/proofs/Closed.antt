-- A library that was closed, from what its parts say.
use Rattle.std.proofs.Common.{◌≡◌, ◌∙◌, ℕ, refl, List, [], length, Option, subst, sym}
use Rattle.std.specs.Prelude.{All}
use Rattle.logical_unit.specs.UnitView.{UnitView}
use Rattle.lun_router.specs.Opening.{IsSince}
use Rattle.lun_router.specs.Seats.{SeatValue, IsUntold}
use Rattle.output_lines.specs.declared.audit_lines.Audit.{Audit}
use Rattle.output_lines.specs.declared.record_output.RecordOutput.{RecordOutput}
use Rattle.output_lines.specs.declared.record_output.RecordOutput.TheVariants.{AtTheEnd, AsTheyCome}
use Rattle.output_lines.specs.RecordOutputs.{of_the_rest}
use Rattle.library_service.specs.ClosedLibrary.{IsClosed}
use Rattle.library_server.specs.ServedLibrary.{ServesLibrary, WritesBefore, WritesOut}
use Rattle.library_server.specs.ServedSeats.{IsOfSessions, SeatsCome}
use Rattle.library_server.proofs.HandingOut.{hands_more, hands_none}
use Rattle.library_server.proofs.ServedSeats.{of_sessions}

-- of the seats that a library was opened with
pub seats_served : (core : List UnitView) (units count : ℕ) (opened seats : List SeatValue) → units ≡ length core → length opened ≡ count → All IsUntold opened → SeatsCome units opened seats
    → All (IsOfSessions (length core)) seats × (length seats ≡ count)
seats_served core units count opened seats size many untold came =
    let both = of_sessions (length core) opened seats untold (subst (λ (u : ℕ). SeatsCome u opened seats) size came) in (both.0, both.1 ∙ many)

-- the seats that serving gave back of those that a library was opened with, in vectors of these lengths: none is missing
pub seats_back : (core : List UnitView) (units count made : ℕ) (opened back : List SeatValue) (opened_len back_len : ℕ) → units ≡ length core → All IsUntold opened → SeatsCome units opened back
    → (made ≡ count) × (opened_len ≡ count) → opened_len ≡ length opened → back_len ≡ length back → (All (IsOfSessions (length core)) back × (length back ≡ count)) × (back_len ≡ made)
seats_back core units count made opened back opened_len back_len size untold came many opened_is back_is =
    let served = seats_served core units count opened back size (sym opened_is ∙ many.1) untold came in (served, back_is ∙ served.1 ∙ sym many.0)

-- nothing was written
pub writes_none : (records : RecordOutput) (w : Option (List ℕ)) (left : List ℕ) → WritesOut records w w left left
writes_none (AtTheEnd audit) w left = refl
writes_none AsTheyCome w left = hands_none w left

-- what was written before the end, as far as no line is left
writes_before : (records : RecordOutput) (w v b : Option (List ℕ)) (left : List ℕ) → WritesOut records w v [] left → WritesOut records v b left [] → WritesBefore records w b
writes_before (AtTheEnd audit) w v b left one two = two ∙ one
writes_before AsTheyCome w v b left one two = hands_more w v b [] left [] one two

-- a library that was served, from its closing
pub library_served : (core : List UnitView) (count : ℕ) (records : RecordOutput) (audit : Audit) (seats : List SeatValue) (none left : List ℕ) (since_of : ℕ → ℕ) (w v b w' : Option (List ℕ)) → audit ≡ of_the_rest records
    → All (IsOfSessions (length core)) seats × (length seats ≡ count) → IsSince core since_of → none ≡ [] → WritesOut records w v none left → WritesOut records v b left []
    → IsClosed seats audit since_of b w' → ServesLibrary core count records w w'
library_served core count records audit seats none left since_of w v b w' wanted served since empty came rest closed = record {
  before = b;
  as_they_came = writes_before records w v b left (subst (λ (l : List ℕ). WritesOut records w v l left) empty came) rest;
  rest = record {
    since_of = since_of;
    seats = seats;
    many = served.1;
    served = served.0;
    since = since;
    closed = subst (λ (a : Audit). IsClosed seats a since_of b w') wanted closed;
  };
}
