use Rattle.std.proofs.Common.{ap}
use Rattle.iscsi_pdu.specs.Pdus.{initiator_found, target_found}
use Rattle.iscsi_pdu.specs.Segments.{Found, Partial, Complete, Invalid, IsKnown, SegmentsValue, segments}
use Rattle.iscsi_pdu.proofs.Streams.{segments_stay}
use Rattle.iscsi_pdu.proofs.laws.pdus_stay.Goals as goal

of_initiator : (s : Found SegmentsValue) → IsKnown (initiator_found s) → IsKnown s
of_initiator (Partial wanted) known = known
of_initiator (Complete s count) known = tt
of_initiator (Invalid fault) known = tt

of_target : (s : Found SegmentsValue) → IsKnown (target_found s) → IsKnown s
of_target (Partial wanted) known = known
of_target (Complete s count) known = tt
of_target (Invalid fault) known = tt

pub returns-clause-initiator : goal.returns-clause-initiator
returns-clause-initiator c limit bytes more known = ap initiator_found (segments_stay limit bytes more (of_initiator (segments limit bytes) known))

pub returns-clause-target : goal.returns-clause-target
returns-clause-target c limit bytes more known = ap target_found (segments_stay limit bytes more (of_target (segments limit bytes) known))
