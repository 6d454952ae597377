-- PDUs whole, as a stream begins with them and as they are written.
use Rattle.std.specs.Prelude.{ℕ, ◌/◌, List, [], ◌++◌, length, Option, Some, None}
use Rattle.iscsi_pdu.specs.Headers.{header_bytes}
use Rattle.iscsi_pdu.specs.InitiatorHeaders.{initiator_header, initiator_header_parts}
use Rattle.iscsi_pdu.specs.TargetHeaders.{target_header, target_header_parts}
use Rattle.iscsi_pdu.specs.Segments.{Found, Partial, Complete, Invalid, SegmentsValue, segments, padding, extended_cdb, extended_ahs}
use Rattle.iscsi_pdu.specs.declared.header.Header.{Header}
use Rattle.iscsi_pdu.specs.declared.fault.PduFault.TheVariants.{BadExtendedCdb}
use Rattle.iscsi_pdu.specs.declared.initiator_header.InitiatorHeader.{InitiatorHeader}
use Rattle.iscsi_pdu.specs.declared.initiator_header.InitiatorHeader.TheVariants as initiator
use Rattle.iscsi_pdu.specs.declared.target_header.TargetHeader.{TargetHeader}

pub record InitiatorPduValue : Type 0 where
  pub header : InitiatorHeader
  pub extended_cdb : List ℕ
  pub payload : List ℕ

pub record TargetPduValue : Type 0 where
  pub header : TargetHeader
  pub payload : List ℕ

-- the AHS count for a SCSI Command alone
abbrev pub further_cdb : InitiatorHeader → (ahs : List ℕ) → Option (List ℕ)
further_cdb (initiator.ScsiCommand command) ahs = extended_cdb ahs
further_cdb _ ahs = Some []

abbrev pub with_cdb : InitiatorHeader → (payload : List ℕ) → (count : ℕ) → Option (List ℕ) → Found InitiatorPduValue
with_cdb h payload count None = Invalid BadExtendedCdb
with_cdb h payload count (Some cdb) = Complete (record { header = h; extended_cdb = cdb; payload = payload }) count

abbrev pub initiator_pdu : InitiatorHeader → SegmentsValue → (count : ℕ) → Found InitiatorPduValue
initiator_pdu h s count = with_cdb h s.payload count (further_cdb h s.ahs)

abbrev pub initiator_found : Found SegmentsValue → Found InitiatorPduValue
initiator_found (Partial wanted) = Partial wanted
initiator_found (Complete s count) = initiator_pdu (initiator_header s.header) s count
initiator_found (Invalid fault) = Invalid fault

abbrev pub parsed_initiator : (limit : ℕ) → (bytes : List ℕ) → Found InitiatorPduValue
parsed_initiator limit bytes = initiator_found (segments limit bytes)

abbrev pub target_found : Found SegmentsValue → Found TargetPduValue
target_found (Partial wanted) = Partial wanted
target_found (Complete s count) = Complete (record { header = target_header s.header; payload = s.payload }) count
target_found (Invalid fault) = Invalid fault

abbrev pub parsed_target : (limit : ℕ) → (bytes : List ℕ) → Found TargetPduValue
parsed_target limit bytes = target_found (segments limit bytes)

-- a PDU's bytes
abbrev pub pdu_bytes : Header → (cdb payload : List ℕ) → List ℕ
pdu_bytes h cdb payload =
    header_bytes (length (extended_ahs cdb) / 4) (length payload) h ++ extended_ahs cdb ++ payload ++ padding (length payload)

abbrev pub initiator_bytes : InitiatorPduValue → List ℕ
initiator_bytes p = pdu_bytes (initiator_header_parts p.header) p.extended_cdb p.payload

abbrev pub target_bytes : TargetPduValue → List ℕ
target_bytes p = pdu_bytes (target_header_parts p.header) [] p.payload
