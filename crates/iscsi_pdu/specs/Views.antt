-- What the code finds, without where its bytes lie.
use Rattle.std.specs.Prelude.{◌≡◌, ℕ, ◌<◌, ◌≤◌, length}
use Rattle.iscsi_pdu.specs.declared.segments.Segments as cut
use Rattle.iscsi_pdu.specs.declared.segments.Split as split
use Rattle.iscsi_pdu.specs.declared.segments.Split.TheVariants as split_found
use Rattle.iscsi_pdu.specs.declared.initiator_pdu.InitiatorPdu.{InitiatorPdu}
use Rattle.iscsi_pdu.specs.declared.initiator_pdu.ParsedInitiatorPdu.{ParsedInitiatorPdu}
use Rattle.iscsi_pdu.specs.declared.initiator_pdu.ParsedInitiatorPdu.TheVariants as initiator_found
use Rattle.iscsi_pdu.specs.declared.target_pdu.TargetPdu.{TargetPdu}
use Rattle.iscsi_pdu.specs.declared.target_pdu.ParsedTargetPdu.{ParsedTargetPdu}
use Rattle.iscsi_pdu.specs.declared.target_pdu.ParsedTargetPdu.TheVariants as target_found
use Rattle.iscsi_pdu.specs.Segments.{Found, Partial, Complete, Invalid, SegmentsValue}
use Rattle.iscsi_pdu.specs.Pdus.{InitiatorPduValue, TargetPduValue}

abbrev pub segments_value : cut.Segments → SegmentsValue
segments_value s = record { header = s.header.now; ahs = s.ahs.now; payload = s.payload.now }

abbrev pub split_value : split.Split → Found SegmentsValue
split_value (split_found.Partial wanted) = Partial wanted
split_value (split_found.Complete s count) = Complete (segments_value s) count
split_value (split_found.Invalid fault) = Invalid fault

-- its header is whole
abbrev pub HasHeader : split.Split → Type 0
HasHeader (split_found.Complete s count) = length s.header.now ≡ 48
HasHeader _ = Unit {0}

abbrev pub initiator_value : InitiatorPdu → InitiatorPduValue
initiator_value p = record { header = p.header; extended_cdb = p.extended_cdb.now; payload = p.payload.now }

abbrev pub parsed_initiator_value : ParsedInitiatorPdu → Found InitiatorPduValue
parsed_initiator_value (initiator_found.Partial wanted) = Partial wanted
parsed_initiator_value (initiator_found.Complete p count) = Complete (initiator_value p) count
parsed_initiator_value (initiator_found.Invalid fault) = Invalid fault

abbrev pub target_value : TargetPdu → TargetPduValue
target_value p = record { header = p.header; payload = p.payload.now }

abbrev pub parsed_target_value : ParsedTargetPdu → Found TargetPduValue
parsed_target_value (target_found.Partial wanted) = Partial wanted
parsed_target_value (target_found.Complete p count) = Complete (target_value p) count
parsed_target_value (target_found.Invalid fault) = Invalid fault

-- a PDU is some of the bytes, and more are wanted than are there
abbrev pub IsWithin : {P : Type 0} → ℕ → Found P → Type 0
IsWithin len (Partial wanted) = len < wanted
IsWithin len (Complete p count) = (48 ≤ count) × (count ≤ len)
IsWithin len (Invalid fault) = Unit {0}
