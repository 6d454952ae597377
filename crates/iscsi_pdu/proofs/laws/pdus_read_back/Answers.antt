use Rattle.std.proofs.Common.{◌≡◌, ℕ, ◌+◌, ◌*◌, ◌/◌, ◌≤◌, List, [], ◌∷◌, length, ap, ◌∙◌, length-append, arith}
use Rattle.iscsi_pdu.specs.Headers.{header_bytes}
use Rattle.iscsi_pdu.specs.InitiatorHeaders.{initiator_header_parts}
use Rattle.iscsi_pdu.specs.TargetHeaders.{target_header_parts}
use Rattle.iscsi_pdu.specs.declared.initiator_header.InitiatorHeader.{InitiatorHeader}
use Rattle.iscsi_pdu.specs.declared.target_header.TargetHeader.{TargetHeader}
use Rattle.iscsi_pdu.specs.Pdus.{initiator_found, target_found, initiator_pdu, with_cdb, initiator_bytes, target_bytes}
use Rattle.iscsi_pdu.specs.Segments.{Complete, padded, padding, extended_ahs}
use Rattle.iscsi_pdu.proofs.RequestsAgain.{initiator_again, initiator_lengths}
use Rattle.iscsi_pdu.proofs.ResponsesAgain.{target_again, target_lengths}
use Rattle.iscsi_pdu.proofs.Streams.{written, length_padding}
use Rattle.iscsi_pdu.proofs.laws.pdus_read_back.Goals as goal

-- an AHS is whole words, at most 64
ahs_words : (cdb : List ℕ) → length cdb ≤ 252 → (length (extended_ahs cdb) ≡ 4 * (length (extended_ahs cdb) / 4)) × (length (extended_ahs cdb) / 4 ≤ 64)
ahs_words [] h = (omega arith, omega arith)
ahs_words (b ∷ more) h =
    let pads = length_padding (length (b ∷ more)) in
    let size : length (extended_ahs (b ∷ more)) ≡ 4 + padded (length (b ∷ more)) = omega (arith, pads, length-append more (padding (length (b ∷ more)))) in
    (omega (arith, size), omega (arith, size))

pub returns-clause-initiator : goal.returns-clause-initiator
returns-clause-initiator c limit p rest can =
    let own = initiator_lengths p.header (length (extended_ahs p.extended_cdb) / 4) (length p.payload) can.0 can.2 in
    let ahs = ahs_words p.extended_cdb can.3 in
    ap initiator_found (written limit (header_bytes (length (extended_ahs p.extended_cdb) / 4) (length p.payload) (initiator_header_parts p.header)) (extended_ahs p.extended_cdb) p.payload rest
    own.0 (omega (arith, own.1, ahs.1)) (omega (arith, own.1, ahs.0)) own.2 can.1)
    ∙ ap (λ (k : InitiatorHeader). initiator_pdu k (record { header = header_bytes (length (extended_ahs p.extended_cdb) / 4) (length p.payload) (initiator_header_parts p.header); ahs = extended_ahs p.extended_cdb; payload = p.payload }) (length (initiator_bytes p)))
    (initiator_again p.header (length (extended_ahs p.extended_cdb) / 4) (length p.payload) can.0)
    ∙ ap (λ o. with_cdb p.header p.payload (length (initiator_bytes p)) o) can.4

pub returns-clause-target : goal.returns-clause-target
returns-clause-target c limit p rest can =
    let own = target_lengths p.header 0 (length p.payload) can.0 can.2 in
    ap target_found (written limit (header_bytes 0 (length p.payload) (target_header_parts p.header)) [] p.payload rest own.0 (omega (arith, own.1)) (omega (arith, own.1)) own.2 can.1)
    ∙ ap (λ (k : TargetHeader). Complete (record { header = k; payload = p.payload }) (length (target_bytes p))) (target_again p.header 0 (length p.payload) can.0)
