-- The header of each PDU of an initiator is read again.
use Rattle.std.proofs.Common.{◌≡◌, ℕ, ◌+◌, ◌/◌, ◌%◌, ◌^◌, ◌==◌, ◌≤◌, ◌<◌, Bool, true, false, List, [], length, refl, ap, ◌∙◌, rules, arith}
use Rattle.std.proofs.lemmas.List.{take_all}
use Rattle.byteorder.specs.Endian.{big_bytes, big_number}
use Rattle.byteorder.specs.Numbers.{big_number-reads_back}
use Rattle.iscsi_pdu.specs.Fields.{at, byte, bits, three}
use Rattle.iscsi_pdu.specs.Headers.{header_bytes}
use Rattle.iscsi_pdu.specs.Requests.{nop_out, scsi_command, task_management_request, login_request, text_request, data_out, logout_request, snack_request, nop_out_header, scsi_command_header, task_management_request_header, login_request_header, text_request_header, data_out_header, logout_request_header, snack_request_header, unknown_request, unknown_request_header}
use Rattle.iscsi_pdu.specs.InitiatorHeaders.{initiator_header_of, initiator_header, initiator_header_parts}
use Rattle.iscsi_pdu.specs.Widths.{FitsNopOut, FitsScsiCommand, FitsTaskManagementRequest, FitsLoginRequest, FitsTextRequest, FitsDataOut, FitsLogoutRequest, FitsSnackRequest, FitsUnknownRequest, FitsInitiator}
use Rattle.iscsi_pdu.specs.declared.initiator_header.InitiatorHeader.{InitiatorHeader}
use Rattle.iscsi_pdu.specs.declared.initiator_header.InitiatorHeader.TheVariants as header
use Rattle.iscsi_pdu.proofs.LoginFlags.{transit_again, continues_again, current_again, next_again}
use Rattle.iscsi_pdu.proofs.CommandFlags.{immediate_again, final_again, read_again, write_again, attribute_again}
use Rattle.iscsi_pdu.specs.declared.nop_out.NopOut.{NopOut}
use Rattle.iscsi_pdu.specs.declared.scsi_command.ScsiCommand.{ScsiCommand}
use Rattle.iscsi_pdu.specs.declared.task_management_request.TaskManagementRequest.{TaskManagementRequest}
use Rattle.iscsi_pdu.specs.declared.login_request.LoginRequest.{LoginRequest}
use Rattle.iscsi_pdu.specs.declared.text_request.TextRequest.{TextRequest}
use Rattle.iscsi_pdu.specs.declared.data_out.DataOut.{DataOut}
use Rattle.iscsi_pdu.specs.declared.logout_request.LogoutRequest.{LogoutRequest}
use Rattle.iscsi_pdu.specs.declared.snack_request.SnackRequest.{SnackRequest}
use Rattle.iscsi_pdu.specs.declared.unknown_request.UnknownRequest.{UnknownRequest}

nop_out_again : (p : NopOut) (words count : ℕ) → FitsNopOut p → nop_out (header_bytes words count (nop_out_header p)) ≡ p
nop_out_again p words count fits = search rules

scsi_command_again : (p : ScsiCommand) (words count : ℕ) → FitsScsiCommand p → scsi_command (header_bytes words count (scsi_command_header p)) ≡ p
scsi_command_again p words count fits =
    let f = p.is_final in
    let r = p.reads in
    let w = p.writes in
    let a = p.task_attribute in
    let whole : length p.cdb ≤ 16 = omega arith in
    rw (immediate_again p.immediate, final_again f r w a, read_again f r w a, write_again f r w a, attribute_again f r w a, take_all 16 p.cdb whole)
    (search rules)

task_management_request_again : (p : TaskManagementRequest) (words count : ℕ) → FitsTaskManagementRequest p → task_management_request (header_bytes words count (task_management_request_header p)) ≡ p
task_management_request_again p words count fits = search rules

login_request_again : (p : LoginRequest) (words count : ℕ) → FitsLoginRequest p → login_request (header_bytes words count (login_request_header p)) ≡ p
login_request_again p words count fits =
    let t = p.transit in
    let k = p.continues in
    let s = p.current_stage in
    let n = p.next_stage in
    rw (transit_again t k s n, continues_again t k s n, current_again t k s n, next_again t k s n) (search rules)

text_request_again : (p : TextRequest) (words count : ℕ) → FitsTextRequest p → text_request (header_bytes words count (text_request_header p)) ≡ p
text_request_again p words count fits = search rules

data_out_again : (p : DataOut) (words count : ℕ) → FitsDataOut p → data_out (header_bytes words count (data_out_header p)) ≡ p
data_out_again p words count fits = search rules

logout_request_again : (p : LogoutRequest) (words count : ℕ) → FitsLogoutRequest p → logout_request (header_bytes words count (logout_request_header p)) ≡ p
logout_request_again p words count fits = search rules

snack_request_again : (p : SnackRequest) (words count : ℕ) → FitsSnackRequest p → snack_request (header_bytes words count (snack_request_header p)) ≡ p
snack_request_again p words count fits = search rules

-- an opcode below the immediate bit
opcode_again : (i : Bool) (opcode : ℕ) → opcode < 64 → (at 6 i + opcode) / 1 % 64 ≡ opcode
opcode_again true opcode h = omega arith
opcode_again false opcode h = omega arith

unknown_opcode : (p : UnknownRequest) → p.opcode < 64 → (at 6 p.immediate + p.opcode % 64) / 1 % 64 ≡ p.opcode
unknown_opcode p h = opcode_again p.immediate (p.opcode % 64) (omega arith) ∙ omega arith

unknown_bit : (i : Bool) (opcode : ℕ) → ((at 6 i + opcode % 64) / 64 % 2 == 1) ≡ i
unknown_bit true opcode = let e : (at 6 true + opcode % 64) / 64 % 2 ≡ 1 = omega arith in ap (λ (n : ℕ). n == 1) e
unknown_bit false opcode = let e : (at 6 false + opcode % 64) / 64 % 2 ≡ 0 = omega arith in ap (λ (n : ℕ). n == 1) e

unknown_request_again : (p : UnknownRequest) (words count : ℕ) → FitsUnknownRequest p → unknown_request (header_bytes words count (unknown_request_header p)) ≡ p
unknown_request_again p words count fits = rw (unknown_bit p.immediate p.opcode, unknown_opcode p fits.1) (search rules)

by_opcode : (h : List ℕ) (opcode : ℕ) → bits h 0 5 0 ≡ opcode → initiator_header h ≡ initiator_header_of opcode h
unfolding initiator_header
by_opcode h opcode e = ap (λ (k : ℕ). initiator_header_of k h) e

pub initiator_again : (p : InitiatorHeader) (words count : ℕ) → FitsInitiator p → initiator_header (header_bytes words count (initiator_header_parts p)) ≡ p
initiator_again (header.NopOut p) words count fits =
    by_opcode (header_bytes words count (nop_out_header p)) 0x00 (opcode_again p.immediate 0x00 (omega arith)) ∙ ap (λ (q : NopOut). header.NopOut q) (nop_out_again p words count fits)
initiator_again (header.ScsiCommand p) words count fits =
    by_opcode (header_bytes words count (scsi_command_header p)) 0x01 (opcode_again p.immediate 0x01 (omega arith)) ∙ ap (λ (q : ScsiCommand). header.ScsiCommand q) (scsi_command_again p words count fits)
initiator_again (header.TaskManagementRequest p) words count fits =
    by_opcode (header_bytes words count (task_management_request_header p)) 0x02 (opcode_again p.immediate 0x02 (omega arith)) ∙ ap (λ (q : TaskManagementRequest). header.TaskManagementRequest q) (task_management_request_again p words count fits)
initiator_again (header.LoginRequest p) words count fits =
    by_opcode (header_bytes words count (login_request_header p)) 0x03 refl ∙ ap (λ (q : LoginRequest). header.LoginRequest q) (login_request_again p words count fits)
initiator_again (header.TextRequest p) words count fits =
    by_opcode (header_bytes words count (text_request_header p)) 0x04 (opcode_again p.immediate 0x04 (omega arith)) ∙ ap (λ (q : TextRequest). header.TextRequest q) (text_request_again p words count fits)
initiator_again (header.DataOut p) words count fits =
    by_opcode (header_bytes words count (data_out_header p)) 0x05 refl ∙ ap (λ (q : DataOut). header.DataOut q) (data_out_again p words count fits)
initiator_again (header.LogoutRequest p) words count fits =
    by_opcode (header_bytes words count (logout_request_header p)) 0x06 (opcode_again p.immediate 0x06 (omega arith)) ∙ ap (λ (q : LogoutRequest). header.LogoutRequest q) (logout_request_again p words count fits)
initiator_again (header.SnackRequest p) words count fits =
    by_opcode (header_bytes words count (snack_request_header p)) 0x10 refl ∙ ap (λ (q : SnackRequest). header.SnackRequest q) (snack_request_again p words count fits)
initiator_again (header.Unknown p) words count fits =
    by_opcode (header_bytes words count (unknown_request_header p)) p.opcode (unknown_opcode p fits.1) ∙ fits.0 (header_bytes words count (unknown_request_header p))
    ∙ ap (λ (q : UnknownRequest). header.Unknown q) (unknown_request_again p words count fits)

three_again : (n : ℕ) → n < 2 ^ 24 → big_number 3 (big_bytes 3 n) ≡ n
three_again n h = big_number-reads_back 3 n [] h

-- the lengths in the header, and its own
pub initiator_lengths : (p : InitiatorHeader) (words count : ℕ) → FitsInitiator p → count < 2 ^ 24
    → (length (header_bytes words count (initiator_header_parts p)) ≡ 48) × (byte (header_bytes words count (initiator_header_parts p)) 4 ≡ words)
    × (three (header_bytes words count (initiator_header_parts p)) 5 ≡ count)
initiator_lengths (header.NopOut p) words count fits h = (refl, refl, three_again count h)
initiator_lengths (header.ScsiCommand p) words count fits h = (omega arith, refl, three_again count h)
initiator_lengths (header.TaskManagementRequest p) words count fits h = (refl, refl, three_again count h)
initiator_lengths (header.LoginRequest p) words count fits h = (refl, refl, three_again count h)
initiator_lengths (header.TextRequest p) words count fits h = (refl, refl, three_again count h)
initiator_lengths (header.DataOut p) words count fits h = (refl, refl, three_again count h)
initiator_lengths (header.LogoutRequest p) words count fits h = (refl, refl, three_again count h)
initiator_lengths (header.SnackRequest p) words count fits h = (refl, refl, three_again count h)
initiator_lengths (header.Unknown p) words count fits h = (refl, refl, three_again count h)
