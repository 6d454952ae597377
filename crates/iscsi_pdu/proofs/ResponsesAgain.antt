-- The header of each PDU of a target is read again.
use Rattle.std.proofs.Common.{◌≡◌, ℕ, ◌/◌, ◌%◌, ◌^◌, ◌<◌, List, [], length, refl, ap, ◌∙◌, rules, arith}
use Rattle.byteorder.specs.Endian.{big_bytes, big_number}
use Rattle.byteorder.specs.Numbers.{big_number-reads_back}
use Rattle.iscsi_pdu.specs.Fields.{byte, bits, three}
use Rattle.iscsi_pdu.specs.Headers.{header_bytes}
use Rattle.iscsi_pdu.specs.Responses.{nop_in, scsi_response, task_management_response, login_response, text_response, logout_response, ready_to_transfer, async_message, reject, nop_in_header, scsi_response_header, task_management_response_header, login_response_header, text_response_header, data_in_header, logout_response_header, ready_to_transfer_header, async_message_header, reject_header, unknown_response, unknown_response_header}
use Rattle.iscsi_pdu.specs.TargetHeaders.{target_header_of, target_header, target_header_parts}
use Rattle.iscsi_pdu.specs.Widths.{FitsNopIn, FitsScsiResponse, FitsTaskManagementResponse, FitsLoginResponse, FitsTextResponse, FitsLogoutResponse, FitsReadyToTransfer, FitsAsyncMessage, FitsReject, FitsUnknownResponse, FitsTarget}
use Rattle.iscsi_pdu.specs.declared.target_header.TargetHeader.{TargetHeader}
use Rattle.iscsi_pdu.specs.declared.target_header.TargetHeader.TheVariants as header
use Rattle.iscsi_pdu.proofs.LoginFlags.{transit_again, continues_again, current_again, next_again, status_again}
use Rattle.iscsi_pdu.proofs.DataIns.{data_in_again}
use Rattle.iscsi_pdu.specs.declared.nop_in.NopIn.{NopIn}
use Rattle.iscsi_pdu.specs.declared.scsi_response.ScsiResponse.{ScsiResponse}
use Rattle.iscsi_pdu.specs.declared.task_management_response.TaskManagementResponse.{TaskManagementResponse}
use Rattle.iscsi_pdu.specs.declared.login_response.LoginResponse.{LoginResponse}
use Rattle.iscsi_pdu.specs.declared.text_response.TextResponse.{TextResponse}
use Rattle.iscsi_pdu.specs.declared.data_in.DataIn.{DataIn}
use Rattle.iscsi_pdu.specs.declared.logout_response.LogoutResponse.{LogoutResponse}
use Rattle.iscsi_pdu.specs.declared.r2t.ReadyToTransfer.{ReadyToTransfer}
use Rattle.iscsi_pdu.specs.declared.async_message.AsyncMessage.{AsyncMessage}
use Rattle.iscsi_pdu.specs.declared.reject.Reject.{Reject}
use Rattle.iscsi_pdu.specs.declared.unknown_response.UnknownResponse.{UnknownResponse}

nop_in_again : (p : NopIn) (words count : ℕ) → FitsNopIn p → nop_in (header_bytes words count (nop_in_header p)) ≡ p
nop_in_again p words count fits = search rules

scsi_response_again : (p : ScsiResponse) (words count : ℕ) → FitsScsiResponse p → scsi_response (header_bytes words count (scsi_response_header p)) ≡ p
scsi_response_again p words count fits = search rules

task_management_response_again : (p : TaskManagementResponse) (words count : ℕ) → FitsTaskManagementResponse p → task_management_response (header_bytes words count (task_management_response_header p)) ≡ p
task_management_response_again p words count fits = search rules

login_response_again : (p : LoginResponse) (words count : ℕ) → FitsLoginResponse p → login_response (header_bytes words count (login_response_header p)) ≡ p
login_response_again p words count fits =
    let t = p.transit in
    let k = p.continues in
    let s = p.current_stage in
    let n = p.next_stage in
    rw (transit_again t k s n, continues_again t k s n, current_again t k s n, next_again t k s n, status_again p.status) (search rules)

text_response_again : (p : TextResponse) (words count : ℕ) → FitsTextResponse p → text_response (header_bytes words count (text_response_header p)) ≡ p
text_response_again p words count fits = search rules

logout_response_again : (p : LogoutResponse) (words count : ℕ) → FitsLogoutResponse p → logout_response (header_bytes words count (logout_response_header p)) ≡ p
logout_response_again p words count fits = search rules

ready_to_transfer_again : (p : ReadyToTransfer) (words count : ℕ) → FitsReadyToTransfer p → ready_to_transfer (header_bytes words count (ready_to_transfer_header p)) ≡ p
ready_to_transfer_again p words count fits = search rules

async_message_again : (p : AsyncMessage) (words count : ℕ) → FitsAsyncMessage p → async_message (header_bytes words count (async_message_header p)) ≡ p
async_message_again p words count fits = search rules

reject_again : (p : Reject) (words count : ℕ) → FitsReject p → reject (header_bytes words count (reject_header p)) ≡ p
reject_again p words count fits = search rules

unknown_opcode : (opcode : ℕ) → opcode < 64 → opcode % 64 / 1 % 64 ≡ opcode
unknown_opcode opcode h = omega arith

unknown_response_again : (p : UnknownResponse) (words count : ℕ) → FitsUnknownResponse p → unknown_response (header_bytes words count (unknown_response_header p)) ≡ p
unknown_response_again p words count fits = rw (unknown_opcode p.opcode fits.1) refl

by_opcode : (h : List ℕ) (opcode : ℕ) → bits h 0 5 0 ≡ opcode → target_header h ≡ target_header_of opcode h
unfolding target_header
by_opcode h opcode e = ap (λ (k : ℕ). target_header_of k h) e

pub target_again : (p : TargetHeader) (words count : ℕ) → FitsTarget p → target_header (header_bytes words count (target_header_parts p)) ≡ p
target_again (header.NopIn p) words count fits =
    by_opcode (header_bytes words count (nop_in_header p)) 0x20 refl ∙ ap (λ (q : NopIn). header.NopIn q) (nop_in_again p words count fits)
target_again (header.ScsiResponse p) words count fits =
    by_opcode (header_bytes words count (scsi_response_header p)) 0x21 refl ∙ ap (λ (q : ScsiResponse). header.ScsiResponse q) (scsi_response_again p words count fits)
target_again (header.TaskManagementResponse p) words count fits =
    by_opcode (header_bytes words count (task_management_response_header p)) 0x22 refl ∙ ap (λ (q : TaskManagementResponse). header.TaskManagementResponse q) (task_management_response_again p words count fits)
target_again (header.LoginResponse p) words count fits =
    by_opcode (header_bytes words count (login_response_header p)) 0x23 refl ∙ ap (λ (q : LoginResponse). header.LoginResponse q) (login_response_again p words count fits)
target_again (header.TextResponse p) words count fits =
    by_opcode (header_bytes words count (text_response_header p)) 0x24 refl ∙ ap (λ (q : TextResponse). header.TextResponse q) (text_response_again p words count fits)
target_again (header.DataIn p) words count fits =
    by_opcode (header_bytes words count (data_in_header p)) 0x25 refl ∙ ap (λ (q : DataIn). header.DataIn q) (data_in_again p words count fits)
target_again (header.LogoutResponse p) words count fits =
    by_opcode (header_bytes words count (logout_response_header p)) 0x26 refl ∙ ap (λ (q : LogoutResponse). header.LogoutResponse q) (logout_response_again p words count fits)
target_again (header.ReadyToTransfer p) words count fits =
    by_opcode (header_bytes words count (ready_to_transfer_header p)) 0x31 refl ∙ ap (λ (q : ReadyToTransfer). header.ReadyToTransfer q) (ready_to_transfer_again p words count fits)
target_again (header.AsyncMessage p) words count fits =
    by_opcode (header_bytes words count (async_message_header p)) 0x32 refl ∙ ap (λ (q : AsyncMessage). header.AsyncMessage q) (async_message_again p words count fits)
target_again (header.Reject p) words count fits =
    by_opcode (header_bytes words count (reject_header p)) 0x3F refl ∙ ap (λ (q : Reject). header.Reject q) (reject_again p words count fits)
target_again (header.Unknown p) words count fits =
    by_opcode (header_bytes words count (unknown_response_header p)) p.opcode (unknown_opcode p.opcode fits.1) ∙ fits.0 (header_bytes words count (unknown_response_header p))
    ∙ ap (λ (q : UnknownResponse). header.Unknown q) (unknown_response_again p words count fits)

three_again : (n : ℕ) → n < 2 ^ 24 → big_number 3 (big_bytes 3 n) ≡ n
three_again n h = big_number-reads_back 3 n [] h

-- the lengths in the header, and its own
pub target_lengths : (p : TargetHeader) (words count : ℕ) → FitsTarget p → count < 2 ^ 24
    → (length (header_bytes words count (target_header_parts p)) ≡ 48) × (byte (header_bytes words count (target_header_parts p)) 4 ≡ words)
    × (three (header_bytes words count (target_header_parts p)) 5 ≡ count)
target_lengths (header.NopIn p) words count fits h = (refl, refl, three_again count h)
target_lengths (header.ScsiResponse p) words count fits h = (refl, refl, three_again count h)
target_lengths (header.TaskManagementResponse p) words count fits h = (refl, refl, three_again count h)
target_lengths (header.LoginResponse p) words count fits h = (refl, refl, three_again count h)
target_lengths (header.TextResponse p) words count fits h = (refl, refl, three_again count h)
target_lengths (header.DataIn p) words count fits h = (refl, refl, three_again count h)
target_lengths (header.LogoutResponse p) words count fits h = (refl, refl, three_again count h)
target_lengths (header.ReadyToTransfer p) words count fits h = (refl, refl, three_again count h)
target_lengths (header.AsyncMessage p) words count fits h = (refl, refl, three_again count h)
target_lengths (header.Reject p) words count fits h = (refl, refl, three_again count h)
target_lengths (header.Unknown p) words count fits h = (refl, refl, three_again count h)
