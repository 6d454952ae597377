-- What the Data-In of a command carry.
use Rattle.std.proofs.Common.{◌≡◌, ℕ, ◌+◌, ◌<◌, ◌≤◌, zero, suc, List, [], ◌∷◌, ◌++◌, length, take, drop, refl, ap, ◌∙◌, arith, All, cond, eqb, Bool, true, false}
use Rattle.std.proofs.lemmas.List.Elements.{All-nil, All-cons}
use Rattle.std.proofs.lemmas.List.{length-drop, length-take-le, take-append-drop}
use Rattle.std.proofs.lemmas.Bool.Decides.{nat_tests}
use Rattle.iscsi_pdu.specs.Pdus.{TargetPduValue}
use Rattle.iscsi_answers.specs.declared.data_in.Transfer.{Transfer}
use Rattle.iscsi_answers.specs.declared.limits.TransferLimits.{TransferLimits}
use Rattle.iscsi_answers.specs.DataIns.{data_in_at, data_ins_within, segment_length}
use Rattle.iscsi_answers.specs.Laws.{payloads}

-- where bytes are left, some go out, and no more than the initiator takes
some_go : (l : TransferLimits) (offset left : ℕ) → 0 < left → 0 < segment_length l offset left
some_go l offset left h = omega (arith, l.some_segment, l.some_burst)

few_go : (l : TransferLimits) (offset left : ℕ) → segment_length l offset left ≤ left
few_go l offset left = omega arith

short_go : (l : TransferLimits) (offset left : ℕ) → segment_length l offset left ≤ l.max_data_segment_length
short_go l offset left = omega arith

payload_is : (t : Transfer) (offset sn : ℕ) (rest : List ℕ) → (data_in_at t offset sn rest).payload ≡ take (segment_length t.limits offset (length rest)) rest
unfolding data_in_at
payload_is t offset sn rest = refl

not_empty : (n : ℕ) → 0 < n → eqb n 0 ≡ false
not_empty n h = grind (arith, nat_tests)

pub whole : (most : ℕ) (t : Transfer) (offset sn : ℕ) (rest : List ℕ) → length rest ≤ most → payloads (data_ins_within most t offset sn rest) ≡ rest
whole zero t offset sn [] h = refl
whole zero t offset sn (b ∷ bs) h = absurd (omega arith)
whole (suc most) t offset sn [] h = refl
whole (suc most) t offset sn (b ∷ bs) h =
    let rest = b ∷ bs in
    let count = segment_length t.limits offset (length rest) in
    let some : 0 < count = some_go t.limits offset (length rest) (omega arith) in
    let fewer : length (drop count rest) ≤ most = omega (arith, length-drop count rest, some, h) in
    let none : List TargetPduValue = [] in
    let more = data_in_at t offset sn rest ∷ data_ins_within most t (offset + count) (sn + 1) (drop count rest) in
    ap (λ (c : Bool). payloads (cond c none more)) (not_empty (length rest) (omega arith))
    ∙ ap (λ (xs : List ℕ). xs ++ payloads (data_ins_within most t (offset + count) (sn + 1) (drop count rest))) (payload_is t offset sn rest)
    ∙ ap (λ (xs : List ℕ). take count rest ++ xs) (whole most t (offset + count) (sn + 1) (drop count rest) fewer)
    ∙ take-append-drop count rest

-- a PDU of the limits
abbrev pub IsShort : TransferLimits → TargetPduValue → Type 0
IsShort l p = length p.payload ≤ l.max_data_segment_length

is_short : (t : Transfer) (offset sn : ℕ) (rest : List ℕ) → IsShort t.limits (data_in_at t offset sn rest)
is_short t offset sn rest =
    let count = segment_length t.limits offset (length rest) in
    let size : length (data_in_at t offset sn rest).payload ≡ count =
    ap (λ (xs : List ℕ). length xs) (payload_is t offset sn rest) ∙ length-take-le count rest (few_go t.limits offset (length rest)) in
    let short = short_go t.limits offset (length rest) in
    omega (arith, size, short)

pub all_short : (most : ℕ) (t : Transfer) (offset sn : ℕ) (rest : List ℕ) → All (IsShort t.limits) (data_ins_within most t offset sn rest)
all_short zero t offset sn rest = All-nil (IsShort t.limits)
all_short (suc most) t offset sn rest =
    let count = segment_length t.limits offset (length rest) in
    let behind = data_ins_within most t (offset + count) (sn + 1) (drop count rest) in
    elim (eqb (length rest) 0) as (λ (b : Bool). All (IsShort t.limits) (cond b [] (data_in_at t offset sn rest ∷ behind))) [
      | true ↦ All-nil (IsShort t.limits)
      | false ↦ All-cons (IsShort t.limits) (data_in_at t offset sn rest) behind (is_short t offset sn rest) (all_short most t (offset + count) (sn + 1) (drop count rest))
    ]
