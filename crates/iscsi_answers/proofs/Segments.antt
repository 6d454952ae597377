-- One Data-In after another.
use Rattle.std.proofs.Common.{◌≡◌, ℕ, ◌+◌, ◌-◌, ◌<◌, suc, zero, false, cond, eqb, Bool, List, [], ◌∷◌, ◌++◌, length, drop, refl, sym, ap, ◌∙◌, append_assoc, append-nil, arith}
use Rattle.std.proofs.lemmas.Bool.Decides.{nat_tests}
use Rattle.iscsi_pdu.specs.Pdus.{TargetPduValue}
use Rattle.iscsi_answers.specs.declared.data_in.Transfer.{Transfer}
use Rattle.iscsi_answers.specs.Written.{bytes_of, bytes_of_all}
use Rattle.iscsi_answers.specs.DataIns.{data_in_at, data_ins_within, segment_length, behind}

one_fewer : (most i : ℕ) → i < most → most - i ≡ suc (most - (i + 1))
one_fewer most i h = omega arith

not_empty : (n : ℕ) → 0 < n → eqb n 0 ≡ false
not_empty n h = grind (arith, nat_tests)

-- no byte is left
pub none_left : (most : ℕ) (t : Transfer) (offset sn : ℕ) (rest : List ℕ) → length rest ≡ 0 → data_ins_within most t offset sn rest ≡ []
none_left zero t offset sn rest e = refl
none_left (suc most) t offset sn [] e = refl
none_left (suc most) t offset sn (b ∷ bs) e = absurd (omega arith)

-- some are
pub one_of : (most i : ℕ) (t : Transfer) (offset sn : ℕ) (rest : List ℕ) → i < most → 0 < length rest
    → data_ins_within (most - i) t offset sn rest
    ≡ data_in_at t offset sn rest ∷ data_ins_within (most - (i + 1)) t (offset + segment_length t.limits offset (length rest)) (sn + 1) (behind t offset rest)
one_of most i t offset sn rest h some =
    let more = data_in_at t offset sn rest ∷ data_ins_within (most - (i + 1)) t (offset + segment_length t.limits offset (length rest)) (sn + 1) (behind t offset rest) in
    let none : List TargetPduValue = [] in
    ap (λ k. data_ins_within k t offset sn rest) (one_fewer most i h) ∙ ap (λ (b : Bool). cond b none more) (not_empty (length rest) some)

-- all is written
pub all_written : (most i : ℕ) (t : Transfer) (offset sn : ℕ) (rest out whole : List ℕ) → length rest ≡ 0
    → out ++ bytes_of_all (data_ins_within (most - i) t offset sn rest) ≡ whole → out ≡ whole
all_written most i t offset sn rest out whole e before =
    sym (append-nil out) ∙ ap (λ (ps : List TargetPduValue). out ++ bytes_of_all ps) (sym (none_left (most - i) t offset sn rest e)) ∙ before

pub all_counted : (most i : ℕ) (t : Transfer) (offset sn : ℕ) (rest : List ℕ) (whole : ℕ) → length rest ≡ 0
    → sn + length (data_ins_within (most - i) t offset sn rest) ≡ whole → sn ≡ whole
all_counted most i t offset sn rest whole e before =
    let none = ap (λ (ps : List TargetPduValue). length ps) (none_left (most - i) t offset sn rest e) in omega (arith, none, before)

-- those behind the first, however many bytes it has
behind_one : (k : ℕ) (t : Transfer) (offset sn count : ℕ) (rest next : List ℕ) → count ≡ segment_length t.limits offset (length rest) → next ≡ drop count rest
    → data_ins_within k t (offset + count) (sn + 1) next ≡ data_ins_within k t (offset + segment_length t.limits offset (length rest)) (sn + 1) (behind t offset rest)
behind_one k t offset sn count rest next size is =
    ap (λ (xs : List ℕ). data_ins_within k t (offset + count) (sn + 1) xs) is ∙ ap (λ (n : ℕ). data_ins_within k t (offset + n) (sn + 1) (drop n rest)) size

-- one more is written
pub one_written : (most i : ℕ) (t : Transfer) (offset sn count : ℕ) (rest next out new whole : List ℕ) → i < most → 0 < length rest
    → count ≡ segment_length t.limits offset (length rest) → next ≡ drop count rest → new ≡ out ++ bytes_of (data_in_at t offset sn rest)
    → out ++ bytes_of_all (data_ins_within (most - i) t offset sn rest) ≡ whole
    → new ++ bytes_of_all (data_ins_within (most - (i + 1)) t (offset + count) (sn + 1) next) ≡ whole
one_written most i t offset sn count rest next out new whole h some size is written before =
    let after = data_ins_within (most - (i + 1)) t (offset + segment_length t.limits offset (length rest)) (sn + 1) (behind t offset rest) in
    ap (λ (ps : List TargetPduValue). new ++ bytes_of_all ps) (behind_one (most - (i + 1)) t offset sn count rest next size is)
    ∙ ap (λ xs. xs ++ bytes_of_all after) written
    ∙ append_assoc out (bytes_of (data_in_at t offset sn rest)) (bytes_of_all after)
    ∙ ap (λ (ps : List TargetPduValue). out ++ bytes_of_all ps) (sym (one_of most i t offset sn rest h some))
    ∙ before

pub one_counted : (most i : ℕ) (t : Transfer) (offset sn count : ℕ) (rest next : List ℕ) (whole : ℕ) → i < most → 0 < length rest
    → count ≡ segment_length t.limits offset (length rest) → next ≡ drop count rest
    → sn + length (data_ins_within (most - i) t offset sn rest) ≡ whole
    → sn + 1 + length (data_ins_within (most - (i + 1)) t (offset + count) (sn + 1) next) ≡ whole
one_counted most i t offset sn count rest next whole h some size is before =
    let e = ap (λ (ps : List TargetPduValue). length ps) (one_of most i t offset sn rest h some) in
    let f = ap (λ (ps : List TargetPduValue). length ps) (behind_one (most - (i + 1)) t offset sn count rest next size is) in
    omega (arith, e, f, before)
