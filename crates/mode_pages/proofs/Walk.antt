-- The pages of a list, one after another: a step, and the ends.
use Rattle.std.proofs.Common.{◌≡◌, ℕ, zero, suc, ◌+◌, ◌-◌, ◌<◌, ◌≤◌, ◌==◌, Bool, true, false, cond, List, [], ◌∷◌, length, take, drop, Result, Ok, Err, refl, sym, ap, ◌∙◌, arith, length-drop}
use Rattle.std.proofs.lemmas.Bool.{eqb-true}
use Rattle.std.proofs.Math.Seq.{take-length}
use Rattle.scsi_sense.specs.declared.condition.Condition.{Condition}
use Rattle.mode_pages.specs.declared.drive_page.DrivePage.{DrivePage}
use Rattle.mode_pages.specs.declared.values.ModeValues.{ModeValues}
use Rattle.mode_pages.specs.Select.{pages_taken, with_pages, then_on, head_page, page_size, with_page}

-- what goes on in the same way has the same end
same_on : (r : Result DrivePage Condition) (f g : DrivePage → Result ModeValues Condition) → ((p : DrivePage) → f p ≡ g p) → then_on r f ≡ then_on r g
same_on (Err c) f g same = refl
same_on (Ok p) f g same = same p

-- a page has its header
some_of : (b : Bool) (m n : ℕ) → 0 < cond b (4 + m) (2 + n)
some_of true m n = omega arith
some_of false m n = omega arith

pub page-size-positive : (list : List ℕ) → 0 < page_size list
page-size-positive list = some_of _ _ _

shorter : (b : ℕ) (bytes : List ℕ) (k m : ℕ) → 0 < k → length (b ∷ bytes) ≤ suc m → length (drop k (b ∷ bytes)) ≤ m
shorter b bytes k m some long = omega (arith, length-drop k (b ∷ bytes))

-- as many steps as bytes are enough
enough : (list : List ℕ) (m n : ℕ) (v : ModeValues) → length list ≤ m → length list ≤ n → pages_taken list m v ≡ pages_taken list n v
unfolding pages_taken
enough [] m n v hm hn = refl
enough (b ∷ bytes) zero n v hm hn = absurd (omega arith)
enough (b ∷ bytes) (suc m) zero v hm hn = absurd (omega arith)
enough (b ∷ bytes) (suc m) (suc n) v hm hn =
    let k : ℕ = page_size (b ∷ bytes) in
    let some : 0 < k = page-size-positive (b ∷ bytes) in
    same_on (head_page (b ∷ bytes)) _ _ (λ p. enough (drop k (b ∷ bytes)) m n (with_page p (b ∷ bytes) v) (shorter b bytes k m some hm) (shorter b bytes k n some hn))

pub ended : (list : List ℕ) (v : ModeValues) → length list ≡ 0 → with_pages list v ≡ Ok v
unfolding pages_taken
ended [] v empty = refl
ended (b ∷ bytes) v empty = absurd (omega arith)

pub refused : (list : List ℕ) (v : ModeValues) (c : Condition) → 0 < length list → head_page list ≡ Err c → with_pages list v ≡ Err c
unfolding pages_taken
refused [] v c some e = absurd (omega arith)
refused (b ∷ bytes) v c some e = ap (λ (r : Result DrivePage Condition). then_on r (λ p. pages_taken (drop (page_size (b ∷ bytes)) (b ∷ bytes)) (length bytes) (with_page p (b ∷ bytes) v))) e

pub went_on : (list : List ℕ) (v : ModeValues) (p : DrivePage) → 0 < length list → head_page list ≡ Ok p
    → with_pages list v ≡ with_pages (drop (page_size list) list) (with_page p list v)
unfolding pages_taken
went_on [] v p some e = absurd (omega arith)
went_on (b ∷ bytes) v p some e =
    let k : ℕ = page_size (b ∷ bytes) in
    let rest : List ℕ = drop k (b ∷ bytes) in
    let one : length (b ∷ bytes) ≤ suc (length bytes) = omega arith in
    let same : length rest ≤ length rest = omega arith in
    ap (λ (r : Result DrivePage Condition). then_on r (λ q. pages_taken (drop (page_size (b ∷ bytes)) (b ∷ bytes)) (length bytes) (with_page q (b ∷ bytes) v))) e
    ∙ enough rest (length bytes) (length rest) (with_page p (b ∷ bytes) v) (shorter b bytes k (length bytes) (page-size-positive (b ∷ bytes)) one) same

-- the same, as a loop over the bytes has it
pub end_of : (bytes list : List ℕ) (before v : ModeValues) (b : Bool) → with_pages bytes before ≡ with_pages list v → b ≡ (length list == 0) → b ≡ true
    → Ok v ≡ with_pages bytes before
end_of bytes list before v b so_far test is =
    sym (so_far ∙ ended list v (eqb-true (length list) 0 (sym test ∙ is)))

positive : (list : List ℕ) (b : Bool) → b ≡ (length list == 0) → b ≡ false → 0 < length list
positive [] b test is = absurd (cc (sym test ∙ is))
positive (x ∷ xs) b test is = omega arith

pub refused_at : (bytes list : List ℕ) (before v : ModeValues) (b : Bool) (c : Condition) → with_pages bytes before ≡ with_pages list v
    → b ≡ (length list == 0) → b ≡ false → Err c ≡ head_page list → Err c ≡ with_pages bytes before
refused_at bytes list before v b c so_far test is e = sym (so_far ∙ refused list v c (positive list b test is) (sym e))

whole : (list : List ℕ) (k : ℕ) → take (length list - k) (drop k list) ≡ drop k list
whole list k = rw (← length-drop k list) (take-length (drop k list))

pub goes_on : (bytes list : List ℕ) (before v w : ModeValues) (b : Bool) (p : DrivePage) (k : ℕ) → with_pages bytes before ≡ with_pages list v
    → b ≡ (length list == 0) → b ≡ false → Ok p ≡ head_page list → k ≡ page_size list → w ≡ with_page p list v
    → with_pages bytes before ≡ with_pages (take (length list - k) (drop k list)) w
goes_on bytes list before v w b p k so_far test is e size value =
    rw (whole list k, size, value) (so_far ∙ went_on list v p (positive list b test is) (sym e))
