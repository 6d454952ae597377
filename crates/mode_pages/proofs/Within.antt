-- A block length that is selected is not above the longest block.
use Rattle.std.proofs.Common.{◌≡◌, ◌==◌, not, ℕ, zero, suc, ◌≤◌, Bool, true, false, cond, List, [], ◌∷◌, length, drop, Result, Ok, Err, refl, sym, subst, ltb, IfOk}
use Rattle.std.proofs.lemmas.Bool.{ltb-false}
use Rattle.scsi_sense.specs.declared.condition.Condition.{Condition}
use Rattle.mode_pages.specs.Laws.{LengthStaysWithin}
use Rattle.mode_pages.specs.Select.{and_pages, head_page, page_size, pages_taken, then_on, with_descriptor, with_page, with_pages, block_length_in, pages_at, selected, has_long_lba, descriptor_length, is_descriptor_length}
use Rattle.mode_pages.specs.Lists.{header_length}
use Rattle.scsi_sense.specs.declared.condition.Condition.TheVariants.{InvalidFieldInCdb, InvalidFieldInParameterList, ParameterListLengthError}
use Rattle.mode_pages.specs.Values.{mode_values}
use Rattle.mode_pages.specs.declared.drive_page.DrivePage.{DrivePage}
use Rattle.mode_pages.specs.declared.drive_page.DrivePage.TheVariants as page
use Rattle.mode_pages.specs.declared.request.HeaderForm.{HeaderForm}
use Rattle.mode_pages.specs.declared.values.ModeValues.{ModeValues}

-- the values of a result, if there are any, have this block length
HasLength : ℕ → Result ModeValues Condition → Type 0
HasLength n r = IfOk r (λ v. v.block_length ≡ n)

then_keeps : (r : Result DrivePage Condition) (f : DrivePage → Result ModeValues Condition) (n : ℕ) → ((p : DrivePage) → HasLength n (f p)) → HasLength n (then_on r f)
unfolding HasLength
then_keeps (Err c) f n kept = tt
then_keeps (Ok p) f n kept = kept p

page_keeps : (p : DrivePage) (bytes : List ℕ) (v : ModeValues) → (with_page p bytes v).block_length ≡ v.block_length
page_keeps page.ReadWriteErrorRecovery bytes v = refl
page_keeps page.DisconnectReconnect bytes v = refl
page_keeps page.Control bytes v = refl
page_keeps page.DataCompression bytes v = refl
page_keeps page.DeviceConfiguration bytes v = refl
page_keeps page.MediumPartition bytes v = refl
page_keeps page.InformationalExceptionsControl bytes v = refl
page_keeps page.MediumConfiguration bytes v = refl

pages_keep : (list : List ℕ) (most : ℕ) (v : ModeValues) → HasLength v.block_length (pages_taken list most v)
unfolding HasLength pages_taken
pages_keep [] most v = refl
pages_keep (b ∷ bytes) zero v = refl
pages_keep (b ∷ bytes) (suc most) v =
    then_keeps (head_page (b ∷ bytes)) _ v.block_length (λ p.
    subst (λ (n : ℕ). HasLength n (pages_taken (drop (page_size (b ∷ bytes)) (b ∷ bytes)) most (with_page p (b ∷ bytes) v))) (page_keeps p (b ∷ bytes) v)
    (pages_keep (drop (page_size (b ∷ bytes)) (b ∷ bytes)) most (with_page p (b ∷ bytes) v)))

IsWithin : ℕ → Result ModeValues Condition → Type 0
IsWithin most r = IfOk r (λ v. v.block_length ≤ most)

within_of : (r : Result ModeValues Condition) (n most : ℕ) → HasLength n r → n ≤ most → IsWithin most r
unfolding HasLength IsWithin
within_of (Err c) n most has within = tt
within_of (Ok v) n most has within = subst (λ (k : ℕ). k ≤ most) (sym has) within

either : (b : Bool) (x y : Result ModeValues Condition) (most : ℕ) → IsWithin most x → IsWithin most y → IsWithin most (cond b x y)
either true x y most hx hy = hx
either false x y most hx hy = hy

as_before : (v : ModeValues) (most : ℕ) → v.block_length ≤ most → IsWithin most (Ok v)
unfolding IsWithin
as_before v most within = within

not_above : (b : Bool) (n most : ℕ) (c : Condition) (x : Bool) → ltb most n ≡ b → IsWithin most (cond b (Err c) (Ok (mode_values n x)))
unfolding IsWithin
not_above true n most c x test = tt
not_above false n most c x test = ltb-false most n test

descriptor_within : (most : ℕ) (form : HeaderForm) (list : List ℕ) (before : ModeValues) → before.block_length ≤ most → IsWithin most (with_descriptor most form list before)
descriptor_within most form list before within =
    either _ _ _ most (as_before before most within) (not_above (ltb most (block_length_in form list)) (block_length_in form list) most _ before.compression refl)

pages_within : (r : Result ModeValues Condition) (most : ℕ) (bytes : List ℕ) → IsWithin most r → IsWithin most (and_pages r bytes)
unfolding IsWithin
pages_within (Err c) most bytes within = tt
pages_within (Ok v) most bytes within = within_of (with_pages bytes v) v.block_length most (pages_keep bytes (length bytes) v) within

-- the tests of a parameter list in their order, each of which refuses it but the second, and what is left if none applies
tested_within : (b1 b2 b3 b4 b5 b6 b7 : Bool) (c1 c3 c4 c5 c6 c7 : Condition) (x last : Result ModeValues Condition) (most : ℕ) → IsWithin most x → IsWithin most last
    → IsWithin most (cond b1 (Err c1) (cond b2 x (cond b3 (Err c3) (cond b4 (Err c4) (cond b5 (Err c5) (cond b6 (Err c6) (cond b7 (Err c7) last)))))))
unfolding IsWithin
tested_within true b2 b3 b4 b5 b6 b7 c1 c3 c4 c5 c6 c7 x last most first rest = tt
tested_within false true b3 b4 b5 b6 b7 c1 c3 c4 c5 c6 c7 x last most first rest = first
tested_within false false true b4 b5 b6 b7 c1 c3 c4 c5 c6 c7 x last most first rest = tt
tested_within false false false true b5 b6 b7 c1 c3 c4 c5 c6 c7 x last most first rest = tt
tested_within false false false false true b6 b7 c1 c3 c4 c5 c6 c7 x last most first rest = tt
tested_within false false false false false true b7 c1 c3 c4 c5 c6 c7 x last most first rest = tt
tested_within false false false false false false true c1 c3 c4 c5 c6 c7 x last most first rest = tt
tested_within false false false false false false false c1 c3 c4 c5 c6 c7 x last most first rest = rest

selected_within : (before : ModeValues) (most : ℕ) (form : HeaderForm) (save_pages : Bool) (list_length : ℕ) (list : List ℕ) → before.block_length ≤ most
    → IsWithin most (selected before most form save_pages list_length list)
selected_within before most form save_pages list_length list within =
    tested_within save_pages (list_length == 0) (not (length list == list_length)) (ltb list_length (header_length form)) (has_long_lba form list)
    (not (is_descriptor_length (descriptor_length form list))) (ltb list_length (pages_at form list))
    InvalidFieldInCdb ParameterListLengthError ParameterListLengthError InvalidFieldInParameterList InvalidFieldInParameterList ParameterListLengthError
    (Ok before) (and_pages (with_descriptor most form list before) (drop (pages_at form list) list)) most (as_before before most within)
    (pages_within (with_descriptor most form list before) most (drop (pages_at form list) list) (descriptor_within most form list before within))

pub stays_within : LengthStaysWithin
unfolding IsWithin
stays_within before most form save_pages list_length list within = selected_within before most form save_pages list_length list within
