-- No more is read than the part that was wanted.
use Rattle.std.proofs.Common.{◌≡◌, ℕ, ◌≤◌, ◌<◌, Bool, true, false, cond, inl, inr, List, ◌++◌, length, take, drop, refl, sym, ap, subst, ◌∙◌, length-append, arith}
use Rattle.std.proofs.lemmas.Bool.{cases_lt}
use Rattle.std.proofs.lemmas.List.{take-append-drop, length-take-le}
use Rattle.byteorder.specs.Endian.{little_number}
use Rattle.byteorder.specs.Numbers.{little_from-append}
use Rattle.tape_medium.specs.Object.{Object}
use Rattle.tape_image.specs.declared.fault.ImageFault.TheVariants.{UnequalLengths}
use Rattle.tape_image.specs.Images.{block_count}
use Rattle.tape_image.specs.Parts.{PartValue, Partial, Complete, Gap, End, Invalid, IsKnown, sized, measured, image_part}
use Rattle.tape_image.specs.Walking.{HasNoMore}
use Rattle.tape_image.proofs.Parts.{part_is, short_is, there, not_there, chosen, IsSome, is_some, part_stays}

of_four : (len : ℕ) (p : PartValue) → IsSome len p → HasNoMore 4 p
of_four len (Partial wanted) some = tt
of_four len (Complete x count) some = some.0
of_four len Gap some = omega arith
of_four len End some = omega arith
of_four len (Invalid fault) some = tt

fewer : (len wanted : ℕ) (p : PartValue) → len ≤ wanted → HasNoMore wanted p → HasNoMore len p
fewer len wanted (Partial w) less h = tt
fewer len wanted (Complete x count) less h = omega arith
fewer len wanted Gap less h = omega arith
fewer len wanted End less h = omega arith
fewer len wanted (Invalid fault) less h = tt

chosen_fits : (a b c d e : Bool) (p p' : PartValue) (wanted len : ℕ) → chosen a b c d e p ≡ Partial wanted → (p ≡ Partial wanted → HasNoMore len p') → HasNoMore len (chosen a b c d e p')
unfolding chosen
chosen_fits true b c d e p p' wanted len is h = absurd cc
chosen_fits false true c d e p p' wanted len is h = absurd cc
chosen_fits false false true d e p p' wanted len is h = absurd cc
chosen_fits false false false true e p p' wanted len is h = tt
chosen_fits false false false false true p p' wanted len is h = tt
chosen_fits false false false false false p p' wanted len is h = h is

same_wanted : (v w : ℕ) → Partial v ≡ Partial w → v ≡ w
same_wanted v w e = cc

agreed_whole : (same : Bool) (x : Object) (count wanted : ℕ) → cond same (Complete x count) (Invalid UnequalLengths) ≡ Partial wanted → ⊥
agreed_whole true x count wanted e = absurd cc
agreed_whole false x count wanted e = absurd cc

sized_wanted : (size : ℕ) (b : List ℕ) (wanted : ℕ) → sized size b ≡ Partial wanted → wanted ≡ block_count size
sized_wanted size b wanted e = elim (cases_lt (length b) (block_count size)) [
  | inl short ↦ sym (same_wanted (block_count size) wanted (sym (not_there size b short) ∙ e))
  | inr long ↦ absurd (agreed_whole _ _ _ wanted (sym (there size b long) ∙ e))
]

agreed_fits : (same : Bool) (x : Object) (count len : ℕ) → len ≤ count → HasNoMore len (cond same (Complete x count) (Invalid UnequalLengths))
agreed_fits true x count len fits = fits
agreed_fits false x count len fits = tt

sized_fits : (size : ℕ) (b : List ℕ) (len : ℕ) → len ≤ block_count size → HasNoMore len (sized size b)
sized_fits size b len fits = elim (cases_lt (length b) (block_count size)) [
  | inl short ↦ subst (HasNoMore len) (sym (not_there size b short)) tt
  | inr long ↦ subst (HasNoMore len) (sym (there size b long)) (agreed_fits _ _ _ len fits)
]

measured_fits : (word : ℕ) (b b' : List ℕ) (wanted len : ℕ) → measured word b ≡ Partial wanted → len ≤ wanted → HasNoMore len (measured word b')
unfolding chosen
measured_fits word b b' wanted len e most =
    chosen_fits _ _ _ _ _ (sized word b) (sized word b') wanted len e
    (λ h. let is = sized_wanted word b wanted h in sized_fits word b' len (omega (arith, is, most)))

-- a part is no shorter than was wanted
wanted_least : (b more : List ℕ) (wanted : ℕ) → image_part b ≡ Partial wanted → HasNoMore wanted (image_part (b ++ more))
wanted_least b more wanted e = elim (cases_lt (length b) 4) [
  | inl short ↦ (
      let is = same_wanted 4 wanted (sym (short_is b short) ∙ e) in
      subst (λ (n : ℕ). HasNoMore n (image_part (b ++ more))) is (of_four (length (b ++ more)) (image_part (b ++ more)) (is_some (b ++ more))))
  | inr four ↦ (
      let here : image_part (b ++ more) ≡ measured (little_number 4 b) (b ++ more) =
      part_is (b ++ more) (omega (arith, length-append b more)) ∙ ap (λ (n : ℕ). measured n (b ++ more)) (little_from-append 4 b more four) in
      subst (HasNoMore wanted) (sym here) (measured_fits (little_number 4 b) b (b ++ more) wanted wanted (sym (part_is b four) ∙ e) (omega arith)))
]

-- more bytes, up to those that were wanted
pub wanted_fits : (b more : List ℕ) (wanted : ℕ) → image_part b ≡ Partial wanted → length (b ++ more) ≤ wanted → HasNoMore (length (b ++ more)) (image_part (b ++ more))
wanted_fits b more wanted e most = fewer (length (b ++ more)) wanted (image_part (b ++ more)) most (wanted_least b more wanted e)

-- more is wanted than is there
sized_lacks : (size : ℕ) (b : List ℕ) (wanted : ℕ) → sized size b ≡ Partial wanted → length b < wanted
sized_lacks size b wanted e = elim (cases_lt (length b) (block_count size)) [
  | inl short ↦ (let is = sized_wanted size b wanted e in omega (arith, is, short))
  | inr long ↦ absurd (agreed_whole _ _ _ wanted (sym (there size b long) ∙ e))
]

chosen_lacks : (a b c d e : Bool) (p : PartValue) (wanted len : ℕ) → chosen a b c d e p ≡ Partial wanted → (p ≡ Partial wanted → len < wanted) → len < wanted
unfolding chosen
chosen_lacks true b c d e p wanted len is h = absurd cc
chosen_lacks false true c d e p wanted len is h = absurd cc
chosen_lacks false false true d e p wanted len is h = absurd cc
chosen_lacks false false false true e p wanted len is h = absurd cc
chosen_lacks false false false false true p wanted len is h = absurd cc
chosen_lacks false false false false false p wanted len is h = h is

lacks : (b : List ℕ) (wanted : ℕ) → image_part b ≡ Partial wanted → length b < wanted
unfolding chosen
lacks b wanted e = elim (cases_lt (length b) 4) [
  | inl short ↦ (let is = same_wanted 4 wanted (sym (short_is b short) ∙ e) in omega (arith, is))
  | inr four ↦ chosen_lacks _ _ _ _ _ (sized (little_number 4 b) b) wanted (length b) (sym (part_is b four) ∙ e) (sized_lacks (little_number 4 b) b wanted)
]

-- how many bytes tell an object or an erase gap
abbrev pub Tells : ℕ → PartValue → Type 0
Tells len (Complete x count) = count ≤ len
Tells len Gap = 4 ≤ len
Tells len _ = ⊥

enough : (len wanted : ℕ) (p : PartValue) → len < wanted → HasNoMore wanted p → Tells len p → ⊥
enough len wanted (Complete x count) less h tells = omega arith
enough len wanted Gap less h tells = omega arith
enough len wanted End less h tells = tells
enough len wanted (Invalid fault) less h tells = tells
enough len wanted (Partial w) less h tells = tells

told_by : (b more : List ℕ) (p : PartValue) → image_part b ≡ p → Tells (length b) (image_part (b ++ more)) → image_part (b ++ more) ≡ p
told_by b more (Partial wanted) e tells = absurd (enough (length b) wanted (image_part (b ++ more)) (lacks b wanted e) (wanted_least b more wanted e) tells)
told_by b more (Complete x count) e tells = part_stays b more (subst IsKnown (sym e) tt) ∙ e
told_by b more Gap e tells = part_stays b more (subst IsKnown (sym e) tt) ∙ e
told_by b more End e tells = part_stays b more (subst IsKnown (sym e) tt) ∙ e
told_by b more (Invalid fault) e tells = part_stays b more (subst IsKnown (sym e) tt) ∙ e

-- the bytes of a part tell it
pub told : (k : ℕ) (b : List ℕ) (p : PartValue) → image_part b ≡ p → k ≤ length b → Tells k p → image_part (take k b) ≡ p
told k b p e within tells =
    let all : take k b ++ drop k b ≡ b = take-append-drop k b in
    let size : length (take k b) ≡ k = length-take-le k b within in
    let whole : image_part (take k b ++ drop k b) ≡ p = ap image_part all ∙ e in
    let enough : Tells (length (take k b)) (image_part (take k b ++ drop k b)) =
    subst (λ (n : ℕ). Tells n (image_part (take k b ++ drop k b))) (sym size) (subst (Tells k) (sym whole) tells) in
    sym (told_by (take k b) (drop k b) (image_part (take k b)) refl enough) ∙ whole
