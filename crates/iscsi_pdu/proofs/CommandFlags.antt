-- Byte 1 of a SCSI Command: F, R, W and the task attribute are read again.
use Rattle.std.proofs.Common.{◌≡◌, ℕ, ◌+◌, ◌/◌, ◌%◌, ◌≤◌, ◌==◌, Bool, true, false, refl, ap, ◌∙◌, arith}
use Rattle.iscsi_pdu.specs.Fields.{at}
use Rattle.iscsi_pdu.specs.Codes.{task_attribute_code, task_attribute_of}
use Rattle.iscsi_pdu.specs.declared.task_attribute.TaskAttribute.{TaskAttribute}
use Rattle.iscsi_pdu.specs.declared.task_attribute.TaskAttribute.TheVariants as attribute

code_again : (a : TaskAttribute) → task_attribute_of (task_attribute_code a) ≡ a
code_again attribute.Untagged = refl
code_again attribute.Simple = refl
code_again attribute.Ordered = refl
code_again attribute.HeadOfQueue = refl
code_again attribute.Aca = refl
code_again attribute.Reserved = refl

small : (a : TaskAttribute) → task_attribute_code a ≤ 7
small attribute.Untagged = omega arith
small attribute.Simple = omega arith
small attribute.Ordered = omega arith
small attribute.HeadOfQueue = omega arith
small attribute.Aca = omega arith
small attribute.Reserved = omega arith

abbrev flags : (f r w : Bool) → (x : ℕ) → ℕ
flags f r w x = at 7 f + at 6 r + at 5 w + x

seven : (f r w : Bool) (x : ℕ) → x ≤ 7 → (flags f r w x / 128 % 2 == 1) ≡ f
seven true true true x h = let e : flags true true true x / 128 % 2 ≡ 1 = omega arith in ap (λ (n : ℕ). n == 1) e
seven true true false x h = let e : flags true true false x / 128 % 2 ≡ 1 = omega arith in ap (λ (n : ℕ). n == 1) e
seven true false true x h = let e : flags true false true x / 128 % 2 ≡ 1 = omega arith in ap (λ (n : ℕ). n == 1) e
seven true false false x h = let e : flags true false false x / 128 % 2 ≡ 1 = omega arith in ap (λ (n : ℕ). n == 1) e
seven false true true x h = let e : flags false true true x / 128 % 2 ≡ 0 = omega arith in ap (λ (n : ℕ). n == 1) e
seven false true false x h = let e : flags false true false x / 128 % 2 ≡ 0 = omega arith in ap (λ (n : ℕ). n == 1) e
seven false false true x h = let e : flags false false true x / 128 % 2 ≡ 0 = omega arith in ap (λ (n : ℕ). n == 1) e
seven false false false x h = let e : flags false false false x / 128 % 2 ≡ 0 = omega arith in ap (λ (n : ℕ). n == 1) e

six : (f r w : Bool) (x : ℕ) → x ≤ 7 → (flags f r w x / 64 % 2 == 1) ≡ r
six true true true x h = let e : flags true true true x / 64 % 2 ≡ 1 = omega arith in ap (λ (n : ℕ). n == 1) e
six true true false x h = let e : flags true true false x / 64 % 2 ≡ 1 = omega arith in ap (λ (n : ℕ). n == 1) e
six true false true x h = let e : flags true false true x / 64 % 2 ≡ 0 = omega arith in ap (λ (n : ℕ). n == 1) e
six true false false x h = let e : flags true false false x / 64 % 2 ≡ 0 = omega arith in ap (λ (n : ℕ). n == 1) e
six false true true x h = let e : flags false true true x / 64 % 2 ≡ 1 = omega arith in ap (λ (n : ℕ). n == 1) e
six false true false x h = let e : flags false true false x / 64 % 2 ≡ 1 = omega arith in ap (λ (n : ℕ). n == 1) e
six false false true x h = let e : flags false false true x / 64 % 2 ≡ 0 = omega arith in ap (λ (n : ℕ). n == 1) e
six false false false x h = let e : flags false false false x / 64 % 2 ≡ 0 = omega arith in ap (λ (n : ℕ). n == 1) e

five : (f r w : Bool) (x : ℕ) → x ≤ 7 → (flags f r w x / 32 % 2 == 1) ≡ w
five true true true x h = let e : flags true true true x / 32 % 2 ≡ 1 = omega arith in ap (λ (n : ℕ). n == 1) e
five true true false x h = let e : flags true true false x / 32 % 2 ≡ 0 = omega arith in ap (λ (n : ℕ). n == 1) e
five true false true x h = let e : flags true false true x / 32 % 2 ≡ 1 = omega arith in ap (λ (n : ℕ). n == 1) e
five true false false x h = let e : flags true false false x / 32 % 2 ≡ 0 = omega arith in ap (λ (n : ℕ). n == 1) e
five false true true x h = let e : flags false true true x / 32 % 2 ≡ 1 = omega arith in ap (λ (n : ℕ). n == 1) e
five false true false x h = let e : flags false true false x / 32 % 2 ≡ 0 = omega arith in ap (λ (n : ℕ). n == 1) e
five false false true x h = let e : flags false false true x / 32 % 2 ≡ 1 = omega arith in ap (λ (n : ℕ). n == 1) e
five false false false x h = let e : flags false false false x / 32 % 2 ≡ 0 = omega arith in ap (λ (n : ℕ). n == 1) e

low : (f r w : Bool) (x : ℕ) → x ≤ 7 → flags f r w x / 1 % 8 ≡ x
low true true true x h = omega arith
low true true false x h = omega arith
low true false true x h = omega arith
low true false false x h = omega arith
low false true true x h = omega arith
low false true false x h = omega arith
low false false true x h = omega arith
low false false false x h = omega arith

pub final_again : (f r w : Bool) (a : TaskAttribute) → (flags f r w (task_attribute_code a) / 128 % 2 == 1) ≡ f
final_again f r w a = seven f r w (task_attribute_code a) (small a)

pub read_again : (f r w : Bool) (a : TaskAttribute) → (flags f r w (task_attribute_code a) / 64 % 2 == 1) ≡ r
read_again f r w a = six f r w (task_attribute_code a) (small a)

pub write_again : (f r w : Bool) (a : TaskAttribute) → (flags f r w (task_attribute_code a) / 32 % 2 == 1) ≡ w
write_again f r w a = five f r w (task_attribute_code a) (small a)

pub attribute_again : (f r w : Bool) (a : TaskAttribute) → task_attribute_of (flags f r w (task_attribute_code a) / 1 % 8) ≡ a
attribute_again f r w a = ap (λ (k : ℕ). task_attribute_of k) (low f r w (task_attribute_code a) (small a)) ∙ code_again a

-- byte 0
pub immediate_again : (i : Bool) → ((at 6 i + 1) / 64 % 2 == 1) ≡ i
immediate_again true = refl
immediate_again false = refl
