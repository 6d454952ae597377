-- What more than a part of a reply shows stays, whatever follows.
use Rattle.std.proofs.Common.{◌≡◌, ℕ, ◌+◌, ◌-◌, ◌≤◌, ◌<◌, Bool, true, false, cond, ltb, leb, eqb, inl, inr, List, [], ◌∷◌, ◌++◌, length, take, drop, Option, None, Some, Result, Ok, Err, refl, sym, ap, ◌∙◌, length-append, arith}
use Rattle.std.proofs.lemmas.List.{take-append-le, drop-append-le}
use Rattle.std.proofs.lemmas.Bool.{le-ltb, lt-ltb, leb-true, cases_lt}
use Rattle.scsi_cdb.specs.declared.profile.Profile.{Profile}
use Rattle.byteorder.specs.Endian.{big_number}
use Rattle.byteorder.specs.Numbers.{big_from-append}
use Rattle.scsi_sense.specs.declared.fault.SenseFault.{SenseFault}
use Rattle.scsi_sense.specs.declared.sense.Sense.{Sense}
use Rattle.scsi_sense.specs.declared.status.Status.{Status}
use Rattle.scsi_sense.specs.FixedSense.{decoded_sense}
use Rattle.frames.specs.Limits.{reply_limit}
use Rattle.frames.specs.ParsedReplies.{ParsedReplyValue, Partial, coded_status, parsed_login_reply, parsed_reset_reply, parsed_numbered, parsed_with_sense, parsed_sense, parsed_counted, parsed_status, parsed_command_reply, parsed_reply_body, parsed_sized_reply, parsed_reply}
use Rattle.frames.proofs.Streams.{cut_stays}
use Rattle.frames.proofs.WrittenReplies.{parsed_reply_is}

-- two ways through the same test
either : (b : Bool) (x x' y y' : ParsedReplyValue) → (b ≡ true → (x ≡ Partial → ⊥) → x' ≡ x) → (b ≡ false → (y ≡ Partial → ⊥) → y' ≡ y)
    → (cond b x y ≡ Partial → ⊥) → cond b x' y' ≡ cond b x y
either true x x' y y' h i known = h refl known
either false x x' y y' h i known = i refl known

numbered_stays : (status : Status) (sense : Option Sense) (before size : ℕ) (left more : List ℕ) → 8 ≤ size
    → (parsed_numbered status sense before size left ≡ Partial → ⊥) → parsed_numbered status sense before size (left ++ more) ≡
    parsed_numbered status sense before size left
numbered_stays status sense before size left more least known =
    elim (cases_lt (length left) size) [
      | inl short ↦ (let here : ltb (length left) size ≡ true = lt-ltb _ _ short in absurd (known (rw here refl)))
      | inr long ↦ (
          let here : ltb (length left) size ≡ false = le-ltb _ _ long in
          let there : ltb (length (left ++ more)) size ≡ false = le-ltb _ _ (omega (arith, length-append left more)) in
          let eight : 8 ≤ length left = omega arith in
          let within : 8 + (size - 8) ≤ length left = omega arith in
          rw (here, there, big_from-append 8 left more eight, cut_stays 8 (size - 8) left more within) refl)
    ]

with_sense_stays : (status : Status) (size : ℕ) (left more : List ℕ) (r : Result Sense SenseFault) → 29 ≤ size → 18 ≤ length left
    → (parsed_with_sense status size left r ≡ Partial → ⊥) → parsed_with_sense status size (left ++ more) r ≡ parsed_with_sense status size
    left r
with_sense_stays status size left more (Err fault) least long known = refl
with_sense_stays status size left more (Ok sense) least long known =
    ap (λ (xs : List ℕ). parsed_numbered status (Some sense) 25 (size - 21) xs) (drop-append-le 18 left more long)
    ∙ numbered_stays status (Some sense) 25 (size - 21) (drop 18 left) more (omega arith) known

sense_there : (status : Status) (size : ℕ) (left : List ℕ) → 29 ≤ size → 18 ≤ length left
    → parsed_sense status size left ≡ parsed_with_sense status size left (decoded_sense (take 18 left))
sense_there status size left least long =
    let enough : ltb size 29 ≡ false = le-ltb _ _ least in
    let there : ltb (length left) 18 ≡ false = le-ltb _ _ long in
    rw (enough, there) refl

sense_long : (status : Status) (size : ℕ) (left more : List ℕ) → 29 ≤ size → 18 ≤ length left
    → (parsed_sense status size left ≡ Partial → ⊥) → parsed_sense status size (left ++ more) ≡ parsed_sense status size left
sense_long status size left more least long known =
    sense_there status size (left ++ more) least (omega (arith, length-append left more))
    ∙ ap (λ (xs : List ℕ). parsed_with_sense status size (left ++ more) (decoded_sense xs)) (take-append-le 18 left more long)
    ∙ with_sense_stays status size left more (decoded_sense (take 18 left)) least long
    (λ e. known (sense_there status size left least long ∙ e))
    ∙ sym (sense_there status size left least long)

sense_stays : (status : Status) (size : ℕ) (left more : List ℕ) → (parsed_sense status size left ≡ Partial → ⊥) → parsed_sense status size
    (left ++ more) ≡ parsed_sense status size left
sense_stays status size left more known =
    elim (cases_lt size 29) [
      | inl few ↦ (let here : ltb size 29 ≡ true = lt-ltb _ _ few in rw here refl)
      | inr least ↦ elim (cases_lt (length left) 18) [
        | inl short ↦ (
            let enough : ltb size 29 ≡ false = le-ltb _ _ least in
            let here : ltb (length left) 18 ≡ true = lt-ltb _ _ short in
            absurd (known (rw (enough, here) refl)))
        | inr long ↦ sense_long status size left more least long known
      ]
    ]

counted_stays : (status : Status) (size : ℕ) (fields more : List ℕ) → 11 ≤ size → (parsed_counted status size fields ≡ Partial → ⊥)
    → parsed_counted status size (fields ++ more) ≡ parsed_counted status size fields
counted_stays status size [] more least known = absurd (known refl)
counted_stays status size (count ∷ left) more least known =
    either (eqb count 0) _ _ _ _ (λ zero. numbered_stays status None 7 (size - 3) left more (omega arith))
    (λ some. either (eqb count 0x12) _ _ _ _ (λ eighteen. sense_stays status size left more) (λ other here. refl)) known

status_stays : (o : Option Status) (size : ℕ) (fields more : List ℕ) → 11 ≤ size → (parsed_status o size fields ≡ Partial → ⊥)
    → parsed_status o size (fields ++ more) ≡ parsed_status o size fields
status_stays None size fields more least known = refl
status_stays (Some status) size fields more least known = counted_stays status size fields more least known

command_reply_stays : (size : ℕ) (fields more : List ℕ) → 11 ≤ size → (parsed_command_reply size fields ≡ Partial → ⊥)
    → parsed_command_reply size (fields ++ more) ≡ parsed_command_reply size fields
command_reply_stays size [] more least known = absurd (known refl)
command_reply_stays size (code ∷ fields) more least known = status_stays (coded_status code) size fields more least known

login_reply_stays : (fields more : List ℕ) → (parsed_login_reply fields ≡ Partial → ⊥) → parsed_login_reply (fields ++ more) ≡
    parsed_login_reply fields
login_reply_stays [] more known = absurd (known refl)
login_reply_stays (code ∷ fields) more known = refl

reset_reply_stays : (fields more : List ℕ) → (parsed_reset_reply fields ≡ Partial → ⊥) → parsed_reset_reply (fields ++ more) ≡
    parsed_reset_reply fields
reset_reply_stays [] more known = absurd (known refl)
reset_reply_stays (code ∷ fields) more known = refl

reply_body_stays : (size : ℕ) (body more : List ℕ) → (parsed_reply_body size body ≡ Partial → ⊥) → parsed_reply_body size (body ++ more) ≡
    parsed_reply_body size body
unfolding parsed_reply_body
reply_body_stays size [] more known = absurd (known refl)
reply_body_stays size (kind ∷ fields) more known =
    either (eqb kind 0x81) _ _ _ _ (λ is. either (eqb size 2) _ _ _ _ (λ two. login_reply_stays fields more) (λ other here. refl))
    (λ is. either (eqb kind 0x82) _ _ _ _ (λ is. either (leb 11 size) _ _ _ _ (λ least. command_reply_stays size fields more
    (leb-true _ _ least)) (λ other here. refl))
    (λ is. either (eqb kind 0x83) _ _ _ _ (λ is. either (eqb size 2) _ _ _ _ (λ two. reset_reply_stays fields more) (λ other here. refl))
    (λ is here. refl)))
    known

sized_reply_stays : (pr : Profile) (size : ℕ) (body more : List ℕ) → (parsed_sized_reply pr size body ≡ Partial → ⊥) → parsed_sized_reply pr size (body ++ more)
    ≡ parsed_sized_reply pr size body
sized_reply_stays pr size body more known =
    either (eqb size 0) _ _ _ _ (λ none here. refl) (λ some. either (ltb (reply_limit pr) size) _ _ _ _ (λ long here. refl)
    (λ fits. reply_body_stays size body more)) known

short_is_partial : (pr : Profile) (b : List ℕ) → length b < 4 → parsed_reply pr b ≡ Partial
unfolding parsed_reply
short_is_partial pr b short = let here : ltb (length b) 4 ≡ true = lt-ltb _ _ short in rw here refl

pub reply_stays : (pr : Profile) (b more : List ℕ) → (parsed_reply pr b ≡ Partial → ⊥) → parsed_reply pr (b ++ more) ≡ parsed_reply pr b
reply_stays pr b more known =
    elim (cases_lt (length b) 4) [
      | inl short ↦ absurd (known (short_is_partial pr b short))
      | inr four ↦ (
          parsed_reply_is pr (b ++ more) (omega (arith, length-append b more))
          ∙ ap (λ (n : ℕ). parsed_sized_reply pr n (drop 4 (b ++ more))) (big_from-append 4 b more four)
          ∙ ap (λ (xs : List ℕ). parsed_sized_reply pr (big_number 4 b) xs) (drop-append-le 4 b more four)
          ∙ sized_reply_stays pr (big_number 4 b) (drop 4 b) more (λ e. known (parsed_reply_is pr b four ∙ e))
          ∙ sym (parsed_reply_is pr b four))
    ]
