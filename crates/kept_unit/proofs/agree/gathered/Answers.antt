use Rattle.std.proofs.Common.{◌≡◌, ℕ, ◌+◌, ◌<◌, List, [], ◌∷◌, ◌++◌, length, take, get_or, All, sym, ap, ◌∙◌, subst, arith, add-one, append-nil, append_assoc}
use Rattle.std.proofs.lemmas.Grind.{flat_map-append, common_steps}
use Rattle.std.proofs.lemmas.List.Elements.{All-append, All-cons, All-nil}
use Rattle.std.proofs.Math.Seq.{take-suc}
use Rattle.audit_log.specs.declared.record.Record.{Record}
use Rattle.settled_numbers.specs.declared.number_range.NumberRange.{NumberRange}
use Rattle.kept_unit.specs.Agreeing.{numbers_of, SeatFits}
use Rattle.kept_unit.specs.Listing.{NotesValue, numbers_in, listed_at}
use Rattle.kept_unit.specs.Ranges.{numbers_between, numbers_in_ranges}
use Rattle.kept_unit.specs.SeatNotes.{notes_value}
use Rattle.kept_unit.proofs.agree.gathered.Goals as goal

numbers_one : {S : Type 0} (of : S → NotesValue) (lun : ℕ) (xs : List S) (s : S) → numbers_of of lun (xs ++ s ∷ []) ≡ numbers_of of lun xs ++ numbers_in lun (of s)
numbers_one of lun xs s = flat_map-append (λ s. numbers_in lun (of s)) xs (s ∷ []) ∙ ap (λ ys. numbers_of of lun xs ++ ys) (append-nil (numbers_in lun (of s)))

take_more : {X : Type 0} (xs : List X) (i : ℕ) (x : X) → i < length xs → x ≡ get_or xs i x → take (i + 1) xs ≡ take i xs ++ x ∷ []
take_more xs i x lt is = rw add-one (take-suc xs i x lt ∙ ap (λ y. take i xs ++ y ∷ []) (sym is))

ranges_three : (xs ys zs : List NumberRange) → numbers_in_ranges (xs ++ ys ++ zs) ≡ numbers_in_ranges xs ++ (numbers_in_ranges ys ++ numbers_in_ranges zs)
ranges_three xs ys zs = flat_map-append numbers_between (xs ++ ys) zs ∙ ap (λ l. l ++ numbers_in_ranges zs) (flat_map-append numbers_between xs ys) ∙ append_assoc (numbers_in_ranges xs) (numbers_in_ranges ys) (numbers_in_ranges zs)

one_more : {S : Type 0} (of : S → NotesValue) (lun base : ℕ) (records : List Record) (seats : List S) (i : ℕ) (s : S) (items now own : List NumberRange) → i < length seats → s ≡ get_or seats i s
    → numbers_in_ranges items ≡ numbers_of of lun (take i seats) → All (λ t. SeatFits lun base records (of t)) (take i seats)
    → SeatFits lun base records (of s) → numbers_in_ranges own ≡ listed_at lun (of s).listed → now ≡ items ++ (of s).settled ++ own
    → (numbers_in_ranges now ≡ numbers_of of lun (take (i + 1) seats)) × All (λ t. SeatFits lun base records (of t)) (take (i + 1) seats)
one_more {S} of lun base records seats i s items now own lt is before fit fits told more =
    let taken : take (i + 1) seats ≡ take i seats ++ s ∷ [] = take_more seats i s lt is in
    let P : S → Type 0 = λ t. SeatFits lun base records (of t) in (
      ap numbers_in_ranges more
          ∙ ranges_three items (of s).settled own
          ∙ ap (λ l. l ++ (numbers_in_ranges (of s).settled ++ numbers_in_ranges own)) before
          ∙ ap (λ l. numbers_of of lun (take i seats) ++ (numbers_in_ranges (of s).settled ++ l)) told
          ∙ sym (numbers_one of lun (take i seats) s)
          ∙ ap (numbers_of of lun) (sym taken),
      subst (λ (l : List S). All P l) (sym taken) (All-append P (take i seats) (s ∷ []) fit (All-cons P s [] fits (All-nil P))),
    )

pub loop-seat-preserved : goal.loop-seat-preserved
loop-seat-preserved c =
    let got = rw c.in-Some.is at c.in_ok-fitting_ranges.ensures in
    one_more notes_value c.args.lun c.args.base c.args.records.now c.args.seats.now c.loop-seat.seat-index c.seat-item.result c.loop-seat.all.items c.add_noted.new.all.items c.in-Some.listed.items (omega arith) c.seat-item.is c.loop-seat.invariant.0 c.loop-seat.invariant.1 got.0 got.1 (c.in_ok-add_noted-in-Some.ensures ∙ ap (λ (l : List NumberRange). c.loop-seat.all.items ++ c.seat-item.result.settled.now ++ l) c.as_slice.ensures.value)

pub returns : goal.returns
returns c = grind (arith, common_steps)
