use Rattle.std.proofs.Common.{◌≡◌, ◌≤◌, ℕ, true, List, [], ◌∷◌, Option, Some, refl, ap, ◌∙◌, inl, inr, arith}
use Rattle.std.specs.Prelude.{All}
use Rattle.std.proofs.lemmas.List.Elements.{All-nil, All-cons}
use Rattle.audit_log.specs.declared.record.Record.{Record}
use Rattle.scsi_sense.specs.declared.status.Status.TheVariants.{Good, ReservationConflict}
use Rattle.logical_unit.specs.declared.entry.Entry.{Entry}
use Rattle.settled_numbers.specs.declared.number_range.NumberRange.{NumberRange}
use Rattle.kept_unit.specs.Agreeing.{IsTold, SeatFits, Stands, rises}
use Rattle.kept_unit.specs.AgreementRows.{ready, came_in, trail, asked, moved, listing, behind, handed_up_to}
use Rattle.kept_unit.specs.Listing.{NotesValue, numbers_in}
use Rattle.kept_unit.specs.RangeRows.{six, six_to_seven, seven}
use Rattle.kept_unit.proofs.Spans.{span_length}
use Rattle.kept_unit.proofs.laws.agreement_rows.Goals as goal

-- what each entry tells of drive 1
abbrev Told : (base : ℕ) → List Record → Entry → ℕ × ℕ → Type 0
Told base records e n = n.0 ≡ 1 → Stands 1 base records e n.1

told_asked : IsTold 1 5 trail asked
unfolding IsTold
told_asked = All-cons (Told 5 trail asked) (1, 6) [] (λ e. inr (ready Good, refl, (refl, refl, refl, refl))) (All-nil (Told 5 trail asked))

told_moved : IsTold 1 5 trail moved
unfolding IsTold
told_moved =
    All-cons (Told 5 trail moved) (0, 9) ((1, 7) ∷ []) (λ (e : 0 ≡ 1). absurd (omega arith))
    (All-cons (Told 5 trail moved) (1, 7) [] (λ e. inr (came_in, refl, (refl, refl, refl))) (All-nil (Told 5 trail moved)))

gone_asked : IsTold 1 7 [] asked
unfolding IsTold
gone_asked = All-cons (Told 7 [] asked) (1, 6) [] (λ e. inl (omega arith)) (All-nil (Told 7 [] asked))

gone_moved : IsTold 1 7 [] moved
unfolding IsTold
gone_moved =
    All-cons (Told 7 [] moved) (0, 9) ((1, 7) ∷ []) (λ (e : 0 ≡ 1). absurd (omega arith))
    (All-cons (Told 7 [] moved) (1, 7) [] (λ e. inl (omega arith)) (All-nil (Told 7 [] moved)))

told_moved_later : IsTold 1 6 (came_in ∷ []) moved
unfolding IsTold
told_moved_later =
    All-cons (Told 6 (came_in ∷ []) moved) (0, 9) ((1, 7) ∷ []) (λ (e : 0 ≡ 1). absurd (omega arith))
    (All-cons (Told 6 (came_in ∷ []) moved) (1, 7) [] (λ e. inr (came_in, refl, (refl, refl, refl))) (All-nil (Told 6 (came_in ∷ []) moved)))

abbrev Fitting : (base : ℕ) → List Record → NotesValue → Type 0
Fitting base records n = SeatFits 1 base records n

abbrev EndsBy : (base : ℕ) → NumberRange → Type 0
EndsBy base r = r.last ≤ base

-- a seat of one entry, also behind a settled range, and one without entries
seat : (base : ℕ) (records : List Record) (e : Entry) → IsTold 1 base records e → rises 0 (numbers_in 1 (listing (e ∷ []))) ≡ true → Fitting base records (listing (e ∷ []))
seat base records e told up = record { told = All-cons (IsTold 1 base records) e [] told (All-nil (IsTold 1 base records)); handed_out = All-nil (EndsBy base); rise = up }

seat_behind : (base : ℕ) (records : List Record) (r : NumberRange) (e : Entry) → r.last ≤ base → IsTold 1 base records e → rises 0 (numbers_in 1 (behind r (e ∷ []))) ≡ true → Fitting base records (behind r (e ∷ []))
seat_behind base records r e le told up = record { told = All-cons (IsTold 1 base records) e [] told (All-nil (IsTold 1 base records)); handed_out = All-cons (EndsBy base) r [] le (All-nil (EndsBy base)); rise = up }

seat_settled : (base : ℕ) (records : List Record) (r : NumberRange) → r.last ≤ base → rises 0 (numbers_in 1 (behind r [])) ≡ true → Fitting base records (behind r [])
seat_settled base records r le up = record { told = All-nil (IsTold 1 base records); handed_out = All-cons (EndsBy base) r [] le (All-nil (EndsBy base)); rise = up }

-- one that handed numbers over, with an entry and without
seat_over : (base : ℕ) (records : List Record) (n : ℕ) (e : Entry) → IsTold 1 base records e → rises n (numbers_in 1 (handed_up_to n (e ∷ []))) ≡ true
    → Fitting base records (handed_up_to n (e ∷ []))
seat_over base records n e told up = record {
  told = All-cons (IsTold 1 base records) e [] told (All-nil (IsTold 1 base records));
  handed_out = All-nil (EndsBy base);
  rise = up;
}

seat_all_over : (base : ℕ) (records : List Record) (n : ℕ) → Fitting base records (handed_up_to n [])
seat_all_over base records n = record { told = All-nil (IsTold 1 base records); handed_out = All-nil (EndsBy base); rise = refl }

over : (base : ℕ) (r : NumberRange) → r.last ≤ base → All (EndsBy base) (r ∷ [])
over base r le = All-cons (EndsBy base) r [] le (All-nil (EndsBy base))

one : (base : ℕ) (records : List Record) (m : NotesValue) → Fitting base records m → All (Fitting base records) (m ∷ [])
one base records m first = All-cons (Fitting base records) m [] first (All-nil (Fitting base records))

two : (base : ℕ) (records : List Record) (m n : NotesValue) → Fitting base records m → Fitting base records n → All (Fitting base records) (m ∷ n ∷ [])
two base records m n first second = All-cons (Fitting base records) m (n ∷ []) first (one base records n second)

-- the record of an entry that has another status
not_told : IsTold 1 5 (ready ReservationConflict ∷ came_in ∷ []) asked → ⊥
unfolding IsTold
not_told told = elim (told 0 (1, 6) (omega arith) refl) [
  | inl used ↦ absurd (omega (arith, used))
  | inr stands ↦
      let is : ◌≡◌ {A = Option Record} (Some (ready ReservationConflict)) (Some stands.0) = stands.1 in
      let same : stands.0.status ≡ Good = stands.2.2 in
      let other : ready ReservationConflict ≡ stands.0 = cc in
      let both : ReservationConflict ≡ Good = ap (λ (r : Record). r.status) other ∙ same in
      absurd cc
]

pub returns : goal.returns
returns c = record {
  two_seats = record { once = record { moves = []; below = tt; is = refl }; handed_out = All-nil (EndsBy 5); each = two 5 trail (listing (asked ∷ [])) (listing (moved ∷ [])) (seat 5 trail asked told_asked refl) (seat 5 trail moved told_moved refl) };
  other_order = record { once = record { moves = (0, 1) ∷ []; below = (omega arith, omega arith, tt); is = refl }; handed_out = All-nil (EndsBy 5); each = two 5 trail (listing (moved ∷ [])) (listing (asked ∷ [])) (seat 5 trail moved told_moved refl) (seat 5 trail asked told_asked refl) };
  one_seat = record {
    once = record { moves = []; below = tt; is = refl };
    handed_out = All-nil (EndsBy 5);
    each = one 5 trail (listing (asked ∷ moved ∷ []))
        (record { told = All-cons (IsTold 1 5 trail) asked (moved ∷ []) told_asked (All-cons (IsTold 1 5 trail) moved [] told_moved (All-nil (IsTold 1 5 trail))); handed_out = All-nil (EndsBy 5); rise = refl });
  };
  handed_out = record { once = record { moves = []; below = tt; is = refl }; handed_out = All-nil (EndsBy 7); each = two 7 [] (listing (asked ∷ [])) (listing (moved ∷ [])) (seat 7 [] asked gone_asked refl) (seat 7 [] moved gone_moved refl) };
  settled = record { once = record { moves = []; below = tt; is = refl }; handed_out = All-nil (EndsBy 6); each = one 6 (came_in ∷ []) (behind six (moved ∷ [])) (seat_behind 6 (came_in ∷ []) six moved (omega arith) told_moved_later refl) };
  settled_apart = record {
    once = record { moves = (0, 1) ∷ []; below = (omega arith, omega arith, tt); is = refl };
    handed_out = All-nil (EndsBy 6);
    each = two 6 (came_in ∷ []) (listing (moved ∷ [])) (behind six []) (seat 6 (came_in ∷ []) moved told_moved_later refl) (seat_settled 6 (came_in ∷ []) six (omega arith) refl);
  };
  all_settled = record { once = record { moves = []; below = tt; is = refl }; handed_out = All-nil (EndsBy 7); each = one 7 [] (behind six_to_seven []) (seat_settled 7 [] six_to_seven (omega arith) refl) };
  handed_over = record {
    once = record { moves = (0, 1) ∷ []; below = (omega arith, omega arith, tt); is = refl };
    handed_out = over 6 six (omega arith);
    each = one 6 (came_in ∷ []) (handed_up_to 6 (moved ∷ [])) (seat_over 6 (came_in ∷ []) 6 moved told_moved_later refl);
  };
  handed_over_apart = record {
    once = record { moves = (0, 1) ∷ []; below = (omega arith, omega arith, tt); is = refl };
    handed_out = over 6 six (omega arith);
    each = two 6 (came_in ∷ []) (listing (moved ∷ [])) (handed_up_to 6 []) (seat 6 (came_in ∷ []) moved told_moved_later refl) (seat_all_over 6 (came_in ∷ []) 6);
  };
  all_handed_over = record {
    once = record { moves = []; below = tt; is = refl };
    handed_out = over 7 six_to_seven (omega arith);
    each = one 7 [] (handed_up_to 7 []) (seat_all_over 7 [] 7);
  };
  falling = λ a. (let up = (a.each 0 (listing (moved ∷ asked ∷ [])) (omega arith)).rise in absurd cc);
  falling_below = λ a. (let up = (a.each 0 (behind seven (asked ∷ [])) (omega arith)).rise in absurd cc);
  untold = λ a. (let length : 1 ≡ 2 = span_length 5 2 (6 ∷ []) a.once in omega arith);
  gap = λ a. (let length : 1 ≡ 2 = span_length 5 2 (7 ∷ []) a.once in omega arith);
  told_twice = λ a. (let length : 3 ≡ 2 = span_length 5 2 (6 ∷ 6 ∷ 7 ∷ []) a.once in omega arith);
  settled_twice = λ a. (let length : 3 ≡ 2 = span_length 5 2 (6 ∷ 6 ∷ 7 ∷ []) a.once in omega arith);
  handed_over_twice = λ a. (let length : 3 ≡ 2 = span_length 5 2 (6 ∷ 6 ∷ 7 ∷ []) a.once in omega arith);
  falling_below_handed_over = λ a. (let up = (a.each 0 (handed_up_to 7 (asked ∷ [])) (omega arith)).rise in absurd cc);
  handed_over_early = λ a. (let late : 6 ≤ 5 = a.handed_out 0 six (omega arith) in omega arith);
  not_handed_out = λ a. (let late : 6 ≤ 5 = (a.each 0 (behind six (moved ∷ [])) (omega arith)).handed_out 0 six (omega arith) in omega arith);
  other_status = λ a. not_told ((a.each 0 (listing (asked ∷ [])) (omega arith)).told 0 asked (omega arith));
}
