use Rattle.std.proofs.Common.{◌≡◌, rules, Bool, true, false, sym, ◌∙◌, Result, Ok, Err, Option, Some, None}
use Rattle.std.specs.Prelude.{IfOk, MatchOption}
use Rattle.std.specs.Global.{Vec}
use Rattle.settled_numbers.specs.declared.number_range.NumberRange.{NumberRange}
use Rattle.kept_unit.specs.Ranges.{numbers_in_ranges}
use Rattle.kept_unit.specs.Agreeing.{rises, SeatFits}
use Rattle.kept_unit.specs.Listing.{listed_at, numbers_in}
use Rattle.kept_unit.specs.SeatNotes.{notes_value}
use Rattle.kept_unit.proofs.Rises.{settled_falls, settled_rises}
use Rattle.kept_unit.proofs.agree.fitting_ranges.Goals as goal

clash : (b : Bool) → b ≡ true → b ≡ false → ⊥
clash b up down = cc

-- the same of what was found
found_as : {A E : Type 0} (r : Result (Option A) E) (P P' : Type 0) (Q Q' : A → Type 0) → (P → P') → ((x : A) → Q x → Q' x) → IfOk r (λ o. MatchOption o P Q) → IfOk r (λ o. MatchOption o P' Q')
found_as (Ok None) P P' Q Q' f g h = f h
found_as (Ok (Some x)) P P' Q Q' f g h = g x h
found_as (Err e) P P' Q Q' f g h = tt

pub returns-in-None : goal.returns-in-None
returns-in-None c = λ (fits : SeatFits c.args.lun c.args.base c.args.records.now (notes_value c.args.seat.now)).
    clash (rises c.args.seat.now.handed_over (numbers_in c.args.lun (notes_value c.args.seat.now))) fits.rise
    (settled_falls c.args.seat.now.settled.now c.args.seat.now.handed_over (listed_at c.args.lun c.args.seat.now.listed.now) (sym c.in-None.ensures))

pub returns-in-Some : goal.returns-in-Some
returns-in-Some c =
    let ns = listed_at c.args.lun c.args.seat.now.listed.now in
    let noted = notes_value c.args.seat.now in
    let fitting = SeatFits c.args.lun c.args.base c.args.records.now noted in
    let on = settled_rises c.args.seat.now.settled.now c.args.seat.now.handed_over c.in-Some.low ns (sym c.in-Some.ensures) in
    found_as c.rising_ranges.result (rises c.in-Some.low ns ≡ false) (¬ fitting) (λ (own : Vec NumberRange). (rises c.in-Some.low ns ≡ true) × (numbers_in_ranges own.items ≡ ns)) (λ (own : Vec NumberRange). fitting × (numbers_in_ranges own.items ≡ ns))
    (λ down (fits : SeatFits c.args.lun c.args.base c.args.records.now (notes_value c.args.seat.now)). clash (rises c.args.seat.now.handed_over (numbers_in c.args.lun noted)) fits.rise (on ∙ down))
    (λ own h. (record { told = search rules; handed_out = search rules; rise = on ∙ h.0 }, h.1))
    c.rising_ranges.ensures
