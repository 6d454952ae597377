use Rattle.std.proofs.Common.{◌≡◌, ◌+◌, ◌++◌, List, ℕ, length, sym, ap, ◌∙◌, rules}
use Rattle.std.proofs.lemmas.Grind.{flat_map-append}
use Rattle.std.proofs.lemmas.List.Sorted.{IsNonDecreasingBy-from_sort_by_key}
use Rattle.settled_numbers.specs.declared.number_range.NumberRange.{NumberRange}
use Rattle.kept_unit.specs.Agreeing.{Agrees, numbers_of}
use Rattle.kept_unit.specs.Ranges.{follows, numbers_between, numbers_in_ranges}
use Rattle.kept_unit.specs.SeatNotes.{notes_value}
use Rattle.kept_unit.proofs.Spans.{to_span, from_span}
use Rattle.kept_unit.proofs.agree.agree.Goals as goal

-- the numbers of the seats, and those that were handed over
both : (all handed more : List NumberRange) (ns : List ℕ) → more ≡ all ++ handed → numbers_in_ranges all ≡ ns → numbers_in_ranges more ≡ ns ++ numbers_in_ranges handed
both all handed more ns grown is =
    ap numbers_in_ranges grown ∙ flat_map-append numbers_between all handed ∙ ap (λ (l : List ℕ). l ++ numbers_in_ranges handed) is

pub returns : goal.returns
returns c =
    let got = rw c.in-Some.is at c.in_ok-all.ensures in
    let last = c.args.base + length c.args.records.now in
    let handed = c.args.handed_over.now in
    let numbers = numbers_of notes_value c.args.lun c.args.seats.now ++ numbers_in_ranges handed in
    let all = c.extend_from_slice.new.self.items in
    let listed = both c.in-Some.all.items handed all (numbers_of notes_value c.args.lun c.args.seats.now) c.in_ok-extend_from_slice.ensures.items got.1 in
    let sorted = c.sort_by_key.new.self.items in
    let is : c.follows.result ≡ follows c.args.first last sorted = c.follows.ensures ∙ ap (follows c.args.first last)
    c.as_slice.ensures.value in (
      λ yes. record {
        once = to_span c.args.first last numbers all sorted listed c.in_ok-sort_by_key.ensures.permutation (sym is ∙ yes);
        handed_out = search rules;
        each = got.0;
      },
      λ (a : Agrees notes_value c.args.lun c.args.first c.args.base c.args.records.now handed c.args.seats.now).
          is ∙ from_span c.args.first last numbers all sorted c.requires.first listed c.in_ok-sort_by_key.ensures.permutation
          (IsNonDecreasingBy-from_sort_by_key (λ (r : NumberRange). r.first) _ c.in_ok-sort_by_key.ensures.sorted (λ a r q k. search rules))
          a.once,
    )
