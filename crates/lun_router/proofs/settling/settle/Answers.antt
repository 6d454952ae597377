use Rattle.std.proofs.Common.{◌≡◌, ◌≤◌, ◌++◌, ℕ, length, drop, sym, ap, ◌∙◌, subst}
use Rattle.std.proofs.lemmas.List.Sums.{prefix_len-le-length}
use Rattle.kept_unit.specs.Listing.{listed_at}
use Rattle.kept_unit.specs.Ranges.{numbers_in_ranges}
use Rattle.lun_router.specs.Seats.{SettledRanges, is_drained, drained_count}
use Rattle.lun_router.proofs.Settled.{moved}
use Rattle.lun_router.proofs.settling.settle.Goals as goal

pub oldest-requires : goal.oldest-requires
oldest-requires c =
    let es = c.args.entries.now.entries in
    subst (λ (k : ℕ). k ≤ length es) (sym (c.drained_count-count.ensures ∙ ap (drained_count c.args.drained.now) c.as_slice.ensures)) (prefix_len-le-length (is_drained c.args.drained.now) es)

pub returns-clause-ok : goal.returns-clause-ok
returns-clause-ok c =
    let n = c.drained_count-count.result in
    let es = c.args.entries.now.entries in
    let es' = c.remove_oldest.new.self.entries in
    let more = c.in_ok-more.more in
    let left : es' ≡ drop n es = c.remove_oldest.ensures in
    let same = c.make_room_for.ensures.same in
    record {
      listed = left ∙ ap (λ (k : ℕ). drop k es) (c.drained_count-count.ensures ∙ ap (drained_count c.args.drained.now) c.as_slice.ensures);
      zero = moved 0 n es es' c.args.settled.now.zero.items more.zero.items c.add_all.new.ranges.zero.items left (c.in_ok-more.ensures.zero ∙ ap (listed_at 0) c.oldest.ensures)
          (c.add_all.ensures.zero ∙ ap (λ (r : SettledRanges). numbers_in_ranges r.zero ++ numbers_in_ranges more.zero.items) same);
      one = moved 1 n es es' c.args.settled.now.one.items more.one.items c.add_all.new.ranges.one.items left (c.in_ok-more.ensures.one ∙ ap (listed_at 1) c.oldest.ensures)
          (c.add_all.ensures.one ∙ ap (λ (r : SettledRanges). numbers_in_ranges r.one ++ numbers_in_ranges more.one.items) same);
      two = moved 2 n es es' c.args.settled.now.two.items more.two.items c.add_all.new.ranges.two.items left (c.in_ok-more.ensures.two ∙ ap (listed_at 2) c.oldest.ensures)
          (c.add_all.ensures.two ∙ ap (λ (r : SettledRanges). numbers_in_ranges r.two ++ numbers_in_ranges more.two.items) same);
      three = moved 3 n es es' c.args.settled.now.three.items more.three.items c.add_all.new.ranges.three.items left (c.in_ok-more.ensures.three ∙ ap (listed_at 3) c.oldest.ensures)
          (c.add_all.ensures.three ∙ ap (λ (r : SettledRanges). numbers_in_ranges r.three ++ numbers_in_ranges more.three.items) same);
      four = moved 4 n es es' c.args.settled.now.four.items more.four.items c.add_all.new.ranges.four.items left (c.in_ok-more.ensures.four ∙ ap (listed_at 4) c.oldest.ensures)
          (c.add_all.ensures.four ∙ ap (λ (r : SettledRanges). numbers_in_ranges r.four ++ numbers_in_ranges more.four.items) same);
    }
