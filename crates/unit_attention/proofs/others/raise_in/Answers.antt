use Rattle.std.proofs.Common.{sym, ◌∙◌, arith}
use Rattle.unit_attention.proofs.WalkLemmas.{past_slot, past_entry, absent_between, told_past, told_end, told_both, told_excepted}
use Rattle.unit_attention.proofs.others.raise_in.Goals as goal
use Rattle.unit_attention.proofs.others.raise_in.Goals.{then-not-is_excepted, else-not-is_excepted}

pub walk-preserved-in-Less : goal.walk-preserved-in-Less
walk-preserved-in-Less g c =
    let before = c.walk.invariant in
    record {
      told = before.told;
      sorted = before.sorted;
      past = past_slot c.args.entries.now c.walk.at c.walk.slots c.walk.place c.index-entries-at.result c.index-slots-place.result c.requires.entries before.sorted (omega arith) (omega arith) (sym c.in-Less.ensures);
    }

pub walk-preserved-in-Equal : goal.walk-preserved-in-Equal
walk-preserved-in-Equal g c =
    let before = c.walk.invariant in
    elim c.if-not-is_excepted.branch [
      | then-not-is_excepted w ↦
          let after = told_both c.args.sender c.args.named.now c.args.kind c.walk.slots c.if-not-is_excepted.slots c.args.entries.now c.walk.at c.walk.place c.index-entries-at.result w.index-slots-place-then-not-is_excepted.result c.index-slots-place.result w.raise.new.self c.requires.entries before.sorted (omega arith) (omega arith) (sym c.in-Equal.ensures) (sym c.is_excepted.ensures ∙ w.if-not-is_excepted.true) w.raise.ensures w.slots-is in
          record { told = after.0 ∙ before.told; sorted = after.1; past = after.2 }
      | else-not-is_excepted w ↦
          let after = told_excepted c.args.sender c.args.named.now c.args.kind c.walk.slots c.if-not-is_excepted.slots c.args.entries.now c.walk.at c.walk.place c.index-entries-at.result c.index-slots-place.result c.requires.entries before.sorted (omega arith) (omega arith) (sym c.in-Equal.ensures) (sym c.is_excepted.ensures ∙ w.if-not-is_excepted.false) w.slots-is in
          record { told = after.0 ∙ before.told; sorted = after.1; past = after.2 }
    ]

pub walk-preserved : goal.walk-preserved
walk-preserved g c =
    let before = c.walk.invariant in
    let absent = absent_between c.args.entries.now c.walk.at c.walk.slots c.walk.place c.index-entries-at.result c.index-slots-place.result before.sorted (omega arith) (omega arith) before.past (sym c.in-Greater.ensures) in
    record {
      told = told_past c.args.sender c.args.named.now c.args.kind c.walk.slots c.args.entries.now c.walk.at c.index-entries-at.result (omega arith) absent ∙ before.told;
      sorted = before.sorted;
      past = past_entry c.args.entries.now c.walk.at c.walk.slots c.walk.place before.past;
    }

pub returns-else-place-slots : goal.returns-else-place-slots
returns-else-place-slots g c =
    sym (told_end c.args.sender c.args.named.now c.args.kind c.walk.slots c.args.entries.now c.walk.at c.walk.place (omega arith) c.walk.invariant.past) ∙ c.walk.invariant.told
