-- The numbers of a move, by unit: of several units, of which each has so many records more.
use Rattle.std.proofs.Common.{◌≡◌, ◌≢◌, ℕ, ◌+◌, ◌<◌, List, ◌++◌, ap, ◌∙◌, arith}
use Rattle.logical_unit.specs.Move.{numbers_of}
use Rattle.logical_unit.specs.UnitView.{UnitView, last_number}
use Rattle.logical_unit.specs.Answers.{count_at}
use Rattle.logical_unit.proofs.Recorded.{SomeMore}
use Rattle.kept_unit.proofs.Counting.{count_own, count_other, count_both}

pub record OneCounts (c d v e : UnitView) (lun : ℕ) (items : List (ℕ × ℕ)) : Type 0 where
  pub changer : last_number v ≡ last_number c + count_at 0 items
  pub drive : last_number e ≡ last_number d + count_at lun items
  pub only : (k : ℕ) → k ≢ 0 → k ≢ lun → count_at k items ≡ 0

pub one_counts : (c d v e : UnitView) (lun : ℕ) (items : List (ℕ × ℕ)) → items ≡ numbers_of c v ++ numbers_of d e → c.state.lun ≡ 0 → d.state.lun ≡ lun → 0 < lun → SomeMore c v → SomeMore d e → OneCounts c d v e lun items
one_counts c d v e lun items is at_c at_d drive changer moved =
    let split = λ (k : ℕ). ap (count_at k) is ∙ count_both k (numbers_of c v) (numbers_of d e) in
    let own_c = count_own 0 c v changer at_c in
    let own_d = count_own lun d e moved at_d in
    let other_c = count_other lun c v changer (λ h. omega (arith, h, at_c, drive)) in
    let other_d = count_other 0 d e moved (λ h. omega (arith, h, at_d, drive)) in
    let at_0 = split 0 in
    let at_lun = split lun in
    record {
      changer = omega (arith, own_c, other_d, at_0);
      drive = omega (arith, own_d, other_c, at_lun);
      only = λ k apart beside.
          (let none_c = count_other k c v changer (λ h. apart (h ∙ at_c)) in
          let none_d = count_other k d e moved (λ h. beside (h ∙ at_d)) in
          let both = split k in omega (arith, none_c, none_d, both));
    }

pub record TwoCounts (c l h v m i : UnitView) (lower upper : ℕ) (items : List (ℕ × ℕ)) : Type 0 where
  pub changer : last_number v ≡ last_number c + count_at 0 items
  pub low : last_number m ≡ last_number l + count_at lower items
  pub high : last_number i ≡ last_number h + count_at upper items
  pub only : (k : ℕ) → k ≢ 0 → k ≢ lower → k ≢ upper → count_at k items ≡ 0

pub two_counts : (c l h v m i : UnitView) (low high : ℕ) (items : List (ℕ × ℕ)) → items ≡ numbers_of c v ++ numbers_of l m ++ numbers_of h i → c.state.lun ≡ 0 → l.state.lun ≡ low → h.state.lun ≡ high → 0 < low → low < high
    → SomeMore c v → SomeMore l m → SomeMore h i → TwoCounts c l h v m i low high items
two_counts c l h v m i low high items is at_c at_l at_h drive above changer lower upper =
    let split = λ (k : ℕ). ap (count_at k) is ∙ count_both k (numbers_of c v ++ numbers_of l m) (numbers_of h i) ∙ ap (λ n. n + count_at k (numbers_of h i)) (count_both k (numbers_of c v) (numbers_of l m)) in
    let own_c = count_own 0 c v changer at_c in
    let own_l = count_own low l m lower at_l in
    let own_h = count_own high h i upper at_h in
    let c_low = count_other low c v changer (λ e. omega (arith, e, at_c, drive)) in
    let c_high = count_other high c v changer (λ e. omega (arith, e, at_c, drive, above)) in
    let l_0 = count_other 0 l m lower (λ e. omega (arith, e, at_l, drive)) in
    let l_high = count_other high l m lower (λ e. omega (arith, e, at_l, above)) in
    let h_0 = count_other 0 h i upper (λ e. omega (arith, e, at_h, drive, above)) in
    let h_low = count_other low h i upper (λ e. omega (arith, e, at_h, above)) in
    let at_0 = split 0 in
    let at_low = split low in
    let at_high = split high in
    record {
      changer = omega (arith, own_c, l_0, h_0, at_0);
      low = omega (arith, own_l, c_low, h_low, at_low);
      high = omega (arith, own_h, c_high, l_high, at_high);
      only = λ k apart beside behind.
          (let none_c = count_other k c v changer (λ e. apart (e ∙ at_c)) in
          let none_l = count_other k l m lower (λ e. beside (e ∙ at_l)) in
          let none_h = count_other k h i upper (λ e. behind (e ∙ at_h)) in
          let all = split k in omega (arith, none_c, none_l, none_h, all));
    }
