-- A MOVE MEDIUM or an EXCHANGE MEDIUM at kept units: they stay the same, with the numbers that its call tells.
use Rattle.std.proofs.Common.{◌≡◌, ℕ, ◌<◌, List, [], ◌∷◌, ◌++◌}
use Rattle.scsi_nexus.specs.declared.nexus.Nexus.{Nexus}
use Rattle.device_server.specs.View.{commands_of, drives_of}
use Rattle.judgement.specs.declared.reply.Reply.{Reply}
use Rattle.judgement.specs.Commands.{act_of}
use Rattle.logical_unit.specs.Move.{TwoDrives, MovesOne, MovesTwo, IsSameUnit, numbers_of}
use Rattle.logical_unit.specs.Route.{named}
use Rattle.logical_unit.specs.UnitView.{UnitView}
use Rattle.logical_unit.proofs.SameUnits.{one_same, two_same}
use Rattle.logical_unit.proofs.Carried.{one_settled, two_settled, one_told, two_told}
use Rattle.logical_unit.proofs.Recorded.{some_more}
use Rattle.kept_unit.proofs.Counts.{OneCounts, one_counts, TwoCounts, two_counts}

-- with one drive
pub record OneMove (c d v e : UnitView) (lun : ℕ) (items : List (ℕ × ℕ)) : Type 0 where
  pub changer : IsSameUnit c v
  pub drive : IsSameUnit d e
  pub counts : OneCounts c d v e lun items

pub one_move : (c d v e : UnitView) (lun : ℕ) (n : Nexus) (cdb bytes : List ℕ) (r : Reply) (items : List (ℕ × ℕ))
    → named (commands_of c.device) (drives_of c.device) cdb ≡ lun ∷ [] → MovesOne c d n cdb bytes ((v, r), e) → items ≡ numbers_of c v ++ numbers_of d e
    → c.state.lun ≡ 0 → d.state.lun ≡ lun → 0 < lun → OneMove c d v e lun items
one_move c d v e lun n cdb bytes r items names moves numbers at_c at_d above =
    let told = one_told c d v e (act_of (commands_of c.device) cdb bytes) r items (one_settled c d v e n cdb bytes r lun [] names moves) numbers in
    let same = one_same c d v e n cdb bytes r lun [] names moves in
    record { changer = same.0; drive = same.1; counts = one_counts c d v e lun items numbers at_c at_d above (some_more c v told.changer) told.drive }

-- with two
pub record TwoMove (c v : UnitView) (ds es : TwoDrives) (lower upper : ℕ) (items : List (ℕ × ℕ)) : Type 0 where
  pub changer : IsSameUnit c v
  pub low : IsSameUnit ds.low es.low
  pub high : IsSameUnit ds.high es.high
  pub counts : TwoCounts c ds.low ds.high v es.low es.high lower upper items

pub two_move : (c v : UnitView) (ds es : TwoDrives) (lower upper : ℕ) (n : Nexus) (cdb bytes : List ℕ) (r : Reply) (items : List (ℕ × ℕ))
    → named (commands_of c.device) (drives_of c.device) cdb ≡ lower ∷ upper ∷ [] → MovesTwo c ds n cdb bytes ((v, r), es) → items ≡ numbers_of c v ++ numbers_of ds.low es.low ++ numbers_of ds.high es.high
    → c.state.lun ≡ 0 → ds.low.state.lun ≡ lower → ds.high.state.lun ≡ upper → 0 < lower → lower < upper → TwoMove c v ds es lower upper items
two_move c v ds es lower upper n cdb bytes r items names moves numbers at_c at_l at_h above over =
    let told = two_told c v ds es (act_of (commands_of c.device) cdb bytes) r items (two_settled c v ds es n cdb bytes r lower (upper ∷ []) names moves) numbers in
    let same = two_same c v ds es n cdb bytes r lower (upper ∷ []) names moves in
    record {
      changer = same.0;
      low = same.1;
      high = same.2;
      counts = two_counts c ds.low ds.high v es.low es.high lower upper items numbers at_c at_l at_h above over (some_more c v told.changer)
          (some_more ds.low es.low told.low) (some_more ds.high es.high told.high);
    }
