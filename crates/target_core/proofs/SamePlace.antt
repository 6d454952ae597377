-- A unit stays at its logical unit number, with its count of units.
use Rattle.std.proofs.Common.{◌≡◌, ℕ, Bool, true, false, List, Option, inl, inr, ap, ◌∙◌}
use Rattle.scsi_nexus.specs.declared.nexus.Nexus.{Nexus}
use Rattle.unit_attention.specs.Queues.{has_slot}
use Rattle.judgement.specs.declared.reply.Reply.{Reply}
use Rattle.judgement.specs.UnitStateView.{UnitStateView}
use Rattle.logical_unit.specs.UnitView.{UnitView}
use Rattle.logical_unit.specs.Step.{Executes, LosesAs, IsLost, IsReset}
use Rattle.logical_unit.proofs.History.{executes_stays}

-- the number of a unit, and how many units it was made with
abbrev pub place_of : UnitStateView → ℕ × ℕ
place_of k = (k.lun, k.units)

pub executes_place : (u v : UnitView) (n : Nexus) (cdb bytes : List ℕ) (r : Reply) → Executes u n cdb bytes (v, r) → place_of v.state ≡ place_of u.state
executes_place u v n cdb bytes r e =
    let stays = executes_stays u v n cdb bytes r e in
    ap (λ l. (l, v.state.units)) stays.lun ∙ ap (λ c. (u.state.lun, c)) stays.units

lost_place : (u v : UnitView) (n : Nexus) (number : Option ℕ) (known : Bool) → LosesAs known u n (v, number) → place_of v.state ≡ place_of u.state
lost_place u v n number false is = ap (λ (x : UnitView × Option ℕ). place_of x.0.state) is
lost_place u v n number true is = ap (λ (x : UnitView × Option ℕ). place_of x.0.state) is.1

pub loss_place : (u v : UnitView) (n : Nexus) (r : Reply) → IsLost u n (v, r) → place_of v.state ≡ place_of u.state
loss_place u v n r (inl busy) = ap (λ (x : UnitView × Reply). place_of x.0.state) busy.0
loss_place u v n r (inr lost) = lost_place u v n lost.0 (has_slot u.state.slots n) lost.1

pub reset_place : (u v : UnitView) (r : Reply) → IsReset u (v, r) → place_of v.state ≡ place_of u.state
reset_place u v r (inl busy) = ap (λ (x : UnitView × Reply). place_of x.0.state) busy
reset_place u v r (inr was) = ap (λ (x : UnitView × ℕ). place_of x.0.state) was.1.1
