-- A unit at its place among units with their room.
use Rattle.std.proofs.Common.{◌≡◌, ◌<◌, ◌≤◌, ℕ, zero, suc, List, [], ◌∷◌, ◌++◌, length, take, drop, take_at, Option, Some, None, refl, sym, ap, ◌∙◌, subst, arith}
use Rattle.std.specs.Prelude.{slice_get, slice_set, slice_index_or}
use Rattle.std.proofs.lemmas.List.{length-map, map-set}
use Rattle.std.proofs.lemmas.Option.{slice_get_past}
use Rattle.scsi_nexus.specs.declared.nexus.Nexus.{Nexus}
use Rattle.audit_log.specs.declared.record.Record.{Record}
use Rattle.judgement.specs.declared.reply.Reply.{Reply}
use Rattle.logical_unit.specs.UnitView.{UnitView, UnitWithRoom, units_of}
use Rattle.logical_unit.specs.Step.{Executes, IsLost, IsReset, drained}
use Rattle.logical_unit.specs.Legal.{IsTrail}
use Rattle.target_core.specs.Run.{AtUnit, CommandsAt, Commands, LosesAt, ResetsAt, DrainsAt, Drains}

-- what two equal options hold
pub same_some : {A : Type 0} (a b : A) → Some a ≡ Some b → a ≡ b
same_some a b e = cc

-- the unit at a place
pub placed : (us : List UnitWithRoom) (i : ℕ) (d : UnitWithRoom) → i < length us → slice_get (units_of us) i ≡ Some
    (slice_index_or us i d).unit
placed [] i d within = absurd (omega (arith, within))
placed (u ∷ us) zero d within = refl
placed (u ∷ us) (suc i) d within = placed us i d (omega (arith, within))

-- a unit that takes the place of another
pub units_of-set : (us : List UnitWithRoom) (i : ℕ) (w : UnitWithRoom) → units_of (slice_set us i w) ≡ slice_set (units_of us) i w.unit
units_of-set us i w = map-set (λ (u : UnitWithRoom). u.unit) us i w

-- a command to a drive is that unit's alone
drive_at : (us : List UnitView) (i : ℕ) (u : UnitView) (n : Nexus) (cdb bytes : List ℕ) (new : List UnitView × Reply) → 1 ≤ i → AtUnit us i
    (Executes u n cdb bytes) new → CommandsAt us i (Some u) n cdb bytes new
drive_at us zero u n cdb bytes new drive at = absurd (omega (arith, drive))
drive_at us (suc k) u n cdb bytes new drive at = at

module _ (us : List UnitWithRoom) (i : ℕ) (d w : UnitWithRoom) (within : i < length us) where
  -- a command, a loss, a reset and a drain of the unit at a place
  pub commands_at : (n : Nexus) (cdb bytes : List ℕ) (r : Reply) → 1 ≤ i → Executes (slice_index_or us i d).unit n cdb bytes (w.unit, r)
      → Commands (units_of us) i n cdb bytes (units_of (slice_set us i w), r)
  commands_at n cdb bytes r drive e =
      let at : AtUnit (units_of us) i (Executes (slice_index_or us i d).unit n cdb bytes) (units_of (slice_set us i w), r) = record
      { unit = w.unit; step = e; units = units_of-set us i w } in
      subst (λ (o : Option UnitView). CommandsAt (units_of us) i o n cdb bytes (units_of (slice_set us i w), r))
      (sym (placed us i d within))
      (drive_at (units_of us) i (slice_index_or us i d).unit n cdb bytes (units_of (slice_set us i w), r) drive at)

  pub loses_at : (n : Nexus) (r : Reply) → IsLost (slice_index_or us i d).unit n (w.unit, r) → LosesAt (units_of us) i
      (slice_get (units_of us) i) n (units_of (slice_set us i w), r)
  loses_at n r lost =
      subst (λ (o : Option UnitView). LosesAt (units_of us) i o n (units_of (slice_set us i w), r)) (sym (placed us i d within))
      (record { unit = w.unit; step = lost; units = units_of-set us i w })

  pub resets_at : (r : Reply) → IsReset (slice_index_or us i d).unit (w.unit, r) → ResetsAt (units_of us) i (slice_get (units_of us) i)
      (units_of (slice_set us i w), r)
  resets_at r was =
      subst (λ (o : Option UnitView). ResetsAt (units_of us) i o (units_of (slice_set us i w), r)) (sym (placed us i d within))
      (record { unit = w.unit; step = was; units = units_of-set us i w })

  pub drains_at : (entries : List Record) → entries ≡ (slice_index_or us i d).unit.records → w.unit ≡ drained (slice_index_or us i d).unit
      → IsTrail (slice_index_or us i d).unit.base (slice_index_or us i d).unit.records (slice_index_or us i d).unit.state
      → Drains (units_of us) i (units_of (slice_set us i w), Some entries)
  drains_at entries told same trail =
      subst (λ (o : Option UnitView). DrainsAt (units_of us) i o (units_of (slice_set us i w), Some entries)) (sym (placed us i d within)) (
        ap (λ (vs : List UnitView). (vs, Some entries)) (units_of-set us i w ∙ ap (slice_set (units_of us) i) same) ∙ ap
            (λ (es : List Record). (slice_set (units_of us) i (drained (slice_index_or us i d).unit), Some es)) told,
        trail,
      )

-- what came of a vector's items as a slice stands in the vector again
pub put_back : (Does : (us vs : List UnitView) → Type 0) (all lent new : List UnitWithRoom) (count : ℕ) → lent ≡ all → length lent ≡ count →
    length new ≡ length lent → Does (units_of lent) (units_of new)
    → Does (units_of all) (units_of (take count (new ++ drop (length new) all)))
put_back Does all lent new count same whole state h =
    subst (λ (xs : List UnitWithRoom). Does (units_of all) (units_of xs)) (sym (take_at new (drop (length new) all) count (state ∙ whole)))
    (subst (λ (xs : List UnitWithRoom). Does (units_of xs) (units_of new)) same h)

-- where no unit is
pub none_at : (us : List UnitWithRoom) (i count : ℕ) → count ≡ length us → count ≤ i → slice_get us i ≡ None
none_at us i count is past = slice_get_past us i (subst (λ k. k ≤ i) is past)

pub none_there : (us : List UnitWithRoom) (i count : ℕ) → count ≡ length us → count ≤ i → slice_get (units_of us) i ≡ None
none_there us i count is past = slice_get_past (units_of us) i (subst (λ k. k ≤ i) (is ∙ sym (length-map us (λ (u : UnitWithRoom). u.unit)))
    past)
