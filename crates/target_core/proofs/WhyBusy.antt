-- Why an event is BUSY, at the places of the units that it touches.
use Rattle.std.proofs.Common.{◌≡◌, ◌<◌, ◌≤◌, ◌-◌, ℕ, zero, suc, Bool, true, false, inl, inr, List, [], ◌∷◌, ◌++◌, length, take, Option, Some, refl, sym, ap, ◌∙◌, subst, arith}
use Rattle.std.specs.Prelude.{◌==◌, ◌&&◌, not, nat_lt, slice_get, slice_index_or, if◌then◌else◌}
use Rattle.scsi_nexus.specs.declared.nexus.Nexus.{Nexus}
use Rattle.scsi_cdb.specs.Bits.{bit, byte, two_bytes}
use Rattle.scsi_sense.specs.declared.condition.Condition.TheVariants.{LogicalUnitNotSupported}
use Rattle.scsi_sense.specs.declared.status.Status.TheVariants.{Good, Busy}
use Rattle.judgement.specs.declared.reply.Reply.{Reply}
use Rattle.judgement.specs.Replies.{AnswersAbsent, absent_answer, good}
use Rattle.judgement.specs.UnitData.{absent_inquiry, sense_data}
use Rattle.logical_unit.specs.Move.{OneIsBusyOnlyFor, TwoAreBusyOnlyFor}
use Rattle.logical_unit.specs.Step.{IsBusyOnlyFor, IsBusyOnlyForRecord}
use Rattle.logical_unit.specs.UnitView.{UnitWithRoom, units_of}
use Rattle.target_core.specs.Busy.{MoveIsBusyOnlyFor, PassIsBusyOnlyFor, NamingIsBusyOnlyFor, BusyOnlyAt, CommandIsBusyOnlyFor, IsBusyOnlyForRecordAt}
use Rattle.target_core.specs.Run.{NamesAt, unsupported}
use Rattle.target_core.proofs.MovesInPlace.{part_low, part_high}

-- the unit at a place
there : (xs : List UnitWithRoom) (i : ℕ) (d : UnitWithRoom) → i < length xs → slice_get xs i ≡ Some (slice_index_or xs i d)
there [] i d within = absurd (omega (arith, within))
there (x ∷ xs) zero d within = refl
there (x ∷ xs) (suc i) d within = there xs i d (omega (arith, within))

module _ (n : Nexus) (cdb bytes : List ℕ) (r : Reply) where
  drive_at : (xs : List UnitWithRoom) (i : ℕ) (x : UnitWithRoom) → 1 ≤ i → IsBusyOnlyFor x n cdb bytes r → BusyOnlyAt xs i (Some x) n cdb
      bytes r
  drive_at xs zero x drive h = absurd (omega (arith, drive))
  drive_at xs (suc k) x drive h = h

  pub drive_busy : (xs : List UnitWithRoom) (i : ℕ) (d : UnitWithRoom) → i < length xs → 1 ≤ i → IsBusyOnlyFor (slice_index_or xs i d) n cdb
      bytes r → CommandIsBusyOnlyFor xs i n cdb bytes r
  drive_busy xs i d within drive h =
      subst (λ (o : Option UnitWithRoom). BusyOnlyAt xs i o n cdb bytes r) (sym (there xs i d within))
      (drive_at xs i (slice_index_or xs i d) drive h)

  module _ (z : UnitWithRoom) (back : List UnitWithRoom) where
    pub alone_busy : NamesAt (units_of (z ∷ back)) cdb [] → IsBusyOnlyFor z n cdb bytes r → CommandIsBusyOnlyFor (z ∷ back) 0 n cdb bytes r
    alone_busy names h = subst (λ (l : List ℕ). NamingIsBusyOnlyFor (z ∷ back) z l n cdb bytes r) (sym names) h

    pub one_busy : (k : ℕ) (d : UnitWithRoom) → k < length back → NamesAt (units_of (z ∷ back)) cdb (suc k ∷ []) → OneIsBusyOnlyFor z
        (slice_index_or back k d) n cdb bytes r → CommandIsBusyOnlyFor (z ∷ back) 0 n cdb bytes r
    one_busy k d within names h =
        subst (λ (l : List ℕ). NamingIsBusyOnlyFor (z ∷ back) z l n cdb bytes r) (sym names)
        (subst (λ (o : Option UnitWithRoom). MoveIsBusyOnlyFor z o n cdb bytes r) (sym (there back k d within)) h)

    pub two_busy : (i j : ℕ) (d e : UnitWithRoom) → i < length back → j < length back → NamesAt (units_of (z ∷ back)) cdb
        (suc i ∷ suc j ∷ []) → TwoAreBusyOnlyFor z (slice_index_or back i d) (slice_index_or back j e) n cdb bytes r
        → CommandIsBusyOnlyFor (z ∷ back) 0 n cdb bytes r
    two_busy i j d e low high names h =
        subst (λ (l : List ℕ). NamingIsBusyOnlyFor (z ∷ back) z l n cdb bytes r) (sym names)
        (subst (λ (o : Option UnitWithRoom). PassIsBusyOnlyFor z o (slice_get back j) n cdb bytes r) (sym (there back i d low))
        (subst (λ (o : Option UnitWithRoom). PassIsBusyOnlyFor z (Some (slice_index_or back i d)) o n cdb bytes r)
        (sym (there back j e high)) h))

    -- drives in two parts, the higher of two at the head of the second
    pub two_busy_in_parts : (lower upper : List UnitWithRoom) (low high : ℕ) (d e : UnitWithRoom) → back ≡ lower ++ upper → length lower ≡
        high - 1 → 1 ≤ low → low < high → high ≤ length back
        → NamesAt (units_of (z ∷ back)) cdb (suc (low - 1) ∷ suc (high - 1) ∷ []) → TwoAreBusyOnlyFor z (slice_index_or lower (low - 1) d)
        (slice_index_or upper 0 e) n cdb bytes r → CommandIsBusyOnlyFor (z ∷ back) 0 n cdb bytes r
    two_busy_in_parts lower upper low high d e parts front place rising within names h =
        let first : low - 1 < length back = omega (arith, place, rising, within) in
        let second : high - 1 < length back = omega (arith, place, rising, within) in
        let inner : low - 1 < length lower = omega (arith, place, rising, front) in
        let low_is : slice_index_or back (low - 1) d ≡ slice_index_or lower (low - 1) d = ap
        (λ (xs : List UnitWithRoom). slice_index_or xs (low - 1) d) parts ∙ part_low lower upper (low - 1) d inner in
        let high_is : slice_index_or back (high - 1) e ≡ slice_index_or upper 0 e = ap
        (λ (xs : List UnitWithRoom). slice_index_or xs (high - 1) e) parts ∙ part_high lower upper (high - 1) e front in
        two_busy (low - 1) (high - 1) d e first second names
        (subst (λ (x : UnitWithRoom). TwoAreBusyOnlyFor z x (slice_index_or back (high - 1) e) n cdb bytes r) (sym low_is)
        (subst (λ (x : UnitWithRoom). TwoAreBusyOnlyFor z (slice_index_or lower (low - 1) d) x n cdb bytes r) (sym high_is) h))

  -- the first unit apart
  pub first_busy : (all first back : List UnitWithRoom) (d : UnitWithRoom) → all ≡ first ++ back → length first ≡ 1 → CommandIsBusyOnlyFor
      (slice_index_or first 0 d ∷ back) 0 n cdb bytes r → CommandIsBusyOnlyFor all 0 n cdb bytes r
  first_busy all [] back d parts one h = absurd cc
  first_busy all (z ∷ []) back d parts one h = subst (λ (xs : List UnitWithRoom). CommandIsBusyOnlyFor xs 0 n cdb bytes r) (sym parts) h
  first_busy all (z ∷ y ∷ more) back d parts one h = absurd (omega (arith, one))

-- a loss or a reset
pub record_busy : (xs : List UnitWithRoom) (i : ℕ) (d : UnitWithRoom) (r : Reply) → i < length xs → IsBusyOnlyForRecord
    (slice_index_or xs i d) r → IsBusyOnlyForRecordAt (slice_get xs i) r
record_busy xs i d r within h = subst (λ (o : Option UnitWithRoom). IsBusyOnlyForRecordAt o r) (sym (there xs i d within)) h

-- what comes where no unit is isn't BUSY, but for want of memory
pub unsupported_busy : (r : Reply) → r ≡ unsupported → r.status ≡ Busy → ⊥
unsupported_busy r is busy = cc

answer_busy : (short inquiry sense : Bool) (held told : List ℕ) → (if short then unsupported else if inquiry then good held else if sense
    then good told else unsupported).status ≡ Busy → ⊥
answer_busy true inquiry sense held told h = cc
answer_busy false true sense held told h = cc
answer_busy false false true held told h = cc
answer_busy false false false held told h = cc

pub absent_busy : (cdb : List ℕ) (r : Reply) → AnswersAbsent cdb r → r.status ≡ Busy → (absent_answer cdb).status ≡ Good
absent_busy cdb r (inl want) busy = want.1
absent_busy cdb r (inr is) busy = absurd (answer_busy (nat_lt (length cdb) 6) (byte cdb 0 == 0x12 && not (bit cdb 1 0)) (byte cdb 0 == 0x03)
    (take (two_bytes cdb 3) absent_inquiry) (take (byte cdb 4) (sense_data LogicalUnitNotSupported))
    (sym (ap (λ (x : Reply). x.status) is) ∙ busy))
