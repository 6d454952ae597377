-- Lists of summaries, one summary on.
use Rattle.std.proofs.Common.{◌≡◌, ℕ, zero, suc, ◌+◌, List, [], ◌∷◌, ◌++◌, Ok, Err, Result, refl, arith, add-one, append_assoc}
use Rattle.std.specs.Prelude.{IfOk}
use Rattle.tape_medium.specs.Elements.{Elements}
use Rattle.element_map.specs.declared.element_type.ElementType.{ElementType}
use Rattle.scsi_cdb.specs.declared.profile.Profile.{Profile}
use Rattle.logical_unit.specs.UnitView.{UnitView}
use Rattle.lun_router.specs.Units.{IsAt}
use Rattle.library_status.specs.declared.summary.ElementSummary.{ElementSummary}
use Rattle.library_status.specs.declared.summary.UnitSummary.{UnitSummary}
use Rattle.status_reader.specs.Summaries.{AreShown, AreShownFrom, IsShownAt, IsSummaryOf, element_summary, elements_of_type}

pub one_more : (e : Elements) (type : ElementType) (n : ℕ) (before : List ElementSummary)
    → (before ++ elements_of_type e type n) ++ element_summary e type n ∷ [] ≡ before ++ elements_of_type e type (n + 1)
one_more e type n before = rw (add-one, append_assoc) refl

pub shown_more : (p : Profile) (first n : ℕ) (ss : List UnitSummary) (s : UnitSummary)
    → AreShownFrom p first n ss → IsShownAt p (first + n) s → AreShownFrom p first (suc n) (ss ++ s ∷ [])
shown_more p first zero [] s shown more = let e : first + zero ≡ first = omega arith in (rw e at more, tt)
shown_more p first zero (x ∷ xs) s shown more = absurd shown
shown_more p first (suc n) [] s shown more = absurd shown
shown_more p first (suc n) (x ∷ xs) s shown more =
    let e : first + suc n ≡ suc first + n = omega arith in (shown.0, shown_more p (suc first) n xs s shown.1 (rw e at more))

pub shown_next : (p : Profile) (n : ℕ) (ss : List UnitSummary) (s : UnitSummary) → AreShown p n ss → IsShownAt p n s → AreShown p (suc n) (ss ++ s ∷ [])
shown_next p n ss s shown more = let e : 0 + n ≡ n = omega arith in shown_more p 0 n ss s shown (rw e more)

-- what was seen of some unit is a summary of it
pub shown_at : {E : Type 0} (p : Profile) (lun : ℕ) (r : Result UnitSummary E) → ((u : UnitView) × (IsAt p lun u × IfOk r (IsSummaryOf u))) → IfOk r (IsShownAt p lun)
shown_at p lun (Ok s) it = it
shown_at p lun (Err e) it = tt
