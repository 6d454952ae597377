-- The numbers of a call, counted at each unit; and a unit that is kept stays so.
use Rattle.std.proofs.Common.{◌≡◌, ◌≢◌, ℕ, ◌+◌, ◌<◌, Bool, true, false, Option, List, [], ◌∷◌, ◌++◌, length, refl, sym, ap, ◌∙◌, subst, inl, inr, arith, length-append}
use Rattle.std.specs.Prelude.{cond, nat_eq, zero, suc}
use Rattle.std.proofs.lemmas.Bool.Decides.{nat_tests}
use Rattle.std.proofs.lemmas.List.Sums.{sum_by-append}
use Rattle.scsi_cdb.specs.declared.kind.Kind.{Kind}
use Rattle.scsi_cdb.specs.declared.profile.CommandSet.{CommandSet}
use Rattle.scsi_cdb.specs.declared.profile.Profile.{Profile}
use Rattle.scsi_cdb.specs.Kinds.{kind_at, commands, commands_at}
use Rattle.scsi_nexus.specs.declared.nexus.Nexus.{Nexus}
use Rattle.unit_attention.specs.Queues.{has_slot}
use Rattle.device_server.specs.View.{DeviceView, kind_of, profile_of, commands_of, drives_of}
use Rattle.device_server.specs.Settled.{SameButSettled}
use Rattle.device_server.proofs.SameDevice.{reset_same}
use Rattle.device_server.proofs.SettledLemmas.{same_settled}
use Rattle.judgement.specs.declared.reply.Reply.{Reply}
use Rattle.logical_unit.specs.Answers.{count_at, own_number}
use Rattle.logical_unit.specs.Move.{numbers_after, numbers_of, IsSameUnit}
use Rattle.logical_unit.specs.Route.{named}
use Rattle.logical_unit.specs.Step.{Executes, LosesAs, loses, resets, IsLost, IsReset, number_or_0}
use Rattle.logical_unit.specs.UnitView.{UnitView, last_number}
use Rattle.logical_unit.proofs.History.{executes_stays}
use Rattle.logical_unit.proofs.NumbersOf.{more_of}
use Rattle.logical_unit.proofs.Recorded.{executed, SomeMore}
use Rattle.kept_unit.specs.Keeping.{IsKept}

-- a unit's own number is at no other unit
pub only_own : (lun n k : ℕ) → (k ≡ lun → ⊥) → count_at k (own_number lun n) ≡ 0
only_own lun n k other = grind (arith, nat_tests)

none_counted : (lun n : ℕ) → n ≡ 0 → count_at lun (own_number lun n) ≡ 0
none_counted lun n none = rw none refl

one_counted : (lun n m : ℕ) → n ≡ m + 1 → count_at lun (own_number lun n) ≡ 1
one_counted lun n m one = grind (arith, nat_tests)

pub grown : (lun : ℕ) (u v : UnitView) (n : Nexus) (cdb bytes : List ℕ) (r : Reply) → Executes u n cdb bytes (v, r)
    → last_number v ≡ last_number u + count_at lun (own_number lun r.number)
grown lun u v n cdb bytes r step = elim (executed u v n cdb bytes r step) [
  | inl same ↦ ap last_number same.0 ∙ rw (none_counted lun r.number (ap (λ (x : Reply). x.number) same.1)) (omega arith)
  | inr more ↦ rw (one_counted lun r.number (last_number u) more.1) more.0.last
]

-- after a command the unit is kept
pub stays_kept : (p : Profile) (lun : ℕ) (u v : UnitView) (n : Nexus) (cdb bytes : List ℕ) (r : Reply) (count total total' was since : ℕ) → Executes u n cdb bytes (v, r)
    → IsKept p lun u total was since → count ≡ count_at lun (own_number lun r.number) → total' ≡ total + count → IsKept p lun v total' was since
stays_kept p lun u v n cdb bytes r count total total' was since step kept is more =
    let s = executes_stays u v n cdb bytes r step in
    let grew = grown lun u v n cdb bytes r step in
    let before = kept.last in
    record {
      kind = s.device.kind ∙ kept.kind;
      profile = s.device.profile ∙ kept.profile;
      place = s.lun ∙ kept.place;
      few = subst (λ (d : ℕ). d < 256) (sym s.device.drives) kept.few;
      last = omega (arith, grew, before, is, more);
      first = kept.first;
    }

-- so is one that stays the same unit, with as many numbers more
pub same_kept : (p : Profile) (lun : ℕ) (u v : UnitView) (count total total' was since : ℕ) → IsSameUnit u v → IsKept p lun u total was since
    → last_number v ≡ last_number u + count → total' ≡ total + count → IsKept p lun v total' was since
same_kept p lun u v count total total' was since same kept grew more =
    let before = kept.last in
    record {
      kind = same.device.kind ∙ kept.kind;
      profile = same.device.profile ∙ kept.profile;
      place = same.lun ∙ kept.place;
      few = subst (λ (d : ℕ). d < 256) (sym same.device.drives) kept.few;
      last = omega (arith, grew, before, more);
      first = kept.first;
    }

-- after the loss of a nexus too
record Happened (lun : ℕ) (u v : UnitView) (r : Reply) : Type 0 where
  pub kind : kind_of v.device ≡ kind_of u.device
  pub profile : profile_of v.device ≡ profile_of u.device
  pub drives : drives_of v.device ≡ drives_of u.device
  pub place : v.state.lun ≡ u.state.lun
  pub last : last_number v ≡ last_number u + count_at lun (own_number lun r.number)

unchanged : (lun : ℕ) (u v : UnitView) (r : Reply) → v ≡ u → r.number ≡ 0 → Happened lun u v r
unchanged lun u v r is none =
    subst (λ (x : UnitView). Happened lun u x r) (sym is) (record { kind = refl; profile = refl; drives = refl; place = refl; last = rw (none_counted lun r.number none) (omega arith) })

loses_as : (lun : ℕ) (b : Bool) (u v : UnitView) (n : Nexus) (number : Option ℕ) (r : Reply) → LosesAs b u n (v, number) → r.number ≡ number_or_0 number → Happened lun u v r
loses_as lun false u v n number r h is = unchanged lun u v r (ap (λ (x : UnitView × Option ℕ). x.0) h) (is ∙ ap (λ (x : UnitView × Option ℕ). number_or_0 x.1) h)
loses_as lun true u v n number r h is =
    let one = one_counted lun r.number (last_number u) (is ∙ ap (λ (x : UnitView × Option ℕ). number_or_0 x.1) h.1) in
    let longer : length (loses u n).records ≡ length u.records + 1 = length-append u.records _ in
    subst (λ (x : UnitView). Happened lun u x r) (sym (ap (λ (x : UnitView × Option ℕ). x.0) h.1))
    (record { kind = refl; profile = refl; drives = refl; place = refl; last = omega (arith, one, longer) })

lost_happened : (lun : ℕ) (u v : UnitView) (n : Nexus) (r : Reply) → IsLost u n (v, r) → Happened lun u v r
lost_happened lun u v n r (inl same) = unchanged lun u v r (ap (λ (x : UnitView × Reply). x.0) same.0) (ap (λ (x : UnitView × Reply). x.1.number) same.0)
lost_happened lun u v n r (inr lost) = loses_as lun (has_slot u.state.slots n) u v n lost.0 r lost.1 (ap (λ (x : Reply). x.number) lost.2)

reset_happened : (lun : ℕ) (u v : UnitView) (r : Reply) → IsReset u (v, r) → Happened lun u v r
reset_happened lun u v r (inl same) = unchanged lun u v r (ap (λ (x : UnitView × Reply). x.0) same) (ap (λ (x : UnitView × Reply). x.1.number) same)
reset_happened lun u v r (inr reset) =
    let number : r.number ≡ last_number u + 1 = ap (λ (x : Reply). x.number) reset.2 ∙ ap (λ (x : UnitView × ℕ). x.1) reset.1.1 in
    let one = one_counted lun r.number (last_number u) number in
    let longer : length (resets u).records ≡ length u.records + 1 = length-append u.records _ in
    let device = reset_same u.device in
    subst (λ (x : UnitView). Happened lun u x r) (sym (ap (λ (x : UnitView × ℕ). x.0) reset.1.1))
    (record { kind = device.kind; profile = device.profile; drives = device.drives; place = refl; last = omega (arith, one, longer) })

happened_kept : (p : Profile) (lun : ℕ) (u v : UnitView) (r : Reply) (count total total' was since : ℕ) → Happened lun u v r
    → IsKept p lun u total was since → count ≡ count_at lun (own_number lun r.number) → total' ≡ total + count → IsKept p lun v total' was since
happened_kept p lun u v r count total total' was since s kept is more =
    let grew = s.last in
    let before = kept.last in
    record {
      kind = s.kind ∙ kept.kind;
      profile = s.profile ∙ kept.profile;
      place = s.place ∙ kept.place;
      few = subst (λ (d : ℕ). d < 256) (sym s.drives) kept.few;
      last = omega (arith, grew, before, is, more);
      first = kept.first;
    }

pub lost_kept : (p : Profile) (lun : ℕ) (u v : UnitView) (n : Nexus) (r : Reply) (count total total' was since : ℕ) → IsLost u n (v, r)
    → IsKept p lun u total was since → count ≡ count_at lun (own_number lun r.number) → total' ≡ total + count → IsKept p lun v total' was since
lost_kept p lun u v n r count total total' was since step = happened_kept p lun u v r count total total' was since (lost_happened lun u v n r step)

pub reset_kept : (p : Profile) (lun : ℕ) (u v : UnitView) (r : Reply) (count total total' was since : ℕ) → IsReset u (v, r)
    → IsKept p lun u total was since → count ≡ count_at lun (own_number lun r.number) → total' ≡ total + count → IsKept p lun v total' was since
reset_kept p lun u v r count total total' was since step = happened_kept p lun u v r count total total' was since (reset_happened lun u v r step)

-- after an attendant looked after the volumes of the device
pub settled_kept : (p : Profile) (lun : ℕ) (u : UnitView) (device : DeviceView) (total was since : ℕ) → SameButSettled u.device device
    → IsKept p lun u total was since → IsKept p lun (record u { device = device }) total was since
settled_kept p lun u device total was since same kept =
    let s = same_settled u.device device same in
    record {
      kind = s.kind ∙ kept.kind;
      profile = s.profile ∙ kept.profile;
      place = kept.place;
      few = subst (λ (d : ℕ). d < 256) (sym s.drives) kept.few;
      last = kept.last;
      first = kept.first;
    }

-- THE COMMANDS OF A UNIT that is kept, and what they name at the changer
pub kept_commands : (p : Profile) (lun : ℕ) (u : UnitView) (total was since : ℕ) → IsKept p lun u total was since → commands_of u.device ≡ commands_at p lun
kept_commands p lun u total was since kept =
    ap (λ (q : Profile). commands q (kind_of u.device)) kept.profile ∙ ap (λ (k : Kind). commands p k) kept.kind

pub kept_names : (p : Profile) (lun : ℕ) (u : UnitView) (total was since : ℕ) (s : CommandSet) (cdb names : List ℕ) → IsKept p lun u total was since
    → s ≡ commands_at p lun → named s (drives_of u.device) cdb ≡ names → named (commands_of u.device) (drives_of u.device) cdb ≡ names
kept_names p lun u total was since s cdb names kept is h =
    ap (λ (t : CommandSet). named t (drives_of u.device) cdb) (kept_commands p lun u total was since kept ∙ sym is) ∙ h

-- THE NUMBERS OF SEVERAL UNITS
count_single : (k n : ℕ) → count_at k ((k, n) ∷ []) ≡ 1
count_single k n = grind (arith, nat_tests)

count_apart : (k l n : ℕ) → k ≢ l → count_at k ((l, n) ∷ []) ≡ 0
count_apart k l n apart = grind (arith, nat_tests)

pub count_both : (k : ℕ) (xs ys : List (ℕ × ℕ)) → count_at k (xs ++ ys) ≡ count_at k xs + count_at k ys
count_both k xs ys = sum_by-append (λ (p : ℕ × ℕ). cond (nat_eq p.0 k) 1 0) xs ys

after_own : (k last count : ℕ) → count_at k (numbers_after k last count) ≡ count
after_own k last zero = refl
after_own k last (suc count) =
    let first = count_single k (last + 1) in
    let rest = after_own k (last + 1) count in
    let all = count_both k ((k, last + 1) ∷ []) (numbers_after k (last + 1) count) in
    omega (arith, first, rest, all)

after_other : (k lun last count : ℕ) → k ≢ lun → count_at k (numbers_after lun last count) ≡ 0
after_other k lun last zero apart = refl
after_other k lun last (suc count) apart =
    let first = count_apart k lun (last + 1) apart in
    let rest = after_other k lun (last + 1) count apart in
    let all = count_both k ((lun, last + 1) ∷ []) (numbers_after lun (last + 1) count) in
    omega (arith, first, rest, all)

pub count_own : (k : ℕ) (u v : UnitView) → SomeMore u v → u.state.lun ≡ k → last_number v ≡ last_number u + count_at k (numbers_of u v)
count_own k u v more is =
    more.1 ∙ ap (λ c. last_number u + c) (sym (ap (count_at k) (more_of u v more.0 more.1 ∙ ap (λ (l : ℕ). numbers_after l (last_number u) more.0) is) ∙ after_own k (last_number u) more.0))

pub count_other : (k : ℕ) (u v : UnitView) → SomeMore u v → k ≢ u.state.lun → count_at k (numbers_of u v) ≡ 0
count_other k u v more apart = ap (count_at k) (more_of u v more.0 more.1) ∙ after_other k u.state.lun (last_number u) more.0 apart
