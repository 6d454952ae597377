-- The records of a MOVE MEDIUM or an EXCHANGE MEDIUM: BUSY has left none; else the changer has one, and the drives have one of each volume that
-- they gave or took, or none.
use Rattle.std.proofs.Common.{◌≡◌, ◌⊎◌, ℕ, ◌+◌, Bool, true, false, List, [], ◌∷◌, ◌++◌, Option, Some, None, Result, Ok, Err, refl, sym, ap, ◌∙◌, subst, inl, inr, arith, append_assoc}
use Rattle.std.specs.Prelude.{cond, is_some}
use Rattle.scsi_nexus.specs.declared.nexus.Nexus.{Nexus}
use Rattle.scsi_sense.specs.declared.condition.Condition.{Condition}
use Rattle.audit_log.specs.declared.act.Act.{Act}
use Rattle.audit_log.specs.declared.record.Record.{Record}
use Rattle.device_server.specs.View.{DeviceView, commands_of, drives_of}
use Rattle.judgement.specs.declared.reply.Reply.{Reply}
use Rattle.judgement.specs.Replies.{busy, good, check}
use Rattle.judgement.specs.Commands.{act_of}
use Rattle.logical_unit.specs.Move.{TwoDrives, carried_by_one, exchanged_by, carried_with_one, carried_one, carried_by_two, carried_two, upward, downward, passed, errand_at, MovesOne, MovesTwo, numbers_of}
use Rattle.logical_unit.specs.Route.{named, is_upward, records_at, records_for, records_of}
use Rattle.logical_unit.specs.UnitView.{UnitView, last_number}
use Rattle.logical_unit.specs.declared.route.Errand.{Errand}
use Rattle.logical_unit.specs.declared.route.Errand.TheVariants.{Move, Exchange}
use Rattle.logical_unit.specs.declared.route.ExchangeRoute.{ExchangeRoute}
use Rattle.logical_unit.specs.declared.route.Route.{Route}
use Rattle.tape_medium.specs.declared.volume.Volume.{Volume}
use Rattle.logical_unit.proofs.Halves.{is_unloaded, is_loaded, is_passed, IsRemoved, IsPlaced, is_exchanged, came}
use Rattle.logical_unit.proofs.Moved.{Ends, Became, one_became, two_became}
use Rattle.logical_unit.proofs.NumbersOf.{none_more, one_more, out_last, in_last}
use Rattle.logical_unit.specs.declared.act_kind.ActKind.{ActKind}
use Rattle.logical_unit.specs.ActKinds.{act_kind_of, act_kind_if}
use Rattle.logical_unit.proofs.Recorded.{Recorded, recorded_one, executed, NoneOrOne, SomeMore}

-- what the changer and the drives have: nothing and BUSY, or a record of the command at the changer, and the drives as they were or after
-- the volume was carried
abbrev pub Carried : {A : Type 0} → (drives after : A) → Result (DeviceView × A) Condition → Type 0
Carried {A} drives after carried = (after ≡ drives) ⊎ ((device : DeviceView) × (carried ≡ Ok (device, after)))

abbrev pub Settled : {A : Type 0} → (c v : UnitView) → Act → Reply → (drives after : A) → Result (DeviceView × A) Condition → Type 0
Settled c v act r drives after carried =
    ((v ≡ c) × (r ≡ busy) × (after ≡ drives)) ⊎ (Recorded c v act × Carried drives after carried)

ends_recorded : (c v : UnitView) (n : Nexus) (cdb bytes : List ℕ) (r : Reply) (device : DeviceView) (reply : Reply) → Ends c v n cdb bytes r device reply → Recorded c v (act_of (commands_of c.device) cdb bytes)
ends_recorded c v n cdb bytes r device reply ends =
    recorded_one c v n (act_of (commands_of c.device) cdb bytes) (record { device = device; state = c.state }) ends.decision reply r ends.unit

pub settled : {A : Type 0} (c v : UnitView) (n : Nexus) (cdb bytes : List ℕ) (r : Reply) (drives after : A) (carried : Result (DeviceView × A) Condition) → Became c v n cdb bytes r drives after carried
    → Settled c v (act_of (commands_of c.device) cdb bytes) r drives after carried
settled c v n cdb bytes r drives after carried (inl alone) = elim (executed c v n cdb bytes r alone.0) [
  | inl same ↦ inl (same.0, same.1, alone.1)
  | inr more ↦ inr (more.0, inl alone.1)
]
settled c v n cdb bytes r drives after carried (inr (inl halted)) =
    inr (ends_recorded c v n cdb bytes r c.device (check halted.condition) halted.ends, inl halted.drives_stay)
settled c v n cdb bytes r drives after carried (inr (inr moved)) =
    inr (ends_recorded c v n cdb bytes r moved.device (good []) moved.ends, inr (moved.device, moved.is))

-- a drive that gave its volume, or took one, has a record more
by_one_last : (c : DeviceView) (d : UnitView) (r : Route) (from to : Option ℕ) (device : DeviceView) (e : UnitView) → carried_by_one c d r from to ≡ Ok (device, e) → last_number e ≡ last_number d + 1
by_one_last c d r None None device e h = absurd cc
by_one_last c d r (Some l) None device e h = let u = is_unloaded c d r device e h in out_last d e u.volume u.gives.out
by_one_last c d r None (Some m) device e h = let u = is_loaded c d r device e h in in_last d e u.volume u.comes
by_one_last c d r (Some l) (Some m) device e h = absurd cc

-- by the steps of an exchange
count : Bool → ℕ
count true = 1
count false = 0

removed_last : (of_drive : Bool) (c : DeviceView) (d : UnitView) (address : ℕ) (v : Volume) (after : DeviceView) (e : UnitView) → IsRemoved of_drive c d address v after e
    → last_number e ≡ last_number d + count of_drive
unfolding count
removed_last true c d address v after e is = out_last d e v is.gives.out
removed_last false c d address v after e is = let same : last_number e ≡ last_number d = ap last_number is.same in omega (arith, same)

placed_last : (of_drive : Bool) (c : DeviceView) (d : UnitView) (address : ℕ) (v : Volume) (after : DeviceView) (e : UnitView) → IsPlaced of_drive c d address v after e
    → last_number e ≡ last_number d + count of_drive
unfolding count
placed_last true c d address v after e is = in_last d e v is.comes
placed_last false c d address v after e is = let same : last_number e ≡ last_number d = ap last_number is.same in omega (arith, same)

exchanged_last : (c : DeviceView) (d : UnitView) (x : ExchangeRoute) (from between to : Bool) (device : DeviceView) (e : UnitView) → exchanged_by c d x from between to ≡ Ok (device, e)
    → last_number e ≡ last_number d + count from + count between + count between + count to
exchanged_last c d x from between to device e h =
    let s = is_exchanged c d x from between to device e h in
    let a = removed_last from c d x.source s.one s.without_one s.drive_one s.source in
    let b = removed_last between s.without_one s.drive_one x.first s.other s.without_both s.drive_both s.first in
    let p = placed_last between s.without_both s.drive_both x.first s.one s.with_one s.drive_with s.places in
    let q = placed_last to s.with_one s.drive_with x.second s.other device e s.second in
    omega (arith, a, b, p, q)

counts : (drive : Option ℕ) → count (is_some drive) ≡ records_at drive
unfolding count
counts None = refl
counts (Some l) = refl

with_one_last : (c : DeviceView) (d : UnitView) (errand : Errand) (device : DeviceView) (e : UnitView) → carried_with_one c d errand ≡ Ok (device, e) → last_number e ≡ last_number d + records_for errand
with_one_last c d (Move r) device e h = by_one_last c d r r.from r.to device e h
with_one_last c d (Exchange x) device e h =
    let all = exchanged_last c d x (is_some x.from) (is_some x.between) (is_some x.to) device e h in
    let from = counts x.from in
    let between = counts x.between in
    let to = counts x.to in
    omega (arith, all, from, between, to)

pub one_last : (c : DeviceView) (d : UnitView) (o : Option Errand) (device : DeviceView) (e : UnitView) → carried_one c d o ≡ Ok (device, e) → last_number e ≡ last_number d + records_of o
one_last c d None device e h = absurd cc
one_last c d (Some errand) device e h =
    let w = came errand (carried_with_one c d errand) device e h in with_one_last c d errand w.mid e w.carries

abbrev Three : Type 0
Three = DeviceView × UnitView × UnitView

abbrev BothMore : TwoDrives → TwoDrives → Type 0
BothMore ds es = (last_number es.low ≡ last_number ds.low + 1) × (last_number es.high ≡ last_number ds.high + 1)

passed_last : (c : DeviceView) (g t : UnitView) (r : Route) (device : DeviceView) (e f : UnitView) → passed c g t r ≡ Ok (device, e, f) → (last_number e ≡ last_number g + 1) × (last_number f ≡ last_number t + 1)
passed_last c g t r device e f h =
    let u = is_passed c g t r device e f h in
    (out_last g e u.volume u.gives.out, in_last t f u.volume u.comes)

upward_last : (c : DeviceView) (ds : TwoDrives) (r : Route) (device : DeviceView) (es : TwoDrives) (o : Result Three Condition) → passed c ds.low ds.high r ≡ o → upward o ≡ Ok (device, es) → BothMore ds es
upward_last c ds r device es (Ok it) h e =
    let is : ◌≡◌ {A = DeviceView × TwoDrives} (it.0, record { low = it.1; high = it.2 }) (device, es) = cc in
    let s = passed_last c ds.low ds.high r it.0 it.1 it.2 h in
    subst (λ (x : DeviceView × TwoDrives). BothMore ds x.1) is (s.0, s.1)
upward_last c ds r device es (Err condition) h e = absurd cc

downward_last : (c : DeviceView) (ds : TwoDrives) (r : Route) (device : DeviceView) (es : TwoDrives) (o : Result Three Condition) → passed c ds.high ds.low r ≡ o → downward o ≡ Ok (device, es) → BothMore ds es
downward_last c ds r device es (Ok it) h e =
    let is : ◌≡◌ {A = DeviceView × TwoDrives} (it.0, record { low = it.2; high = it.1 }) (device, es) = cc in
    let s = passed_last c ds.high ds.low r it.0 it.1 it.2 h in
    subst (λ (x : DeviceView × TwoDrives). BothMore ds x.1) is (s.1, s.0)
downward_last c ds r device es (Err condition) h e = absurd cc

by_way_last : (c : DeviceView) (ds : TwoDrives) (r : Route) (up : Bool) (device : DeviceView) (es : TwoDrives) → cond up (upward (passed c ds.low ds.high r)) (downward (passed c ds.high ds.low r)) ≡ Ok (device, es) → BothMore ds es
by_way_last c ds r true device es h = upward_last c ds r device es (passed c ds.low ds.high r) refl h
by_way_last c ds r false device es h = downward_last c ds r device es (passed c ds.high ds.low r) refl h

two_last : (c : DeviceView) (ds : TwoDrives) (o : Option Errand) (device : DeviceView) (es : TwoDrives) → carried_two c ds o ≡ Ok (device, es) → BothMore ds es
two_last c ds None device es h = absurd cc
two_last c ds (Some (Exchange x)) device es h = absurd cc
two_last c ds (Some (Move r)) device es h =
    let w = came (Move r) (carried_by_two c ds r) device es h in
    by_way_last c ds r (is_upward r.from r.to) w.mid es w.carries

none_more_is : (d e : UnitView) → last_number e ≡ last_number d → last_number e ≡ last_number d + 0
none_more_is d e h = omega (arith, h)

-- WITH ONE DRIVE
pub one_settled : (c d v e : UnitView) (n : Nexus) (cdb bytes : List ℕ) (r : Reply) (l : ℕ) (more : List ℕ) → named (commands_of c.device) (drives_of c.device) cdb ≡ l ∷ more → MovesOne c d n cdb bytes ((v, r), e)
    → ((v ≡ c) × (r ≡ busy) × (e ≡ d)) ⊎ (Recorded c v (act_of (commands_of c.device) cdb bytes) × SomeMore d e)
one_settled c d v e n cdb bytes r l more names moves =
    let by : Settled c v (act_of (commands_of c.device) cdb bytes) r d e (carried_one c.device d (errand_at c cdb)) → ((v ≡ c) × (r ≡ busy) × (e ≡ d)) ⊎ (Recorded c v (act_of (commands_of c.device) cdb bytes) × SomeMore d e) =
    λ s. elim s [
      | inl same ↦ inl same
      | inr told ↦ elim told.1 [
        | inl stays ↦ inr (told.0, (0, none_more_is d e (ap last_number stays)))
        | inr moved ↦ inr (told.0, (records_of (errand_at c cdb), one_last c.device d (errand_at c cdb) moved.0 e moved.1))
      ]
    ] in
    by (settled c v n cdb bytes r d e (carried_one c.device d (errand_at c cdb)) (one_became c d v e n cdb bytes r l more names moves))

-- WITH TWO
pub two_settled : (c v : UnitView) (ds es : TwoDrives) (n : Nexus) (cdb bytes : List ℕ) (r : Reply) (l : ℕ) (more : List ℕ) → named (commands_of c.device) (drives_of c.device) cdb ≡ l ∷ more → MovesTwo c ds n cdb bytes ((v, r), es)
    → ((v ≡ c) × (r ≡ busy) × (es ≡ ds)) ⊎ (Recorded c v (act_of (commands_of c.device) cdb bytes) × NoneOrOne ds.low es.low × NoneOrOne ds.high es.high)
two_settled c v ds es n cdb bytes r l more names moves =
    let by : Settled c v (act_of (commands_of c.device) cdb bytes) r ds es (carried_two c.device ds (errand_at c cdb))
    → ((v ≡ c) × (r ≡ busy) × (es ≡ ds)) ⊎ (Recorded c v (act_of (commands_of c.device) cdb bytes) × NoneOrOne ds.low es.low × NoneOrOne ds.high es.high) =
    λ s. elim s [
      | inl same ↦ inl same
      | inr told ↦ elim told.1 [
        | inl stays ↦ inr (told.0, inl (ap (λ (x : TwoDrives). last_number x.low) stays), inl (ap (λ (x : TwoDrives). last_number x.high) stays))
        | inr moved ↦
            let b = two_last c.device ds (errand_at c cdb) moved.0 es moved.1 in
            inr (told.0, inr b.0, inr b.1)
      ]
    ] in
    by (settled c v n cdb bytes r ds es (carried_two c.device ds (errand_at c cdb)) (two_became c v ds es n cdb bytes r l more names moves))

-- WHAT THE CALL TELLS: no number and BUSY, or the changer's record
abbrev pub Told : (items : List (ℕ × ℕ)) → (c v : UnitView) → Act → Reply → Type 0
Told items c v act r = ((items ≡ []) × (r ≡ busy)) ⊎ Recorded c v act

pub recorded_kind : (items : List (ℕ × ℕ)) (c v : UnitView) (act : Act) (r : Reply) (records : List Record) (kind : Option ActKind) → Told items c v act r → records ≡ v.records
    → (items ≡ [] → kind ≡ None) → ((before : List Record) (last : Record) → records ≡ before ++ last ∷ [] → kind ≡ act_kind_if items (act_kind_of last.act)) → kind ≡ act_kind_if items (act_kind_of act)
recorded_kind items c v act r records kind (inl nothing) is none last = none nothing.0 ∙ ap (λ (ns : List (ℕ × ℕ)). act_kind_if ns (act_kind_of act)) (sym nothing.0)
recorded_kind items c v act r records kind (inr one) is none last = last c.records one.entry (is ∙ one.records) ∙ ap (λ (a : Act). act_kind_if items (act_kind_of a)) one.act

has_number : (c v : UnitView) (items others : List (ℕ × ℕ)) → last_number v ≡ last_number c + 1 → items ≡ numbers_of c v ++ others → items ≡ [] → ⊥
has_number c v items others more is none =
    let one : items ≡ (c.state.lun, last_number c + 1) ∷ others = is ∙ ap (λ (ns : List (ℕ × ℕ)). ns ++ others) (one_more c v more) in
    absurd cc

-- with one drive, by the numbers that the changer and the drive have more
pub record OneTold (c d v e : UnitView) (act : Act) (r : Reply) (items : List (ℕ × ℕ)) : Type 0 where
  pub changer : NoneOrOne c v
  pub drive : SomeMore d e
  pub told : Told items c v act r
  pub unnumbered : items ≡ [] → r ≡ busy

pub one_told : (c d v e : UnitView) (act : Act) (r : Reply) (items : List (ℕ × ℕ)) → ((v ≡ c) × (r ≡ busy) × (e ≡ d)) ⊎ (Recorded c v act × SomeMore d e)
    → items ≡ numbers_of c v ++ numbers_of d e → OneTold c d v e act r items
one_told c d v e act r items (inl same) is =
    let none : items ≡ [] = is ∙ ap (λ (ns : List (ℕ × ℕ)). ns ++ numbers_of d e) (none_more c v (ap last_number same.0)) ∙ none_more d e (ap last_number same.2) in
    record { changer = inl (ap last_number same.0); drive = (0, none_more_is d e (ap last_number same.2)); told = inl (none, same.1); unnumbered = λ _. same.1 }
one_told c d v e act r items (inr more) is =
    record { changer = inr more.0.last; drive = more.1; told = inr more.0; unnumbered = λ none. absurd (has_number c v items (numbers_of d e) more.0.last is none) }

-- with two
pub record TwoTold (c v : UnitView) (ds es : TwoDrives) (act : Act) (r : Reply) (items : List (ℕ × ℕ)) : Type 0 where
  pub changer : NoneOrOne c v
  pub low : NoneOrOne ds.low es.low
  pub high : NoneOrOne ds.high es.high
  pub told : Told items c v act r
  pub unnumbered : items ≡ [] → r ≡ busy

pub two_told : (c v : UnitView) (ds es : TwoDrives) (act : Act) (r : Reply) (items : List (ℕ × ℕ))
    → ((v ≡ c) × (r ≡ busy) × (es ≡ ds)) ⊎ (Recorded c v act × NoneOrOne ds.low es.low × NoneOrOne ds.high es.high)
    → items ≡ numbers_of c v ++ numbers_of ds.low es.low ++ numbers_of ds.high es.high → TwoTold c v ds es act r items
two_told c v ds es act r items (inl same) is =
    let low = ap (λ (x : TwoDrives). last_number x.low) same.2 in
    let high = ap (λ (x : TwoDrives). last_number x.high) same.2 in
    let none : items ≡ [] = is ∙ ap (λ (ns : List (ℕ × ℕ)). ns ++ numbers_of ds.low es.low ++ numbers_of ds.high es.high) (none_more c v (ap last_number same.0))
    ∙ ap (λ (ns : List (ℕ × ℕ)). ns ++ numbers_of ds.high es.high) (none_more ds.low es.low low) ∙ none_more ds.high es.high high in
    record { changer = inl (ap last_number same.0); low = inl low; high = inl high; told = inl (none, same.1); unnumbered = λ _. same.1 }
two_told c v ds es act r items (inr more) is =
    record {
      changer = inr more.0.last;
      low = more.1;
      high = more.2;
      told = inr more.0;
      unnumbered = λ none. absurd (has_number c v items (numbers_of ds.low es.low ++ numbers_of ds.high es.high) more.0.last (is ∙ append_assoc (numbers_of c v) (numbers_of ds.low es.low) (numbers_of ds.high es.high)) none);
    }
