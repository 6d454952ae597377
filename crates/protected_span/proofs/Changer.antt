-- A command to the changer, at lists of units that are related at one place: with the drives that it names, at each of the places that it
-- touches.
use Rattle.std.proofs.Common.{◌≡◌, ◌≢◌, ℕ, zero, suc, Bool, true, false, not, ◌==◌, List, [], ◌∷◌, Option, Some, None, refl, sym, ap, ◌∙◌, subst, arith}
use Rattle.std.specs.Prelude.{slice_get, slice_set, if◌then◌else◌}
use Rattle.std.proofs.lemmas.Map.Views.{exact_unsigned_eq}
use Rattle.scsi_nexus.specs.declared.nexus.Nexus.{Nexus}
use Rattle.scsi_sense.specs.declared.status.Status.TheVariants.{Busy}
use Rattle.device_server.specs.View.{DeviceView, commands_of, drives_of}
use Rattle.device_server.proofs.SameDevice.{same_commands}
use Rattle.judgement.specs.declared.reply.Reply.{Reply}
use Rattle.logical_unit.specs.Move.{TwoDrives, errand_at, carried_one, carried_two, MovesOne, MovesTwo}
use Rattle.logical_unit.specs.Route.{named, records_of}
use Rattle.logical_unit.specs.Step.{Executes, HasNumber, HasNumbers}
use Rattle.logical_unit.specs.UnitView.{UnitView}
use Rattle.logical_unit.proofs.SameUnits.{one_same, two_same}
use Rattle.permit_tables.specs.Permission.{Changing, row_allows}
use Rattle.pr_core.specs.State.{res_type, role}
use Rattle.target_core.specs.Run.{AtUnit, AtDrive, AtDrives, MovesWith, MovesBetween, CommandsNaming, CommandsAt}
use Rattle.target_core.proofs.History.{get-set_same, get-set_other}
use Rattle.target_core.proofs.Ordered.{one_named, two_named}
use Rattle.target_laws.proofs.Parts.{set-same}
use Rattle.protected_span.specs.Struck.{SameReply}
use Rattle.protected_span.proofs.KeptByEachStep.{IsKeptAlong}
use Rattle.protected_span.proofs.Carry.{BothDrives, one_alike, two_alike}
use Rattle.protected_span.proofs.Ended.{Ended, ended_is, same_changer}
use Rattle.logical_unit.proofs.Outsiders.{alone_one, alone_two}
use Rattle.protected_span.proofs.Places.{Lists, At, BothAt, test_of, at_place, set_at, takes_at}
use Rattle.logical_unit.proofs.OutsiderLeavesContents.{barred}
use Rattle.protected_span.proofs.Units.{answers}

pub reply_same : (exact numbered : Bool) (r q : Reply) → r ≡ q → SameReply exact numbered r q
reply_same exact numbered r q e = record { status = ap (λ (x : Reply). x.status) e; sense = ap (λ (x : Reply). x.sense) e; payload = λ _. ap (λ (x : Reply). x.payload) e; number = λ _. ap (λ (x : Reply). x.number) e }

-- one unit, and one event that both runs have: who isn't answered BUSY is answered in one way
pub same_command : (w x y : UnitView) (n : Nexus) (cdb bytes : List ℕ) (r q : Reply) → r.status ≢ Busy → q.status ≢ Busy → Executes w n cdb bytes (x, r) → Executes w n cdb bytes (y, q) → (x ≡ y) × (r ≡ q)
same_command w x y n cdb bytes r q free loose e d =
    let a = answers w x n cdb bytes r free e in
    let b = answers w y n cdb bytes q loose d in
    (ap (λ (z : UnitView × Reply). z.0) (a ∙ sym b), ap (λ (z : UnitView × Reply). z.1) (a ∙ sym b))

-- the changer's place is no drive's
pub no_drive : (device : DeviceView) (cdb : List ℕ) (l : ℕ) → named (commands_of device) (drives_of device) cdb ≡ l ∷ [] → l ≢ 0
no_drive device cdb l names e = let w = one_named device cdb l names in absurd (omega (arith, w.0, e))

pub no_drives : (device : DeviceView) (cdb : List ℕ) (l m : ℕ) (more : List ℕ) → named (commands_of device) (drives_of device) cdb ≡ l ∷ m ∷ more → (l ≢ 0) × (m ≢ 0)
no_drives device cdb l m more names =
    let w = two_named device cdb l m more names in
    (λ e. absurd (omega (arith, w.0, e)), λ e. absurd (omega (arith, w.1, e)))

-- what a move that was struck out leaves: the changer's own answer, with the drives as they were
pub alone_at_one : (us ms : List UnitView) (l : ℕ) (c d : UnitView) (n : Nexus) (cdb bytes : List ℕ) (r : Reply) → slice_get us l ≡ Some d → l ≢ 0 → (a : AtDrive us l (MovesOne c d n cdb bytes) (ms, r))
    → Executes c n cdb bytes (a.changer, r) × (a.other ≡ d) → AtUnit us 0 (Executes c n cdb bytes) (ms, r)
alone_at_one us ms l c d n cdb bytes r there apart a alone = record {
  unit = a.changer;
  step = alone.0;
  units = a.units ∙ ap (slice_set (slice_set us 0 a.changer) l) alone.1 ∙ set-same (slice_set us 0 a.changer) l d (get-set_other us 0 l a.changer (λ e. apart (sym e)) ∙ there);
}

pub alone_at_two : (us ms : List UnitView) (l m : ℕ) (c : UnitView) (ds : TwoDrives) (n : Nexus) (cdb bytes : List ℕ) (r : Reply) → slice_get us l ≡ Some ds.low → slice_get us m ≡ Some ds.high → l ≢ 0 → m ≢ 0
    → (a : AtDrives us l m (MovesTwo c ds n cdb bytes) (ms, r)) → Executes c n cdb bytes (a.changer, r) × (a.drives ≡ ds) → AtUnit us 0 (Executes c n cdb bytes) (ms, r)
alone_at_two us ms l m c ds n cdb bytes r low high apart far a alone =
    let xs = slice_set us 0 a.changer in
    let first : slice_get xs l ≡ Some ds.low = get-set_other us 0 l a.changer (λ e. apart (sym e)) ∙ low in
    let second : slice_get xs m ≡ Some ds.high = get-set_other us 0 m a.changer (λ e. far (sym e)) ∙ high in
    record {
      unit = a.changer;
      step = alone.0;
      units =
          a.units
          ∙ ap (λ (x : TwoDrives). slice_set (slice_set xs l x.low) m x.high) alone.1
          ∙ ap (λ (ys : List UnitView). slice_set ys m ds.high) (set-same xs l ds.low first)
          ∙ set-same xs m ds.high second;
    }

-- OF A NEXUS THAT MAY NOT CHANGE what is there: its command to the changer ends there
module _ (c : UnitView) (n : Nexus) (closed : row_allows Changing (res_type c.state.reservations) (role c.state.reservations n) ≡ false) where
  alone_with : (us ms : List UnitView) (l : ℕ) (d : Option UnitView) (cdb bytes : List ℕ) (r : Reply) → slice_get us l ≡ d → named (commands_of c.device) (drives_of c.device) cdb ≡ l ∷ [] → MovesWith us c l d n cdb bytes (ms, r) → AtUnit us 0 (Executes c n cdb bytes) (ms, r)
  alone_with us ms l None cdb bytes r there names a = a
  alone_with us ms l (Some d) cdb bytes r there names a = alone_at_one us ms l c d n cdb bytes r there (no_drive c.device cdb l names) a (alone_one c d a.changer a.other n cdb bytes r l [] names closed a.step)

  alone_between : (us ms : List UnitView) (l m : ℕ) (more : List ℕ) (d e : Option UnitView) (cdb bytes : List ℕ) (r : Reply) → slice_get us l ≡ d → slice_get us m ≡ e → named (commands_of c.device) (drives_of c.device) cdb ≡ l ∷ m ∷ more
      → MovesBetween us c l m d e n cdb bytes (ms, r) → AtUnit us 0 (Executes c n cdb bytes) (ms, r)
  alone_between us ms l m more None e cdb bytes r there beside names a = a
  alone_between us ms l m more (Some d) None cdb bytes r there beside names a = a
  alone_between us ms l m more (Some d) (Some e) cdb bytes r there beside names a =
      let apart = no_drives c.device cdb l m more names in
      let ds : TwoDrives = record { low = d; high = e } in
      alone_at_two us ms l m c ds n cdb bytes r there beside apart.0 apart.1 a (alone_two c a.changer ds a.drives n cdb bytes r l (m ∷ more) names closed a.step)

  naming_alone : (us ms : List UnitView) (names : List ℕ) (cdb bytes : List ℕ) (r : Reply) → named (commands_of c.device) (drives_of c.device) cdb ≡ names → CommandsNaming us c names n cdb bytes (ms, r) → AtUnit us 0 (Executes c n cdb bytes) (ms, r)
  naming_alone us ms [] cdb bytes r names a = a
  naming_alone us ms (l ∷ []) cdb bytes r names a = alone_with us ms l (slice_get us l) cdb bytes r refl names a
  naming_alone us ms (l ∷ m ∷ more) cdb bytes r names a = alone_between us ms l m more (slice_get us l) (slice_get us m) cdb bytes r refl refl names a

  pub alone_at : (us ms : List UnitView) (at : ℕ) (cdb bytes : List ℕ) (r : Reply) → CommandsAt us at (Some c) n cdb bytes (ms, r) → AtUnit us at (Executes c n cdb bytes) (ms, r)
  alone_at us ms (suc k) cdb bytes r a = a
  alone_at us ms zero cdb bytes r a = naming_alone us ms (named (commands_of c.device) (drives_of c.device) cdb) cdb bytes r refl a

module _ (lun : ℕ) (inside : Nexus → Bool) (exact : Nexus → (cdb bytes : List ℕ) → Bool) (Kept : UnitView → Type 0) (May : Nexus → (cdb bytes : List ℕ) → UnitView → UnitView → Type 0) (Rel : UnitView → UnitView → Type 0)
    (along : IsKeptAlong inside exact Kept May Rel) where
  -- one more step of both, with replies alike
  pub record Stepped (ms ns : List UnitView) (ex num : Bool) (r q : Reply) : Type 0 where
    pub lists : Lists lun Rel ms ns
    pub reply : SameReply ex num r q

  -- what the span says of the unit at the place of a command, after it
  abbrev pub Goes : (us ms : List UnitView) (at : ℕ) → Nexus → (cdb bytes : List ℕ) → Type 0
  Goes us ms at n cdb bytes = (u v : UnitView) → slice_get us lun ≡ Some u → slice_get ms lun ≡ Some v → Kept v × ((at == lun) ≡ true → May n cdb bytes u v)

  -- two units at a place, with what they are at the one where that is the place
  pub looks_at : (k : ℕ) (x y : UnitView) → At lun Rel k x y → x.device ≡ y.device
  looks_at k x y a = elim (k == lun) as (λ b. (k == lun) ≡ b → x.device ≡ y.device) [ true ↦ λ e. along.looks x y (a.here e) | false ↦ λ e. ap (λ (u : UnitView). u.device) (a.away e) ] refl

  -- A COMMAND THAT NAMES NO DRIVE, at any place
  pub alone_both : (us ws ms ns : List UnitView) (at : ℕ) (x y : UnitView) (n : Nexus) (cdb bytes : List ℕ) (r q : Reply) → Lists lun Rel us ws → slice_get us at ≡ Some x → slice_get ws at ≡ Some y → ((at == lun) ≡ true → inside n ≡ true)
      → Goes us ms at n cdb bytes → r.status ≢ Busy → q.status ≢ Busy → AtUnit us at (Executes x n cdb bytes) (ms, r) → AtUnit ws at (Executes y n cdb bytes) (ns, q)
      → Stepped ms ns (if at == lun then exact n cdb bytes else true) (not (at == lun)) r q
  alone_both us ws ms ns at x y n cdb bytes r q l here there is goes free loose a b =
      let at_it = at_place lun Rel us ws at (Some x) (Some y) here there l in
      elim (at == lun) as (λ t. (at == lun) ≡ t → Stepped ms ns (if t then exact n cdb bytes else true) (not t) r q) [
        | true ↦ λ e.
            let same : at ≡ lun = exact_unsigned_eq at lun e in
            let after : slice_get ms lun ≡ Some a.unit = ap (λ (xs : List UnitView). slice_get xs lun) a.units ∙ ap (λ k. slice_get (slice_set us at a.unit) k) (sym same) ∙ get-set_same us at a.unit x here in
            let g = goes x a.unit (ap (slice_get us) (sym same) ∙ here) after in
            let k = along.keep x a.unit y b.unit n cdb bytes r q (is e) (at_it.here e) g.0 (g.1 e) free loose a.step b.step in
            record { lists = lists_of (set_at lun Rel us ws at a.unit b.unit l (record { here = λ _. k.0; away = λ no. barred (at == lun) e no })) a.units b.units; reply = k.1 }
        | false ↦ λ e.
            let one = same_command y a.unit b.unit n cdb bytes r q free loose (subst (λ (z : UnitView). Executes z n cdb bytes (a.unit, r)) (at_it.away e) a.step) b.step in
            record { lists = lists_of (set_at lun Rel us ws at a.unit b.unit l (record { here = λ yes. barred (at == lun) yes e; away = λ _. one.0 })) a.units b.units; reply = reply_same true true r q one.1 }
      ] refl
    where
      lists_of : {xs ys : List UnitView} → Lists lun Rel xs ys → ms ≡ xs → ns ≡ ys → Lists lun Rel ms ns
      lists_of {xs} {ys} h i j = subst (λ (zs : List UnitView). Lists lun Rel zs ns) (sym i) (subst (λ (zs : List UnitView). Lists lun Rel xs zs) (sym j) h)

  -- A MOVE WITH ONE DRIVE
  pub one_both : (us ws ms ns : List UnitView) (l : ℕ) (c g d o : UnitView) (n : Nexus) (cdb bytes : List ℕ) (r q : Reply) → Lists lun Rel us ws → slice_get us 0 ≡ Some c → slice_get ws 0 ≡ Some g → slice_get us l ≡ Some d → slice_get ws l ≡ Some o → named (commands_of c.device) (drives_of c.device) cdb ≡ l ∷ []
      → ((0 == lun) ≡ true → inside n ≡ true) → Goes us ms 0 n cdb bytes → r.status ≢ Busy → q.status ≢ Busy → AtDrive us l (MovesOne c d n cdb bytes) (ms, r) → AtDrive ws l (MovesOne g o n cdb bytes) (ns, q)
      → Stepped ms ns (if 0 == lun then exact n cdb bytes else true) (not (0 == lun)) r q
  one_both us ws ms ns l c g d o n cdb bytes r q lists first second low high names is goes free loose a b =
      let apart = no_drive c.device cdb l names in
      let changers = at_place lun Rel us ws 0 (Some c) (Some g) first second lists in
      let drives = at_place lun Rel us ws l (Some d) (Some o) low high lists in
      let x = ended_is c a.changer n cdb bytes r d a.other (carried_one c.device d (errand_at c cdb)) (HasNumbers d (records_of (errand_at c cdb))) free a.step in
      let y = ended_is g b.changer n cdb bytes q o b.other (carried_one g.device o (errand_at g cdb)) (HasNumbers o (records_of (errand_at g cdb))) loose b.step in
      elim (0 == lun) as (λ t. (0 == lun) ≡ t → Stepped ms ns (if t then exact n cdb bytes else true) (not t) r q) [
        | true ↦ λ e.
            let same : 0 ≡ lun = exact_unsigned_eq 0 lun e in
            let after : slice_get ms lun ≡ Some a.changer =
            ap (λ (xs : List UnitView). slice_get xs lun) a.units ∙ ap (λ k. slice_get (slice_set (slice_set us 0 a.changer) l a.other) k) (sym same) ∙ get-set_other (slice_set us 0 a.changer) l 0 a.other apart ∙ get-set_same us 0 a.changer c first in
            let go = goes c a.changer (ap (slice_get us) (sym same) ∙ first) after in
            let away : (l == lun) ≡ false = test_of l lun (λ p. apart (p ∙ sym same)) in
            let alike = along.looks c g (changers.here e) in
            let carried : carried_one c.device d (errand_at c cdb) ≡ carried_one g.device o (errand_at g cdb) =
            ap (λ (z : UnitView). carried_one c.device z (errand_at c cdb)) (drives.away away) ∙ ap (λ (z : DeviceView). carried_one z o (errand_at (record c { device = z }) cdb)) alike in
            let k = along.move_one c a.changer g b.changer n cdb bytes r q o a.other b.other (carried_one c.device d (errand_at c cdb)) (carried_one g.device o (errand_at g cdb)) (is e) (changers.here e) go.0 (go.1 e) (same_commands c.device a.changer.device (one_same c d a.changer a.other n cdb bytes r l [] names a.step).0.device) carried
            (subst (λ (z : UnitView). Ended c a.changer n cdb bytes r z a.other (carried_one c.device d (errand_at c cdb))) (drives.away away) x) y in
            record {
              lists = lists_of a b (record { here = λ _. k.0; away = λ no. barred (0 == lun) e no }) (record { here = λ yes. barred (l == lun) yes away; away = λ _. k.2 });
              reply = k.1;
            }
        | false ↦ λ e.
            let w = subst (λ (z : UnitView). Ended z a.changer n cdb bytes r d a.other (carried_one z.device d (errand_at z cdb))) (changers.away e) x in
            let alike = one_alike (At lun Rel l) (takes_at lun Rel l along.medium) g.device d o (errand_at g cdb) drives in
            let end = same_changer (At lun Rel l) g a.changer b.changer n cdb bytes r q d o a.other b.other (carried_one g.device d (errand_at g cdb)) (carried_one g.device o (errand_at g cdb)) drives alike w y in
            record {
              lists = lists_of a b (record { here = λ yes. barred (0 == lun) yes e; away = λ _. end.unit }) end.drives;
              reply = reply_same true true r q end.reply;
            }
      ] refl
    where
      lists_of : (a : AtDrive us l (MovesOne c d n cdb bytes) (ms, r)) (b : AtDrive ws l (MovesOne g o n cdb bytes) (ns, q)) → At lun Rel 0 a.changer b.changer → At lun Rel l a.other b.other → Lists lun Rel ms ns
      lists_of a b h k =
          subst (λ (zs : List UnitView). Lists lun Rel zs ns) (sym a.units) (subst (λ (zs : List UnitView). Lists lun Rel (slice_set (slice_set us 0 a.changer) l a.other) zs) (sym b.units)
          (set_at lun Rel (slice_set us 0 a.changer) (slice_set ws 0 b.changer) l a.other b.other (set_at lun Rel us ws 0 a.changer b.changer lists h) k))

  -- A MOVE WITH TWO
  pub two_both : (us ws ms ns : List UnitView) (l m : ℕ) (c g : UnitView) (ds os : TwoDrives) (n : Nexus) (cdb bytes : List ℕ) (r q : Reply) → Lists lun Rel us ws → slice_get us 0 ≡ Some c → slice_get ws 0 ≡ Some g
      → slice_get us l ≡ Some ds.low → slice_get ws l ≡ Some os.low → slice_get us m ≡ Some ds.high → slice_get ws m ≡ Some os.high → (more : List ℕ) → named (commands_of c.device) (drives_of c.device) cdb ≡ l ∷ m ∷ more
      → ((0 == lun) ≡ true → inside n ≡ true) → Goes us ms 0 n cdb bytes → r.status ≢ Busy → q.status ≢ Busy → AtDrives us l m (MovesTwo c ds n cdb bytes) (ms, r) → AtDrives ws l m (MovesTwo g os n cdb bytes) (ns, q)
      → Stepped ms ns (if 0 == lun then exact n cdb bytes else true) (not (0 == lun)) r q
  two_both us ws ms ns l m c g ds os n cdb bytes r q lists first second low low2 high high2 more names is goes free loose a b =
      let places = no_drives c.device cdb l m more names in
      let apart = places.0 in
      let far = places.1 in
      let changers = at_place lun Rel us ws 0 (Some c) (Some g) first second lists in
      let lows = at_place lun Rel us ws l (Some ds.low) (Some os.low) low low2 lists in
      let highs = at_place lun Rel us ws m (Some ds.high) (Some os.high) high high2 lists in
      let x = ended_is c a.changer n cdb bytes r ds a.drives (carried_two c.device ds (errand_at c cdb)) (HasNumber ds.low × HasNumber ds.high) free a.step in
      let y = ended_is g b.changer n cdb bytes q os b.drives (carried_two g.device os (errand_at g cdb)) (HasNumber os.low × HasNumber os.high) loose b.step in
      elim (0 == lun) as (λ t. (0 == lun) ≡ t → Stepped ms ns (if t then exact n cdb bytes else true) (not t) r q) [
        | true ↦ λ e.
            let same : 0 ≡ lun = exact_unsigned_eq 0 lun e in
            let xs = slice_set us 0 a.changer in
            let after : slice_get ms lun ≡ Some a.changer =
            ap (λ (zs : List UnitView). slice_get zs lun) a.units ∙ ap (λ k. slice_get (slice_set (slice_set xs l a.drives.low) m a.drives.high) k) (sym same)
            ∙ get-set_other (slice_set xs l a.drives.low) m 0 a.drives.high far ∙ get-set_other xs l 0 a.drives.low apart ∙ get-set_same us 0 a.changer c first in
            let go = goes c a.changer (ap (slice_get us) (sym same) ∙ first) after in
            let away : (l == lun) ≡ false = test_of l lun (λ p. apart (p ∙ sym same)) in
            let off : (m == lun) ≡ false = test_of m lun (λ p. far (p ∙ sym same)) in
            let pair : ds ≡ os = λ i. record { low = lows.away away i; high = highs.away off i } in
            let alike = along.looks c g (changers.here e) in
            let carried : carried_two c.device ds (errand_at c cdb) ≡ carried_two g.device os (errand_at g cdb) =
            ap (λ (z : TwoDrives). carried_two c.device z (errand_at c cdb)) pair ∙ ap (λ (z : DeviceView). carried_two z os (errand_at (record c { device = z }) cdb)) alike in
            let k = along.move_two c a.changer g b.changer n cdb bytes r q os a.drives b.drives (carried_two c.device ds (errand_at c cdb)) (carried_two g.device os (errand_at g cdb)) (is e) (changers.here e) go.0 (go.1 e) (same_commands c.device a.changer.device (two_same c a.changer ds a.drives n cdb bytes r l (m ∷ more) names a.step).0.device) carried
            (subst (λ (z : TwoDrives). Ended c a.changer n cdb bytes r z a.drives (carried_two c.device ds (errand_at c cdb))) pair x) y in
            record {
              lists = lists_of a b (record { here = λ _. k.0; away = λ no. barred (0 == lun) e no }) (record { here = λ yes. barred (l == lun) yes away; away = λ _. ap (λ (z : TwoDrives). z.low) k.2 })
                  (record { here = λ yes. barred (m == lun) yes off; away = λ _. ap (λ (z : TwoDrives). z.high) k.2 });
              reply = k.1;
            }
        | false ↦ λ e.
            let w = subst (λ (z : UnitView). Ended z a.changer n cdb bytes r ds a.drives (carried_two z.device ds (errand_at z cdb))) (changers.away e) x in
            let Q = BothDrives (At lun Rel l) (At lun Rel m) in
            let alike = two_alike (At lun Rel l) (At lun Rel m) (takes_at lun Rel l along.medium) (takes_at lun Rel m along.medium) g.device ds os (errand_at g cdb) (lows, highs) in
            let end = same_changer Q g a.changer b.changer n cdb bytes r q ds os a.drives b.drives (carried_two g.device ds (errand_at g cdb)) (carried_two g.device os (errand_at g cdb)) (lows, highs) alike w y in
            record {
              lists = lists_of a b (record { here = λ yes. barred (0 == lun) yes e; away = λ _. end.unit }) end.drives.0 end.drives.1;
              reply = reply_same true true r q end.reply;
            }
      ] refl
    where
      lists_of : (a : AtDrives us l m (MovesTwo c ds n cdb bytes) (ms, r)) (b : AtDrives ws l m (MovesTwo g os n cdb bytes) (ns, q)) → At lun Rel 0 a.changer b.changer → At lun Rel l a.drives.low b.drives.low → At lun Rel m a.drives.high b.drives.high
          → Lists lun Rel ms ns
      lists_of a b h k j =
          let xs = slice_set us 0 a.changer in
          let ys = slice_set ws 0 b.changer in
          subst (λ (zs : List UnitView). Lists lun Rel zs ns) (sym a.units) (subst (λ (zs : List UnitView). Lists lun Rel (slice_set (slice_set xs l a.drives.low) m a.drives.high) zs) (sym b.units)
          (set_at lun Rel (slice_set xs l a.drives.low) (slice_set ys l b.drives.low) m a.drives.high b.drives.high
          (set_at lun Rel xs ys l a.drives.low b.drives.low (set_at lun Rel us ws 0 a.changer b.changer lists h) k) j))

  -- BY THE DRIVES THAT ARE NAMED, which are there in both or in neither
  with_both : (us ws ms ns : List UnitView) (l : ℕ) (c g : UnitView) (d o : Option UnitView) (n : Nexus) (cdb bytes : List ℕ) (r q : Reply) → Lists lun Rel us ws → slice_get us 0 ≡ Some c → slice_get ws 0 ≡ Some g → slice_get us l ≡ d → slice_get ws l ≡ o → named (commands_of c.device) (drives_of c.device) cdb ≡ l ∷ []
      → ((0 == lun) ≡ true → inside n ≡ true) → Goes us ms 0 n cdb bytes → r.status ≢ Busy → q.status ≢ Busy → MovesWith us c l d n cdb bytes (ms, r) → MovesWith ws g l o n cdb bytes (ns, q)
      → Stepped ms ns (if 0 == lun then exact n cdb bytes else true) (not (0 == lun)) r q
  with_both us ws ms ns l c g None None n cdb bytes r q lists first second low high apart is goes free loose a b = alone_both us ws ms ns 0 c g n cdb bytes r q lists first second is goes free loose a b
  with_both us ws ms ns l c g (Some d) (Some o) n cdb bytes r q lists first second low high apart is goes free loose a b = one_both us ws ms ns l c g d o n cdb bytes r q lists first second low high apart is goes free loose a b
  with_both us ws ms ns l c g None (Some o) n cdb bytes r q lists first second low high apart is goes free loose a b = absurd (at_place lun Rel us ws l None (Some o) low high lists)
  with_both us ws ms ns l c g (Some d) None n cdb bytes r q lists first second low high apart is goes free loose a b = absurd (at_place lun Rel us ws l (Some d) None low high lists)

  between_both : (us ws ms ns : List UnitView) (l m : ℕ) (c g : UnitView) (d e o p : Option UnitView) (n : Nexus) (cdb bytes : List ℕ) (r q : Reply) → Lists lun Rel us ws → slice_get us 0 ≡ Some c → slice_get ws 0 ≡ Some g
      → slice_get us l ≡ d → slice_get us m ≡ e → slice_get ws l ≡ o → slice_get ws m ≡ p → BothAt lun Rel l d o → BothAt lun Rel m e p → (more : List ℕ) → named (commands_of c.device) (drives_of c.device) cdb ≡ l ∷ m ∷ more
      → ((0 == lun) ≡ true → inside n ≡ true) → Goes us ms 0 n cdb bytes → r.status ≢ Busy → q.status ≢ Busy → MovesBetween us c l m d e n cdb bytes (ms, r) → MovesBetween ws g l m o p n cdb bytes (ns, q)
      → Stepped ms ns (if 0 == lun then exact n cdb bytes else true) (not (0 == lun)) r q
  between_both us ws ms ns l m c g (Some d) (Some e) (Some o) (Some p) n cdb bytes r q lists first second low high low2 high2 lows highs more names is goes free loose a b =
      two_both us ws ms ns l m c g (record { low = d; high = e }) (record { low = o; high = p }) n cdb bytes r q lists first second low low2 high high2 more names is goes free loose a b
  between_both us ws ms ns l m c g None e None p n cdb bytes r q lists first second low high low2 high2 lows highs more names is goes free loose a b = alone_both us ws ms ns 0 c g n cdb bytes r q lists first second is goes free loose a b
  between_both us ws ms ns l m c g (Some d) None (Some o) None n cdb bytes r q lists first second low high low2 high2 lows highs more names is goes free loose a b = alone_both us ws ms ns 0 c g n cdb bytes r q lists first second is goes free loose a b
  between_both us ws ms ns l m c g None e (Some o) p n cdb bytes r q lists first second low high low2 high2 lows highs more names is goes free loose a b = absurd lows
  between_both us ws ms ns l m c g (Some d) e None p n cdb bytes r q lists first second low high low2 high2 lows highs more names is goes free loose a b = absurd lows
  between_both us ws ms ns l m c g (Some d) None (Some o) (Some p) n cdb bytes r q lists first second low high low2 high2 lows highs more names is goes free loose a b = absurd highs
  between_both us ws ms ns l m c g (Some d) (Some e) (Some o) None n cdb bytes r q lists first second low high low2 high2 lows highs more names is goes free loose a b = absurd highs

  pub naming_both : (us ws ms ns : List UnitView) (names : List ℕ) (c g : UnitView) (n : Nexus) (cdb bytes : List ℕ) (r q : Reply) → Lists lun Rel us ws → slice_get us 0 ≡ Some c → slice_get ws 0 ≡ Some g → named (commands_of c.device) (drives_of c.device) cdb ≡ names
      → ((0 == lun) ≡ true → inside n ≡ true) → Goes us ms 0 n cdb bytes → r.status ≢ Busy → q.status ≢ Busy → CommandsNaming us c names n cdb bytes (ms, r) → CommandsNaming ws g names n cdb bytes (ns, q)
      → Stepped ms ns (if 0 == lun then exact n cdb bytes else true) (not (0 == lun)) r q
  naming_both us ws ms ns [] c g n cdb bytes r q lists first second names is goes free loose a b = alone_both us ws ms ns 0 c g n cdb bytes r q lists first second is goes free loose a b
  naming_both us ws ms ns (l ∷ []) c g n cdb bytes r q lists first second names is goes free loose a b =
      with_both us ws ms ns l c g (slice_get us l) (slice_get ws l) n cdb bytes r q lists first second refl refl names is goes free loose a b
  naming_both us ws ms ns (l ∷ m ∷ more) c g n cdb bytes r q lists first second names is goes free loose a b =
      between_both us ws ms ns l m c g (slice_get us l) (slice_get us m) (slice_get ws l) (slice_get ws m) n cdb bytes r q lists first second refl refl refl refl
      (at_place lun Rel us ws l (slice_get us l) (slice_get ws l) refl refl lists) (at_place lun Rel us ws m (slice_get us m) (slice_get ws m) refl refl lists) more names is goes free loose a b
