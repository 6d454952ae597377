-- The rows of runs with commands struck out: each step is computed, and the laws say how the runs end.
use Rattle.std.proofs.Common.{◌≡◌, ◌≢◌, ℕ, zero, suc, ◌+◌, ◌^◌, Bool, true, false, not, ◌==◌, List, [], ◌∷◌, length, Option, Some, None, inl, inr, refl, ap, ◌∙◌, subst, is_none, replicate, arith}
use Rattle.std.proofs.lemmas.Bool.{ltb-true}
use Rattle.std.specs.Prelude.{slice_get, if◌then◌else◌}
use Rattle.std.specs.Global.{Vec}
use Rattle.scsi_cdb.specs.Commands as cdb
use Rattle.scsi_nexus.specs.declared.nexus.Nexus.{Nexus}
use Rattle.scsi_nexus.specs.Order.{same_nexus}
use Rattle.scsi_sense.specs.declared.sense.Sense.{Sense}
use Rattle.scsi_sense.specs.declared.status.Status.TheVariants.{Good, Busy, ReservationConflict}
use Rattle.permit_tables.specs.declared.res_type.ResType.{ResType}
use Rattle.scsi_cdb.specs.declared.service_action.OutServiceAction.TheVariants as out
use Rattle.permit_tables.specs.declared.out_params.OutParams.{OutParams}
use Rattle.pr_core.specs.State.{keys_after, is_registered}
use Rattle.pr_core.proofs.KeyLaws.{key_in-put}
use Rattle.tape_medium.specs.Elements.{empty_elements}
use Rattle.tape_medium.specs.declared.volume.VolumeTag.{VolumeTag}
use Rattle.device_server.specs.HostChanger.{spec_changer}
use Rattle.device_server.specs.View.{DeviceView, Drive, Changer, profile_of}
use Rattle.judgement.specs.declared.reply.Reply.{Reply}
use Rattle.logical_unit.specs.Step.{Executes, answered, loses}
use Rattle.logical_unit.specs.UnitView.{UnitView, last_number}
use Rattle.target_core.proofs.Places.{same_some}
use Rattle.target_core.specs.declared.event.Event.{Event}
use Rattle.target_core.specs.Run.{AtUnit}
use Rattle.protected_span.specs.Reached.{IsReached}
use Rattle.protected_span.specs.Rows.{a, b, asks}
use Rattle.protected_span.specs.Span.{is_the_holder, Holds, IsFair, HolderStep, IsSharedBy, GroupStep, IsHolderSpan, IsGroupSpan}
use Rattle.protected_span.specs.Struck.{struck, RunsThrough, IsServed, InSpan, Goes}
use Rattle.protected_span.specs.StruckRows.{changer, drive, units, shared_by_a, shared_drive, shared_units, write, unload, ready, lost, row, ends, told, power_on, replies, struck_replies, WorkedRuns, WorkedGroupRuns, NoSteps, SameReplies, ToldAlike, EndingAlike}
use Rattle.protected_span.proofs.Reaching.{power_on_is_reached}
use Rattle.protected_span.proofs.Spans.{ends_alike}
use Rattle.protected_span.proofs.Theorems as laws

-- A STEP of a span, of a changer and a drive, by what is kept at the drive
in_span : (Kept : UnitView → Type 0) (May : Nexus → (cdb bytes : List ℕ) → UnitView → UnitView → Type 0) (c d u v : UnitView) (e : Event) (r : Reply) → r.status ≢ Busy → Goes 1 Kept May e u v
    → InSpan 1 Kept May (c ∷ u ∷ []) e r (d ∷ v ∷ [])
in_span Kept May c d u v e r free goes = record {
  served = free;
  goes = λ x y here there.
      subst (λ (w : UnitView). Goes 1 Kept May e w y) (same_some u x here) (subst (λ (w : UnitView). Goes 1 Kept May e u w) (same_some v y there) goes);
}

-- WHERE THE RUNS LEAD: the changer, and a drive after B's WRITE(6), after A's LOAD UNLOAD, and in the end; and without the WRITE(6)
abbrev changer_last : Vec ℕ → UnitView
changer_last bytes = (answered changer b (replicate 6 0) bytes.items).0

abbrev after_write : UnitView → Vec ℕ → UnitView
after_write u bytes = (answered u b (0x0A ∷ 0 ∷ 0 ∷ 0 ∷ 2 ∷ 0 ∷ []) bytes.items).0

abbrev after_unload : UnitView → Vec ℕ → UnitView
after_unload u bytes = (answered u a (0x1B ∷ replicate 5 0) bytes.items).0

abbrev drive_last : UnitView → Vec ℕ → UnitView
drive_last u bytes = loses (after_unload (after_write u bytes) bytes) b

abbrev struck_last : UnitView → Vec ℕ → UnitView
struck_last u bytes = loses (after_unload u bytes) b

-- THE UNITS ARE REACHED: A registered and reserved
abbrev registers : OutParams
registers = record asks { rk = 0; sark = 1; act = out.Register; scope_type = 0 }

abbrev reserves : ℕ → OutParams
reserves code = record asks { rk = 1; sark = 0; act = out.Reserve; scope_type = code }

reached : (tag : VolumeTag) (lun : ℕ) (u : UnitView) → slice_get (units tag) lun ≡ Some u → IsReached u
unfolding keys_after
reached tag zero u here = subst IsReached (same_some changer u here) (power_on_is_reached (Changer (spec_changer (empty_elements 1 8 0))) 0 2 0)
reached tag (suc zero) u here =
    subst IsReached (same_some (drive tag) u here) (record { commands = (a, registers) ∷ (a, reserves 3) ∷ []; reservations = refl; sorted = tt; few = omega arith })
reached tag (suc (suc k)) u here = cc

shared_reached : (tag : VolumeTag) (lun : ℕ) (u : UnitView) → slice_get (shared_units tag) lun ≡ Some u → IsReached u
unfolding keys_after
shared_reached tag zero u here = subst IsReached (same_some changer u here) (power_on_is_reached (Changer (spec_changer (empty_elements 1 8 0))) 0 2 0)
shared_reached tag (suc zero) u here =
    subst IsReached (same_some (shared_drive tag) u here) (record { commands = (a, registers) ∷ (a, reserves 6) ∷ []; reservations = refl; sorted = tt; few = omega arith })
shared_reached tag (suc (suc k)) u here = cc

-- a group in which A alone is
chosen : (b : Bool) → not ((if b then 1 else 0) == 0) ≡ b
chosen true = refl
chosen false = refl

only_a : (n : Nexus) → is_registered shared_by_a n ≡ same_nexus n a
only_a n = ap (λ (k : ℕ). not (k == 0)) (key_in-put [] a 1 n) ∙ chosen (same_nexus n a)

shared : IsSharedBy (is_the_holder a) shared_by_a
shared = record { held = inl refl; registered = only_a }

abbrev Shared : UnitView → Type 0
Shared v = IsSharedBy (is_the_holder a) v.state.reservations

abbrev Any : Nexus → (cdb bytes : List ℕ) → UnitView → UnitView → Type 0
Any n cdb bytes u v = Unit {0}

-- THE RUNS
span_run : (tag : VolumeTag) (bytes : Vec ℕ) → RunsThrough (HolderStep 1 a) (units tag) (row bytes) replies (changer_last bytes ∷ drive_last (drive tag) bytes ∷ [])
unfolding cdb.command_of profile_of keys_after
span_run tag bytes =
    let u = drive tag in
    let u1 = after_write u bytes in
    let u2 = after_unload u1 bytes in
    let u3 = loses u2 b in
    let c1 = changer_last bytes in (
      changer ∷ u1 ∷ [],
      record { unit = u1; step = inr (refl, ltb-true (last_number u + 1) (2 ^ 64) refl, refl); units = refl },
      in_span (Holds a) (IsFair a) changer changer u u1 (write bytes) (ends ReservationConflict 1) (λ h. cc) (refl, λ at. record { own = λ is. absurd cc; others = λ no. refl }),
      (
        changer ∷ u2 ∷ [],
        record { unit = u2; step = inr (refl, ltb-true (last_number u1 + 1) (2 ^ 64) refl, refl); units = refl },
        in_span (Holds a) (IsFair a) changer changer u1 u2 (unload bytes) (ends Good 2) (λ h. cc) (refl, λ at. record { own = λ is. tt; others = λ no. absurd cc }),
        (
          c1 ∷ u2 ∷ [],
          record { unit = c1; step = inr (refl, ltb-true (last_number changer + 1) (2 ^ 64) refl, refl); units = refl },
          in_span (Holds a) (IsFair a) changer c1 u2 u2 (ready bytes) (told power_on 1) (λ h. cc) (refl, λ at. absurd cc),
          (
            c1 ∷ u3 ∷ [],
            record { unit = u3; step = inr (Some 3, (ltb-true (last_number u2 + 1) (2 ^ 64) refl, refl), refl); units = refl },
            in_span (Holds a) (IsFair a) c1 c1 u2 u3 lost (ends Good 3) (λ h. cc) refl,
            refl,
          ),
        ),
      ),
    )

group_run : (tag : VolumeTag) (bytes : Vec ℕ) → RunsThrough (GroupStep 1 (is_the_holder a)) (shared_units tag) (row bytes) replies (changer_last bytes ∷ drive_last (shared_drive tag) bytes ∷ [])
unfolding cdb.command_of profile_of keys_after
group_run tag bytes =
    let u = shared_drive tag in
    let u1 = after_write u bytes in
    let u2 = after_unload u1 bytes in
    let u3 = loses u2 b in
    let c1 = changer_last bytes in (
      changer ∷ u1 ∷ [],
      record { unit = u1; step = inr (refl, ltb-true (last_number u + 1) (2 ^ 64) refl, refl); units = refl },
      in_span Shared Any changer changer u u1 (write bytes) (ends ReservationConflict 1) (λ h. cc) (shared, λ at. tt),
      (
        changer ∷ u2 ∷ [],
        record { unit = u2; step = inr (refl, ltb-true (last_number u1 + 1) (2 ^ 64) refl, refl); units = refl },
        in_span Shared Any changer changer u1 u2 (unload bytes) (ends Good 2) (λ h. cc) (shared, λ at. tt),
        (
          c1 ∷ u2 ∷ [],
          record { unit = c1; step = inr (refl, ltb-true (last_number changer + 1) (2 ^ 64) refl, refl); units = refl },
          in_span Shared Any changer c1 u2 u2 (ready bytes) (told power_on 1) (λ h. cc) (shared, λ at. tt),
          (
            c1 ∷ u3 ∷ [],
            record { unit = u3; step = inr (Some 3, (ltb-true (last_number u2 + 1) (2 ^ 64) refl, refl), refl); units = refl },
            in_span Shared Any c1 c1 u2 u3 lost (ends Good 3) (λ h. cc) shared,
            refl,
          ),
        ),
      ),
    )

struck_run : (tag : VolumeTag) (bytes : Vec ℕ) → RunsThrough IsServed (units tag) (struck 1 (is_the_holder a) (row bytes)) struck_replies (changer_last bytes ∷ struck_last (drive tag) bytes ∷ [])
unfolding cdb.command_of profile_of keys_after
struck_run tag bytes =
    let u = drive tag in
    let u1 = after_unload u bytes in
    let u2 = loses u1 b in
    let c1 = changer_last bytes in (
      changer ∷ u1 ∷ [],
      record { unit = u1; step = inr (refl, ltb-true (last_number u + 1) (2 ^ 64) refl, refl); units = refl },
      λ h. cc,
      (
        c1 ∷ u1 ∷ [],
        record { unit = c1; step = inr (refl, ltb-true (last_number changer + 1) (2 ^ 64) refl, refl); units = refl },
        λ h. cc,
        (
          c1 ∷ u2 ∷ [],
          record { unit = u2; step = inr (Some 2, (ltb-true (last_number u1 + 1) (2 ^ 64) refl, refl), refl); units = refl },
          λ h. cc,
          refl,
        ),
      ),
    )

struck_group_run : (tag : VolumeTag) (bytes : Vec ℕ) → RunsThrough IsServed (shared_units tag) (struck 1 (is_the_holder a) (row bytes)) struck_replies (changer_last bytes ∷ struck_last (shared_drive tag) bytes ∷ [])
unfolding cdb.command_of profile_of keys_after
struck_group_run tag bytes =
    let u = shared_drive tag in
    let u1 = after_unload u bytes in
    let u2 = loses u1 b in
    let c1 = changer_last bytes in (
      changer ∷ u1 ∷ [],
      record { unit = u1; step = inr (refl, ltb-true (last_number u + 1) (2 ^ 64) refl, refl); units = refl },
      λ h. cc,
      (
        c1 ∷ u1 ∷ [],
        record { unit = c1; step = inr (refl, ltb-true (last_number changer + 1) (2 ^ 64) refl, refl); units = refl },
        λ h. cc,
        (
          c1 ∷ u2 ∷ [],
          record { unit = u2; step = inr (Some 2, (ltb-true (last_number u1 + 1) (2 ^ 64) refl, refl), refl); units = refl },
          λ h. cc,
          refl,
        ),
      ),
    )

span : (tag : VolumeTag) (bytes : Vec ℕ) → IsHolderSpan 1 a (units tag) (drive tag) (row bytes) replies (changer_last bytes ∷ drive_last (drive tag) bytes ∷ [])
span tag bytes = record { reached = reached tag; place = refl; begins = record { holds = refl; alone = refl }; run = span_run tag bytes }

group_span : (tag : VolumeTag) (bytes : Vec ℕ) → IsGroupSpan 1 (is_the_holder a) (shared_units tag) (shared_drive tag) (row bytes) replies (changer_last bytes ∷ drive_last (shared_drive tag) bytes ∷ [])
group_span tag bytes = record { reached = shared_reached tag; place = refl; begins = record { shared = shared; alone = refl }; run = group_run tag bytes }

pub worked_runs : (tag : VolumeTag) (bytes : Vec ℕ) → WorkedRuns tag bytes
unfolding cdb.command_of profile_of keys_after
worked_runs tag bytes =
    let u = drive tag in
    let c1 = changer_last bytes in
    let last = drive_last u bytes in
    let struck_last = struck_last u bytes in
    let alike = laws.holder_span (units tag) (c1 ∷ last ∷ []) (c1 ∷ struck_last ∷ []) (row bytes) replies struck_replies 1 a u (span tag bytes) (struck_run tag bytes) in record {
      changer_last = c1;
      last = last;
      struck_last = struck_last;
      span = span tag bytes;
      struck = struck_run tag bytes;
      serves = (laws.spans_serve (units tag) (c1 ∷ last ∷ []) (row bytes) replies 1 u).0 a (span tag bytes);
      device = refl;
      struck_device = refl;
      ends = alike.0;
      tells = alike.1;
    }

pub worked_group_runs : (tag : VolumeTag) (bytes : Vec ℕ) → WorkedGroupRuns tag bytes
unfolding cdb.command_of profile_of keys_after
worked_group_runs tag bytes =
    let u = shared_drive tag in
    let c1 = changer_last bytes in
    let last = drive_last u bytes in
    let struck_last = struck_last u bytes in
    let alike = laws.group_span (shared_units tag) (c1 ∷ last ∷ []) (c1 ∷ struck_last ∷ []) (row bytes) replies struck_replies 1 (is_the_holder a) u (group_span tag bytes) (struck_group_run tag bytes) in record {
      changer_last = c1;
      last = last;
      struck_last = struck_last;
      span = group_span tag bytes;
      struck = struck_group_run tag bytes;
      serves = (laws.spans_serve (shared_units tag) (c1 ∷ last ∷ []) (row bytes) replies 1 u).1 (is_the_holder a) (group_span tag bytes);
      device = refl;
      struck_device = refl;
      ends = alike.0;
      tells = alike.1;
    }

-- WHAT IS NO STEP

-- whether A has a reservation
abbrev by_a : Option (ResType × Nexus) → Bool
by_a None = false
by_a (Some r) = same_nexus r.1 a

-- B's WRITE(6) isn't GOOD
not_good : (tag : VolumeTag) (bytes : Vec ℕ) (vs : List UnitView) → RunsThrough IsServed (units tag) (write bytes ∷ []) (ends Good 1 ∷ []) vs → ⊥
unfolding cdb.command_of profile_of keys_after
not_good tag bytes vs run =
    let at : AtUnit (units tag) 1 (Executes (drive tag) b (0x0A ∷ 0 ∷ 0 ∷ 0 ∷ 2 ∷ 0 ∷ []) bytes.items) (run.0, ends Good 1) = run.1 in
    elim at.step [
      | inl e ↦ let is = ap (λ (x : UnitView × Reply). x.1.status) e in cc
      | inr e ↦ let is = ap (λ (x : UnitView × Reply). x.1.status) e.2 in cc
    ]

pub no_steps : (tag : VolumeTag) (bytes : Vec ℕ) → NoSteps tag bytes
no_steps tag bytes = record {
  step = in_span (Holds a) (IsFair a) changer changer (drive tag) (drive tag) (write bytes) (ends ReservationConflict 1) (λ h. cc) (refl, λ at. record { own = λ is. absurd cc; others = λ no. refl });
  busy = λ s. s.served refl;
  released = λ s. let e = (s.goes _ _ refl refl).0 in cc;
  moved = λ s. let e : false ≡ true = ap by_a (s.goes _ _ refl refl).0 in cc;
  another_key = λ s. let e : 9 ≡ 1 = ((s.goes _ _ refl refl).1 refl).others refl in omega arith;
  shared_step = in_span Shared Any changer changer (shared_drive tag) (shared_drive tag) (write bytes) (ends ReservationConflict 1) (λ h. cc) (shared, λ at. tt);
  shared_busy = λ s. s.served refl;
  shared_released = λ s. elim (s.goes _ _ refl refl).0.held [ inl e ↦ cc | inr e ↦ cc ];
  one_more = λ s. let e : true ≡ false = (s.goes _ _ refl refl).0.registered b in cc;
  served = λ h. cc;
  unserved = λ free. free refl;
  good = not_good tag bytes;
  too_few = λ vs run. run;
  too_many = λ vs run. run;
}

-- THE SAME REPLY, AND TOLD ALIKE
abbrev qualifier_in : Option Sense → ℕ
qualifier_in None = 0
qualifier_in (Some sense) = sense.ascq

abbrev first_in : List ℕ → ℕ
first_in [] = 0
first_in (byte ∷ bytes) = byte

pub same_replies : SameReplies
same_replies = record {
  same = record { status = refl; sense = refl; payload = λ _. refl; number = λ _. refl };
  status = λ s. let e = s.status in cc;
  sense = λ s. let e : 0 ≡ 7 = ap qualifier_in s.sense in omega arith;
  no_sense = λ s. let e : false ≡ true = ap is_none s.sense in cc;
  payload = λ s. let e : 7 ≡ 8 = ap first_in (s.payload refl) in omega arith;
  longer = λ s. let e : 1 ≡ 2 = ap length (s.payload refl) in omega arith;
  any_payload = record { status = refl; sense = refl; payload = λ no. absurd cc; number = λ _. refl };
  number = λ s. let e : 3 ≡ 4 = s.number refl in omega arith;
  any_number = record { status = refl; sense = refl; payload = λ _. refl; number = λ no. absurd cc };
}

pub told_alike : (bytes : Vec ℕ) → ToldAlike bytes
unfolding cdb.command_of profile_of
told_alike bytes = record {
  another_number = (
    record { status = refl; sense = refl; payload = λ _. refl; number = λ no. absurd cc },
    (
      record { status = refl; sense = refl; payload = λ _. refl; number = λ _. refl },
      (record { status = refl; sense = refl; payload = λ _. refl; number = λ no. absurd cc }, tt),
    ),
  );
  another_status = λ t. let e = t.0.status in cc;
  another_payload = λ t. let e : 0 ≡ 1 = ap length (t.0.payload refl) in omega arith;
  another_sense = λ t. let e : 0 ≡ 7 = ap qualifier_in t.1.0.sense in omega arith;
  elsewhere_another_number = λ t. let e : 1 ≡ 2 = t.1.0.number refl in omega arith;
  loss_refused = λ t. let e = t.1.1.0.status in cc;
  one_missing = λ t. t.1.1;
  one_more = λ t. let e = t.0.status in cc;
}

-- ENDING ALIKE
abbrev is_loaded_in : DeviceView → Bool
is_loaded_in (Drive d) = d.loaded
is_loaded_in (Changer e) = false

abbrev count_in : DeviceView → ℕ
count_in (Drive d) = 0
count_in (Changer c) = length c.elements.storage + length c.elements.import_export

abbrev count_at : Option UnitView → ℕ
count_at None = 0
count_at (Some u) = count_in u.device

abbrev slots_at : Option UnitView → ℕ
slots_at None = 0
slots_at (Some u) = length u.state.slots

beside : (c d e : UnitView) (k : ℕ) → 1 ≢ k → slice_get (c ∷ d ∷ []) k ≡ slice_get (c ∷ e ∷ []) k
beside c d e zero apart = refl
beside c d e (suc zero) apart = absurd (apart refl)
beside c d e (suc (suc k)) apart = refl

pub ending_alike : (tag : VolumeTag) → EndingAlike tag
ending_alike tag = record {
  same = ends_alike 1 _ _ (drive tag) (drive tag) refl refl refl (λ k apart. refl);
  another_registration = ends_alike 1 _ _ (drive tag) (shared_drive tag) refl refl refl (beside changer (drive tag) (shared_drive tag));
  another_device = λ x. let e : true ≡ false = ap is_loaded_in (x.device _ _ refl refl) in cc;
  another_changer = λ x. let e : 8 ≡ 9 = ap count_at (x.others 0 (λ e. omega (arith, e))) in omega arith;
  told_changer = λ x. let e : 0 ≡ 1 = ap slots_at (x.others 0 (λ e. omega (arith, e))) in omega arith;
  one_more = λ x. let e = x.others 2 (λ e. omega (arith, e)) in cc;
}
