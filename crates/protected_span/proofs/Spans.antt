-- The two spans.
use Rattle.std.proofs.Common.{◌≡◌, ◌≢◌, ℕ, Bool, true, false, not, List, [], ◌∷◌, Some, Result, Ok, inl, inr, refl, sym, ap, ◌∙◌, subst}
use Rattle.std.specs.Prelude.{slice_get, take, if◌then◌else◌}
use Rattle.scsi_cdb.specs.declared.profile.CommandSet.{CommandSet}
use Rattle.scsi_nexus.specs.declared.nexus.Nexus.{Nexus}
use Rattle.scsi_nexus.proofs.NexusLaws.{same_nexus-true}
use Rattle.scsi_sense.specs.declared.condition.Condition.{Condition}
use Rattle.scsi_sense.specs.declared.status.Status.TheVariants.{Busy}
use Rattle.permit_tables.specs.Permission.{is_allowed}
use Rattle.pr_core.specs.Targets.{targets}
use Rattle.pr_core.specs.Outcome.{applied}
use Rattle.pr_core.specs.State.{State, cell, res_type, role}
use Rattle.pr_core.specs.declared.verdict.Verdict.TheVariants.{Allowed, Denied}
use Rattle.unit_attention.specs.Queues.{has_slot}
use Rattle.device_server.specs.View.{commands_of, reset_of}
use Rattle.judgement.specs.declared.command.Command.{Command}
use Rattle.judgement.specs.declared.command.Command.TheVariants.{ReserveOut, ReserveIn, Inquiry, ReportLuns, RequestSense, Prevent, Device}
use Rattle.judgement.specs.declared.reply.Reply.{Reply}
use Rattle.judgement.specs.Commands.{decoded_command, class_of_command}
use Rattle.judgement.specs.Replies.{good}
use Rattle.judgement.specs.Readings.{verdict_of, status_data}
use Rattle.logical_unit.specs.Step.{Executes}
use Rattle.logical_unit.specs.UnitView.{UnitView}
use Rattle.logical_unit.proofs.History.{executes_stays}
use Rattle.device_server.proofs.SameDevice.{same_commands, reset_same}
use Rattle.target_core.proofs.Places.{same_some}
use Rattle.target_core.specs.declared.event.Event.{Event}
use Rattle.target_core.specs.Run.{Runs}
use Rattle.logical_unit.specs.Step.{IsLost, IsReset}
use Rattle.protected_span.specs.Span.{ConcernsItself, is_the_holder, MaySend, IsFair, is_read}
use Rattle.protected_span.specs.Struck.{SameReply, struck, RunsThrough, IsServed, InSpan, EndsAlike, is_exact, Tells}
use Rattle.protected_span.proofs.InsidersView.{Alike, Says, IsShared, IsTable, Hold, Begins}
use Rattle.protected_span.proofs.Changes.{Change, executes_changes, change_table}
use Rattle.protected_span.proofs.Holder as holder
use Rattle.protected_span.proofs.Holder.{SameHold}
use Rattle.protected_span.proofs.Group as group
use Rattle.protected_span.proofs.Units.{Beside, Fits, answers, strike_unit, both_units, judged_beside, loss_units, reset_units, loss_is, lost_device, reset_is}
use Rattle.std.specs.List.{list_all}
use Rattle.scsi_sense.specs.declared.condition.Condition.{Condition}
use Rattle.device_server.specs.View.{DeviceView, commands_of}
use Rattle.logical_unit.specs.Move.{judged_at, IsSameUnit}
use Rattle.protected_span.proofs.KeptByEachStep.{KeepsMoves, IsKeptAlong}
use Rattle.protected_span.proofs.Ended.{Ended, ended_changes, move_units, same_sense}
use Rattle.protected_span.proofs.Medium as medium
use Rattle.protected_span.proofs.StruckRuns.{runs_alike}

-- lists that are related at the unit end alike
pub ends_alike : (lun : ℕ) (vs ws : List UnitView) (f g : UnitView) → slice_get vs lun ≡ Some f → slice_get ws lun ≡ Some g → f.device ≡ g.device → ((k : ℕ) → lun ≢ k → slice_get vs k ≡ slice_get ws k) → EndsAlike lun vs ws
ends_alike lun vs ws f g here there device rest = record {
  device = λ v w e d. ap (λ (u : UnitView). u.device) (same_some v f (sym e ∙ here)) ∙ device ∙ ap (λ (u : UnitView). u.device) (same_some g w (sym there ∙ d));
  others = λ k apart. rest k (λ e. apart (sym e));
}

module _ (h : Nexus) (commands : CommandSet) where
  -- reservations that h sees alike, each with its table
  pub record Tables (v w : State) : Type 0 where
    pub same : SameHold h v w
    pub left : IsTable v
    pub right : IsTable w

  pub record Rel (f g : UnitView) : Type 0 where
    pub device : f.device ≡ g.device
    pub state : Alike (is_the_holder h) f.state g.state
    pub tables : Tables f.state.reservations g.state.reservations
    pub of_commands : commands_of f.device ≡ commands

  abbrev pub Kept : UnitView → Type 0
  Kept v = Hold h v.state.reservations

  abbrev pub exact : Nexus → (cdb bytes : List ℕ) → Bool
  exact n cdb bytes = not (is_read (decoded_command commands cdb bytes))

  pub strike : (f v g : UnitView) (n : Nexus) (cdb bytes : List ℕ) (r : Reply) → is_the_holder h n ≡ false → Rel f g → Kept v → IsFair h n cdb bytes f v → Executes f n cdb bytes (v, r) → Rel v g
  strike f v g n cdb bytes r isnt rel state may e =
      let held = rel.tables.same.holds in
      let at = strike_unit (is_the_holder h) f v g n cdb bytes r rel.device rel.state isnt (holder.shut_outside h f.state.reservations n held isnt) (Hold h) (λ p allowed good. holder.calm_outside h f.state.reservations n p held isnt good.holds) state e in
      record {
        device = at.0;
        state = at.1;
        tables = record {
          same = record { holds = state.holds; other = rel.tables.same.other; same_key = may.others isnt ∙ rel.tables.same.same_key; keyed = state.keyed };
          left = change_table f.state.reservations n v.state.reservations (executes_changes f v n cdb bytes r e) rel.tables.left;
          right = rel.tables.right;
        };
        of_commands = same_commands f.device v.device (executes_stays f v n cdb bytes r e).device ∙ rel.of_commands;
      }

  -- h is let through by the permission table at both
  let_both : (v w : State) (c : Command) → SameHold h v w → ((if is_allowed (class_of_command c) (res_type v) (role v h) then Allowed else Denied (cell v h (class_of_command c))) ≡ (if is_allowed (class_of_command c) (res_type w) (role w h) then Allowed else Denied (cell w h (class_of_command c))))
  let_both v w c s =
      ap (λ b. if b then Allowed else Denied (cell v h (class_of_command c))) (holder.allowed_itself h v (class_of_command c) s.holds)
      ∙ sym (ap (λ b. if b then Allowed else Denied (cell w h (class_of_command c))) (holder.allowed_itself h w (class_of_command c) s.other))

  some_ok : (a b : Command) → ◌≡◌ {A = Result Command Condition} (Ok a) (Ok b) → a ≡ b
  some_ok a b e = cc

  -- what h sends is taken alike
  pub fits : (f g : UnitView) (cdb bytes : List ℕ) (rel : Rel f g) (is : is_the_holder h h ≡ true) → MaySend h (decoded_command (commands_of f.device) cdb bytes)
      → Fits (is_the_holder h) f g h cdb bytes rel.state is (Hold h) (SameHold h) rel.tables.same (exact h cdb bytes)
  fits f g cdb bytes rel is may (ReserveOut p) e =
      let t = rel.tables in
      let mild : ConcernsItself h p.act (targets h p) = subst (MaySend h) e may in (
        holder.verdict_same h f.state.reservations g.state.reservations t.same t.left t.right p mild,
        (
          holder.agree h f.state.reservations g.state.reservations t.same t.left t.right p mild,
          λ good. holder.applied_same h f.state.reservations g.state.reservations t.same t.left t.right p mild good,
        ),
      )
  fits f g cdb bytes rel is may (ReserveIn a l) e = (
    let_both f.state.reservations g.state.reservations (ReserveIn a l) rel.tables.same,
    subst (λ (s : Result Command Condition). Says (not (is_read s)) (good (take l (status_data f.state.reservations a))) (good (take l (status_data g.state.reservations a)))) (sym (ap (λ k. decoded_command k cdb bytes) (sym rel.of_commands) ∙ e)) (record { status = refl; sense = refl }),
  )
  fits f g cdb bytes rel is may (Inquiry x y z) e = (let_both f.state.reservations g.state.reservations (Inquiry x y z) rel.tables.same, tt)
  fits f g cdb bytes rel is may (ReportLuns x y) e = (let_both f.state.reservations g.state.reservations (ReportLuns x y) rel.tables.same, tt)
  fits f g cdb bytes rel is may (RequestSense x y) e = (let_both f.state.reservations g.state.reservations (RequestSense x y) rel.tables.same, tt)
  fits f g cdb bytes rel is may (Prevent x) e = (let_both f.state.reservations g.state.reservations (Prevent x) rel.tables.same, tt)
  fits f g cdb bytes rel is may (Device x) e = (let_both f.state.reservations g.state.reservations (Device x) rel.tables.same, tt)

  keep_own : (f v g w : UnitView) (cdb bytes : List ℕ) (r q : Reply) → is_the_holder h h ≡ true → Rel f g → Kept v → IsFair h h cdb bytes f v → r.status ≢ Busy → q.status ≢ Busy
      → Executes f h cdb bytes (v, r) → Executes g h cdb bytes (w, q) → Rel v w × SameReply (exact h cdb bytes) false r q
  keep_own f v g w cdb bytes r q is rel state may free loose e d =
      let m = both_units (is_the_holder h) f v g w h cdb bytes r q rel.device rel.state is (Hold h) (SameHold h) rel.tables.same (exact h cdb bytes) (fits f g cdb bytes rel is (may.own is)) state free e (answers g w h cdb bytes q loose d) in (
        record {
          device = m.device;
          state = m.state;
          tables = record {
            same = m.reservations;
            left = change_table f.state.reservations h v.state.reservations (executes_changes f v h cdb bytes r e) rel.tables.left;
            right = change_table g.state.reservations h w.state.reservations (executes_changes g w h cdb bytes q d) rel.tables.right;
          };
          of_commands = same_commands f.device v.device (executes_stays f v h cdb bytes r e).device ∙ rel.of_commands;
        },
        m.reply,
      )

  pub keep : (f v g w : UnitView) (n : Nexus) (cdb bytes : List ℕ) (r q : Reply) → is_the_holder h n ≡ true → Rel f g → Kept v → IsFair h n cdb bytes f v → r.status ≢ Busy → q.status ≢ Busy
      → Executes f n cdb bytes (v, r) → Executes g n cdb bytes (w, q) → Rel v w × SameReply (exact n cdb bytes) false r q
  keep f v g w n cdb bytes r q is rel state may free loose e d =
      subst (λ (m : Nexus). is_the_holder h m ≡ true → IsFair h m cdb bytes f v → Executes f m cdb bytes (v, r) → Executes g m cdb bytes (w, q) → Rel v w × SameReply (exact m cdb bytes) false r q) (sym (same_nexus-true n h is))
      (λ yes fair x y. keep_own f v g w cdb bytes r q yes rel state fair free loose x y) is may e d

  pub lose : (f v g w : UnitView) (n : Nexus) (r q : Reply) → Rel f g → Kept v → r.status ≢ Busy → q.status ≢ Busy → IsLost f n (v, r) → IsLost g n (w, q) → Rel v w × SameReply true false r q
  lose f v g w n r q rel state free loose e d =
      let m = loss_units (is_the_holder h) f v g w n r q rel.device rel.state Tables rel.tables free loose e d in
      let x = loss_is (is_the_holder h) f v n r free e in
      (record { device = m.device; state = m.state; tables = m.reservations; of_commands = ap (λ (u : UnitView). commands_of u.device) x.0 ∙ ap commands_of (lost_device (is_the_holder h) f n (has_slot f.state.slots n)) ∙ rel.of_commands }, m.reply)

  pub reset : (f v g w : UnitView) (r q : Reply) → Rel f g → Kept v → r.status ≢ Busy → q.status ≢ Busy → IsReset f (v, r) → IsReset g (w, q) → Rel v w × SameReply true false r q
  reset f v g w r q rel state free loose e d =
      let m = reset_units (is_the_holder h) f v g w r q rel.device rel.state Tables rel.tables free loose e d in
      let x = reset_is (is_the_holder h) f v r free e in
      (record { device = m.device; state = m.state; tables = m.reservations; of_commands = ap (λ (u : UnitView). commands_of u.device) x.0 ∙ same_commands f.device (reset_of f.device) (reset_same f.device) ∙ rel.of_commands }, m.reply)

  -- a move at two changers
  beside_own : (f v g : UnitView) (cdb bytes : List ℕ) (is : is_the_holder h h ≡ true) (rel : Rel f g) → IsFair h h cdb bytes f v → Beside (is_the_holder h) (Hold h) (SameHold h) (exact h cdb bytes) (judged_at f h cdb bytes) (judged_at g h cdb bytes)
  beside_own f v g cdb bytes is rel may = judged_beside (is_the_holder h) f g h cdb bytes rel.device rel.state is (Hold h) (SameHold h) rel.tables.same (exact h cdb bytes) (fits f g cdb bytes rel is (may.own is))

  move_own : {A : Type 0} (f v g w : UnitView) (cdb bytes : List ℕ) (r q : Reply) (drives after other : A) (x y : Result (DeviceView × A) Condition) → is_the_holder h h ≡ true → Rel f g → Kept v → IsFair h h cdb bytes f v
      → commands_of v.device ≡ commands_of f.device → x ≡ y → Ended f v h cdb bytes r drives after x → Ended g w h cdb bytes q drives other y → Rel v w × SameReply (exact h cdb bytes) false r q × (after ≡ other)
  move_own f v g w cdb bytes r q drives after other x y is rel state may same_had same e d =
      let m = move_units (is_the_holder h) (Hold h) (SameHold h) (exact h cdb bytes) f v g w h cdb bytes r q drives after other x y state (beside_own f v g cdb bytes is rel may) same e d in (
        record {
          device = m.0.device;
          state = m.0.state;
          tables = record {
            same = m.0.reservations;
            left = change_table f.state.reservations h v.state.reservations (ended_changes f v h cdb bytes r drives after x e) rel.tables.left;
            right = change_table g.state.reservations h w.state.reservations (ended_changes g w h cdb bytes q drives other y d) rel.tables.right;
          };
          of_commands = same_had ∙ rel.of_commands;
        },
        m.0.reply,
        m.1,
      )

  move : {A : Type 0} → KeepsMoves (is_the_holder h) exact Kept (IsFair h) Rel A
  move f v g w n cdb bytes r q drives after other x y is rel state may same_had same e d =
      subst
      (λ (m : Nexus). is_the_holder h m ≡ true → IsFair h m cdb bytes f v → Ended f v m cdb bytes r drives after x → Ended g w m cdb bytes q drives other y → Rel v w × SameReply (exact m cdb bytes) false r q × (after ≡ other)) (sym (same_nexus-true n h is))
      (λ yes fair a b. move_own f v g w cdb bytes r q drives after other x y yes rel state fair same_had same a b) is may e d

  sense : (f v g : UnitView) (n : Nexus) (cdb bytes : List ℕ) → is_the_holder h n ≡ true → Rel f g → IsFair h n cdb bytes f v → (judged_at f n cdb bytes).2.sense ≡ (judged_at g n cdb bytes).2.sense
  sense f v g n cdb bytes is rel may =
      subst (λ (m : Nexus). is_the_holder h m ≡ true → IsFair h m cdb bytes f v → (judged_at f m cdb bytes).2.sense ≡ (judged_at g m cdb bytes).2.sense) (sym (same_nexus-true n h is))
      (λ yes fair. same_sense (is_the_holder h) (Hold h) (SameHold h) (exact h cdb bytes) (exact h cdb bytes) (judged_at f h cdb bytes).2 (judged_at g h cdb bytes).2 (beside_own f v g cdb bytes yes rel fair).reply) is may

  stays : (f g v w : UnitView) → Rel f g → IsSameUnit f v → IsSameUnit g w → medium.Beside (is_the_holder h) v w → Rel v w
  stays f g v w rel left right beside = record {
    device = beside.device;
    state = beside.state;
    tables = subst (λ (s : State). Tables s w.state.reservations) (sym left.reservations) (subst (λ (s : State). Tables f.state.reservations s) (sym right.reservations) rel.tables);
    of_commands = same_commands f.device v.device left.device ∙ rel.of_commands;
  }

  pub along : IsKeptAlong (is_the_holder h) exact Kept (IsFair h) Rel
  along = record {
    looks = λ f g rel. rel.device;
    closed = λ f g n isnt rel. (holder.shut_outside h f.state.reservations n rel.tables.same.holds isnt).changing;
    strike = strike;
    keep = keep;
    lose = lose;
    reset = reset;
    medium = medium.takes (is_the_holder h) Rel (λ f g rel. record { device = rel.device; state = rel.state }) stays;
    move_one = move;
    move_two = move;
    sense = sense;
  }

pub holder_start : (h : Nexus) (u : UnitView) → Begins h u → Rel h (commands_of u.device) u u
holder_start h u begins = record {
  device = refl;
  state = record { lun = refl; units = refl; profile = refl; slots = λ m is. refl; preventers = refl; own = begins.alone };
  tables = record { same = record { holds = begins.hold.holds; other = begins.hold.holds; same_key = refl; keyed = begins.hold.keyed }; left = begins.table; right = begins.table };
  of_commands = refl;
}

pub holder_span : (us vs ws : List UnitView) (es : List Event) (rs qs : List Reply) (lun : ℕ) (h : Nexus) (u : UnitView) → slice_get us lun ≡ Some u → Begins h u
    → RunsThrough (InSpan lun (λ v. Hold h v.state.reservations) (IsFair h)) us es rs vs → RunsThrough IsServed us (struck lun (is_the_holder h) es) qs ws
    → EndsAlike lun vs ws × Tells lun (is_the_holder h) (is_exact lun (exact h (commands_of u.device))) es rs qs
holder_span us vs ws es rs qs lun h u here begins run race =
    let had = commands_of u.device in
    let ends = runs_alike lun (is_the_holder h) (exact h had) (Kept h had) (IsFair h) (Rel h had) (along h had) us us vs ws es rs qs
    (record { f = u; g = u; here = here; there = here; related = holder_start h u begins; rest = λ k apart. refl }) run race in
    (ends_alike lun vs ws ends.lists.f ends.lists.g ends.lists.here ends.lists.there ends.lists.related.device ends.lists.rest, ends.replies)

module _ (inside : Nexus → Bool) where
  pub record RelG (f g : UnitView) : Type 0 where
    pub device : f.device ≡ g.device
    pub state : Alike inside f.state g.state
    pub same : f.state.reservations ≡ g.state.reservations
    pub shared : IsShared inside f.state.reservations

  abbrev pub KeptG : UnitView → Type 0
  KeptG v = IsShared inside v.state.reservations

  abbrev pub AnyG : Nexus → (cdb bytes : List ℕ) → UnitView → UnitView → Type 0
  AnyG n cdb bytes u v = Unit {0}

  abbrev pub all_exact : Nexus → (cdb bytes : List ℕ) → Bool
  all_exact n cdb bytes = true

  -- a command of a nexus outside leaves the reservations
  pub left_state : (v : State) (n : Nexus) (w : State) → IsShared inside v → inside n ≡ false → IsShared inside w → Change v n w → w ≡ v
  left_state v n w shared isnt good (inl e) = e
  left_state v n w shared isnt good (inr a) = a.is ∙ group.no_change inside v n a.params (group.no_act inside v n a.params shared isnt a.allowed (subst (IsShared inside) a.is good))

  pub strike_g : (f v g : UnitView) (n : Nexus) (cdb bytes : List ℕ) (r : Reply) → inside n ≡ false → RelG f g → KeptG v → AnyG n cdb bytes f v → Executes f n cdb bytes (v, r) → RelG v g
  strike_g f v g n cdb bytes r isnt rel state may e =
      let at = strike_unit inside f v g n cdb bytes r rel.device rel.state isnt (group.shut_outside inside f.state.reservations n rel.shared isnt) (IsShared inside)
      (λ p allowed good. group.calm_outside inside f.state.reservations n p (group.no_act inside f.state.reservations n p rel.shared isnt allowed good)) state e in
      record { device = at.0; state = at.1; same = left_state f.state.reservations n v.state.reservations rel.shared isnt state (executes_changes f v n cdb bytes r e) ∙ rel.same; shared = state }

  pub fits_g : (f g : UnitView) (n : Nexus) (cdb bytes : List ℕ) (rel : RelG f g) (is : inside n ≡ true) → Fits inside f g n cdb bytes rel.state is (IsShared inside) (λ v w. v ≡ w) rel.same true
  fits_g f g n cdb bytes rel is (ReserveOut p) e = (ap (λ v. verdict_of v n (ReserveOut p)) rel.same, (group.agree inside f.state.reservations g.state.reservations n p rel.same, λ good. ap (λ v. applied v n p) rel.same))
  fits_g f g n cdb bytes rel is (ReserveIn a l) e = (ap (λ v. verdict_of v n (ReserveIn a l)) rel.same, ap (λ v. good (take l (status_data v a))) rel.same)
  fits_g f g n cdb bytes rel is (Inquiry x y z) e = (ap (λ v. verdict_of v n (Inquiry x y z)) rel.same, tt)
  fits_g f g n cdb bytes rel is (ReportLuns x y) e = (ap (λ v. verdict_of v n (ReportLuns x y)) rel.same, tt)
  fits_g f g n cdb bytes rel is (RequestSense x y) e = (ap (λ v. verdict_of v n (RequestSense x y)) rel.same, tt)
  fits_g f g n cdb bytes rel is (Prevent x) e = (ap (λ v. verdict_of v n (Prevent x)) rel.same, tt)
  fits_g f g n cdb bytes rel is (Device x) e = (ap (λ v. verdict_of v n (Device x)) rel.same, tt)

  pub keep_g : (f v g w : UnitView) (n : Nexus) (cdb bytes : List ℕ) (r q : Reply) → inside n ≡ true → RelG f g → KeptG v → AnyG n cdb bytes f v → r.status ≢ Busy → q.status ≢ Busy
      → Executes f n cdb bytes (v, r) → Executes g n cdb bytes (w, q) → RelG v w × SameReply true false r q
  keep_g f v g w n cdb bytes r q is rel state may free loose e d =
      let m = both_units inside f v g w n cdb bytes r q rel.device rel.state is (IsShared inside) (λ v w. v ≡ w) rel.same true (fits_g f g n cdb bytes rel is) state free e (answers g w n cdb bytes q loose d) in
      (record { device = m.device; state = m.state; same = m.reservations; shared = state }, m.reply)

  pub lose_g : (f v g w : UnitView) (n : Nexus) (r q : Reply) → RelG f g → KeptG v → r.status ≢ Busy → q.status ≢ Busy → IsLost f n (v, r) → IsLost g n (w, q) → RelG v w × SameReply true false r q
  lose_g f v g w n r q rel state free loose e d =
      let m = loss_units inside f v g w n r q rel.device rel.state (λ v w. v ≡ w) rel.same free loose e d in
      (record { device = m.device; state = m.state; same = m.reservations; shared = state }, m.reply)

  pub reset_g : (f v g w : UnitView) (r q : Reply) → RelG f g → KeptG v → r.status ≢ Busy → q.status ≢ Busy → IsReset f (v, r) → IsReset g (w, q) → RelG v w × SameReply true false r q
  reset_g f v g w r q rel state free loose e d =
      let m = reset_units inside f v g w r q rel.device rel.state (λ v w. v ≡ w) rel.same free loose e d in
      (record { device = m.device; state = m.state; same = m.reservations; shared = state }, m.reply)

  beside_g : (f g : UnitView) (n : Nexus) (cdb bytes : List ℕ) (is : inside n ≡ true) (rel : RelG f g) → Beside inside (IsShared inside) (λ v w. v ≡ w) true (judged_at f n cdb bytes) (judged_at g n cdb bytes)
  beside_g f g n cdb bytes is rel = judged_beside inside f g n cdb bytes rel.device rel.state is (IsShared inside) (λ v w. v ≡ w) rel.same true (fits_g f g n cdb bytes rel is)

  move_g : {A : Type 0} → KeepsMoves inside all_exact KeptG AnyG RelG A
  move_g f v g w n cdb bytes r q drives after other x y is rel state may same_had same e d =
      let m = move_units inside (IsShared inside) (λ s t. s ≡ t) true f v g w n cdb bytes r q drives after other x y state (beside_g f g n cdb bytes is rel) same e d in
      (record { device = m.0.device; state = m.0.state; same = m.0.reservations; shared = state }, m.0.reply, m.1)

  stays_g : (f g v w : UnitView) → RelG f g → IsSameUnit f v → IsSameUnit g w → medium.Beside inside v w → RelG v w
  stays_g f g v w rel left right beside = record {
    device = beside.device;
    state = beside.state;
    same = left.reservations ∙ rel.same ∙ sym right.reservations;
    shared = subst (IsShared inside) (sym left.reservations) rel.shared;
  }

  pub along_g : IsKeptAlong inside all_exact KeptG AnyG RelG
  along_g = record {
    looks = λ f g rel. rel.device;
    closed = λ f g n isnt rel. (group.shut_outside inside f.state.reservations n rel.shared isnt).changing;
    strike = strike_g;
    keep = keep_g;
    lose = lose_g;
    reset = reset_g;
    medium = medium.takes inside RelG (λ f g rel. record { device = rel.device; state = rel.state }) stays_g;
    move_one = move_g;
    move_two = move_g;
    sense = λ f v g n cdb bytes is rel may. ap (λ (x : Reply). x.sense) (beside_g f g n cdb bytes is rel).reply;
  }

  pub group_start : (u : UnitView) → IsShared inside u.state.reservations → list_all inside u.state.preventers ≡ true → RelG u u
  group_start u shared own = record { device = refl; state = record { lun = refl; units = refl; profile = refl; slots = λ m is. refl; preventers = refl; own = own }; same = refl; shared = shared }

pub group_span : (us vs ws : List UnitView) (es : List Event) (rs qs : List Reply) (lun : ℕ) (inside : Nexus → Bool) (u : UnitView) → slice_get us lun ≡ Some u → IsShared inside u.state.reservations → list_all inside u.state.preventers ≡ true
    → RunsThrough (InSpan lun (KeptG inside) (AnyG inside)) us es rs vs → RunsThrough IsServed us (struck lun inside es) qs ws → EndsAlike lun vs ws × Tells lun inside (is_exact lun (all_exact inside)) es rs qs
group_span us vs ws es rs qs lun inside u here shared alone run race =
    let ends = runs_alike lun inside (all_exact inside) (KeptG inside) (AnyG inside) (RelG inside) (along_g inside) us us vs ws es rs qs
    (record { f = u; g = u; here = here; there = here; related = group_start inside u shared alone; rest = λ k apart. refl }) run race in
    (ends_alike lun vs ws ends.lists.f ends.lists.g ends.lists.here ends.lists.there ends.lists.related.device ends.lists.rest, ends.replies)

pub through_is_run : (Such : List UnitView → Event → Reply → List UnitView → Type 0) (us vs : List UnitView) (es : List Event) (rs : List Reply) → RunsThrough Such us es rs vs → Runs us es rs vs
through_is_run Such us vs [] [] run = run
through_is_run Such us vs (e ∷ es) (r ∷ rs) run = (run.0, run.1, through_is_run Such run.0 vs es rs run.3)
through_is_run Such us vs [] (r ∷ rs) run = absurd run
through_is_run Such us vs (e ∷ es) [] run = absurd run
