-- What judgement at a changer leaves to the drives: nothing stood before the command, nothing has changed, and any whole answer may end it.
use Rattle.std.proofs.Common.{◌≡◌, ℕ, Bool, true, false, List, Option, Some, None, Result, Ok, Err, refl, sym, ap, ◌∙◌, subst, inr}
use Rattle.std.specs.Prelude.{cond, ◌&&◌, is_some, is_none, [], ◌∷◌}
use Rattle.std.specs.FinMap.{put}
use Rattle.scsi_nexus.specs.Order.{nexus_cmp}
use Rattle.scsi_cdb.specs.Classes.{class_of}
use Rattle.scsi_cdb.specs.declared.classes.Class.{Class}
use Rattle.scsi_cdb.specs.declared.host_request.HostRequest.TheVariants as host
use Rattle.scsi_cdb.specs.declared.kind.Kind.{Kind as DeviceKind}
use Rattle.scsi_cdb.specs.declared.kind.Kind.TheVariants as kind
use Rattle.scsi_cdb.specs.declared.profile.Profile.{Profile}
use Rattle.scsi_cdb.specs.declared.profile.Profile.TheVariants.{Spec, Hosts}
use Rattle.scsi_cdb.specs.declared.request.Request.{Request}
use Rattle.scsi_cdb.specs.declared.request.Request.TheVariants as request
use Rattle.scsi_cdb.specs.declared.fault.CdbFault.{CdbFault}
use Rattle.scsi_nexus.specs.declared.nexus.Nexus.{Nexus}
use Rattle.scsi_sense.specs.declared.condition.Condition.{Condition}
use Rattle.scsi_sense.specs.declared.condition.Condition.TheVariants.{InternalTargetFailure, MediumRemovalPrevented}
use Rattle.scsi_sense.specs.declared.sense.Sense.{Sense}
use Rattle.scsi_sense.specs.declared.status.Status.{Status}
use Rattle.unit_attention.specs.declared.kind.Kind.{Kind}
use Rattle.unit_attention.specs.declared.kind.Kind.TheVariants.{PowerOn, BusDeviceReset, NexusLoss, MediumChanged, ModeParametersChanged, LogParametersChanged, ReservationsPreempted, ReservationsReleased, RegistrationsPreempted}
use Rattle.unit_attention.specs.Queues.{slot_of, contacted, first_reset_of, first_other_of}
use Rattle.permit_tables.specs.declared.cell.Cell.{Cell}
use Rattle.pr_core.specs.declared.verdict.Verdict.{Verdict}
use Rattle.pr_core.specs.declared.verdict.Verdict.TheVariants.{Allowed, Denied, Rule}
use Rattle.tape_medium.specs.declared.elements.MapFault.{MapFault}
use Rattle.tape_medium.specs.declared.elements.MapFault.TheVariants.{BadAddress, SourceEmpty, DestinationFull}
use Rattle.tape_medium.specs.Elements.{Elements, moves, move_refusal}
use Rattle.audit_log.specs.declared.act.Act.{Act}
use Rattle.audit_log.specs.declared.act.Act.TheVariants as act
use Rattle.audit_log.specs.declared.record.Record.{Record}
use Rattle.audit_log.specs.declared.stage.Stage.TheVariants as stage
use Rattle.audit_log.specs.declared.stage.Stage.TheVariants.{ResetAttention, OtherAttention, Fields}
use Rattle.device_server.specs.View.{DeviceView, Drive, Changer, kind_of, profile_of, commands_of, drives_of, field_fault, performed, changer_stepped, stepped}
use Rattle.device_server.specs.Failures.{is_failure, is_exchange_for_drives, is_for_drives}
use Rattle.element_map.specs.Exchange.{has_drive, exchange_refusal}
use Rattle.device_server.specs.Changer.{carried, moved_alone}
use Rattle.device_server.specs.HostChanger.{ChangerView, host_carried, host_moved_alone}
use Rattle.device_server.specs.declared.host_changer.HostChanger.{HostChanger}
use Rattle.device_server.proofs.ExchangeLemmas.{left_to_drive}
use Rattle.device_server.proofs.FailureLemmas.{changers_fail_for_drives}
use Rattle.device_server.proofs.FieldLemmas.{move_performed, move_unrefused, exchange_fault, exchange_performed}
use Rattle.device_server.specs.Outcomes.{refused}
use Rattle.device_server.specs.declared.outcome.Outcome.{Outcome}
use Rattle.judgement.specs.Conditions.{condition_of_attention, condition_of_fault}
use Rattle.judgement.specs.Replies.{check, conflict, replied, IsWhole}
use Rattle.judgement.specs.declared.reply.Reply.{Reply}
use Rattle.judgement.specs.declared.command.Command.{Command}
use Rattle.judgement.specs.declared.command.Command.TheVariants.{Device}
use Rattle.judgement.specs.Commands.{class_of_command, command_of, decoded_command, act_of_decoded}
use Rattle.judgement.specs.UnitState.{has_room, after_contact, after_telling, is_prevented}
use Rattle.judgement.specs.UnitStateView.{UnitStateView}
use Rattle.judgement.specs.Readings.{verdict_of}
use Rattle.unit_attention.proofs.Contact.{first_reset_new}
use Rattle.judgement.specs.Decisions.{at_stage, at_device, in_cell, let_in, in_conflict}
use Rattle.judgement.specs.declared.decision.Decision.{Decision}
use Rattle.judgement.specs.Judge.{waiting, cell_of, tells, at_cell, carried_out, steps, unloads, performs, let_through, checked, commanded, judged_as}
use Rattle.judgement.specs.JudgedUnit.{JudgedUnit}
use Rattle.logical_unit.specs.MoveJudgement.{DecodesTo, HasWays, AwaitsEnd}
use Rattle.logical_unit.specs.Legal.{IsCommand, IsChecked, IsLetThrough, Says, SaysItsOwn, is_of_every_unit}
use Rattle.logical_unit.specs.Move.{is_left}
use Rattle.logical_unit.specs.Step.{record_of}
use Rattle.logical_unit.specs.declared.route.Route.{Route}
use Rattle.logical_unit.specs.declared.route.Errand.{Errand}
use Rattle.logical_unit.specs.declared.route.Errand.TheVariants as errand
use Rattle.logical_unit.specs.declared.route.ExchangeRoute.{ExchangeRoute}
use Rattle.logical_unit.proofs.FreeEnds.{IsForDrives, has_ways}
use Rattle.logical_unit.proofs.NamedDrives.{Asks, asks, IsMoving, moving}

-- what isn't left to the drives
pub attention_ends : (kind : Kind) → is_left (check (condition_of_attention kind)).sense ≡ true → ⊥
attention_ends PowerOn l = cc
attention_ends BusDeviceReset l = cc
attention_ends NexusLoss l = cc
attention_ends MediumChanged l = cc
attention_ends ModeParametersChanged l = cc
attention_ends LogParametersChanged l = cc
attention_ends ReservationsPreempted l = cc
attention_ends ReservationsReleased l = cc
attention_ends RegistrationsPreempted l = cc

-- nothing stands before a command's own rules
pub record GoesOn (u : JudgedUnit) (n : Nexus) (c : Command) : Type 0 where
  pub ready : waiting (class_of_command c) (first_reset_of u.state.slots n) ≡ None
  pub allowed : verdict_of u.state.reservations n c ≡ Allowed
  pub clear : waiting (class_of_command c) (first_other_of u.state.slots n) ≡ None

module _ (u : JudgedUnit) (n : Nexus) (c : Command) (bytes : List ℕ) where
  -- the stages, by what each tests
  abbrev pub by_reset : Option Kind → JudgedUnit × Decision × Reply
  by_reset o = elim o [ Some kind ↦ tells u n kind (at_stage ResetAttention) | None ↦ checked u n c bytes ]

  abbrev pub by_verdict : Verdict → JudgedUnit × Decision × Reply
  by_verdict v = elim v [
    | Allowed ↦ let_through u n c bytes
    | Denied cell ↦ (u, in_conflict (cell_of u n c) None, conflict)
    | Rule rule ↦ (u, in_conflict (cell_of u n c) (Some rule), conflict)
  ]

  abbrev pub by_other : Option Kind → JudgedUnit × Decision × Reply
  by_other o = elim o [
    | Some kind ↦ tells u n kind (let_in (cell_of u n c) OtherAttention)
    | None ↦ at_cell (cell_of u n c)
        (carried_out u n c bytes)
  ]

  is_ready : (o : Option Kind) → is_left (by_reset o).2.sense ≡ true → o ≡ None
  is_ready (Some kind) l = absurd (attention_ends kind l)
  is_ready None l = refl

  pub is_allowed : (v : Verdict) → is_left (by_verdict v).2.sense ≡ true → v ≡ Allowed
  is_allowed Allowed l = refl
  is_allowed (Denied cell) l = absurd cc
  is_allowed (Rule rule) l = absurd cc

  is_clear : (o : Option Kind) → is_left (by_other o).2.sense ≡ true → o ≡ None
  is_clear (Some kind) l = absurd (attention_ends kind l)
  is_clear None l = refl

  -- a command that is left came to its own rules
  pub record IsOwn : Type 0 where
    pub goes_on : GoesOn u n c
    pub by_rules : commanded u n c bytes ≡ at_cell (cell_of u n c) (carried_out u n c bytes)

  pub left_is_own : is_left (commanded u n c bytes).2.sense ≡ true → IsOwn
  left_is_own l =
      let ready = is_ready (waiting (class_of_command c) (first_reset_of u.state.slots n)) l in
      let at_check : commanded u n c bytes ≡ checked u n c bytes =
      ap by_reset ready in
      let checked_left = subst (λ (x : JudgedUnit × Decision × Reply). is_left x.2.sense ≡ true) at_check l in
      let allowed = is_allowed (verdict_of u.state.reservations n c) checked_left in
      let through : checked u n c bytes ≡ let_through u n c bytes = ap by_verdict allowed in
      let through_left = subst (λ (x : JudgedUnit × Decision × Reply). is_left x.2.sense ≡ true) through checked_left in
      let clear = is_clear (waiting (class_of_command c) (first_other_of u.state.slots n)) through_left in
      let own : let_through u n c bytes ≡ at_cell (cell_of u n c) (carried_out u n c bytes) =
      ap by_other clear in
      record { goes_on = record { ready = ready; allowed = allowed; clear = clear }; by_rules = at_check ∙ through ∙ own }

-- A COMMAND THAT MOVES VOLUMES, BY ITS FIELDS AND THE DEVICE: it is left just where the device ends it by 44h/00h
abbrev by_fault : JudgedUnit → Nexus → Request → List ℕ → Option Condition → JudgedUnit × Decision × Reply
by_fault u n r bytes o = elim o [
  | Some condition ↦ (u, at_stage Fields, check condition)
  | None ↦ cond (unloads r && is_prevented u.state) (u, at_stage stage.Device, check MediumRemovalPrevented) (steps u n (performed u.device r bytes))
]

abbrev by_prevention : JudgedUnit → Nexus → Request → List ℕ → Bool → JudgedUnit × Decision × Reply
by_prevention u n r bytes b = cond (b && is_prevented u.state) (u, at_stage stage.Device, check MediumRemovalPrevented) (steps u n (performed u.device r bytes))

-- one that unloads nothing, of which no field is refused, is the device's step
pub unrefused_performs : (u : JudgedUnit) (n : Nexus) (r : Request) (bytes : List ℕ) → field_fault u.device r bytes ≡ None → unloads r ≡ false
    → performs u n r bytes ≡ steps u n (performed u.device r bytes)
unrefused_performs u n r bytes free no_unload = ap (by_fault u n r bytes) free ∙ ap (by_prevention u n r bytes) no_unload

left_fails : (o : Option Sense) → is_left o ≡ is_failure o
left_fails (Some sense) = refl
left_fails None = refl

refused_by : DeviceView → (stepped_to : DeviceView × Outcome) → Option Condition → DeviceView × Outcome
refused_by device stepped_to o = elim o [ Some condition ↦ (device, refused condition) | None ↦ stepped_to ]

fails_as : (u : JudgedUnit) (n : Nexus) (r : Request) (bytes : List ℕ) (o : Option Condition) → field_fault u.device r bytes ≡ o → unloads r ≡ false
    → is_left (by_fault u n r bytes o).2.sense ≡ is_failure (performed u.device r bytes).1.sense
unfolding refused_by
fails_as u n r bytes (Some condition) is no_unload =
    sym (ap (λ (x : Option Condition). is_failure (refused_by u.device (stepped u.device r bytes) x).1.sense) is)
fails_as u n r bytes None is no_unload =
    ap (λ (b : Bool). is_left (by_prevention u n r bytes b).2.sense) no_unload ∙ left_fails (performed u.device r bytes).1.sense

pub performs_fails : (u : JudgedUnit) (n : Nexus) (r : Request) (bytes : List ℕ) → unloads r ≡ false
    → is_left (performs u n r bytes).2.sense ≡ is_failure (performed u.device r bytes).1.sense
performs_fails u n r bytes no_unload = fails_as u n r bytes (field_fault u.device r bytes) refl no_unload

-- THE CHANGER'S STEP by what it leaves is 44h/00h with nothing changed
left_alone : (e : Elements) (m : Result Elements MapFault) → is_failure (moved_alone e m).1.sense ≡ true → moved_alone e m ≡
    (e, refused InternalTargetFailure)
left_alone e (Ok after) l = absurd cc
left_alone e (Err fault) l = refl

host_left_alone : (c : ChangerView) (h : HostChanger) (s d : ℕ) (m : Result Elements MapFault) → is_failure (host_moved_alone c h s d m).1.sense ≡ true → host_moved_alone c h s d m ≡
    (c, refused InternalTargetFailure)
host_left_alone c h s d (Ok after) l = absurd cc
host_left_alone c h s d (Err fault) l = refl

abbrev pub is_left_as : ChangerView → ChangerView × Outcome → Type 0
is_left_as c x = x ≡ (c, refused InternalTargetFailure)

left_by : (e : Elements) (s d : ℕ) (o : Option MapFault) → is_failure (carried e s d o).1.sense ≡ true → carried e s d o ≡ (e, refused InternalTargetFailure)
left_by e s d (Some BadAddress) l = absurd cc
left_by e s d (Some SourceEmpty) l = absurd cc
left_by e s d (Some DestinationFull) l = absurd cc
left_by e s d None l = left_alone e (moves e s d) l

host_left_by : (c : ChangerView) (h : HostChanger) (s d : ℕ) (o : Option MapFault) → is_failure (host_carried c h s d o).1.sense ≡ true → is_left_as c (host_carried c h s d o)
host_left_by c h s d (Some BadAddress) l = absurd cc
host_left_by c h s d (Some SourceEmpty) l = absurd cc
host_left_by c h s d (Some DestinationFull) l = absurd cc
host_left_by c h s d None l = host_left_alone c h s d (moves c.elements s d) l

move_left : (o : Option HostChanger) (c : ChangerView) (t s d : ℕ) (bytes : List ℕ) → is_failure (changer_stepped o c (request.MoveMedium t s d false) bytes).1.sense ≡ true
    → is_left_as c (changer_stepped o c (request.MoveMedium t s d false) bytes)
move_left None c t s d bytes l = ap (λ (x : Elements × Outcome). (record c { elements = x.0 }, x.1)) (left_by c.elements s d (move_refusal c.elements t s d) l)
move_left (Some h) c t s d bytes l = host_left_by c h s d (move_refusal c.elements t s d) l

-- what it leaves, and what the map and the marks say of it
pub record IsLeftFor (c : ChangerView) (q : Request) (bytes : List ℕ) (e : Errand) : Type 0 where
  pub transport : ℕ
  pub for_drives : IsForDrives c e transport
  pub unrefused : field_fault (Changer c) q bytes ≡ None
  pub answer : performed (Changer c) q bytes ≡ (Changer c, refused InternalTargetFailure)

none_is : (o : Option MapFault) → is_none o ≡ true → o ≡ None
none_is None h = refl
none_is (Some fault) h = absurd cc

both : (a b : Bool) → (a && b) ≡ true → (a ≡ true) × (b ≡ true)
both true b h = (refl, h)
both false b h = absurd cc

move_for : (c : ChangerView) (t s d : ℕ) (i : Bool) (bytes : List ℕ) (r : Route) → r.source ≡ s → r.destination ≡ d
    → is_for_drives c (request.MoveMedium t s d i) ≡ true → IsLeftFor c (request.MoveMedium t s d i) bytes (errand.Move r)
move_for c t s d true bytes r is_s is_d l = absurd cc
move_for c t s d false bytes r is_s is_d l =
    let free : move_refusal c.elements t s d ≡ None = none_is (move_refusal c.elements t s d) (both (is_none (move_refusal c.elements t s d)) _ l).0 in
    let steps_is = move_performed (Changer c) t s d bytes in
    let fails : is_failure (performed (Changer c) (request.MoveMedium t s d false) bytes).1.sense ≡ true = changers_fail_for_drives c (request.MoveMedium t s d false) bytes ∙ l in
    let left = move_left c.hosts c t s d bytes (sym (ap (λ (x : DeviceView × Outcome). is_failure x.1.sense) steps_is) ∙ fails) in
    record {
      transport = t;
      for_drives = ap (λ (a : ℕ). move_refusal c.elements t a r.destination) is_s ∙ ap (λ (a : ℕ). move_refusal c.elements t s a) is_d ∙ free;
      unrefused = move_unrefused (profile_of (Changer c)) (kind_of (Changer c)) t s d bytes;
      answer = steps_is ∙ ap (λ (x : ChangerView × Outcome). (Changer x.0, x.1)) left;
    }

exchange_for : (o : Option HostChanger) (c : ChangerView) (t s f d : ℕ) (i j : Bool) (bytes : List ℕ) (x : ExchangeRoute) → c.hosts ≡ o → x.source ≡ s → x.first ≡ f → x.second ≡ d
    → (is_some o && is_exchange_for_drives c.elements (host.ExchangeMedium t s f d i j)) ≡ true → IsLeftFor c (request.Host (host.ExchangeMedium t s f d i j)) bytes (errand.Exchange x)
exchange_for None c t s f d i j bytes x is is_s is_f is_d l = absurd cc
exchange_for (Some h) c t s f d true j bytes x is is_s is_f is_d l = absurd cc
exchange_for (Some h) c t s f d false true bytes x is is_s is_f is_d l = absurd cc
exchange_for (Some h) c t s f d false false bytes x is is_s is_f is_d l =
    let parts = both (is_none (exchange_refusal c.elements t s f d)) (has_drive c.elements s f d) l in
    let free = none_is (exchange_refusal c.elements t s f d) parts.0 in
    record {
      transport = t;
      for_drives = (
        ap (λ (a : ℕ). exchange_refusal c.elements t a x.first x.second) is_s ∙ ap (λ (a : ℕ). exchange_refusal c.elements t s a x.second) is_f
            ∙ ap (λ (a : ℕ). exchange_refusal c.elements t s f a) is_d ∙ free,
        ap (λ (a : ℕ). has_drive c.elements a x.first x.second) is_s ∙ ap (λ (a : ℕ). has_drive c.elements s a x.second) is_f
            ∙ ap (λ (a : ℕ). has_drive c.elements s f a) is_d ∙ parts.1,
      );
      unrefused = exchange_fault c h t s f d false false bytes is;
      answer = exchange_performed c h t s f d bytes is ∙ ap (λ (y : ChangerView × Outcome). (Changer y.0, y.1)) (left_to_drive c h t s f d free parts.1);
    }

left_for_by : (c : ChangerView) (q : Request) (bytes : List ℕ) (e : Errand) → Asks (drives_of (Changer c)) q e → is_for_drives c q ≡ true → IsLeftFor c q bytes e
left_for_by c q bytes (errand.Move r) a l =
    subst (λ (y : Request). IsLeftFor c y bytes (errand.Move r)) (sym a.is)
    (move_for c a.transport r.source r.destination a.invert bytes r refl refl (subst (λ (y : Request). is_for_drives c y ≡ true) a.is l))
left_for_by c q bytes (errand.Exchange x) a l =
    subst (λ (y : Request). IsLeftFor c y bytes (errand.Exchange x)) (sym a.is)
    (exchange_for c.hosts c a.transport x.source x.first x.second a.inv1 a.inv2 bytes x refl refl refl refl (subst (λ (y : Request). is_for_drives c y ≡ true) a.is l))

-- a unit's device as it carries out such a command, with what is kept
abbrev pub left_answer : ChangerView → UnitStateView → Cell → JudgedUnit × Decision × Reply
left_answer c k at = (record { device = Changer c; state = k }, in_cell at (at_device None), check InternalTargetFailure)

pub record IsLeftAt (c : ChangerView) (k : UnitStateView) (at : Cell) (q : Request) (bytes : List ℕ) (e : Errand) (x : JudgedUnit × Decision × Reply) : Type 0 where
  pub left : IsLeftFor c q bytes e
  pub answer : x ≡ left_answer c k at

pub own_fails : (v : ChangerView) (k : UnitStateView) (n : Nexus) (q : Request) (bytes : List ℕ) → unloads q ≡ false
    → is_left (carried_out (record { device = Changer v; state = k }) n (Device q) bytes).2.sense ≡ is_for_drives v q
own_fails v k n q bytes no_unload = performs_fails (record { device = Changer v; state = k }) n q bytes no_unload ∙ changers_fail_for_drives v q bytes

pub by_field : (c : ChangerView) (k : UnitStateView) (n : Nexus) (at : Cell) (q : Request) (bytes : List ℕ) (e : Errand) → Asks (drives_of (Changer c)) q e
    → is_left (at_cell at (carried_out (record { device = Changer c; state = k }) n (Device q) bytes)).2.sense ≡ true
    → IsLeftAt c k at q bytes e (at_cell at (carried_out (record { device = Changer c; state = k }) n (Device q) bytes))
by_field c k n at q bytes e a l =
    let u : JudgedUnit = record { device = Changer c; state = k } in
    let is = moving (drives_of (Changer c)) q e a in
    let left = left_for_by c q bytes e a (sym (own_fails c k n q bytes is.no_unload) ∙ l) in
    record { left = left; answer = ap (at_cell at) (unrefused_performs u n q bytes left.unrefused is.no_unload ∙ ap (steps u n) left.answer) }

-- THE UNIT. A sender that comes past stage 2 by a command that passes over nothing had contact before
known : (k : UnitStateView) (n : Nexus) (o : Option (List Kind)) → slot_of k.slots n ≡ o → first_reset_of (contacted k.slots n) n ≡ None →
    after_contact k n ≡ k
known k n (Some pending) h ready = ap (λ (o : Option (List Kind)). record k {
  slots = cond (is_some o) k.slots
      (put nexus_cmp n (PowerOn ∷ []) k.slots);
}) h
known k n None h ready = let first = first_reset_new k.slots n h in absurd cc

-- any whole answer may end a command that goes on
own_says : (p : Profile) (m : ℕ) (n : Nexus) (at : Cell) (status : Status) (sense : Option Sense) (class : Class) → is_of_every_unit at.class ≡ false → IsWhole status sense
    → SaysItsOwn p (record_of m (Some n) (act.Command class) (in_cell at (at_device None)) status sense) at
own_says p m n at status sense class not_of_units whole = record {
  stage = inr refl;
  cell = refl;
  rule = refl;
  whole = whole;
  fields = λ e. absurd cc;
  unit = λ own e. absurd cc;
  told = λ kind e. absurd cc;
}

module _ (device : DeviceView) (k : UnitStateView) (n : Nexus) (q : Request) where
  abbrev pub unit : JudgedUnit
  unit = record { device = device; state = after_contact k n }

  abbrev pub move : Command
  move = Device q

  abbrev pub found : Decision
  found = in_cell (cell_of unit n move) (at_device None)

  -- what a record says, by what each stage tests
  module _ (e : Record) where
    abbrev pub says_other : Option Kind → Type 0
    says_other o = elim o [
      | Some kind ↦ Says e (let_in (cell_of unit n move) OtherAttention) (check (condition_of_attention kind))
      | None ↦
          SaysItsOwn k.profile e (cell_of unit n move)
    ]

    abbrev pub says_verdict : Verdict → Type 0
    says_verdict v = elim v [
      | Allowed ↦ IsLetThrough (after_contact k n) n None (class_of q) e
      | Denied cell ↦ Says e (in_conflict (cell_of unit n move) None) conflict
      | Rule rule ↦ Says e (in_conflict (cell_of unit n move) (Some rule)) conflict
    ]

    abbrev pub says_reset : Option Kind → Type 0
    says_reset o = elim o [
      | Some kind ↦ Says e (at_stage ResetAttention) (check (condition_of_attention kind))
      | None ↦ IsChecked
          (after_contact k n) n None (class_of q) e
    ]

  commands : IsMoving q → GoesOn unit n move → (m : ℕ) (status : Status) (sense : Option Sense) → IsWhole status sense
      → IsCommand (after_contact k n) n None (class_of q) (record_of m (Some n) (act.Command (class_of q)) found status sense)
  commands is goes m status sense whole =
      let e = record_of m (Some n) (act.Command (class_of q)) found status sense in
      let through : IsLetThrough (after_contact k n) n None (class_of q) e = subst (says_other e) (sym goes.clear)
      (own_says k.profile m n (cell_of unit n move) status sense (class_of q) is.not_of_units whole) in
      let checks : IsChecked (after_contact k n) n None (class_of q) e = subst (says_verdict e) (sym goes.allowed) through in
      subst (says_reset e) (sym goes.ready) checks

  awaits : IsMoving q → GoesOn unit n move → has_room k n ≡ true → after_contact k n ≡ k → AwaitsEnd k n (act.Command (class_of q)) found
  awaits is goes room same = record {
    judged = λ m status sense whole. record { room = room; listless = is.listless; judged = commands is goes m status sense whole };
    state = λ m status sense. is.untold (after_contact k n) n ∙ same;
  }

-- what is left, with nothing changed
pub record Opens (device : DeviceView) (k : UnitStateView) (n : Nexus) (cdb bytes : List ℕ) (e : Errand) (a : Act) (after : JudgedUnit)
    (f : Decision) (x : JudgedUnit × Decision × Reply) : Type 0 where
  pub left : is_left x.2.sense ≡ true
  pub present : x.0 ≡ record { device = device; state = k }
  pub decision : x.1 ≡ f
  pub same : after ≡ record { device = device; state = k }
  pub awaits : AwaitsEnd k n a f
  pub ways : HasWays device e

pub opens : (device : DeviceView) (k : UnitStateView) (n : Nexus) (cdb bytes : List ℕ) (e : Errand) (s : Result Command Condition) (a : Act)
    (after : JudgedUnit) (f : Decision) (reply : Reply)
    → kind_of device ≡ kind.Changer → DecodesTo (commands_of device) (drives_of device) cdb e → has_room k n ≡ true → s ≡ decoded_command (commands_of device) cdb
    bytes → a ≡ act_of_decoded s
    → judged_as (record { device = device; state = after_contact k n }) n s bytes ≡ (after, f, reply) → is_left reply.sense ≡ true
    → Opens device k n cdb bytes e a after f (judged_as (record { device = device; state = after_contact k n }) n
    (decoded_command (commands_of device) cdb bytes) bytes)
opens (Drive v) k n cdb bytes e s a after f reply changer decodes room spelt asked judged l = absurd cc
opens (Changer c) k n cdb bytes e s a after f reply changer decodes room spelt asked judged l =
    let u : JudgedUnit = record { device = Changer c; state = after_contact k n } in
    let q : Request = decodes.request in
    let asked_so : Asks (drives_of (Changer c)) q e = asks (drives_of (Changer c)) q e decodes.asks in
    let moves = moving (drives_of (Changer c)) q e asked_so in
    let move : Command = Device q in
    let is : decoded_command (commands_of (Changer c)) cdb bytes ≡ Ok move = ap (λ (o : Result Request CdbFault). elim o
    [ Ok y ↦ command_of y bytes | Err fault ↦ Err (condition_of_fault fault) ]) decodes.reads ∙ moves.command bytes in
    let judged_is : commanded u n move bytes ≡ (after, f, reply) = sym (ap (λ (x : Result Command Condition). judged_as u n x bytes)
    (spelt ∙ is)) ∙ judged in
    let at_changer : judged_as u n (decoded_command (commands_of (Changer c)) cdb bytes) bytes ≡ commanded u n move bytes = ap
    (λ (x : Result Command Condition). judged_as u n x bytes) is in
    let left_here : is_left (commanded u n move bytes).2.sense ≡ true = ap (λ (x : JudgedUnit × Decision × Reply). is_left x.2.sense) judged_is
    ∙ l in
    let own = left_is_own u n move bytes left_here in
    let by = by_field c (after_contact k n) n (cell_of u n move) q bytes e asked_so
    (subst (λ (x : JudgedUnit × Decision × Reply). is_left x.2.sense ≡ true) own.by_rules left_here) in
    let answer : commanded u n move bytes ≡ left_answer c (after_contact k n) (cell_of u n move) = own.by_rules ∙ by.answer in
    let ready : first_reset_of (after_contact k n).slots n ≡ None =
    sym (ap (λ (b : Bool). cond b None (first_reset_of (after_contact k n).slots n)) moves.waits) ∙ own.goes_on.ready in
    let met_is : after_contact k n ≡ k = known k n (slot_of k.slots n) refl ready in
    let decision_is : in_cell (cell_of u n move) (at_device None) ≡ f = sym (ap (λ (x : JudgedUnit × Decision × Reply). x.1) answer) ∙ ap
    (λ (x : JudgedUnit × Decision × Reply). x.1) judged_is in
    let asked_is : act.Command (class_of q) ≡ a = sym (asked ∙ ap act_of_decoded (spelt ∙ is)) in
    record {
      left = ap (λ (x : JudgedUnit × Decision × Reply). is_left x.2.sense) at_changer ∙ left_here;
      present = ap (λ (x : JudgedUnit × Decision × Reply). x.0) (at_changer ∙ answer) ∙ ap
          (λ (v : UnitStateView). record { device = Changer c; state = v }) met_is;
      decision = ap (λ (x : JudgedUnit × Decision × Reply). x.1) (at_changer ∙ judged_is);
      same = sym (ap (λ (x : JudgedUnit × Decision × Reply). x.0) judged_is) ∙ ap (λ (x : JudgedUnit × Decision × Reply). x.0) answer ∙ ap
          (λ (v : UnitStateView). record { device = Changer c; state = v }) met_is;
      awaits = subst (λ (x : Act). AwaitsEnd k n x f) asked_is (subst (λ (x : Decision). AwaitsEnd k n (act.Command (class_of q)) x)
          decision_is (awaits (Changer c) k n q moves own.goes_on room met_is));
      ways = has_ways c q e by.left.transport asked_so by.left.for_drives;
    }
