-- A command of a nexus inside, at two units that look alike to those inside.
use Rattle.std.proofs.Common.{◌≡◌, ℕ, Bool, true, false, cond, not, ◌==◌, ◌&&◌, List, [], ◌∷◌, ◌++◌, filter, take, Option, Some, None, Err, refl, ap, subst}
use Rattle.std.specs.Prelude.{option_and_then}
use Rattle.std.specs.List.{list_all}
use Rattle.scsi_cdb.specs.declared.service_action.OutServiceAction.{OutServiceAction}
use Rattle.scsi_cdb.specs.declared.service_action.OutServiceAction.TheVariants as out
use Rattle.scsi_cdb.specs.declared.request.Request.{Request}
use Rattle.scsi_nexus.specs.declared.nexus.Nexus.{Nexus}
use Rattle.scsi_nexus.specs.Order.{same_nexus}
use Rattle.scsi_sense.specs.declared.condition.Condition.{Condition}
use Rattle.scsi_sense.specs.declared.condition.Condition.TheVariants.{MediumRemovalPrevented}
use Rattle.unit_attention.specs.declared.kind.Kind.{Kind}
use Rattle.unit_attention.specs.Pending.{without_kind, oldest_reset, oldest_other}
use Rattle.unit_attention.specs.Queues.{Slots, slot_of, first_reset_of, first_other_of}
use Rattle.permit_tables.specs.declared.cell.Cell.{Cell}
use Rattle.permit_tables.specs.declared.out_params.OutParams.{OutParams}
use Rattle.pr_core.specs.State.{State}
use Rattle.pr_core.specs.Targets.{is_among}
use Rattle.pr_core.specs.Outcome.{act_of, applied, raised_by, removed_by, refusal}
use Rattle.permit_tables.specs.declared.pr_fault.PrFault.{PrFault}
use Rattle.pr_core.specs.declared.verdict.Verdict.{Verdict}
use Rattle.pr_core.specs.declared.verdict.Verdict.TheVariants.{Allowed, Denied, Rule}
use Rattle.audit_log.specs.declared.stage.Stage.TheVariants as stage
use Rattle.audit_log.specs.declared.stage.Stage.TheVariants.{ResetAttention, OtherAttention, Fields}
use Rattle.device_server.specs.View.{field_fault, performed}
use Rattle.judgement.specs.declared.command.Command.{Command}
use Rattle.judgement.specs.declared.command.Command.TheVariants.{ReserveOut, ReserveIn, Inquiry, ReportLuns, RequestSense, Prevent, Device}
use Rattle.judgement.specs.declared.decision.Decision.{Decision}
use Rattle.judgement.specs.declared.reply.Reply.{Reply}
use Rattle.judgement.specs.Conditions.{condition_of_refusal}
use Rattle.judgement.specs.Decisions.{at_stage, in_conflict}
use Rattle.judgement.specs.Decisions.{let_in}
use Rattle.judgement.specs.Replies.{conflict, check}
use Rattle.judgement.specs.Replies.{good}
use Rattle.judgement.specs.Commands.{class_of_command}
use Rattle.judgement.specs.JudgedUnit.{JudgedUnit}
use Rattle.judgement.specs.UnitState.{accepted, is_prevented, preventers_after, after_telling}
use Rattle.unit_attention.specs.Queues.{all_raised}
use Rattle.judgement.specs.Judge.{cell_of, tells, carried_out, commanded}
use Rattle.judgement.specs.Readings.{verdict_of, status_data, pending_of}
use Rattle.judgement.specs.Judge.{waiting, sensed, steps, unloads, performs, at_cell, let_through, checked, judged_as}
use Rattle.judgement.proofs.Carried.{prevents_by}
use Rattle.protected_span.proofs.InsidersView.{Alike, Says}
use Rattle.unit_attention.proofs.SlotOf.{change-alike}
use Rattle.protected_span.proofs.Slots.{raised_for_others-alike}

pub says-refl : (exact : Bool) (r : Reply) → Says exact r r
says-refl true r = refl
says-refl false r = record { status = refl; sense = refl }

and_both : (a b : Bool) → a ≡ true → b ≡ true → (a && b) ≡ true
and_both true b h k = k
and_both false b h k = cc

and_parts : (a b : Bool) → (a && b) ≡ true → (a ≡ true) × (b ≡ true)
and_parts true b h = (refl, h)
and_parts false b h = cc

module _ (inside : Nexus → Bool) where
  pub own_filter : (test : Nexus → Bool) (ps : List Nexus) → list_all inside ps ≡ true → list_all inside (filter test ps) ≡ true
  own_filter test [] h = refl
  own_filter test (p ∷ ps) h =
      let parts = and_parts _ _ h in
      elim (test p) as (λ b. list_all inside (cond b (p ∷ filter test ps) (filter test ps)) ≡ true) [
        | true ↦ and_both _ _ parts.0 (own_filter test ps parts.1)
        | false ↦ own_filter test ps parts.1
      ]

  own_push : (ps : List Nexus) (n : Nexus) → list_all inside ps ≡ true → inside n ≡ true → list_all inside (ps ++ n ∷ []) ≡ true
  own_push [] n h is = and_both _ _ is refl
  own_push (p ∷ ps) n h is = let parts = and_parts _ _ h in and_both _ _ parts.0 (own_push ps n parts.1 is)

  own_prevented : (b : Bool) (ps : List Nexus) (n : Nexus) → list_all inside ps ≡ true → inside n ≡ true → list_all inside (cond b ps (ps ++ n ∷ [])) ≡ true
  own_prevented true ps n h is = h
  own_prevented false ps n h is = own_push ps n h is

  own_after : (act : OutServiceAction) (ps removed : List Nexus) → list_all inside ps ≡ true → list_all inside (preventers_after ps act removed) ≡ true
  own_after out.Register ps removed h = h
  own_after out.Reserve ps removed h = h
  own_after out.Release ps removed h = h
  own_after out.Clear ps removed h = h
  own_after out.Preempt ps removed h = h
  own_after out.PreemptAndAbort ps removed h = own_filter (λ p. not (is_among p removed)) ps h
  own_after out.RegisterAndIgnoreExistingKey ps removed h = h
  own_after out.RegisterAndMove ps removed h = h

  -- an act of n that two units accept or refuse alike, and of which those inside see the same
  pub record Agree (v w : State) (n : Nexus) (p : OutParams) : Type 0 where
    pub refusal : refusal v n p ≡ refusal w n p
    pub raised : (q r : Slots) (m : Nexus) → inside m ≡ true → slot_of q m ≡ slot_of r m → slot_of (all_raised q (raised_by v n (act_of v n p))) m ≡ slot_of (all_raised r (raised_by w n (act_of w n p))) m
    pub preventers : (ps : List Nexus) → list_all inside ps ≡ true → preventers_after ps p.act (removed_by v n (act_of v n p)) ≡ preventers_after ps p.act (removed_by w n (act_of w n p))

  module _ (f : JudgedUnit) (w : State) (r : Slots) (n : Nexus) (is : inside n ≡ true) (own : list_all inside f.state.preventers ≡ true)
      (slots : (m : Nexus) → inside m ≡ true → slot_of f.state.slots m ≡ slot_of r m)
      (P : State → Type 0) (R : State → State → Type 0) (related : R f.state.reservations w) (exact : Bool) where
    -- the other unit, of the same device
    abbrev pub other : JudgedUnit
    other = record { device = f.device; state = record f.state { reservations = w; slots = r } }

    -- what the reservations have to do with a command
    abbrev pub Fit : Command → Type 0
    Fit (ReserveOut p) = Agree f.state.reservations w n p × (P (applied f.state.reservations n p) → R (applied f.state.reservations n p) (applied w n p))
    Fit (ReserveIn a l) = Says exact (good (take l (status_data f.state.reservations a))) (good (take l (status_data w a)))
    Fit c = Unit {0}

    pub record Both (x y : JudgedUnit × Decision × Reply) : Type 0 where
      pub device : x.0.device ≡ y.0.device
      pub state : Alike inside x.0.state y.0.state
      pub reply : Says exact x.2 y.2
      pub reservations : P x.0.state.reservations → R x.0.state.reservations y.0.state.reservations

    alike : Alike inside f.state other.state
    alike = record { lun = refl; units = refl; profile = refl; slots = slots; preventers = refl; own = own }

    same_both : (e g : Decision) (a : Reply) → Both (f, e, a) (other, g, a)
    same_both e g a = record { device = refl; state = alike; reply = says-refl exact a; reservations = λ _. related }

    told_both : (kind : Kind) (e g : Decision) → Both (tells f n kind e) (tells other n kind g)
    told_both kind e g = record {
      device = refl;
      state = record { lun = refl; units = refl; profile = refl; slots = λ m within. change-alike f.state.slots r n m (λ ks. without_kind ks kind) (slots m within); preventers = refl; own = own };
      reply = says-refl exact _;
      reservations = λ _. related;
    }

    first_reset_same : first_reset_of f.state.slots n ≡ first_reset_of r n
    first_reset_same = ap (option_and_then oldest_reset) (slots n is)

    first_other_same : first_other_of f.state.slots n ≡ first_other_of r n
    first_other_same = ap (option_and_then oldest_other) (slots n is)

    sensed_both : (at : Cell) (to : Cell) (l : ℕ) (o : Option Kind)
        → Both (at_cell at (record f { state = (sensed f.state n l o).0 }, (sensed f.state n l o).1, (sensed f.state n l o).2)) (at_cell to (record other { state = (sensed other.state n l o).0 }, (sensed other.state n l o).1, (sensed other.state n l o).2))
    sensed_both at to l (Some kind) = record {
      device = refl;
      state = record { lun = refl; units = refl; profile = refl; slots = λ m within. change-alike f.state.slots r n m (λ ks. without_kind ks kind) (slots m within); preventers = refl; own = own };
      reply = says-refl exact _;
      reservations = λ _. related;
    }
    sensed_both at to l None = same_both _ _ _

    pending_same : pending_of f.state.slots n ≡ pending_of r n
    pending_same = ap (λ (o : Option (List Kind)). elim (option_and_then oldest_reset o) [ Some kind ↦ Some kind | None ↦ option_and_then oldest_other o ]) (slots n is)

    prevents_both : (at to : Cell) (zero one : Bool) → Both (at_cell at (prevents_by f n zero one)) (at_cell to (prevents_by other n zero one))
    prevents_both at to true one = record {
      device = refl;
      state = record { lun = refl; units = refl; profile = refl; slots = slots; preventers = refl; own = own_filter (λ p. not (same_nexus p n)) f.state.preventers own };
      reply = says-refl exact _;
      reservations = λ _. related;
    }
    prevents_both at to false true = record {
      device = refl;
      state = record { lun = refl; units = refl; profile = refl; slots = slots; preventers = refl; own = own_prevented (is_among n f.state.preventers) f.state.preventers n own is };
      reply = says-refl exact _;
      reservations = λ _. related;
    }
    prevents_both at to false false = same_both _ _ _

    telling_both : (told : Option Kind) → Alike inside (after_telling f.state n told) (after_telling other.state n told)
    telling_both None = alike
    telling_both (Some kind) = record { lun = refl; units = refl; profile = refl; slots = λ m within. raised_for_others-alike f.state.slots r n m kind (slots m within); preventers = refl; own = own }

    telling_reservations : (told : Option Kind) → R (after_telling f.state n told).reservations (after_telling other.state n told).reservations
    telling_reservations None = related
    telling_reservations (Some kind) = related

    steps_both : (at to : Cell) (req : Request) (bytes : List ℕ) (b : Bool)
        → Both (at_cell at (cond b (f, at_stage stage.Device, check MediumRemovalPrevented) (steps f n (performed f.device req bytes)))) (at_cell to (cond b (other, at_stage stage.Device, check MediumRemovalPrevented) (steps other n (performed f.device req bytes))))
    steps_both at to req bytes true = same_both _ _ _
    steps_both at to req bytes false =
        let told = (performed f.device req bytes).1.told in
        record { device = refl; state = telling_both told; reply = says-refl exact _; reservations = λ _. telling_reservations told }

    performs_both : (at to : Cell) (req : Request) (bytes : List ℕ) → Both (at_cell at (performs f n req bytes)) (at_cell to (performs other n req bytes))
    performs_both at to req bytes =
        elim (field_fault f.device req bytes) as (λ (o : Option Condition). Both
        (at_cell at (elim o [ Some condition ↦ (f, at_stage Fields, check condition) | None ↦ cond (unloads req && is_prevented f.state) (f, at_stage stage.Device, check MediumRemovalPrevented) (steps f n (performed f.device req bytes)) ]))
        (at_cell to (elim o [ Some condition ↦ (other, at_stage Fields, check condition) | None ↦ cond (unloads req && is_prevented f.state) (other, at_stage stage.Device, check MediumRemovalPrevented) (steps other n (performed f.device req bytes)) ]))) [
          | Some condition ↦ same_both _ _ _
          | None ↦ steps_both at to req bytes (unloads req && is_prevented f.state)
        ]

    accepted_both : (at to : Cell) (p : OutParams) → Fit (ReserveOut p) → Both (at_cell at (record f { state = accepted f.state n p }, at_stage stage.Device, good [])) (at_cell to (record other { state = accepted other.state n p }, at_stage stage.Device, good []))
    accepted_both at to p fit = record {
      device = refl;
      state = record {
        lun = refl;
        units = refl;
        profile = refl;
        slots = λ m within. fit.0.raised f.state.slots r m within (slots m within);
        preventers = fit.0.preventers f.state.preventers own;
        own = own_after p.act f.state.preventers (removed_by f.state.reservations n (act_of f.state.reservations n p)) own;
      };
      reply = says-refl exact _;
      reservations = fit.1;
    }

    -- an allowed act, refused or accepted
    abbrev acts : JudgedUnit → OutParams → Option PrFault → JudgedUnit × Decision × Reply
    acts u p o = elim o [ Some fault ↦ (u, at_stage Fields, check (condition_of_refusal fault)) | None ↦ (record u { state = accepted u.state n p }, at_stage stage.Device, good []) ]

    reserves_both : (at to : Cell) (p : OutParams) → Fit (ReserveOut p) → (o : Option PrFault) → Both (at_cell at (acts f p o)) (at_cell to (acts other p o))
    reserves_both at to p fit (Some fault) = same_both _ _ _
    reserves_both at to p fit None = accepted_both at to p fit

    carried_both : (at to : Cell) (c : Command) (bytes : List ℕ) → Fit c → Both (at_cell at (carried_out f n c bytes)) (at_cell to (carried_out other n c bytes))
    carried_both at to (ReserveOut p) bytes fit =
        subst (λ (o : Option PrFault). Both (at_cell at (acts f p (refusal f.state.reservations n p))) (at_cell to (acts other p o))) fit.0.refusal (reserves_both at to p fit (refusal f.state.reservations n p))
    carried_both at to (ReserveIn a l) bytes fit = record { device = refl; state = alike; reply = fit; reservations = λ _. related }
    carried_both at to (Inquiry e p l) bytes fit = same_both _ _ _
    carried_both at to (ReportLuns s l) bytes fit = same_both _ _ _
    carried_both at to (RequestSense true l) bytes fit = same_both _ _ _
    carried_both at to (RequestSense false l) bytes fit =
        subst (λ (o : Option Kind). Both (at_cell at (record f { state = (sensed f.state n l (pending_of f.state.slots n)).0 }, (sensed f.state n l (pending_of f.state.slots n)).1, (sensed f.state n l (pending_of f.state.slots n)).2)) (at_cell to (record other { state = (sensed other.state n l o).0 }, (sensed other.state n l o).1, (sensed other.state n l o).2))) pending_same
        (sensed_both at to l (pending_of f.state.slots n))
    carried_both at to (Prevent p) bytes fit = prevents_both at to (p == 0) (p == 1)
    carried_both at to (Device req) bytes fit = performs_both at to req bytes

    abbrev through : JudgedUnit → Command → List ℕ → Option Kind → JudgedUnit × Decision × Reply
    through u c bytes o = elim (waiting (class_of_command c) o) [ Some kind ↦ tells u n kind (let_in (cell_of u n c) OtherAttention) | None ↦ at_cell (cell_of u n c) (carried_out u n c bytes) ]

    let_through_both : (c : Command) (bytes : List ℕ) → Fit c → Both (let_through f n c bytes) (let_through other n c bytes)
    let_through_both c bytes fit =
        subst (λ (o : Option Kind). Both (through f c bytes (first_other_of f.state.slots n)) (through other c bytes o)) first_other_same
        (elim (waiting (class_of_command c) (first_other_of f.state.slots n)) as (λ (o : Option Kind). Both (elim o [ Some kind ↦ tells f n kind (let_in (cell_of f n c) OtherAttention) | None ↦ at_cell (cell_of f n c) (carried_out f n c bytes) ]) (elim o [ Some kind ↦ tells other n kind (let_in (cell_of other n c) OtherAttention) | None ↦ at_cell (cell_of other n c) (carried_out other n c bytes) ])) [
          | Some kind ↦ told_both kind _ _
          | None ↦ carried_both (cell_of f n c) (cell_of other n c) c bytes fit
        ])

    abbrev by : JudgedUnit → Command → List ℕ → Verdict → JudgedUnit × Decision × Reply
    by u c bytes v = elim v [ Allowed ↦ let_through u n c bytes | Denied cell ↦ (u, in_conflict (cell_of u n c) None, conflict) | Rule rule ↦ (u, in_conflict (cell_of u n c) (Some rule), conflict) ]

    by_both : (c : Command) (bytes : List ℕ) (v : Verdict) → Fit c → Both (by f c bytes v) (by other c bytes v)
    by_both c bytes Allowed fit = let_through_both c bytes fit
    by_both c bytes (Denied cell) fit = same_both _ _ _
    by_both c bytes (Rule rule) fit = same_both _ _ _

    checked_both : (c : Command) (bytes : List ℕ) → verdict_of f.state.reservations n c ≡ verdict_of w n c → Fit c → Both (checked f n c bytes) (checked other n c bytes)
    checked_both c bytes e fit = subst (λ (v : Verdict). Both (by f c bytes (verdict_of f.state.reservations n c)) (by other c bytes v)) e (by_both c bytes (verdict_of f.state.reservations n c) fit)

    abbrev comes : JudgedUnit → Command → List ℕ → Option Kind → JudgedUnit × Decision × Reply
    comes u c bytes o = elim (waiting (class_of_command c) o) [ Some kind ↦ tells u n kind (at_stage ResetAttention) | None ↦ checked u n c bytes ]

    pub commanded_both : (c : Command) (bytes : List ℕ) → verdict_of f.state.reservations n c ≡ verdict_of w n c → Fit c → Both (commanded f n c bytes) (commanded other n c bytes)
    commanded_both c bytes e fit =
        subst (λ (o : Option Kind). Both (comes f c bytes (first_reset_of f.state.slots n)) (comes other c bytes o)) first_reset_same
        (elim (waiting (class_of_command c) (first_reset_of f.state.slots n)) as (λ (o : Option Kind). Both (elim o [ Some kind ↦ tells f n kind (at_stage ResetAttention) | None ↦ checked f n c bytes ]) (elim o [ Some kind ↦ tells other n kind (at_stage ResetAttention) | None ↦ checked other n c bytes ])) [
          | Some kind ↦ told_both kind _ _
          | None ↦ checked_both c bytes e fit
        ])

    -- bytes that decode to no command are answered alike
    pub refused_both : (condition : Condition) (bytes : List ℕ) → Both (judged_as f n (Err condition) bytes) (judged_as other n (Err condition) bytes)
    refused_both condition bytes = same_both _ _ _
