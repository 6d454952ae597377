-- What a command of a nexus outside leaves, as those inside see it.
use Rattle.std.proofs.Common.{◌≡◌, ℕ, Bool, true, false, cond, not, ◌==◌, ◌&&◌, List, [], ◌∷◌, filter, Option, Some, None, Result, Ok, Err, refl, ap, ◌∙◌, subst}
use Rattle.std.specs.List.{list_any, list_all}
use Rattle.scsi_cdb.specs.declared.classes.Class.{Class}
use Rattle.scsi_cdb.specs.declared.classes.Class.TheVariants.{AllowRemoval, PreventRemoval}
use Rattle.scsi_cdb.specs.declared.request.Request.{Request}
use Rattle.scsi_cdb.specs.Classes.{class_of}
use Rattle.scsi_nexus.specs.declared.nexus.Nexus.{Nexus}
use Rattle.scsi_nexus.specs.Order.{same_nexus}
use Rattle.scsi_nexus.proofs.NexusLaws.{same_nexus-true}
use Rattle.scsi_sense.specs.declared.condition.Condition.{Condition}
use Rattle.scsi_sense.specs.declared.condition.Condition.TheVariants.{MediumRemovalPrevented}
use Rattle.unit_attention.specs.declared.kind.Kind.{Kind}
use Rattle.unit_attention.specs.Pending.{without_kind}
use Rattle.unit_attention.specs.Queues.{slot_of}
use Rattle.permit_tables.specs.declared.cell.Cell.{Cell}
use Rattle.permit_tables.specs.Permission.{group_of, row_allows, is_allowed}
use Rattle.permit_tables.specs.declared.out_params.OutParams.{OutParams}
use Rattle.pr_core.specs.State.{State, res_type, role}
use Rattle.pr_core.specs.Judge.{verdict}
use Rattle.pr_core.specs.Outcome.{act_of, applied, raised_by, removed_by, refusal}
use Rattle.permit_tables.specs.declared.pr_fault.PrFault.{PrFault}
use Rattle.pr_core.specs.declared.verdict.Verdict.TheVariants.{Allowed, Denied}
use Rattle.audit_log.specs.declared.stage.Stage.TheVariants as stage
use Rattle.audit_log.specs.declared.stage.Stage.TheVariants.{ResetAttention, OtherAttention, Fields}
use Rattle.device_server.specs.View.{DeviceView, field_fault, performed}
use Rattle.judgement.specs.declared.command.Command.{Command}
use Rattle.judgement.specs.declared.command.Command.TheVariants.{ReserveOut, ReserveIn, Inquiry, ReportLuns, RequestSense, Prevent, Device}
use Rattle.judgement.specs.declared.decision.Decision.{Decision}
use Rattle.judgement.specs.declared.reply.Reply.{Reply}
use Rattle.judgement.specs.Conditions.{condition_of_refusal}
use Rattle.judgement.specs.Decisions.{at_stage}
use Rattle.judgement.specs.Replies.{check}
use Rattle.judgement.specs.Replies.{good}
use Rattle.judgement.specs.Commands.{class_of_command}
use Rattle.judgement.specs.JudgedUnit.{JudgedUnit}
use Rattle.judgement.specs.UnitState.{accepted, is_prevented, preventers_after, after_telling}
use Rattle.judgement.specs.Judge.{cell_of, tells, carried_out}
use Rattle.judgement.specs.Readings.{verdict_of, pending_of}
use Rattle.judgement.specs.Judge.{sensed, steps, unloads, performs, at_cell, judged_as}
use Rattle.judgement.proofs.Carried.{prevents_by}
use Rattle.unit_attention.proofs.SlotOf.{change-apart}
use Rattle.protected_span.proofs.Slots.{all_raised-apart}
use Rattle.logical_unit.proofs.EndsOf.{by_ends}
use Rattle.logical_unit.proofs.OutsiderLeavesContents.{Shut, barred, performed_quiet}

module _ (inside : Nexus → Bool) where
  -- what those inside see stays as it was
  pub record Left (u v : JudgedUnit) : Type 0 where
    pub device : v.device ≡ u.device
    pub lun : v.state.lun ≡ u.state.lun
    pub units : v.state.units ≡ u.state.units
    pub profile : v.state.profile ≡ u.state.profile
    pub slots : (m : Nexus) → inside m ≡ true → slot_of v.state.slots m ≡ slot_of u.state.slots m
    pub preventers : v.state.preventers ≡ u.state.preventers

  -- an accepted act that tells nobody inside, and ends no prevention of theirs
  pub record Calm (v : State) (n : Nexus) (p : OutParams) : Type 0 where
    pub raised : (m : Nexus) → inside m ≡ true → list_any (λ a. same_nexus m a.0) (raised_by v n (act_of v n p)) ≡ false
    pub preventers : (ps : List Nexus) → list_all inside ps ≡ true → preventers_after ps p.act (removed_by v n (act_of v n p)) ≡ ps

  pub apart : (m n : Nexus) → inside m ≡ true → inside n ≡ false → same_nexus m n ≡ false
  apart m n is isnt =
      elim (same_nexus m n) as (λ b. same_nexus m n ≡ b → b ≡ false) [
        | true ↦ λ e. barred (inside m) is (ap inside (same_nexus-true m n e) ∙ isnt)
        | false ↦ λ e. refl
      ] refl

  left_same : (u : JudgedUnit) → Left u u
  left_same u = record { device = refl; lun = refl; units = refl; profile = refl; slots = λ m is. refl; preventers = refl }

  and_parts : (a b : Bool) → (a && b) ≡ true → (a ≡ true) × (b ≡ true)
  and_parts true b h = (refl, h)
  and_parts false b h = cc

  -- an ALLOW of a nexus outside ends nothing
  pub allowed_apart : (ps : List Nexus) (n : Nexus) → inside n ≡ false → list_all inside ps ≡ true → filter (λ p. not (same_nexus p n)) ps ≡ ps
  allowed_apart [] n isnt own = refl
  allowed_apart (p ∷ ps) n isnt own =
      let parts = and_parts _ _ own in
      ap (λ b. cond (not b) (p ∷ filter (λ x. not (same_nexus x n)) ps) (filter (λ x. not (same_nexus x n)) ps)) (apart p n parts.0 isnt)
      ∙ ap (λ x. p ∷ x) (allowed_apart ps n isnt parts.1)

  module _ (u : JudgedUnit) (n : Nexus) (isnt : inside n ≡ false) (shut : Shut (res_type u.state.reservations) (role u.state.reservations n)) (own : list_all inside u.state.preventers ≡ true)
      (P : State → Type 0) (calm : (p : OutParams) → verdict u.state.reservations n p ≡ Allowed → P (applied u.state.reservations n p) → Calm u.state.reservations n p) where
    -- what is judged so leaves what those inside see, where the reservations that it leaves are such
    abbrev Leaves : JudgedUnit × Decision × Reply → Type 0
    Leaves x = P x.0.state.reservations → Left u x.0

    stays : (f : Decision) (r : Reply) → Leaves (u, f, r)
    stays f r g = left_same u

    told_leaves : (kind : Kind) (f : Decision) → Leaves (tells u n kind f)
    told_leaves kind f g = record {
      device = refl;
      lun = refl;
      units = refl;
      profile = refl;
      preventers = refl;
      slots = λ m is. change-apart u.state.slots n m (λ ks. without_kind ks kind) (apart m n is isnt);
    }

    sensed_leaves : (l : ℕ) (o : Option Kind) → Left u (record u { state = (sensed u.state n l o).0 })
    sensed_leaves l (Some kind) = record {
      device = refl;
      lun = refl;
      units = refl;
      profile = refl;
      preventers = refl;
      slots = λ m is. change-apart u.state.slots n m (λ ks. without_kind ks kind) (apart m n is isnt);
    }
    sensed_leaves l None = left_same u

    -- the permission table lets a class of the sender through
    abbrev Lets : Class → Type 0
    Lets class = is_allowed class (res_type u.state.reservations) (role u.state.reservations n) ≡ true

    allowed_class : (b : Bool) (c : Cell) → cond b Allowed (Denied c) ≡ Allowed → b ≡ true
    allowed_class true c h = refl
    allowed_class false c h = cc

    prevents_leaves : (prevent : ℕ) (zero one : Bool) → (prevent == 0) ≡ zero → Lets (class_of_command (Prevent prevent)) → Leaves (prevents_by u n zero one)
    prevents_leaves prevent true one e lets g = record { device = refl; lun = refl; units = refl; profile = refl; slots = λ m is. refl; preventers = allowed_apart u.state.preventers n isnt own }
    prevents_leaves prevent false true e lets g =
        barred _ (subst (λ b. row_allows (group_of (cond b AllowRemoval PreventRemoval)) (res_type u.state.reservations) (role u.state.reservations n) ≡ true) e lets) shut.changing
    prevents_leaves prevent false false e lets g = left_same u

    telling_leaves : (d : DeviceView) (told : Option Kind) → d ≡ u.device → told ≡ None → Left u (record { device = d; state = after_telling u.state n told })
    telling_leaves d (Some kind) e f = cc
    telling_leaves d None e f = record { device = e; lun = refl; units = refl; profile = refl; slots = λ m is. refl; preventers = refl }

    steps_leaves : (at : Cell) (r : Request) (bytes : List ℕ) (b : Bool) → Lets (class_of r) → Leaves (at_cell at (cond b (u, at_stage stage.Device, check MediumRemovalPrevented) (steps u n (performed u.device r bytes))))
    steps_leaves at r bytes true lets g = left_same u
    steps_leaves at r bytes false lets g =
        let q = performed_quiet (res_type u.state.reservations) (role u.state.reservations n) shut u.device r bytes lets in
        telling_leaves (performed u.device r bytes).0 (performed u.device r bytes).1.told q.same q.steady

    performs_leaves : (at : Cell) (r : Request) (bytes : List ℕ) → Lets (class_of r) → Leaves (at_cell at (performs u n r bytes))
    performs_leaves at r bytes lets =
        elim (field_fault u.device r bytes) as (λ (o : Option Condition). Leaves (at_cell at (elim o [ Some condition ↦ (u, at_stage Fields, check condition) | None ↦ cond (unloads r && is_prevented u.state) (u, at_stage stage.Device, check MediumRemovalPrevented) (steps u n (performed u.device r bytes)) ]))) [
          | Some condition ↦ λ g. left_same u
          | None ↦ steps_leaves at r bytes (unloads r && is_prevented u.state) lets
        ]

    accepted_leaves : (p : OutParams) → verdict u.state.reservations n p ≡ Allowed → P (applied u.state.reservations n p) → Left u (record u { state = accepted u.state n p })
    accepted_leaves p v g =
        let c = calm p v g in
        record {
          device = refl;
          lun = refl;
          units = refl;
          profile = refl;
          slots = λ m is. all_raised-apart (raised_by u.state.reservations n (act_of u.state.reservations n p)) u.state.slots m (c.raised m is);
          preventers = c.preventers u.state.preventers own;
        }

    carried_leaves : (at : Cell) (c : Command) (bytes : List ℕ) → verdict_of u.state.reservations n c ≡ Allowed → Leaves (at_cell at (carried_out u n c bytes))
    carried_leaves at (ReserveOut p) bytes v =
        elim (refusal u.state.reservations n p) as (λ (o : Option PrFault). Leaves (at_cell at (elim o [ Some fault ↦ (u, at_stage Fields, check (condition_of_refusal fault)) | None ↦ (record u { state = accepted u.state n p }, at_stage stage.Device, good []) ]))) [
          | Some fault ↦ λ g. left_same u
          | None ↦ accepted_leaves p v
        ]
    carried_leaves at (ReserveIn a l) bytes v = λ g. left_same u
    carried_leaves at (Inquiry e p l) bytes v = λ g. left_same u
    carried_leaves at (ReportLuns s l) bytes v = λ g. left_same u
    carried_leaves at (RequestSense true l) bytes v = λ g. left_same u
    carried_leaves at (RequestSense false l) bytes v = λ g. sensed_leaves l (pending_of u.state.slots n)
    carried_leaves at (Prevent p) bytes v = prevents_leaves p (p == 0) (p == 1) refl (allowed_class _ _ v)
    carried_leaves at (Device r) bytes v = performs_leaves at r bytes (allowed_class _ _ v)

    -- a judged command of a nexus outside
    pub judged_leaves : (c : Result Command Condition) (bytes : List ℕ) → Leaves (judged_as u n c bytes)
    judged_leaves (Err condition) bytes = λ g. left_same u
    judged_leaves (Ok c) bytes =
        by_ends (λ (v : JudgedUnit). P v.state.reservations → Left u v) u n c bytes (λ g. left_same u) (λ kind. told_leaves kind (at_stage Fields)) (carried_leaves (cell_of u n c) c bytes)
