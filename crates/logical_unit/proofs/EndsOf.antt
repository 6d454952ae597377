-- The three ways in which a judged command leaves its unit: as it was, but for an attention that was reported, or as the command by its own rules.
use Rattle.std.proofs.Common.{◌≡◌, ℕ, List, Option, Some, None, inl, inr, refl, sym, subst}
use Rattle.std.specs.Prelude.{◌⊎◌}
use Rattle.scsi_nexus.specs.declared.nexus.Nexus.{Nexus}
use Rattle.unit_attention.specs.declared.kind.Kind.{Kind}
use Rattle.unit_attention.specs.Queues.{first_reset_of, first_other_of}
use Rattle.pr_core.specs.declared.verdict.Verdict.{Verdict}
use Rattle.pr_core.specs.declared.verdict.Verdict.TheVariants.{Allowed, Denied, Rule}
use Rattle.audit_log.specs.declared.stage.Stage.TheVariants.{ResetAttention, OtherAttention}
use Rattle.judgement.specs.declared.command.Command.{Command}
use Rattle.judgement.specs.declared.decision.Decision.{Decision}
use Rattle.judgement.specs.declared.reply.Reply.{Reply}
use Rattle.judgement.specs.Decisions.{at_stage, in_conflict}
use Rattle.judgement.specs.Decisions.{let_in}
use Rattle.judgement.specs.Replies.{conflict}
use Rattle.judgement.specs.Commands.{class_of_command}
use Rattle.judgement.specs.JudgedUnit.{JudgedUnit}
use Rattle.judgement.specs.UnitState.{reported}
use Rattle.judgement.specs.Judge.{cell_of, tells, carried_out, commanded}
use Rattle.judgement.specs.Readings.{verdict_of}
use Rattle.judgement.specs.Judge.{waiting, at_cell, let_through, checked}

abbrev pub IsEnd : JudgedUnit → Nexus → Command → List ℕ → JudgedUnit → Type 0
IsEnd u n c bytes v =
    (v ≡ u) ⊎ (((kind : Kind) × (v ≡ record u { state = reported u.state n kind }))
    ⊎ ((verdict_of u.state.reservations n c ≡ Allowed) × (v ≡ (carried_out u n c bytes).0)))

module _ (u : JudgedUnit) (n : Nexus) (c : Command) (bytes : List ℕ) where
  abbrev Ends : JudgedUnit × Decision × Reply → Type 0
  Ends x = IsEnd u n c bytes x.0

  let_through_ends : verdict_of u.state.reservations n c ≡ Allowed → Ends (let_through u n c bytes)
  let_through_ends v =
      elim (waiting (class_of_command c) (first_other_of u.state.slots n)) as (λ (o : Option Kind). Ends (elim o [ Some kind ↦ tells u n kind (let_in (cell_of u n c) OtherAttention) | None ↦ at_cell (cell_of u n c) (carried_out u n c bytes) ])) [
        | Some kind ↦ inr (inl (kind, refl))
        | None ↦ inr (inr (v, refl))
      ]

  checked_ends : Ends (checked u n c bytes)
  checked_ends =
      elim (verdict_of u.state.reservations n c) as (λ (v : Verdict). verdict_of u.state.reservations n c ≡ v → Ends (elim v [ Allowed ↦ let_through u n c bytes | Denied cell ↦ (u, in_conflict (cell_of u n c) None, conflict) | Rule rule ↦ (u, in_conflict (cell_of u n c) (Some rule), conflict) ])) [
        | Allowed ↦ λ v. let_through_ends v
        | Denied cell ↦ λ v. inl refl
        | Rule rule ↦ λ v. inl refl
      ] refl

  pub commanded_ends : Ends (commanded u n c bytes)
  commanded_ends =
      elim (waiting (class_of_command c) (first_reset_of u.state.slots n)) as (λ (o : Option Kind). Ends (elim o [ Some kind ↦ tells u n kind (at_stage ResetAttention) | None ↦ checked u n c bytes ])) [
        | Some kind ↦ inr (inl (kind, refl))
        | None ↦ checked_ends
      ]

-- what holds of the unit, of it with an attention less, and of it after an allowed command by its own rules, holds after a command
pub by_ends : (P : JudgedUnit → Type 0) (u : JudgedUnit) (n : Nexus) (c : Command) (bytes : List ℕ) → P u → ((kind : Kind) → P (record u { state = reported u.state n kind }))
    → (verdict_of u.state.reservations n c ≡ Allowed → P (carried_out u n c bytes).0) → P (commanded u n c bytes).0
by_ends P u n c bytes same told carried = go (commanded u n c bytes).0 (commanded_ends u n c bytes)
  where
    go : (v : JudgedUnit) → IsEnd u n c bytes v → P v
    go v (inl e) = subst P (sym e) same
    go v (inr (inl e)) = subst P (sym e.1) (told e.0)
    go v (inr (inr e)) = subst P (sym e.1) (carried e.0)
