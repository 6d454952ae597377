-- The ways in which a decoded command ends: an attention of ASC 29h is told, or the reservation check refuses it, or another
-- attention is told, or it is carried out by its own rules.
use Rattle.std.proofs.Common.{◌≡◌, ◌≢◌, ℕ, List, Option, Some, None, refl, ap, ◌∙◌}
use Rattle.scsi_nexus.specs.declared.nexus.Nexus.{Nexus}
use Rattle.unit_attention.specs.declared.kind.Kind.{Kind}
use Rattle.unit_attention.specs.Queues.{first_reset_of, first_other_of}
use Rattle.pr_core.specs.declared.verdict.Verdict.{Verdict}
use Rattle.pr_core.specs.declared.verdict.Verdict.TheVariants.{Allowed, Denied, Rule}
use Rattle.audit_log.specs.declared.stage.Stage.TheVariants.{ResetAttention, OtherAttention}
use Rattle.judgement.specs.declared.command.Command.{Command}
use Rattle.judgement.specs.Commands.{class_of_command}
use Rattle.judgement.specs.declared.reply.Reply.{Reply}
use Rattle.judgement.specs.Replies.{conflict}
use Rattle.judgement.specs.Readings.{verdict_of}
use Rattle.judgement.specs.declared.decision.Decision.{Decision}
use Rattle.judgement.specs.Decisions.{at_stage, let_in, in_conflict, rule_of}
use Rattle.judgement.specs.JudgedUnit.{JudgedUnit}
use Rattle.judgement.specs.Judge.{cell_of, waiting, tells, at_cell, carried_out, let_through, checked, commanded}

-- a conflict by a verdict
abbrev pub refuses : JudgedUnit → Nexus → Command → Verdict → JudgedUnit × Decision × Reply
refuses u n c v = (u, in_conflict (cell_of u n c) (rule_of v), conflict)

-- the judgement by a verdict
abbrev pub by_verdict : (u : JudgedUnit) (n : Nexus) (c : Command) (bytes : List ℕ) → Verdict → JudgedUnit × Decision × Reply
by_verdict u n c bytes Allowed = let_through u n c bytes
by_verdict u n c bytes (Denied cell) = refuses u n c (Denied cell)
by_verdict u n c bytes (Rule rule) = refuses u n c (Rule rule)

by_checked : (u : JudgedUnit) (n : Nexus) (c : Command) (bytes : List ℕ) → checked u n c bytes ≡ by_verdict u n c bytes (verdict_of u.state.reservations n c)
by_checked u n c bytes =
    let at = cell_of u n c in
    elim (verdict_of u.state.reservations n c) as (λ (v : Verdict). ◌≡◌ {A = JudgedUnit × Decision × Reply} (elim v [ Allowed ↦ let_through u n c bytes | Denied cell ↦ (u, in_conflict at None, conflict) | Rule rule ↦ (u, in_conflict at (Some rule), conflict) ]) (by_verdict u n c bytes v)) [ Allowed ↦ refl | Denied cell ↦ refl | Rule rule ↦ refl ]

refused_by_verdict : (u : JudgedUnit) (n : Nexus) (c : Command) (bytes : List ℕ) (v : Verdict) → v ≢ Allowed → by_verdict u n c bytes v ≡ refuses u n c v
refused_by_verdict u n c bytes Allowed barred = absurd (barred refl)
refused_by_verdict u n c bytes (Denied cell) barred = refl
refused_by_verdict u n c bytes (Rule rule) barred = refl

-- what the reservation check doesn't allow is refused there
pub refused_by : (u : JudgedUnit) (n : Nexus) (c : Command) (bytes : List ℕ) → verdict_of u.state.reservations n c ≢ Allowed
    → checked u n c bytes ≡ refuses u n c (verdict_of u.state.reservations n c)
refused_by u n c bytes barred = by_checked u n c bytes ∙ refused_by_verdict u n c bytes (verdict_of u.state.reservations n c) barred

-- and what it allows goes on
pub let_by : (u : JudgedUnit) (n : Nexus) (c : Command) (bytes : List ℕ) → verdict_of u.state.reservations n c ≡ Allowed → checked u n c bytes ≡ let_through u n c bytes
let_by u n c bytes h = by_checked u n c bytes ∙ ap (by_verdict u n c bytes) h

module _ (P : JudgedUnit × Decision × Reply → Type 0) (u : JudgedUnit) (n : Nexus) (c : Command) (bytes : List ℕ) where
  -- what holds of an attention of another ASC that is told, and of a command by its own rules, holds behind the check
  pub by_let_through : ((kind : Kind) → P (tells u n kind (let_in (cell_of u n c) OtherAttention))) → P (at_cell (cell_of u n c) (carried_out u n c bytes)) → P (let_through u n c bytes)
  by_let_through told carried =
      elim (waiting (class_of_command c) (first_other_of u.state.slots n)) as (λ (o : Option Kind). P (elim o [ Some kind ↦ tells u n kind (let_in (cell_of u n c) OtherAttention) | None ↦ at_cell (cell_of u n c) (carried_out u n c bytes) ])) [
        | Some kind ↦ told kind
        | None ↦ carried
      ]

  by_checks : ((v : Verdict) → v ≢ Allowed → P (refuses u n c v)) → P (let_through u n c bytes) → P (checked u n c bytes)
  by_checks refused through =
      elim (verdict_of u.state.reservations n c) as (λ (v : Verdict). P (elim v [ Allowed ↦ let_through u n c bytes | Denied cell ↦ (u, in_conflict (cell_of u n c) None, conflict) | Rule rule ↦ (u, in_conflict (cell_of u n c) (Some rule), conflict) ])) [
        | Allowed ↦ through
        | Denied cell ↦ refused (Denied cell) (λ e. cc)
        | Rule rule ↦ refused (Rule rule) (λ e. cc)
      ]

  -- what holds of each way in which a command ends holds of the command
  pub by_ways : ((kind : Kind) → P (tells u n kind (at_stage ResetAttention))) → ((v : Verdict) → v ≢ Allowed → P (refuses u n c v))
      → ((kind : Kind) → P (tells u n kind (let_in (cell_of u n c) OtherAttention))) → P (at_cell (cell_of u n c) (carried_out u n c bytes)) → P (commanded u n c bytes)
  by_ways reset refused told carried =
      elim (waiting (class_of_command c) (first_reset_of u.state.slots n)) as (λ (o : Option Kind). P (elim o [ Some kind ↦ tells u n kind (at_stage ResetAttention) | None ↦ checked u n c bytes ])) [
        | Some kind ↦ reset kind
        | None ↦ by_checks refused (by_let_through told carried)
      ]
