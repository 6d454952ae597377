-- A MOVE MEDIUM or an EXCHANGE MEDIUM of a sender to whom the changing classes are closed ends at the changer, before it looks at a drive.
use Rattle.std.proofs.Common.{◌≡◌, ℕ, Bool, true, false, cond, List, [], ◌∷◌, refl, sym, ap, ◌∙◌, subst, inl, inr}
use Rattle.scsi_cdb.specs.Classes.{class_of}
use Rattle.scsi_cdb.specs.declared.request.Request.{Request}
use Rattle.scsi_nexus.specs.declared.nexus.Nexus.{Nexus}
use Rattle.permit_tables.specs.Permission.{Group, Changing, group_of, row_allows}
use Rattle.permit_tables.specs.declared.cell.Cell.{Cell}
use Rattle.pr_core.specs.State.{res_type, role}
use Rattle.pr_core.specs.declared.verdict.Verdict.TheVariants.{Allowed, Denied}
use Rattle.device_server.specs.View.{commands_of, drives_of}
use Rattle.judgement.specs.Judge.{judged_as}
use Rattle.judgement.specs.declared.reply.Reply.{Reply}
use Rattle.judgement.specs.declared.command.Command.TheVariants.{Device}
use Rattle.logical_unit.specs.Contents.{SameContents, MayNotChange}
use Rattle.logical_unit.specs.Move.{TwoDrives, is_left, judged_at, MovesOne, MovesTwo}
use Rattle.logical_unit.specs.Route.{named}
use Rattle.logical_unit.specs.Step.{Executes, contacted_present}
use Rattle.logical_unit.specs.UnitView.{UnitView}
use Rattle.logical_unit.proofs.Contents.{changes_nothing}
use Rattle.logical_unit.proofs.LeftToDrives.{left_is_own}
use Rattle.logical_unit.proofs.Moved.{one_became, two_became}
use Rattle.logical_unit.proofs.NamedDrives.{has_errand, errand_asked, moving}
use Rattle.logical_unit.proofs.OutsiderLeavesContents.{barred}

allowed_class : (b : Bool) (c : Cell) → cond b Allowed (Denied c) ≡ Allowed → b ≡ true
allowed_class true c h = refl
allowed_class false c h = cc

pub never_left : (c : UnitView) (n : Nexus) (cdb bytes : List ℕ) (l : ℕ) (more : List ℕ) → named (commands_of c.device) (drives_of c.device) cdb ≡ l ∷ more → row_allows Changing (res_type c.state.reservations) (role c.state.reservations n) ≡ false
    → is_left (judged_at c n cdb bytes).2.sense ≡ true → ⊥
never_left c n cdb bytes l more names closed left =
    let e = has_errand c.device cdb l more names in
    let u = contacted_present c n in
    let q : Request = e.decodes.request in
    let is = errand_asked c.device cdb bytes l more e in
    let own = left_is_own u n (Device q) bytes (sym (ap (λ x. is_left (judged_as u n x bytes).2.sense) is) ∙ left) in
    let allowed : row_allows (group_of (class_of q)) (res_type c.state.reservations) (role c.state.reservations n) ≡ true = allowed_class _ _ own.goes_on.allowed in
    barred (row_allows Changing (res_type c.state.reservations) (role c.state.reservations n))
    (subst (λ (g : Group). row_allows g (res_type c.state.reservations) (role c.state.reservations n) ≡ true) (moving (drives_of c.device) q e.errand e.asks).changing allowed) closed

pub alone_one : (c d v e : UnitView) (n : Nexus) (cdb bytes : List ℕ) (r : Reply) (l : ℕ) (more : List ℕ) → named (commands_of c.device) (drives_of c.device) cdb ≡ l ∷ more → row_allows Changing (res_type c.state.reservations) (role c.state.reservations n) ≡ false
    → MovesOne c d n cdb bytes ((v, r), e) → Executes c n cdb bytes (v, r) × (e ≡ d)
alone_one c d v e n cdb bytes r l more names closed moves =
    elim (one_became c d v e n cdb bytes r l more names moves) [
      | inl alone ↦ (alone.0, alone.1)
      | inr left ↦ elim left [
        | inl halted ↦ absurd (never_left c n cdb bytes l more names closed halted.ends.left)
        | inr moved ↦ absurd (never_left c n cdb bytes l more names closed moved.ends.left)
      ]
    ]

pub alone_two : (c v : UnitView) (ds es : TwoDrives) (n : Nexus) (cdb bytes : List ℕ) (r : Reply) (l : ℕ) (more : List ℕ) → named (commands_of c.device) (drives_of c.device) cdb ≡ l ∷ more → row_allows Changing (res_type c.state.reservations) (role c.state.reservations n) ≡ false
    → MovesTwo c ds n cdb bytes ((v, r), es) → Executes c n cdb bytes (v, r) × (es ≡ ds)
alone_two c v ds es n cdb bytes r l more names closed moves =
    elim (two_became c v ds es n cdb bytes r l more names moves) [
      | inl alone ↦ (alone.0, alone.1)
      | inr left ↦ elim left [
        | inl halted ↦ absurd (never_left c n cdb bytes l more names closed halted.ends.left)
        | inr moved ↦ absurd (never_left c n cdb bytes l more names closed moved.ends.left)
      ]
    ]

-- so it leaves what is in the changer, and the drives whole
pub one_unchanged : (c d v e : UnitView) (n : Nexus) (cdb bytes : List ℕ) (r : Reply) (l : ℕ) → named (commands_of c.device) (drives_of c.device) cdb ≡ l ∷ [] → MovesOne c d n cdb bytes ((v, r), e) → MayNotChange c.state.reservations n
    → SameContents c.device v.device × (e ≡ d)
one_unchanged c d v e n cdb bytes r l names moves closed =
    let alone = alone_one c d v e n cdb bytes r l [] names closed moves in
    (changes_nothing c v n cdb bytes r closed alone.0, alone.1)

pub two_unchanged : (c v : UnitView) (ds es : TwoDrives) (n : Nexus) (cdb bytes : List ℕ) (r : Reply) (l m : ℕ) → named (commands_of c.device) (drives_of c.device) cdb ≡ l ∷ m ∷ [] → MovesTwo c ds n cdb bytes ((v, r), es) → MayNotChange c.state.reservations n
    → SameContents c.device v.device × (es.low ≡ ds.low) × (es.high ≡ ds.high)
two_unchanged c v ds es n cdb bytes r l m names moves closed =
    let alone = alone_two c v ds es n cdb bytes r l (m ∷ []) names closed moves in
    (changes_nothing c v n cdb bytes r closed alone.0, ap (λ (x : TwoDrives). x.low) alone.1, ap (λ (x : TwoDrives). x.high) alone.1)
