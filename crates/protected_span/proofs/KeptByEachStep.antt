-- What a relation of two units keeps, step by step, so that it is kept along a run.
use Rattle.std.proofs.Common.{◌≡◌, ◌≢◌, ℕ, Bool, true, false, List, Result}
use Rattle.scsi_nexus.specs.declared.nexus.Nexus.{Nexus}
use Rattle.scsi_sense.specs.declared.condition.Condition.{Condition}
use Rattle.scsi_sense.specs.declared.status.Status.TheVariants.{Busy}
use Rattle.permit_tables.specs.Permission.{Changing, row_allows}
use Rattle.pr_core.specs.State.{res_type, role}
use Rattle.device_server.specs.View.{DeviceView, commands_of}
use Rattle.judgement.specs.declared.reply.Reply.{Reply}
use Rattle.logical_unit.specs.Move.{TwoDrives, judged_at}
use Rattle.logical_unit.specs.Step.{Executes, IsLost, IsReset}
use Rattle.logical_unit.specs.UnitView.{UnitView}
use Rattle.protected_span.specs.Struck.{SameReply}
use Rattle.protected_span.proofs.Carry.{Takes}
use Rattle.protected_span.proofs.Ended.{Ended}

module _ (inside : Nexus → Bool) (exact : Nexus → (cdb bytes : List ℕ) → Bool) (Kept : UnitView → Type 0) (May : Nexus → (cdb bytes : List ℕ) → UnitView → UnitView → Type 0) (Rel : UnitView → UnitView → Type 0) where
  -- a move that names drives, at the two changers: with the same drives, which end the same
  abbrev pub KeepsMoves : Type 0 → Type 0
  KeepsMoves A =
      (f v g w : UnitView) (n : Nexus) (cdb bytes : List ℕ) (r q : Reply) (drives after other : A) (x y : Result (DeviceView × A) Condition) → inside n ≡ true → Rel f g → Kept v → May n cdb bytes f v
      → commands_of v.device ≡ commands_of f.device → x ≡ y
      → Ended f v n cdb bytes r drives after x → Ended g w n cdb bytes q drives other y → Rel v w × SameReply (exact n cdb bytes) false r q × (after ≡ other)

  pub record IsKeptAlong : Type 0 where
    pub looks : (f g : UnitView) → Rel f g → f.device ≡ g.device
    -- the changing classes are closed to a nexus outside
    pub closed : (f g : UnitView) (n : Nexus) → inside n ≡ false → Rel f g → row_allows Changing (res_type f.state.reservations) (role f.state.reservations n) ≡ false
    -- a command of a nexus outside, to the one; of a nexus inside, to both
    pub strike : (f v g : UnitView) (n : Nexus) (cdb bytes : List ℕ) (r : Reply) → inside n ≡ false → Rel f g → Kept v → May n cdb bytes f v → Executes f n cdb bytes (v, r) → Rel v g
    pub keep : (f v g w : UnitView) (n : Nexus) (cdb bytes : List ℕ) (r q : Reply) → inside n ≡ true → Rel f g → Kept v → May n cdb bytes f v → r.status ≢ Busy → q.status ≢ Busy
        → Executes f n cdb bytes (v, r) → Executes g n cdb bytes (w, q) → Rel v w × SameReply (exact n cdb bytes) false r q
    pub lose : (f v g w : UnitView) (n : Nexus) (r q : Reply) → Rel f g → Kept v → r.status ≢ Busy → q.status ≢ Busy → IsLost f n (v, r) → IsLost g n (w, q) → Rel v w × SameReply true false r q
    pub reset : (f v g w : UnitView) (r q : Reply) → Rel f g → Kept v → r.status ≢ Busy → q.status ≢ Busy → IsReset f (v, r) → IsReset g (w, q) → Rel v w × SameReply true false r q
    -- a volume that goes out or comes in, and moves at the changer
    pub medium : Takes Rel
    pub move_one : KeepsMoves UnitView
    pub move_two : KeepsMoves TwoDrives
    pub sense : (f v g : UnitView) (n : Nexus) (cdb bytes : List ℕ) → inside n ≡ true → Rel f g → May n cdb bytes f v → (judged_at f n cdb bytes).2.sense ≡ (judged_at g n cdb bytes).2.sense
