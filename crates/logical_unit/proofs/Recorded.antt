-- What a call leaves: one record more, or none.
use Rattle.std.proofs.Common.{◌≡◌, ◌⊎◌, ℕ, ◌+◌, Some, List, [], ◌∷◌, ◌++◌, length, refl, ap, ◌∙◌, inl, inr, arith, length-append}
use Rattle.std.proofs.lemmas.Bool.Decides.{nat_tests}
use Rattle.scsi_nexus.specs.declared.nexus.Nexus.{Nexus}
use Rattle.audit_log.specs.declared.act.Act.{Act}
use Rattle.audit_log.specs.declared.record.Record.{Record}
use Rattle.device_server.specs.View.{commands_of}
use Rattle.judgement.specs.JudgedUnit.{JudgedUnit}
use Rattle.judgement.specs.declared.decision.Decision.{Decision}
use Rattle.judgement.specs.declared.reply.Reply.{Reply}
use Rattle.judgement.specs.Replies.{busy}
use Rattle.judgement.specs.Commands.{act_of}
use Rattle.logical_unit.specs.Answers.{own_number}
use Rattle.logical_unit.specs.Move.{judged_at}
use Rattle.logical_unit.specs.Step.{Executes, recorded, record_of}
use Rattle.logical_unit.specs.UnitView.{UnitView, last_number}

-- one record more, of an act
pub record Recorded (u v : UnitView) (asked : Act) : Type 0 where
  pub entry : Record
  pub records : v.records ≡ u.records ++ entry ∷ []
  pub act : entry.act ≡ asked
  pub last : last_number v ≡ last_number u + 1

pub recorded_one : (u v : UnitView) (n : Nexus) (act : Act) (p : JudgedUnit) (f : Decision) (given r : Reply) → (v, r) ≡ recorded u n act (p, f, given) → Recorded u v act
recorded_one u v n act p f given r e =
    let more : v.records ≡ u.records ++ record_of (last_number u + 1) (Some n) act f given.status given.sense ∷ [] = ap (λ (x : UnitView × Reply). x.0.records) e in
    let base : v.base.last ≡ u.base.last = ap (λ (x : UnitView × Reply). x.0.base.last) e in
    let longer : length v.records ≡ length u.records + 1 = ap length more ∙ length-append u.records _ in
    record { entry = record_of (last_number u + 1) (Some n) act f given.status given.sense; records = more; act = refl; last = omega (arith, base, longer) }

-- a command is BUSY with nothing changed, or it has a record
pub executed : (u v : UnitView) (n : Nexus) (cdb bytes : List ℕ) (r : Reply) → Executes u n cdb bytes (v, r)
    → ((v ≡ u) × (r ≡ busy)) ⊎ (Recorded u v (act_of (commands_of u.device) cdb bytes) × (r.number ≡ last_number u + 1))
executed u v n cdb bytes r (inl e) = inl (ap (λ (x : UnitView × Reply). x.0) e, ap (λ (x : UnitView × Reply). x.1) e)
executed u v n cdb bytes r (inr e) =
    let j = judged_at u n cdb bytes in
    inr (recorded_one u v n (act_of (commands_of u.device) cdb bytes) j.0 j.1 j.2 r e.2, ap (λ (x : UnitView × Reply). x.1.number) e.2)

-- a command without a number is BUSY
none_is_zero : (lun n : ℕ) → own_number lun n ≡ [] → n ≡ 0
none_is_zero lun n none = grind (arith, nat_tests)

pub unnumbered : (lun : ℕ) (u v : UnitView) (n : Nexus) (cdb bytes : List ℕ) (r : Reply) → Executes u n cdb bytes (v, r) → own_number lun r.number ≡ [] → r ≡ busy
unnumbered lun u v n cdb bytes r step none = elim (executed u v n cdb bytes r step) [
  | inl same ↦ same.1
  | inr more ↦ absurd (let zero = none_is_zero lun r.number none in let one = more.1 in omega (arith, zero, one))
]

-- one record more, or none
abbrev pub NoneOrOne : UnitView → UnitView → Type 0
NoneOrOne u v = (last_number v ≡ last_number u) ⊎ (last_number v ≡ last_number u + 1)

-- or any number of them
abbrev pub SomeMore : UnitView → UnitView → Type 0
SomeMore u v = (count : ℕ) × (last_number v ≡ last_number u + count)

pub some_more : (u v : UnitView) → NoneOrOne u v → SomeMore u v
some_more u v (inl none) = (0, omega (arith, none))
some_more u v (inr one) = (1, one)
