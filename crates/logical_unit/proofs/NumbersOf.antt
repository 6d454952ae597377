-- The numbers of the records that a move leaves.
use Rattle.std.proofs.Common.{◌≡◌, ℕ, ◌+◌, ◌-◌, ◌==◌, List, [], ◌∷◌, ◌++◌, Option, Some, None, Ok, refl, sym, ap, ◌∙◌, inl, inr, arith}
use Rattle.std.proofs.lemmas.Grind.{common_steps}
use Rattle.std.proofs.lemmas.List.{append-nil}
use Rattle.std.specs.Prelude.{◌⊎◌, cond}
use Rattle.scsi_nexus.specs.declared.nexus.Nexus.{Nexus}
use Rattle.tape_medium.specs.declared.volume.Volume.{Volume}
use Rattle.audit_log.specs.declared.act.Act.{Act}
use Rattle.audit_log.specs.declared.act.Act.TheVariants.{MediumIn, MediumOut}
use Rattle.audit_log.specs.declared.record.Record.{Record}
use Rattle.device_server.specs.View.{commands_of}
use Rattle.judgement.specs.JudgedUnit.{JudgedUnit}
use Rattle.judgement.specs.declared.reply.Reply.{Reply}
use Rattle.judgement.specs.Replies.{good, check}
use Rattle.judgement.specs.declared.decision.Decision.{Decision}
use Rattle.judgement.specs.Commands.{act_of}
use Rattle.judgement.specs.UnitState.{with_medium}
use Rattle.logical_unit.specs.MoveJudgement.{IsPutOff, IsEnded, Finishes}
use Rattle.logical_unit.specs.declared.move_judgement.MoveStop.{MoveStop}
use Rattle.logical_unit.specs.declared.move_judgement.MoveStop.TheVariants.{Refused, Busy}
use Rattle.logical_unit.specs.Medium.{taken_out, put_in}
use Rattle.logical_unit.specs.Move.{numbers_after, numbers_of, judged_at}
use Rattle.logical_unit.specs.Step.{recorded, record_of, event_of, with_record}
use Rattle.logical_unit.specs.UnitView.{UnitView, UnitWithRoom, last_number}
use Rattle.logical_unit.proofs.Halves.{is_out, is_in}

-- a record more
entry_last : (u : UnitView) (now : JudgedUnit) (e : Record) → last_number (with_record u now e) ≡ last_number u + 1
entry_last u now e = grind (arith, common_steps)

-- a volume that went out, or came in, has a record
pub out_last : (d e : UnitView) (v : Volume) → taken_out d ≡ Ok (v, e) → last_number e ≡ last_number d + 1
out_last d e v h =
    let out = is_out d e v h in
    ap last_number out.unit ∙ entry_last d (record { device = out.device; state = d.state }) (event_of (last_number d + 1) None MediumOut)

pub in_last : (d e : UnitView) (v : Volume) → put_in d v ≡ Ok e → last_number e ≡ last_number d + 1
in_last d e v h =
    let come = is_in d e v h in
    ap last_number come.unit ∙ entry_last d (record { device = come.device; state = with_medium d.state }) (event_of (last_number d + 1) None MediumIn)

-- so many records more, none, and one
pub more_of : (u v : UnitView) (count : ℕ) → last_number v ≡ last_number u + count → numbers_of u v ≡ numbers_after u.state.lun (last_number u) count
more_of u v count h =
    let more : last_number v - last_number u ≡ count = omega (arith, h) in
    ap (numbers_after u.state.lun (last_number u)) more

pub none_more : (u v : UnitView) → last_number v ≡ last_number u → numbers_of u v ≡ []
none_more u v h = more_of u v 0 (omega (arith, h))

pub one_more : (u v : UnitView) → last_number v ≡ last_number u + 1 → numbers_of u v ≡ (u.state.lun, last_number u + 1) ∷ []
one_more u v h = more_of u v 1 h

-- the number on a receipt
abbrev pub noted : (lun : ℕ) → Reply → List (ℕ × ℕ)
noted lun reply = cond (reply.number == 0) [] ((lun, reply.number) ∷ [])

noted_one : (lun m : ℕ) (reply : Reply) → reply.number ≡ m + 1 → noted lun reply ≡ (lun, m + 1) ∷ []
noted_one lun m reply h = grind (arith, common_steps)

pub recorded_noted : (u v : UnitView) (reply : Reply) → reply.number ≡ last_number u + 1 → last_number v ≡ last_number u + 1 → noted u.state.lun reply ≡ numbers_of u v
recorded_noted u v reply number last = noted_one u.state.lun (last_number u) reply number ∙ sym (one_more u v last)

pub answered_noted : (x y : UnitWithRoom) (n : Nexus) (cdb bytes : List ℕ) (reply : Reply) → IsPutOff x y n cdb bytes reply ⊎ IsEnded x y n cdb bytes reply → noted x.unit.state.lun reply ≡ numbers_of x.unit y.unit
answered_noted x y n cdb bytes reply (inl off) = ap (noted x.unit.state.lun) off.refuses ∙ sym (none_more x.unit y.unit (ap last_number off.unit))
answered_noted x y n cdb bytes reply (inr ended) =
    let j = judged_at x.unit n cdb bytes in
    let answer = ended.answer.answer in
    recorded_noted x.unit y.unit reply (sym (ap (λ (z : UnitView × Reply). z.1.number) answer))
    (sym (ap (λ (z : UnitView × Reply). last_number z.0) answer) ∙ entry_last x.unit j.0 (record_of (last_number x.unit + 1) (Some n) (act_of (commands_of x.unit.device) cdb bytes) j.1 j.2.status j.2.sense))

-- a command that judgement left open, ended
abbrev pub recorded_in : UnitView → Nexus → Act → Decision → Reply → UnitView × Reply
recorded_in u n act f reply = recorded u n act (record { device = u.device; state = u.state }, f, reply)

ends_recorded : (u w v : UnitView) (n : Nexus) (act : Act) (f : Decision) (given reply : Reply) → last_number w ≡ last_number u → (v, reply) ≡ recorded_in w n act f given → noted u.state.lun reply ≡ numbers_of u v
ends_recorded u w v n act f given reply same h =
    recorded_noted u v reply (ap (λ (z : UnitView × Reply). z.1.number) h ∙ ap (λ m. m + 1) same)
    (ap (λ (z : UnitView × Reply). last_number z.0) h ∙ entry_last w (record { device = w.device; state = w.state }) (record_of (last_number w + 1) (Some n) act f given.status given.sense) ∙ ap (λ m. m + 1) same)

pub ends_noted : (u : UnitView) (x y : UnitWithRoom) (n : Nexus) (act : Act) (f : Decision) (stop : Option MoveStop) (reply : Reply) → last_number x.unit ≡ last_number u → Finishes x y n act f stop reply
    → noted u.state.lun reply ≡ numbers_of u y.unit
ends_noted u x y n act f None reply same h = ends_recorded u x.unit y.unit n act f (good []) reply same h
ends_noted u x y n act f (Some (Refused condition)) reply same h = ends_recorded u x.unit y.unit n act f (check condition) reply same h
ends_noted u x y n act f (Some Busy) reply same h = ap (noted u.state.lun) h.0 ∙ sym (none_more u y.unit (ap last_number h.1 ∙ same))

-- the numbers of one unit, and then of others
pub joined : (items a b c d : List (ℕ × ℕ)) → items ≡ a ++ b → a ≡ c → b ≡ d → items ≡ c ++ d
joined items a b c d h p q = h ∙ ap (λ (x : List (ℕ × ℕ)). x ++ b) p ∙ ap (λ (x : List (ℕ × ℕ)). c ++ x) q

pub unmoved : (items a c : List (ℕ × ℕ)) (d e : UnitView) → items ≡ a → a ≡ c → last_number e ≡ last_number d → items ≡ c ++ numbers_of d e
unmoved items a c d e h p same = h ∙ p ∙ sym (append-nil c) ∙ ap (λ (x : List (ℕ × ℕ)). c ++ x) (sym (none_more d e same))

-- a drive's number
abbrev pub numbered : (lun number : ℕ) → List (ℕ × ℕ)
numbered lun number = (lun, number) ∷ []

pub drive_noted : (d e : UnitView) (lun number : ℕ) → lun ≡ d.state.lun → number ≡ last_number d + 1 → last_number e ≡ last_number d + 1 → numbered lun number ≡ numbers_of d e
drive_noted d e lun number p q h = ap (λ l. numbered l number) p ∙ ap (numbered d.state.lun) q ∙ sym (one_more d e h)

-- and all of its numbers
pub drive_noted_more : (d e : UnitView) (lun last count : ℕ) → lun ≡ d.state.lun → last ≡ last_number d → last_number e ≡ last_number d + count → numbers_after lun last count ≡ numbers_of d e
drive_noted_more d e lun last count p q h =
    ap (λ l. numbers_after l last count) p ∙ ap (λ l. numbers_after d.state.lun l count) q ∙ sym (more_of d e count h)

-- the same with two drives
pub joined_two : (items first a b c p q r : List (ℕ × ℕ)) → first ≡ a ++ b → items ≡ first ++ c → a ≡ p → b ≡ q → c ≡ r → items ≡ p ++ q ++ r
joined_two items first a b c p q r h all one two three = joined items first c (p ++ q) r all (joined first a b p q h one two) three

pub unmoved_two : (items a p : List (ℕ × ℕ)) (d e f h : UnitView) → items ≡ a → a ≡ p → last_number e ≡ last_number d → last_number h ≡ last_number f → items ≡ p ++ numbers_of d e ++ numbers_of f h
unmoved_two items a p d e f h is same first second =
    unmoved items a p f h is same second ∙ ap (λ (x : List (ℕ × ℕ)). x ++ numbers_of f h) (unmoved p p p d e refl refl first)
