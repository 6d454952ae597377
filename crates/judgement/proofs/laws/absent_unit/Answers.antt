use Rattle.std.proofs.Common.{[], ◌∷◌, refl, inl, inr, ap}
use Rattle.std.specs.Prelude.{replicate}
use Rattle.judgement.specs.declared.reply.Reply.{Reply}
use Rattle.judgement.specs.Replies.{AnswersAbsent, busy, conflict, good}
use Rattle.judgement.specs.Rows.{refusal}
use Rattle.judgement.proofs.laws.absent_unit.Goals as goal

wants_none : AnswersAbsent (replicate 6 0) busy → ⊥
wants_none (inl e) = let is = e.1 in cc
wants_none (inr e) = let is = ap (λ (r : Reply). r.status) e in cc

short_wants_none : AnswersAbsent (0x12 ∷ 0 ∷ 0 ∷ 0 ∷ 0x24 ∷ []) busy → ⊥
short_wants_none (inl e) = let is = e.1 in cc
short_wants_none (inr e) = let is = ap (λ (r : Reply). r.status) e in cc

no_conflict : AnswersAbsent (replicate 6 0) conflict → ⊥
no_conflict (inl e) = let is = e.1 in cc
no_conflict (inr e) = let is = ap (λ (r : Reply). r.status) e in cc

not_good : AnswersAbsent (replicate 6 0) (good []) → ⊥
not_good (inl e) = let is = e.1 in cc
not_good (inr e) = let is = ap (λ (r : Reply). r.status) e in cc

inquiry_not_refused : AnswersAbsent (0x12 ∷ 0 ∷ 0 ∷ 0 ∷ 0x24 ∷ 0 ∷ []) refusal → ⊥
inquiry_not_refused (inl e) = let is = ap (λ (r : Reply). r.status) e.0 in cc
inquiry_not_refused (inr e) = let is = ap (λ (r : Reply). r.status) e in cc

pub returns : goal.returns
returns c = record {
  inquiry = refl;
  inquiry_cut = refl;
  inquiry_high_byte = refl;
  inquiry_good = refl;
  inquiry_of_a_page = refl;
  vital_product_data = refl;
  request_sense = refl;
  request_sense_cut = refl;
  request_sense_anyhow = refl;
  request_sense_good = refl;
  test_unit_ready = refl;
  report_luns = refl;
  short_inquiry = refl;
  refused = refl;
  wants_memory = inl (refl, refl);
  sense_wants_memory = inl (refl, refl);
  wants_none = wants_none;
  short_wants_none = short_wants_none;
  no_conflict = no_conflict;
  answered = inr refl;
  not_good = not_good;
  inquiry_not_refused = inquiry_not_refused;
}
