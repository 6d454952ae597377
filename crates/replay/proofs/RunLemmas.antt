-- A run whose text is added as it goes.
use Rattle.std.proofs.Common.{◌≡◌, ℕ, ◌+◌, ◌<◌, List, [], ◌∷◌, ◌++◌, Result, Ok, Err, is_ok, true, false, refl, ap, ◌∙◌, append_assoc, length, take, get_or}
use Rattle.std.specs.Prelude.{IsOk, OnOk}
use Rattle.std.specs.Global.{Vec}
use Rattle.std.proofs.lemmas.Grind.{flat_map-append}
use Rattle.std.proofs.lemmas.List.{take_more, append-nil}
use Rattle.judgement.specs.declared.reply.Reply.{Reply}
use Rattle.scsi_cdb.specs.declared.profile.Profile.{Profile}
use Rattle.logical_unit.specs.UnitView.{UnitView}
use Rattle.target_core.specs.declared.event.Event.{Event}
use Rattle.target_core.specs.Run.{Steps, Runs}
use Rattle.target_core.proofs.Runs.{Runs-append}
use Rattle.output_lines.specs.declared.explained.Explanations.{Explanations}
use Rattle.output_lines.specs.declared.explained.Explanations.TheVariants.{Off}
use Rattle.output_lines.specs.Replies.{reply_line, text_of}
use Rattle.script_lines.specs.Events.{joined}
use Rattle.replay.specs.Texts.{event_text, run_text}

-- events were run, and, if the outcome is good, so was the one before, and what is written of their replies was added
pub record Printed {E : Type 0} (us : List UnitView) (es : List Event) (p : Profile) (x : Explanations) (before written : Result (Unit {0}) E) (old now : List ℕ) (vs : List UnitView) : Type 0 where
  pub replies : List Reply
  pub run : Runs us es replies vs
  pub lines : OnOk written (IsOk before × (now ≡ old ++ run_text p x es replies))

-- the text of a run and of one behind it
text_on : (p : Profile) (x : Explanations) (us vs : List UnitView) (es fs : List Event) (rs qs : List Reply) → Runs us es rs vs
    → run_text p x es rs ++ run_text p x fs qs ≡ run_text p x (es ++ fs) (rs ++ qs)
text_on p x us vs [] fs [] qs run = refl
text_on p x us vs [] fs (r ∷ rs) qs run = absurd run
text_on p x us vs (e ∷ es) fs [] qs run = absurd run
text_on p x us vs (e ∷ es) fs (r ∷ rs) qs run =
    append_assoc (event_text p x e r) (run_text p x es rs) (run_text p x fs qs) ∙ ap (λ (t : List ℕ). event_text p x e r ++ t) (text_on p x run.0 vs es fs rs qs run.2)

-- without words
pub lines_of_run : (p : Profile) (us vs : List UnitView) (es : List Event) (rs : List Reply) → Runs us es rs vs → run_text p Off es rs ≡ text_of rs
lines_of_run p us vs [] [] run = refl
lines_of_run p us vs [] (q ∷ rs) run = absurd run
lines_of_run p us vs (d ∷ es) [] run = absurd run
lines_of_run p us vs (d ∷ es) (q ∷ rs) run = ap (λ (t : List ℕ). reply_line q ++ t) (lines_of_run p run.0 vs es rs run.2)

-- what is written of the replies to more events
text_more : (p : Profile) (x : Explanations) (us ms : List UnitView) (es fs : List Event) (rs qs : List Reply) (old now next : List ℕ) → Runs us es rs ms
    → now ≡ old ++ run_text p x es rs → next ≡ now ++ run_text p x fs qs → next ≡ old ++ run_text p x (es ++ fs) (rs ++ qs)
text_more p x us ms es fs rs qs old now next run before more =
    more ∙ ap (λ (t : List ℕ). t ++ run_text p x fs qs) before ∙ append_assoc old (run_text p x es rs) (run_text p x fs qs) ∙ ap (λ (t : List ℕ). old ++ t) (text_on p x us ms es fs rs qs run)

on_both : {E : Type 0} (was written : Result (Unit {0}) E) (P Q R : Type 0) → (P → Q → R) → OnOk was P → OnOk written (IsOk was × Q) → OnOk written R
on_both (Ok done) (Ok more) P Q R f h k = f h k.1
on_both (Err e) (Ok more) P Q R f h k =
    let bad = k.0 in
    absurd cc
on_both was (Err e) P Q R f h k = tt

-- more events, and what is written of their replies
pub prints_more : {E : Type 0} {us : List UnitView} {es : List Event} {p : Profile} {x : Explanations} {before was : Result (Unit {0}) E} {old now : List ℕ} {ms : List UnitView} (fs : List Event) (rs : List Reply) (vs : List UnitView) (next : List ℕ) (written : Result (Unit {0}) E)
    → Printed us es p x before was old now ms → Runs ms fs rs vs → OnOk written (IsOk was × (next ≡ now ++ run_text p x fs rs)) → Printed us (es ++ fs) p x before written old next vs
prints_more {us = us} {es = es} {p = p} {x = x} {was = was} {old = old} {now = now} {ms = ms} fs rs vs next written t run lines = record {
  replies = t.replies ++ rs;
  run = Runs-append us ms vs es fs t.replies rs t.run run;
  lines = on_both was written _ _ _ (λ h k. (h.0, text_more p x us ms es fs t.replies rs old now next t.run h.1 k)) t.lines lines;
}

-- an event more of a list
pub prints_on : {E : Type 0} {us : List UnitView} {p : Profile} {x : Explanations} {before was : Result (Unit {0}) E} {old now : List ℕ} {ms : List UnitView} (es : List Event) (i : ℕ) (e : Event) (r : Reply) (vs : List UnitView) (next : List ℕ) (written : Result (Unit {0}) E)
    → Printed us (take i es) p x before was old now ms → i < length es → e ≡ get_or es i e → Steps ms e (vs, r) → OnOk written (IsOk was × (next ≡ now ++ event_text p x e r))
    → Printed us (take (i + 1) es) p x before written old next vs
prints_on {p = p} {x = x} es i e r vs next written t h is s line =
    rw (take_more es i e h, ← is) (prints_more (e ∷ []) (r ∷ []) vs next written t (vs, s, refl) (rw (append-nil (event_text p x e r)) line))

-- a line behind a good outcome, and none behind a text that found no memory
pub with_line : {E : Type 0} (was written : Result (Unit {0}) E) (P : Type 0) → is_ok was ≡ true → OnOk written P → OnOk written (IsOk was × P)
with_line was (Ok done) P good h = (good, h)
with_line was (Err e) P good h = tt

pub no_line : {E : Type 0} (was : Result (Unit {0}) E) (P : Type 0) → is_ok was ≡ false → OnOk was P
no_line (Ok done) P bad = absurd cc
no_line (Err e) P bad = tt

-- a piece more
pub piece_more : {E : Type 0} {us : List UnitView} {profile : Profile} {x : Explanations} {before was : Result (Unit {0}) E} {old now : List ℕ} {ms : List UnitView} (ps : List (Vec Event)) (p : Vec Event) (fs : List Event) (rs : List Reply) (vs : List UnitView) (next : List ℕ) (written : Result (Unit {0}) E)
    → Printed us (joined ps) profile x before was old now ms → fs ≡ p.items → Runs ms fs rs vs → OnOk written (IsOk was × (next ≡ now ++ run_text profile x fs rs))
    → Printed us (joined (ps ++ p ∷ [])) profile x before written old next vs
piece_more ps p fs rs vs next written t is run lines =
    rw (flat_map-append (λ (piece : Vec Event). piece.items) ps (p ∷ []), append-nil p.items, ← is) (prints_more fs rs vs next written t run lines)

lines_alone : {E : Type 0} (written : Result (Unit {0}) E) (P Q : Type 0) → OnOk written (P × Q) → OnOk written Q
lines_alone (Ok done) P Q h = h.1
lines_alone (Err e) P Q h = tt

-- the whole run
pub printed : {E : Type 0} {us vs : List UnitView} {es : List Event} {p : Profile} {x : Explanations} {written : Result (Unit {0}) E} {old now : List ℕ}
    → Printed us es p x (Ok tt) written old now vs → (replies : List Reply) × Runs us es replies vs × OnOk written (now ≡ old ++ run_text p x es replies)
printed {written = written} t = (t.replies, t.run, lines_alone written _ _ t.lines)
