-- What units hand out, one after another.
use Rattle.std.proofs.Common.{◌≡◌, ℕ, Option, List, [], ◌∷◌, ◌++◌, refl, sym, ap, ◌∙◌, append_assoc, append-nil}
use Rattle.std.specs.List.{flat_map}
use Rattle.std.proofs.lemmas.List.Concat.{flat_map-append}
use Rattle.std.proofs.lemmas.List.Elements.{All-nil, All-cons, All-append}
use Rattle.audit_log.specs.declared.record.Record.{Record}
use Rattle.output_lines.specs.AuditLines.{lines_of_records}
use Rattle.output_lines.specs.LeftLines.{GoesOn}
use Rattle.library_server.specs.Batches.{AreDrained, HandsOut}
use Rattle.output_lines.proofs.Written.{appends_none, appends_more}

-- the lines of batches
abbrev pub lines_of : List (List Record) → List ℕ
lines_of bs = flat_map lines_of_records bs

pub goes_nowhere : (w : Option (List ℕ)) (left : List ℕ) → GoesOn w w left left
goes_nowhere w left = record { said = []; appended = appends_none w; rest = refl }

-- no unit handed out
pub hands_left : (a b : Option (List ℕ)) (l m : List ℕ) → GoesOn a b l m → HandsOut a b l m
hands_left a b l m so =
    record {
      batches = [];
      drained = All-nil AreDrained;
      goes_on = record { said = so.said; appended = so.appended; rest = append-nil l ∙ so.rest };
    }

-- one did, once nothing was left
pub hands_batch : (a b c : Option (List ℕ)) (l left m : List ℕ) (es : List Record) → GoesOn a b l left → left ≡ [] → AreDrained es → GoesOn b c (lines_of_records es) m → HandsOut a c l m
hands_batch a b c l left m es one none drained two =
    let whole : l ≡ one.said = one.rest ∙ ap (λ (x : List ℕ). one.said ++ x) none ∙ append-nil one.said in
    let lines : lines_of (es ∷ []) ≡ two.said ++ m = append-nil (lines_of_records es) ∙ two.rest in
    record {
      batches = es ∷ [];
      drained = All-cons AreDrained es [] drained (All-nil AreDrained);
      goes_on = record {
        said = one.said ++ two.said;
        appended = appends_more a b c one.said two.said one.appended two.appended;
        rest = ap (λ (x : List ℕ). x ++ lines_of (es ∷ [])) whole ∙ ap (λ (x : List ℕ). one.said ++ x) lines ∙ sym (append_assoc one.said two.said m);
      };
    }

pub hands_none : (w : Option (List ℕ)) (l : List ℕ) → HandsOut w w l l
hands_none w l = hands_left w w l l (goes_nowhere w l)

pub hands_more : (a b c : Option (List ℕ)) (l m n : List ℕ) → HandsOut a b l m → HandsOut b c m n → HandsOut a c l n
hands_more a b c l m n one two =
    let s = one.goes_on.said in
    let t = two.goes_on.said in
    let f = lines_of one.batches in
    let g = lines_of two.batches in
    record {
      batches = one.batches ++ two.batches;
      drained = All-append AreDrained one.batches two.batches one.drained two.drained;
      goes_on = record {
        said = s ++ t;
        appended = appends_more a b c s t one.goes_on.appended two.goes_on.appended;
        rest =
            ap (λ (x : List ℕ). l ++ x) (flat_map-append lines_of_records one.batches two.batches)
            ∙ sym (append_assoc l f g)
            ∙ ap (λ (x : List ℕ). x ++ g) one.goes_on.rest
            ∙ append_assoc s m g
            ∙ ap (λ (x : List ℕ). s ++ x) two.goes_on.rest
            ∙ sym (append_assoc s t n);
      };
    }
