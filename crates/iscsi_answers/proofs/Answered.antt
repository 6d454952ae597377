-- One answer of a text after another.
use Rattle.std.proofs.Common.{◌≡◌, ℕ, ◌+◌, ◌-◌, ◌<◌, suc, Bool, false, cond, codes, List, [], ◌++◌, sym, ap, ◌∙◌, append_assoc, append-nil, arith}
use Rattle.std.specs.Str.{bytes_eq}
use Rattle.iscsi_keys.specs.Texts.{ItemValue, Pair, first_item, item_bytes}
use Rattle.iscsi_answers.specs.Texts.{send_targets, new_length, text_item, text_items_at, text_items_within}

one_fewer : (most i : ℕ) → i < most → most - i ≡ suc (most - (i + 1))
one_fewer most i h = omega arith

item_answers : (most i : ℕ) (d : Bool) (name targets text : List ℕ) (item : ItemValue) → i < most → item ≡ first_item text
    → text_items_within (most - i) d name targets text ≡ text_items_at (text_items_within (most - (i + 1)) d name targets) d name targets item
item_answers most i d name targets text item h e =
    ap (λ k. text_items_within k d name targets text) (one_fewer most i h) ∙ ap (text_items_at (text_items_within (most - (i + 1)) d name targets) d name targets) (sym e)

-- an item ends the text
pub all_answered : (most i : ℕ) (d : Bool) (name targets out text whole : List ℕ) (item : ItemValue) → i < most → item ≡ first_item text
    → text_items_at (text_items_within (most - (i + 1)) d name targets) d name targets item ≡ [] → out ++ text_items_within (most - i) d name targets text ≡ whole → out ≡ whole
all_answered most i d name targets out text whole item h e none before =
    sym (append-nil out) ∙ ap (λ ys. out ++ ys) (sym none) ∙ ap (λ ys. out ++ ys) (sym (item_answers most i d name targets text item h e)) ∙ before

-- an item is answered
pub one_answered : (most i : ℕ) (d : Bool) (name targets out new text key value rest whole : List ℕ) → i < most → Pair key value rest ≡ first_item text
    → new ≡ out ++ text_item d name targets key value
    → out ++ text_items_within (most - i) d name targets text ≡ whole → new ++ text_items_within (most - (i + 1)) d name targets rest ≡ whole
one_answered most i d name targets out new text key value rest whole h e written before =
    ap (λ xs. xs ++ text_items_within (most - (i + 1)) d name targets rest) written
    ∙ append_assoc out (text_item d name targets key value) (text_items_within (most - (i + 1)) d name targets rest)
    ∙ ap (λ ys. out ++ ys) (sym (item_answers most i d name targets text (Pair key value rest) h e))
    ∙ before

-- a key that isn't known
pub not_understood : (d : Bool) (name targets key value : List ℕ) → bytes_eq key (codes "SendTargets") ≡ false → bytes_eq key (codes "MaxRecvDataSegmentLength") ≡ false
    → text_item d name targets key value ≡ item_bytes key (codes "NotUnderstood")
unfolding text_item
not_understood d name targets key value one two =
    let other = item_bytes key (codes "NotUnderstood") in
    ap (λ (b : Bool). cond b (send_targets d name targets value) (cond (bytes_eq key (codes "MaxRecvDataSegmentLength")) (new_length value) other)) one
    ∙ ap (λ (b : Bool). cond b (new_length value) other) two
