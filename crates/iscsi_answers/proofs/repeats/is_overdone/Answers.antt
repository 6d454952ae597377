use Rattle.std.proofs.Common.{◌≡◌, ℕ, ◌+◌, ◌-◌, ◌≤◌, ◌++◌, ◌∷◌, [], false, true, List, length, map, refl, sym, ap, ◌∙◌, append_assoc, arith}
use Rattle.std.proofs.lemmas.List.{length-map, map-append, length-append}
use Rattle.std.specs.List.{list_any}
use Rattle.std.specs.Str.{bytes_eq}
use Rattle.iscsi_keys.specs.Texts.{End, Invalid, first_item}
use Rattle.iscsi_answers.specs.Repeats.{are_overdone, first_keys, has_twice}
use Rattle.iscsi_answers.proofs.Repeated.{again, all_came, among, fine, one_beyond, one_more, once, twice}
use Rattle.iscsi_answers.proofs.repeats.is_overdone.Goals as goal

pub returns-in-End : goal.returns-in-End
returns-in-End c =
    let keys = map (λ k. k.now) c.items.keys.items in
    let few : length keys ≤ 64 = omega (arith, length-map c.items.keys.items (λ k. k.now), c.items.invariant.2, c.items-test.true) in
    let all = all_came 65 c.items.counter c.items.left.now End keys _ (omega (arith, c.items-test.true)) c.in-End.ensures.item refl c.items.invariant.0 in
    sym (fine keys few c.items.invariant.1) ∙ ap are_overdone all

pub returns-in-Invalid : goal.returns-in-Invalid
returns-in-Invalid c =
    let keys = map (λ k. k.now) c.items.keys.items in
    let few : length keys ≤ 64 = omega (arith, length-map c.items.keys.items (λ k. k.now), c.items.invariant.2, c.items-test.true) in
    let all =
    all_came 65 c.items.counter c.items.left.now (Invalid c.in-Invalid.field-0) keys _ (omega (arith, c.items-test.true)) c.in-Invalid.ensures.item refl c.items.invariant.0 in
    sym (fine keys few c.items.invariant.1) ∙ ap are_overdone all

pub returns-then-is_among : goal.returns-then-is_among
returns-then-is_among c =
    let keys = map (λ k. k.now) c.items.keys.items in
    let key = c.in-Pair.key.now in
    let here : list_any (λ k. bytes_eq k key) keys ≡ true =
    sym (among (λ k. k.now) key c.items.keys.items)
    ∙ ap (λ xs. list_any (λ k. bytes_eq k.now key) xs) (sym c.as_slice.ensures.value) ∙ sym c.is_among.ensures ∙ c.if-is_among.true in
    let all =
    one_more 65 c.items.counter c.items.left.now key c.in-Pair.value.now c.in-Pair.rest.now keys _ (omega (arith, c.items-test.true)) c.in-Pair.ensures.item c.items.invariant.0 in
    sym (again (keys ++ key ∷ first_keys (65 - (c.items.counter + 1)) c.in-Pair.rest.now) (twice keys key _ here)) ∙ ap are_overdone all

pub items-preserved : goal.items-preserved
items-preserved c =
    let keys = map (λ k. k.now) c.items.keys.items in
    let key = c.in-Pair.key.now in
    let new : list_any (λ k. bytes_eq k key) keys ≡ false =
    sym (among (λ k. k.now) key c.items.keys.items)
    ∙ ap (λ xs. list_any (λ k. bytes_eq k.now key) xs) (sym c.as_slice.ensures.value) ∙ sym c.is_among.ensures ∙ c.if-is_among.false in
    let all =
    one_more 65 c.items.counter c.items.left.now key c.in-Pair.value.now c.in-Pair.rest.now keys _ (omega (arith, c.items-test.true)) c.in-Pair.ensures.item c.items.invariant.0 in
    let pushed : map (λ k. k.now) c.push.new.self.items ≡ keys ++ key ∷ [] =
    ap (map (λ k. k.now)) c.push.ensures.items ∙ map-append (λ k. k.now) c.items.keys.items _ in (
      ap (λ (ks : List (List ℕ)). ks ++ first_keys (65 - (c.items.counter + 1)) c.in-Pair.rest.now) pushed
          ∙ append_assoc keys (key ∷ []) (first_keys (65 - (c.items.counter + 1)) c.in-Pair.rest.now) ∙ all,
      ap has_twice pushed ∙ once keys key c.items.invariant.1 new,
      omega (arith, ap length c.push.ensures.items, length-append c.items.keys.items, c.items.invariant.2),
    )

pub returns : goal.returns
returns c =
    let keys = map (λ k. k.now) c.items.keys.items in
    let end : c.items.counter ≡ 64 = omega (arith, c.items-test.false, c.items.auto.counter-end) in
    let many : length keys ≡ 64 = omega (arith, length-map c.items.keys.items (λ k. k.now), c.items.invariant.2, end) in
    c.has_pair.ensures ∙ one_beyond keys (first_item c.items.left.now) many c.items.invariant.1
    ∙ ap (λ (i : ℕ). are_overdone (keys ++ first_keys (65 - i) c.items.left.now)) (sym end)
    ∙ ap are_overdone c.items.invariant.0
