use Rattle.std.proofs.Common.{◌≡◌, [], ◌∷◌, ◌++◌, replicate, Option, None, Result, Ok, Err, ap, ◌∙◌, arith, rules}
use Rattle.std.proofs.lemmas.List.{replicate_more}
use Rattle.std.specs.Prelude.{List, IsErr, IfOk}
use Rattle.element_map.proofs.place.empty_places.Goals as goal

-- a refusal gives nothing
none_ok : {A E : Type 0} (r : Result A E) (P : A → Type 0) → IsErr r → IfOk r P
none_ok (Ok a) P h = search rules fits 100
none_ok (Err e) P h = search rules fits 100

pub loop-init : goal.loop-init
loop-init g c = c.in_ok-places.ensures.items

pub loop-preserved : goal.loop-preserved
loop-preserved g c = c.in_ok-push.ensures.items ∙ ap (λ (places : List (Option g.row.T.Denot)). places ++ None ∷ []) c.loop.invariant ∙ replicate_more c.loop.counter None

pub returns : goal.returns
returns g c =
    let all : c.loop.counter ≡ c.args.count = omega (arith, c.loop-test.false, c.loop.auto.counter-end) in
    c.loop.invariant ∙ ap (λ n. replicate n None) all

pub returns-in_err-places : goal.returns-in_err-places
returns-in_err-places g c = none_ok c.from_residual.result _ c.from_residual.ensures.0

pub returns-in_err-push : goal.returns-in_err-push
returns-in_err-push g c = none_ok c.from_residual-in_err-push.result _ c.from_residual-in_err-push.ensures.0
