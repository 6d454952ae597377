use Rattle.std.proofs.lemmas.Grind.{pieces}
use Rattle.std.proofs.Common.{◌≤◌, [], ◌∷◌, length, length-append, ap, ◌∙◌, arith}
use Rattle.pr_params.proofs.IdLaws.{all-step, read-more}
use Rattle.pr_params.proofs.register_list.addresses.Goals as goal

pub loop-rest-preserved : goal.loop-rest-preserved
loop-rest-preserved c =
    let long : 24 ≤ length c.loop-rest.rest.now = omega arith in
    let so_far = c.loop-rest.invariant in
    let cut = c.split_at.ensures in
    let sas = c.in-Ok.ensures.address in
    let pushed = c.in_ok-push-in-Ok.ensures.ok in
    record {
      whole = omega arith;
      room = omega (arith, ap length pushed, length-append c.loop-rest.targets.items (c.in-Ok.address ∷ []));
      all = so_far.all ∙ all-step _ _ _ long cut.front cut.back sas.0;
      read = read-more _ _ _ _ _ _ _ long cut.front cut.back sas.1 pushed so_far.read;
    }

pub returns-in-Err-clause-all : goal.returns-in-Err-clause-all
returns-in-Err-clause-all c = search (pieces, arith) depth 5 fits 2000
