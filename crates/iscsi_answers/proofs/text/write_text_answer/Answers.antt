use Rattle.std.proofs.Common.{rules, ◌≡◌, ◌++◌, OnOk, ℕ, false, List, codes, sym, subst}
use Rattle.std.specs.Str.{bytes_eq}
use Rattle.iscsi_answers.proofs.Answered.{not_understood}
use Rattle.iscsi_answers.proofs.text.write_text_answer.Goals as goal

pub returns-else-eq-2 : goal.returns-else-eq-2
returns-else-eq-2 c =
    let one : bytes_eq c.args.key.now (codes "SendTargets") ≡ false = search rules in
    let two : bytes_eq c.args.key.now (codes "MaxRecvDataSegmentLength") ≡ false = search rules in
    subst (λ (xs : List ℕ). OnOk c.write_pair.result (c.write_pair.new.out.items ≡ c.args.out.now.items ++ xs))
    (sym (not_understood c.args.discovery _ _ c.args.key.now c.args.value.now one two)) (search rules)
