use Rattle.std.proofs.Common.{◌+◌, ◌-◌, length, sym, ap, ◌∙◌}
use Rattle.iscsi_chap.specs.Secrets.{numbered_entries, entries_within, rest_value, secrets_in}
use Rattle.iscsi_chap.proofs.Lines.{line_taken, line_fails, lines_end}
use Rattle.iscsi_chap.proofs.entry.ChapSecrets.parse.Goals as goal

pub returns-in_default : goal.returns-in_default
returns-in_default c =
    let before =
    sym (ap (λ o. entries_within (length c.args.text.now + 1 - c.lines.place) (c.lines.place + 1) (numbered_entries c.lines.entries.items) (rest_value o)) c.in_default.is)
    ∙ c.lines.invariant in
    lines_end (length c.args.text.now + 1 - c.lines.place) (c.lines.place + 1) (numbered_entries c.lines.entries.items) (secrets_in c.args.text.now) before

pub returns-in-Err : goal.returns-in-Err
returns-in-Err c =
    let before =
    sym (ap (λ o. entries_within (length c.args.text.now + 1 - c.lines.place) (c.lines.place + 1) (numbered_entries c.lines.entries.items) (rest_value o)) c.in-Some.is)
    ∙ c.lines.invariant in
    line_fails (length c.args.text.now + 1) c.lines.place (numbered_entries c.lines.entries.items) c.in-Err.fault c.in-Some.lines.now (secrets_in c.args.text.now) c.lines-test.true
    (rw c.first_line.ensures.line at c.in-Err.ensures.err) before

pub lines-preserved : goal.lines-preserved
lines-preserved c =
    let before =
    sym (ap (λ o. entries_within (length c.args.text.now + 1 - c.lines.place) (c.lines.place + 1) (numbered_entries c.lines.entries.items) (rest_value o)) c.in-Some.is)
    ∙ c.lines.invariant in
    ap (λ o. entries_within (length c.args.text.now + 1 - (c.lines.place + 1)) (c.lines.place + 1 + 1) (numbered_entries c.take_line.new.entries.items) o) c.first_line.ensures.rest
    ∙ line_taken (length c.args.text.now + 1) c.lines.place (numbered_entries c.lines.entries.items) (numbered_entries c.take_line.new.entries.items) c.in-Some.lines.now (secrets_in c.args.text.now)
    c.lines-test.true (rw c.first_line.ensures.line at c.in-Ok.ensures.ok) before
