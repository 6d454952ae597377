use Rattle.std.proofs.Common.{◌≡◌, ◌+◌, ◌-◌, length}
use Rattle.iscsi_chap.specs.Secrets.{entries_within, numbered_entries, rest_value, secrets_in}
use Rattle.iscsi_chap.proofs.entry.ChapSecrets.parse.Given as goal

-- the entries so far, and those of what is left
abbrev pub invariant-lines : goal.invariant-lines
invariant-lines l =
    entries_within (length l.text + 1 - l.place) (l.place + 1) (numbered_entries l.entries.items) (rest_value l.rest) ≡ secrets_in l.text
