use Rattle.std.proofs.Common.{◌≡◌, drop}
use Rattle.iscsi_chap.specs.Entries.{entry_from, entry_among}
use Rattle.iscsi_chap.proofs.entry.ChapSecrets.entry.Given as goal

-- none so far is of the host and the user
abbrev pub invariant-entries : goal.invariant-entries
invariant-entries l =
    entry_from l.place (drop l.place l.self.entries.items) l.host l.user ≡ entry_among l.self.entries.items l.host l.user
