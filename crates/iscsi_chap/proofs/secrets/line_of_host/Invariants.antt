use Rattle.std.proofs.Common.{◌≡◌, drop}
use Rattle.std.specs.Option.{option_map}
use Rattle.iscsi_chap.specs.Secrets.{EntryValue, credentials_fields_value, first_line, is_shared, numbered_entries}
use Rattle.iscsi_chap.proofs.secrets.line_of_host.Given as goal

-- none so far has the secret
abbrev pub invariant-loop-entry : goal.invariant-loop-entry
invariant-loop-entry l =
    first_line (λ (e : EntryValue). is_shared e.own (option_map credentials_fields_value l.target)) (numbered_entries (drop l.entry-index l.entries))
    ≡ first_line (λ (e : EntryValue). is_shared e.own (option_map credentials_fields_value l.target)) (numbered_entries l.entries)
