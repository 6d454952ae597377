use Rattle.std.proofs.Common.{◌≡◌, ◌++◌, take}
use Rattle.std.specs.List.{flat_map, filter}
use Rattle.supported_commands.specs.Commands.{has}
use Rattle.supported_commands.specs.Answers.{descriptor}
use Rattle.supported_commands.proofs.answer.write_descriptors.Given as goal

-- the descriptors so far
abbrev pub invariant-loop-command : goal.invariant-loop-command
invariant-loop-command l =
    l.out.items
    ≡ l.initial.out.items ++ flat_map (descriptor l.return_timeouts) (filter (λ c. has c.units l.kind) (take l.command-index l.commands))
