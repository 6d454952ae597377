use Rattle.std.proofs.Common.{◌≡◌, arith, ap, length, rules}
use Rattle.std.specs.List.{flat_map}
use Rattle.supported_commands.specs.Commands.{commands_of}
use Rattle.supported_commands.specs.Answers.{descriptor}
use Rattle.supported_commands.proofs.Descriptors.{all_are_short}
use Rattle.supported_commands.proofs.answer.descriptors_of.Goals as goal

pub returns-clause-short : goal.returns-clause-short
returns-clause-short c =
    let all : c.write_descriptors.new.out.items ≡ flat_map (descriptor c.args.return_timeouts) (commands_of c.args.kind) = search rules in
    omega (arith, ap length all, all_are_short c.args.kind c.args.return_timeouts)
