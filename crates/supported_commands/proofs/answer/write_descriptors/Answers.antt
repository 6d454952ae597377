use Rattle.std.proofs.Common.{ap, ◌≡◌, ◌∙◌, ◌++◌, List, ℕ, arith, cond, [], get_or}
use Rattle.supported_commands.specs.declared.command.Command.{Command}
use Rattle.supported_commands.specs.declared.command.CdbUsage.TheVariants.{Six}
use Rattle.supported_commands.specs.declared.command.Units.TheVariants.{Both}
use Rattle.supported_commands.specs.Commands.{has, plain}
use Rattle.supported_commands.specs.Answers.{descriptor}
use Rattle.supported_commands.proofs.Descriptors.{one_more}
use Rattle.supported_commands.proofs.answer.write_descriptors.Goals as goal

-- what a loop reads past the end of the list, which it never does, is a command of zeros
pub loop-command-preserved : goal.loop-command-preserved
loop-command-preserved c =
    let t = c.args.return_timeouts in
    let past_the_end = plain 0 (Six []) 0 Both in
    let at : Command = get_or c.args.commands.now c.loop-command.command-index past_the_end in
    let next : c.write_where_had.new.out.items ≡ c.loop-command.out.items ++ cond (has at.units c.args.kind) (descriptor t at) [] =
    c.in_ok-write_where_had.ensures in
    next
    ∙ ap (λ (bytes : List ℕ). bytes ++ cond (has at.units c.args.kind) (descriptor t at) []) c.loop-command.invariant
    ∙ one_more (λ (command : Command). has command.units c.args.kind) (descriptor t) c.args.out.now.items
    c.args.commands.now c.loop-command.command-index past_the_end (omega arith)
