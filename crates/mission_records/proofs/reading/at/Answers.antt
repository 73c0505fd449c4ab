use Rattle.std.proofs.Common.{◌∙◌, ap, arith, Some}
use Rattle.mission_commands.specs.declared.commands.Command.{Command}
use Rattle.mission_records.specs.Mission.{mission_area, total_of, command_of}
use Rattle.mission_records.proofs.ReadLemmas.{command_there, no_command}
use Rattle.mission_records.proofs.reading.at.Goals as goal

pub returns-then-index-total-clause-command : goal.returns-then-index-total-clause-command
returns-then-index-total-clause-command c = no_command (total_of c.args.current.now) c.args.index (mission_area c.args.current.now) (omega (arith, c.total.ensures.total))

pub returns-clause-command : goal.returns-clause-command
returns-clause-command c =
    ap (λ (x : Command). Some x) (c.command_of.ensures ∙ ap command_of c.bytes_at.ensures)
    ∙ command_there (total_of c.args.current.now) c.args.index (mission_area c.args.current.now) (omega (arith, c.total.ensures.total))
