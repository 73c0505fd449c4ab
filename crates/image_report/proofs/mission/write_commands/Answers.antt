use Rattle.std.proofs.Common.{◌+◌, arith}
use Rattle.std.specs.Prelude.{Err, Ok}
use Rattle.mission_records.specs.Mission.{total_of, mission_area, mission_of}
use Rattle.mission_records.proofs.Commands.{length-commands_in}
use Rattle.image_report.specs.Dumps.{command_line}
use Rattle.image_report.proofs.Numbered.{lines_before, numbered_step, numbered_cut, numbered_all}
use Rattle.image_report.proofs.Writing.{writes_none}
use Rattle.image_report.proofs.mission.write_commands.Goals as goal

pub loop-index-init : goal.loop-index-init
unfolding lines_before
loop-index-init g c = writes_none g.K.Sink c.args.out.now tt

pub returns-in_err-write_command : goal.returns-in_err-write_command
returns-in_err-write_command g c =
    let step = c.in_err-write_command.ensures in
    let cs = mission_of c.args.bytes.now in
    numbered_cut g.K.Sink c.args.out.now c.write_command.new.out command_line cs (c.loop-index.index + 1) c.in_err-write_command.field-0.0 c.from_residual.result _ c.from_residual.ensures.1
    (numbered_step g.K.Sink c.args.out.now c.loop-index.out c.write_command.new.out command_line cs c.loop-index.index step.0 tt (Err c.in_err-write_command.field-0.0) step.1 step.2 c.loop-index.invariant)

pub loop-index-preserved : goal.loop-index-preserved
loop-index-preserved g c =
    let step = c.in_ok-write_command.ensures in
    numbered_step g.K.Sink c.args.out.now c.loop-index.out c.write_command.new.out command_line (mission_of c.args.bytes.now) c.loop-index.index step.0 tt (Ok c.in_ok-write_command.field-0) step.1 step.2 c.loop-index.invariant

pub returns : goal.returns
returns g c =
    let b = c.args.bytes.now in
    numbered_all g.K.Sink c.args.out.now c.loop-index.out command_line (mission_of b) c.loop-index.index _ (omega (arith, c.loop-index-test.false, c.total-count.ensures.total, length-commands_in (total_of b) (mission_area b))) c.loop-index.invariant
