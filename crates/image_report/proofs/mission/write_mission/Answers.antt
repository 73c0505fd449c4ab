use Rattle.std.proofs.Common.{◌∙◌}
use Rattle.mission_records.specs.Mission.{mission_of}
use Rattle.image_report.specs.Dumps.{numbered_lines, mission_line, command_line, mission_lines}
use Rattle.image_report.proofs.Numbered.{line_cut, line_then, mission_whole}
use Rattle.image_report.proofs.mission.write_mission.Goals as goal

pub returns-in_err-write : goal.returns-in_err-write
returns-in_err-write g c =
    let b = c.args.bytes.now in
    line_cut g.K.Sink c.args.out.now c.write.new.out c.in_err-write.field-0.0 c.from_residual.result _ c.as_slice.result.now (mission_line c.total.result) (numbered_lines command_line (mission_of b)) (mission_lines b)
    c.from_residual.ensures.1 (c.as_slice.ensures.value ∙ c.mission_line.ensures) (mission_whole b c.total.result c.total.ensures.total) c.in_err-write.ensures

pub returns : goal.returns
returns g c =
    let b = c.args.bytes.now in
    line_then g.K.Sink c.args.out.now c.write.new.out c.write_commands.new.out c.in_ok-write.field-0 c.write_commands.result c.as_slice.result.now (mission_line c.total.result) (numbered_lines command_line (mission_of b)) (mission_lines b)
    (c.as_slice.ensures.value ∙ c.mission_line.ensures) (mission_whole b c.total.result c.total.ensures.total) c.in_ok-write.ensures c.write_commands.ensures
