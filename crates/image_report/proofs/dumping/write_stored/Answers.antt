use Rattle.std.proofs.Common.{◌++◌}
use Rattle.image_report.specs.Dumps.{param_lines, mission_lines, fence_lines}
use Rattle.image_report.proofs.Writing.{writes_then, writes_cut}
use Rattle.image_report.proofs.dumping.write_stored.Goals as goal

pub returns-in_err-write_params : goal.returns-in_err-write_params
returns-in_err-write_params g c =
    let b = c.args.bytes.now in
    writes_cut g.K.Sink c.args.out.now c.write_params.new.out c.in_err-write_params.field-0.0 c.from_residual.result _ (param_lines b) (mission_lines b ++ fence_lines b) c.from_residual.ensures.1 c.in_err-write_params.ensures

pub returns-in_err-write_mission : goal.returns-in_err-write_mission
returns-in_err-write_mission g c =
    let b = c.args.bytes.now in
    writes_then g.K.Sink c.args.out.now c.write_params.new.out c.write_mission.new.out c.in_ok-write_params.field-0 c.from_residual-in_err-write_mission.result (param_lines b) (mission_lines b ++ fence_lines b) c.in_ok-write_params.ensures
    (writes_cut g.K.Sink c.write_params.new.out c.write_mission.new.out c.in_err-write_mission.field-0.0 c.from_residual-in_err-write_mission.result _ (mission_lines b) (fence_lines b) c.from_residual-in_err-write_mission.ensures.1 c.in_err-write_mission.ensures)

pub returns : goal.returns
returns g c =
    let b = c.args.bytes.now in
    writes_then g.K.Sink c.args.out.now c.write_params.new.out c.write_fence.new.out c.in_ok-write_params.field-0 c.write_fence.result (param_lines b) (mission_lines b ++ fence_lines b) c.in_ok-write_params.ensures
    (writes_then g.K.Sink c.write_params.new.out c.write_mission.new.out c.write_fence.new.out c.in_ok-write_mission.field-0 c.write_fence.result (mission_lines b) (fence_lines b) c.in_ok-write_mission.ensures c.write_fence.ensures)
