use Rattle.std.proofs.Common.{◌+◌, arith}
use Rattle.std.specs.Prelude.{Err, Ok}
use Rattle.image_report.proofs.Table.{lines_to, params_step, params_cut, params_all}
use Rattle.image_report.proofs.Writing.{writes_none}
use Rattle.image_report.proofs.params.write_params.Goals as goal

pub loop-index-init : goal.loop-index-init
unfolding lines_to
loop-index-init g c = writes_none g.K.Sink c.args.out.now tt

pub returns-in_err-write_param : goal.returns-in_err-write_param
returns-in_err-write_param g c =
    params_cut g.K.Sink c.args.out.now c.write_param.new.out c.args.bytes.now (c.loop-index.index + 1) c.in_err-write_param.field-0.0 c.from_residual.result _ c.from_residual.ensures.1
    (params_step g.K.Sink c.args.out.now c.loop-index.out c.write_param.new.out c.args.bytes.now c.vehicle_table-table.result c.loop-index.index tt (Err c.in_err-write_param.field-0.0) c.vehicle_table-table.ensures.rows c.in_err-write_param.ensures c.loop-index.invariant)

pub loop-index-preserved : goal.loop-index-preserved
loop-index-preserved g c =
    params_step g.K.Sink c.args.out.now c.loop-index.out c.write_param.new.out c.args.bytes.now c.vehicle_table-table.result c.loop-index.index tt (Ok c.in_ok-write_param.field-0) c.vehicle_table-table.ensures.rows c.in_ok-write_param.ensures c.loop-index.invariant

pub returns : goal.returns
returns g c = params_all g.K.Sink c.args.out.now c.loop-index.out c.args.bytes.now c.loop-index.index _ (omega (arith, c.loop-index-test.false)) c.loop-index.invariant
