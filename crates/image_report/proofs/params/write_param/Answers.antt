use Rattle.std.proofs.Common.{◌∙◌}
use Rattle.image_report.proofs.Table.{line_is}
use Rattle.image_report.proofs.Writing.{retext}
use Rattle.image_report.proofs.params.write_param.Goals as goal

pub returns : goal.returns
returns g c = (
  c.row.result,
  c.row.ensures.row,
  retext g.K.Sink c.args.out.now c.write.new.out c.write.result _ _ (c.as_slice.ensures.value ∙ (c.param_line-line.ensures ∙ line_is c.args.bytes.now c.args.table.now c.args.index c.row.result c.value.result c.row.ensures.row c.value.ensures)) c.write.ensures,
)
