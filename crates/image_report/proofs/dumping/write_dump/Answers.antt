use Rattle.std.proofs.Common.{◌∙◌}
use Rattle.image_report.specs.Dumps.{head_line, stored_text, digest_line, dump_text}
use Rattle.image_report.proofs.Pieces.{in_pieces, cut_first, cut_second, all_three}
use Rattle.image_report.proofs.dumping.write_dump.Goals as goal

pub returns-in_err-write : goal.returns-in_err-write
returns-in_err-write g c =
    cut_first g.K.Sink c.args.out.now c.write.new.out c.in_err-write.field-0.0 c.from_residual.result _ c.as_slice.result.now (head_line c.args.sector_bytes c.args.guard c.args.shape) (stored_text c.args.bytes.now) (digest_line c.args.bytes.now)
    (dump_text c.args.sector_bytes c.args.guard c.args.shape c.args.bytes.now) c.from_residual.ensures.1 (c.as_slice.ensures.value ∙ c.head_line.ensures) (in_pieces c.args.sector_bytes c.args.guard c.args.shape c.args.bytes.now) c.in_err-write.ensures

pub returns-in_err-write_stored : goal.returns-in_err-write_stored
returns-in_err-write_stored g c =
    cut_second g.K.Sink c.args.out.now c.write.new.out c.write_stored.new.out c.in_ok-write.field-0 c.in_err-write_stored.field-0.0 c.from_residual-in_err-write_stored.result _ c.as_slice.result.now (head_line c.args.sector_bytes c.args.guard c.args.shape) (stored_text c.args.bytes.now) (digest_line c.args.bytes.now)
    (dump_text c.args.sector_bytes c.args.guard c.args.shape c.args.bytes.now) c.from_residual-in_err-write_stored.ensures.1 (c.as_slice.ensures.value ∙ c.head_line.ensures) (in_pieces c.args.sector_bytes c.args.guard c.args.shape c.args.bytes.now) c.in_ok-write.ensures c.in_err-write_stored.ensures

pub returns : goal.returns
returns g c =
    all_three g.K.Sink c.args.out.now c.write.new.out c.write_stored.new.out c.write-2.new.out c.in_ok-write.field-0 c.in_ok-write_stored.field-0 c.write-2.result c.as_slice.result.now c.as_slice-2.result.now (head_line c.args.sector_bytes c.args.guard c.args.shape) (stored_text c.args.bytes.now) (digest_line c.args.bytes.now)
    (dump_text c.args.sector_bytes c.args.guard c.args.shape c.args.bytes.now) (c.as_slice.ensures.value ∙ c.head_line.ensures) (c.as_slice-2.ensures.value ∙ c.digest_line.ensures) (in_pieces c.args.sector_bytes c.args.guard c.args.shape c.args.bytes.now) c.in_ok-write.ensures c.in_ok-write_stored.ensures c.write-2.ensures
