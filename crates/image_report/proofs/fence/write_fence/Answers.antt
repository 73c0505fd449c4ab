use Rattle.std.proofs.Common.{◌∙◌, sym, ap, length}
use Rattle.image_report.specs.Dumps.{numbered_lines, fence_line, fence_item_line, fence_lines}
use Rattle.image_report.proofs.Numbered.{line_cut, line_then, fence_whole}
use Rattle.image_report.proofs.fence.write_fence.Goals as goal

pub returns-in_err-write : goal.returns-in_err-write
returns-in_err-write g c =
    let b = c.args.bytes.now in
    let items = c.parse-items.result.items in
    line_cut g.K.Sink c.args.out.now c.write.new.out c.in_err-write.field-0.0 c.from_residual.result _ c.as_slice.result.now (fence_line c.len.result) (numbered_lines fence_item_line items) (fence_lines b)
    c.from_residual.ensures.1 (c.as_slice.ensures.value ∙ c.fence_line.ensures) (fence_whole b items c.len.result c.parse-items.ensures.value c.len.ensures.value) c.in_err-write.ensures

pub returns : goal.returns
returns g c =
    let b = c.args.bytes.now in
    let items = c.as_slice-2.result.now in
    line_then g.K.Sink c.args.out.now c.write.new.out c.write_items.new.out c.in_ok-write.field-0 c.write_items.result c.as_slice.result.now (fence_line c.len.result) (numbered_lines fence_item_line items) (fence_lines b)
    (c.as_slice.ensures.value ∙ c.fence_line.ensures) (fence_whole b items c.len.result (c.as_slice-2.ensures.value ∙ c.parse-items.ensures.value) (c.len.ensures.value ∙ ap length (sym c.as_slice-2.ensures.value))) c.in_ok-write.ensures c.write_items.ensures
