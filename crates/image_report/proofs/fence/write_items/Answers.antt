use Rattle.std.proofs.Common.{◌+◌, ◌∙◌, arith}
use Rattle.std.specs.Prelude.{Err, Ok}
use Rattle.std.proofs.lemmas.Option.{slice_get-get_or}
use Rattle.image_report.specs.Dumps.{fence_item_line}
use Rattle.image_report.proofs.Numbered.{lines_before, numbered_step, numbered_cut, numbered_all}
use Rattle.image_report.proofs.Writing.{writes_none, retext}
use Rattle.image_report.proofs.fence.write_items.Goals as goal

pub loop-index-init : goal.loop-index-init
unfolding lines_before
loop-index-init g c = writes_none g.K.Sink c.args.out.now tt

pub returns-in_err-write : goal.returns-in_err-write
returns-in_err-write g c =
    let items = c.args.items.now in
    let i = c.loop-index.index in
    numbered_cut g.K.Sink c.args.out.now c.write.new.out fence_item_line items (i + 1) c.in_err-write.field-0.0 c.from_residual.result _ c.from_residual.ensures.1
    (numbered_step g.K.Sink c.args.out.now c.loop-index.out c.write.new.out fence_item_line items i _ tt (Err c.in_err-write.field-0.0) (slice_get-get_or items i _ (omega arith))
    (retext g.K.Sink c.loop-index.out c.write.new.out _ _ _ (c.as_slice.ensures.value ∙ c.fence_item_line.ensures) c.in_err-write.ensures) c.loop-index.invariant)

pub loop-index-preserved : goal.loop-index-preserved
loop-index-preserved g c =
    let items = c.args.items.now in
    let i = c.loop-index.index in
    numbered_step g.K.Sink c.args.out.now c.loop-index.out c.write.new.out fence_item_line items i _ tt (Ok c.in_ok-write.field-0) (slice_get-get_or items i _ (omega arith))
    (retext g.K.Sink c.loop-index.out c.write.new.out _ _ _ (c.as_slice.ensures.value ∙ c.fence_item_line.ensures) c.in_ok-write.ensures) c.loop-index.invariant

pub returns : goal.returns
returns g c = numbered_all g.K.Sink c.args.out.now c.loop-index.out fence_item_line c.args.items.now c.loop-index.index _ (omega arith) c.loop-index.invariant
