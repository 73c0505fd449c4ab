use Rattle.std.proofs.Common.{◌≡◌, length, List, ◌∙◌, ap, arith}
use Rattle.std.proofs.lemmas.List.{length-append}
use Rattle.storage_lines.specs.declared.lines.TheConstants.{STORAGE_BYTES}
use Rattle.storage_lines.specs.declared.areas.Area.TheVariants.{Mission}
use Rattle.storage_lines.specs.declared.lines.LineWrite.{LineWrite}
use Rattle.storage_lines.specs.Lines.{after}
use Rattle.storage_lines.specs.Pieces.{writes_of_piece}
use Rattle.storage_lines.proofs.LineLemmas.{length-after}
use Rattle.param_records.proofs.CountLemmas.{no_refusal}
use Rattle.mission_records.proofs.Touched.{few_writes}
use Rattle.mission_records.proofs.writing.put_bytes.Goals as goal

pub unreachable-requires : goal.unreachable-requires
unreachable-requires c =
    let B = after c.args.current.now c.args.batch.now.items in
    let size : length B ≡ STORAGE_BYTES = length-after c.args.current.now c.args.batch.now.items ∙ c.requires.size in
    let few = few_writes c.args.at c.args.bytes.now B size c.requires.short c.requires.inside in
    no_refusal c.in-Err.field-0
    (λ e. let h = c.in-Err.ensures.out_of_area.0 e in omega arith)
    (λ e. let h = c.in-Err.ensures.no_place.0 e in let g = h.1 in omega arith)

pub returns-clause-few : goal.returns-clause-few
returns-clause-few c =
    let B = after c.args.current.now c.args.batch.now.items in
    let ws = writes_of_piece Mission c.args.at c.args.bytes.now B in
    let size : length B ≡ STORAGE_BYTES = length-after c.args.current.now c.args.batch.now.items ∙ c.requires.size in
    let few = few_writes c.args.at c.args.bytes.now B size c.requires.short c.requires.inside in
    omega (arith, ap (λ (l : List LineWrite). length l) c.in-Ok.ensures.ok, length-append c.args.batch.now.items ws)
