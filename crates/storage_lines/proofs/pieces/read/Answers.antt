use Rattle.std.proofs.Common.{◌+◌, length, get_or, ◌∙◌, ap, arith}
use Rattle.storage_lines.specs.declared.areas.Spans.{Spans}
use Rattle.storage_lines.specs.Areas.{place_in}
use Rattle.storage_lines.proofs.PieceLemmas.{area_bytes}
use Rattle.storage_lines.proofs.pieces.read.Goals as goal

pub returns : goal.returns
returns c =
    let bytes = c.args.current.now in
    area_bytes c.args.area bytes c.loop-i.into c.args.at (length c.args.into.now) c.requires.inside c.loop-i.auto.into
    (λ i h. c.loop-i.invariant i (omega arith) ∙ ap (λ (p : Spans). get_or bytes (place_in p (c.args.at + i)) 0) c.spans_of-spans.ensures.spans)
