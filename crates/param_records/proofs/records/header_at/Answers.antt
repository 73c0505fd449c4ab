use Rattle.std.proofs.Common.{drop, arith}
use Rattle.std.proofs.lemmas.List.{length-drop}
use Rattle.storage_lines.specs.Areas.{logical_of}
use Rattle.storage_lines.specs.declared.areas.Area.TheVariants.{Param}
use Rattle.param_records.proofs.PieceLemmas.{length-logical}
use Rattle.param_records.proofs.WalkLemmas.{header_short, header_begins}
use Rattle.param_records.proofs.records.header_at.Goals as goal

pub returns-then-at : goal.returns-then-at
returns-then-at c = λ kind e. omega (arith, length-drop c.args.at (logical_of Param c.args.current.now), length-logical c.args.current.now)

pub returns-then-at-size_of-gt-PARAM_BYTES : goal.returns-then-at-size_of-gt-PARAM_BYTES
returns-then-at-size_of-gt-PARAM_BYTES c =
    let bytes = drop c.args.at (logical_of Param c.args.current.now) in
    header_short bytes c.four_at-bytes.result c.in_ok-kind.kind c.four_at-bytes.ensures c.in_ok-kind.ensures (omega (arith, length-drop c.args.at (logical_of Param c.args.current.now), length-logical c.args.current.now))

pub returns : goal.returns
returns c =
    let bytes = drop c.args.at (logical_of Param c.args.current.now) in
    header_begins bytes c.four_at-bytes.result c.in_ok-kind.kind c.four_at-bytes.ensures c.in_ok-kind.ensures (omega (arith, length-drop c.args.at (logical_of Param c.args.current.now), length-logical c.args.current.now))
