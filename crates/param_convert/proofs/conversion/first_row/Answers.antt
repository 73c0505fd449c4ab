use Rattle.std.proofs.Common.{◌∙◌, sym, arith}
use Rattle.param_convert.specs.Rules.{is_new_part}
use Rattle.param_convert.proofs.NewRows.{find_over, find_here, found_before_end}
use Rattle.param_convert.proofs.conversion.first_row.Goals as goal

pub returns-then-is_first_part : goal.returns-then-is_first_part
returns-then-is_first_part g c =
    sym c.loop-i.invariant ∙ find_here (is_new_part c.args.rule.now 0) c.args.table.now c.loop-i.i c.row-row.result c.row-row.ensures.row (sym c.is_first_part.ensures ∙ c.if-is_first_part.true)

pub loop-i-preserved : goal.loop-i-preserved
loop-i-preserved g c =
    sym (find_over (is_new_part c.args.rule.now 0) c.args.table.now c.loop-i.i c.row-row.result c.row-row.ensures.row (sym c.is_first_part.ensures ∙ c.if-is_first_part.false)) ∙ c.loop-i.invariant

pub unreachable-requires : goal.unreachable-requires
unreachable-requires g c = found_before_end c.args.table.now c.args.rule.now c.loop-i.i c.requires (omega (arith, c.rules.ensures.len)) c.loop-i.invariant
