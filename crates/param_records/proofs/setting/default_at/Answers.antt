use Rattle.std.proofs.Common.{◌+◌, refl, sym, ◌∙◌, ap, Option}
use Rattle.std.specs.Option.{option_map_or}
use Rattle.param_tree.specs.declared.Var.{Var}
use Rattle.param_records.proofs.StoreLemmas.{find_over, find_here}
use Rattle.param_records.proofs.setting.default_at.Goals as goal

pub returns-then-is_part : goal.returns-then-is_part
returns-then-is_part g c =
    let rows = c.args.table.now in
    let here = find_here c.args.row.now c.row-other.result c.args.part rows c.loop-i.i c.row-other.ensures.row (sym c.is_part.ensures ∙ c.if-is_part.true) in
    ap (λ (o : Option Var). option_map_or (λ v. v.default) o 0) (sym here ∙ c.loop-i.invariant)

pub loop-i-preserved : goal.loop-i-preserved
loop-i-preserved g c =
    sym (find_over c.args.row.now c.row-other.result c.args.part c.args.table.now c.loop-i.i (c.loop-i.i + 1) refl c.row-other.ensures.row (sym c.is_part.ensures ∙ c.if-is_part.false)) ∙ c.loop-i.invariant
