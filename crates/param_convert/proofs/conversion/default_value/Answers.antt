use Rattle.std.proofs.Common.{◌∙◌, sym, ap, take}
use Rattle.param_tree.specs.declared.Kind.{Kind}
use Rattle.param_records.specs.Records.{size_of}
use Rattle.param_convert.proofs.NewRows.{default_made, first_kind}
use Rattle.param_convert.proofs.conversion.default_value.Goals as goal

pub returns : goal.returns
returns g c =
    let row = c.first_row-row.result in
    ap (λ (k : Kind). take (size_of k) c.fresh_value.result) (sym (first_kind c.args.table.now c.args.rule.now row c.first_row-row.ensures))
    ∙ c.fresh_value.ensures ∙ default_made c.args.table.now c.args.rule.now row c.first_row-row.ensures
