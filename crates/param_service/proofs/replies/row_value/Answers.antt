use Rattle.std.proofs.Common.{◌≡◌, List, ◌∙◌, ap}
use Rattle.std.specs.Prelude.{slice_get}
use Rattle.param_tree.specs.declared.Var.{Var}
use Rattle.param_records.specs.Values.{params_of}
use Rattle.param_records.proofs.SetLemmas.{is_some}
use Rattle.param_service.proofs.Showing.{there}
use Rattle.param_service.proofs.replies.row_value.Goals as goal

pub returns : goal.returns
returns c =
    let row = there c.args.row c.requires.row in
    let at = ap (λ (l : List Var). slice_get l c.args.row) c.requires.rows ∙ row.1 in
    (row.0, row.1, is_some _ (λ r. c.value.result ≡ params_of c.args.current.now r) row.0 at c.value.ensures)
