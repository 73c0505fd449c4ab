use Rattle.std.proofs.Common.{◌+◌, ℕ, List, ap, subst, arith, Option}
use Rattle.param_index.specs.Places.{Places}
use Rattle.param_index.proofs.PlaceLemmas.{Kept, added}
use Rattle.param_index.proofs.Index.add.Goals as goal

pub returns-clause-index : goal.returns-clause-index
returns-clause-index g c =
    let rows = c.args.table.now in
    let h = c.args.header.now in
    let old = c.args.self.now in
    let at = c.self.inside.end + 4 in
    let new : Places = record { of_rows = c.keep_place.new.places; end = c.self.inside.end + 4 + c.size_of.result } in
    let end = ap (λ (p : Places). p.end) c.self.view_is in
    let places = ap (λ (p : Places). p.of_rows) c.self.view_is in
    added rows h old new at (omega (arith, end)) (subst (λ (l : List (Option ℕ)). Kept rows h at l new.of_rows) places c.keep_place.ensures) (omega (arith, c.size_of.ensures.size))
