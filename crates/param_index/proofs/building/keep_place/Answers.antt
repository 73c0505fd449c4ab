use Rattle.std.proofs.Common.{◌+◌, ℕ, Bool, List, get_or, sym, ◌∙◌, ap, subst, arith, Option, None}
use Rattle.std.specs.Prelude.{◌&&◌}
use Rattle.std.specs.Option.{is_none}
use Rattle.std.proofs.lemmas.Option.{slice_get_within}
use Rattle.param_index.proofs.PlaceLemmas.{KeptBelow, test, below_set, below_same, none_from, and_false}
use Rattle.param_index.proofs.building.keep_place.Goals.{then-is_none+then-is_match, else-is_none, else-is_none-via-then-is_none+else-is_match, else-is_none-via-else-is_none}
use Rattle.param_index.proofs.building.keep_place.Goals as goal

pub loop-i-preserved : goal.loop-i-preserved
loop-i-preserved g c =
    let rows = c.args.table.now in
    let h = c.args.header.now in
    let now = c.loop-i.places in
    let i = c.loop-i.i in
    let row = c.row-row.result in
    let none = none_from (get_or now i None) c.is_none.result c.is_none.ensures in
    elim c.if-is_none.branch [
      | then-is_none+then-is_match w ↦
          subst (λ (l : List (Option ℕ)). KeptBelow rows h c.args.at c.args.places.now l (i + 1)) (sym w.places-is)
          (below_set rows h c.args.at c.args.places.now now i row c.row-row.ensures.row c.loop-i.invariant (none ∙ w.if-is_none.true) (sym w.is_match.ensures ∙ w.if-is_match.true))
      | else-is_none w ↦
          subst (λ (l : List (Option ℕ)). KeptBelow rows h c.args.at c.args.places.now l (i + 1)) (sym w.places-is)
          (below_same rows h c.args.at c.args.places.now now i row c.row-row.ensures.row c.loop-i.invariant (elim w.else-is_none.branch [
            | else-is_none-via-then-is_none+else-is_match x ↦ and_false (is_none (get_or now i None)) (test h row) (sym x.is_match.ensures ∙ x.if-is_match.false)
            | else-is_none-via-else-is_none x ↦ ap (λ (b : Bool). b && test h row) (none ∙ x.if-is_none.false)
          ]))
    ]

pub returns : goal.returns
returns g c = λ i row was is had. c.loop-i.invariant.below i row was (omega (arith, slice_get_within c.args.table.now i row is, c.rules.ensures.len)) is had
