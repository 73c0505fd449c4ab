use Rattle.std.proofs.Common.{◌∙◌, take, refl, sym}
use Rattle.param_records.specs.Steps.{records_in_storage}
use Rattle.param_convert.proofs.Due.{found_due}
use Rattle.param_convert.proofs.ConvertSteps.{new_fits}
use Rattle.param_convert.proofs.conversion.try_rule.Goals as goal

pub append-requires-clause-key : goal.append-requires-clause-key
append-requires-clause-key g c = (new_fits c.args.table.now c.args.rule.now c.rules.ensures.rules c.requires.rows).key

pub append-requires-clause-element : goal.append-requires-clause-element
append-requires-clause-element g c = (new_fits c.args.table.now c.args.rule.now c.rules.ensures.rules c.requires.rows).element

pub returns-clause-converts : goal.returns-clause-converts
returns-clause-converts g c =
    let size = c.size_of-size.result in
    let value = c.in-Some.value in
    let place = c.in-Some-new_place.ensures in (
      λ done. (
        take size value,
        found_due c.args.table.now (records_in_storage c.args.current.now) c.args.rule.now value c.default_value.result size c.size_of-size.ensures.size
            c.in-Some.ensures place.1 c.default_value.ensures (sym c.eq.ensures ∙ c.if-eq.false) place.2,
      ),
      λ makes. refl,
    )
