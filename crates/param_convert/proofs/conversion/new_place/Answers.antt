use Rattle.std.proofs.Common.{arith}
use Rattle.param_records.specs.Steps.{records_in_storage}
use Rattle.param_records.proofs.ValueLemmas.{value_none}
use Rattle.param_convert.proofs.OldValues.{value_there}
use Rattle.param_convert.proofs.conversion.new_place.Goals as goal

pub returns-in-At : goal.returns-in-At
returns-in-At c = λ absent.
    let rule = c.args.rule.now in
    absurd (value_there rule.new_key rule.new_element c.in-At.field-0 rule.kind (records_in_storage c.args.current.now) c.in-At.ensures absent)

pub returns-else-end-size_of-gt-PARAM_BYTES : goal.returns-else-end-size_of-gt-PARAM_BYTES
returns-else-end-size_of-gt-PARAM_BYTES c =
    let rule = c.args.rule.now in
    let end = c.in-End.ensures.1 in
    let size = c.size_of.ensures.size in
    (end, value_none 4 rule.new_key rule.new_element rule.kind (records_in_storage c.args.current.now) c.in-End.ensures.0, omega arith)
