use Rattle.std.proofs.Common.{◌<◌, length, get_or, arith}
use Rattle.param_tree.specs.declared.Kind.TheVariants.{I8}
use Rattle.param_convert.specs.declared.rules.Rule.{Rule}
use Rattle.param_convert.specs.Rules.{HasRows}
use Rattle.param_convert.specs.Steps.{IsConversion}
use Rattle.param_convert.proofs.ConvertSteps.{at_step, from_step, conversion_of, writes_any, magic_kept}
use Rattle.param_convert.proofs.conversion.convert.Goals as goal

-- what stands past the end of the rules
abbrev past : Rule
past = record { key = 0; element = 0; kind = I8; new_key = 0; new_element = 0 }

pub returns-clause-any : goal.returns-clause-any
returns-clause-any g c =
    let rows = c.args.table.now in
    let rules = c.args.rules.now in
    let within : c.args.step < length rules = omega (arith, c.requires.step) in
    let rule = get_or rules c.args.step past in
    let has = from_step (HasRows rows) rules c.args.step past within c.requires.rows in
    let done = conversion_of rows rule c.args.current.now c.try_rule.new.batch.items c.requires.size (λ i. omega (arith, c.type_inv.current i)) c.rules.ensures.rules has c.try_rule.ensures.writes in
    writes_any rows rule c.args.current.now c.try_rule.new.batch.items c.try_rule.result done c.try_rule.ensures.writes c.try_rule.ensures.converts

pub returns-clause-converts : goal.returns-clause-converts
returns-clause-converts g c =
    let rules = c.args.rules.now in
    let within : c.args.step < length rules = omega (arith, c.requires.step) in
    at_step _ rules c.args.step past within c.try_rule.ensures.converts

pub returns-clause-steps : goal.returns-clause-steps
returns-clause-steps g c =
    let rows = c.args.table.now in
    let rules = c.args.rules.now in
    let within : c.args.step < length rules = omega (arith, c.requires.step) in
    let has = from_step (HasRows rows) rules c.args.step past within c.requires.rows in
    at_step (λ r. IsConversion rows r c.args.current.now c.try_rule.new.batch.items) rules c.args.step past within
    (conversion_of rows (get_or rules c.args.step past) c.args.current.now c.try_rule.new.batch.items c.requires.size (λ i. omega (arith, c.type_inv.current i)) c.rules.ensures.rules has c.try_rule.ensures.writes)

pub returns-clause-magic : goal.returns-clause-magic
returns-clause-magic g c =
    let rows = c.args.table.now in
    let rules = c.args.rules.now in
    let within : c.args.step < length rules = omega (arith, c.requires.step) in
    let rule = get_or rules c.args.step past in
    let has = from_step (HasRows rows) rules c.args.step past within c.requires.rows in
    magic_kept rows rule c.args.current.now c.try_rule.new.batch.items
    (conversion_of rows rule c.args.current.now c.try_rule.new.batch.items c.requires.size (λ i. omega (arith, c.type_inv.current i)) c.rules.ensures.rules has c.try_rule.ensures.writes)
