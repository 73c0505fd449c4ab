use mir.Val.{bool_byte}
use Rattle.std.proofs.Common.{◌≡◌, ◌-◌, Option, ℕ, subst, sym, ap, ◌∙◌, arith}
use Rattle.sector_image.specs.Room.{left_to_copy}
use Rattle.sector_image.specs.Coverage.{unmarked}
use Rattle.sector_image.proofs.CoverageLemmas.{count_beside, unmarked_most, unmarked_test, left_of_marks}
use Rattle.sector_image.proofs.coverage.Coverage.count_left.Goals as goal

pub overflow_sub-result : goal.overflow_sub-result
overflow_sub-result c = omega (arith, c.self.invariant, ap unmarked c.self.view_is, unmarked_test 240 c.args.self.now c.in-Some.chunk c.is_unmarked.result c.is_unmarked.ensures)

pub returns-in-Some-clause-count : goal.returns-in-Some-clause-count
returns-in-Some-clause-count c = λ whole upper is.
    let beside = count_beside 240 whole upper c.args.self.now c.in-Some.chunk c.is_unmarked.result is.each c.is_unmarked.ensures in
    subst (λ (f : Option ℕ). c.self.inside.uncovered - bool_byte c.is_unmarked.result ≡ left_to_copy whole upper f) (sym c.in-Some.is)
    (omega (arith, c.self.invariant, ap unmarked c.self.view_is, beside))

pub returns-in-Some-clause-most : goal.returns-in-Some-clause-most
returns-in-Some-clause-most c = omega (arith, c.self.invariant, unmarked_most 240 c.self.inside.marks)

pub returns-in-None-clause-count : goal.returns-in-None-clause-count
returns-in-None-clause-count c = λ whole upper is.
    subst (λ (f : Option ℕ). c.self.inside.uncovered ≡ left_to_copy whole upper f) (sym c.in-None.is)
    (c.self.invariant ∙ ap unmarked c.self.view_is ∙ sym (left_of_marks 240 whole upper c.args.self.now is.each))

pub returns-in-None-clause-most : goal.returns-in-None-clause-most
returns-in-None-clause-most c = omega (arith, c.self.invariant, unmarked_most 240 c.self.inside.marks)
