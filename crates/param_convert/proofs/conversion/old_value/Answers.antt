use Rattle.std.proofs.Common.{◌≡◌, ◌∙◌, ℕ, List, [], ◌∷◌, length, take, drop, sym, ap, arith}
use Rattle.std.proofs.lemmas.List.{length-take}
use Rattle.storage_lines.specs.Areas.{logical_of}
use Rattle.storage_lines.specs.declared.areas.Area.TheVariants.{Param}
use Rattle.param_records.specs.Steps.{records_in_storage}
use Rattle.param_records.proofs.ValueLemmas.{value_none}
use Rattle.param_convert.proofs.OldValues.{read_at}
use Rattle.param_convert.proofs.conversion.old_value.Goals as goal

abbrev zeros : List ℕ
zeros = 0 ∷ 0 ∷ 0 ∷ 0 ∷ 0 ∷ 0 ∷ 0 ∷ 0 ∷ 0 ∷ 0 ∷ 0 ∷ 0 ∷ []

pub returns-in_err-at : goal.returns-in_err-at
returns-in_err-at c =
    let rule = c.args.rule.now in
    rw c.from_residual.ensures (value_none 4 rule.key rule.element rule.kind (records_in_storage c.args.current.now) (sym c.in_err-at.ensures))

pub read-requires-clause-inside : goal.read-requires-clause-inside
read-requires-clause-inside c =
    let rule = c.args.rule.now in
    let r = read_at c.args.current.now rule.key rule.element rule.kind c.in_ok-at.at (λ i. omega (arith, c.type_inv.current i)) (sym c.in_ok-at.ensures) in
    let fits = r.fits in
    let size = c.size_of.ensures.size in
    let few = c.size_of.ensures.most in
    omega (arith, length-take {A = ℕ} c.size_of.result zeros)

pub returns : goal.returns
returns c =
    let rule = c.args.rule.now in
    let r = read_at c.args.current.now rule.key rule.element rule.kind c.in_ok-at.at (λ i. omega (arith, c.type_inv.current i)) (sym c.in_ok-at.ensures) in
    let size = c.size_of.ensures.size in
    let few = c.size_of.ensures.most in
    let long : length (take {A = ℕ} c.size_of.result zeros) ≡ c.size_of.result = omega (arith, length-take {A = ℕ} c.size_of.result zeros) in
    let whole = c.read.ensures ∙ ap (λ (n : ℕ). take n (drop c.in_ok-at.at (logical_of Param c.args.current.now))) (long ∙ size) in
    r.value c.read.new.into (drop {A = ℕ} c.size_of.result zeros) (omega arith) whole
