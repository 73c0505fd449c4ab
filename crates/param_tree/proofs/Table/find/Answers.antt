use Rattle.std.proofs.Common.{◌≡◌, ℕ, ◌<◌, ◌+◌, List, length, get_or, true, false, sym, ◌∙◌, ap, rules, arith, inl, inr}
use Rattle.std.specs.Str.{bytes_eq}
use Rattle.std.proofs.lemmas.Bool.{cases_lt}
use Rattle.std.proofs.lemmas.List.{get_or_default}
use Rattle.param_tree.specs.declared.Var.{Var}
use Rattle.param_tree.specs.Rules.{has_name}
use Rattle.param_tree.proofs.Places.{blank, position_found, position_none, none_there, some_there, one_row}
use Rattle.param_tree.proofs.Names.{no_row, no_row_at_all, named_by_bytes, not_by_bytes}
use Rattle.param_tree.proofs.Table.find.Goals as goal

pub returns-in_err-wanted-clause-found : goal.returns-in_err-wanted-clause-found
returns-in_err-wanted-clause-found g c = let none = c.in_err-wanted.ensures.none in search (rules, no_row)

pub returns-in_err-wanted-clause-none : goal.returns-in_err-wanted-clause-none
returns-in_err-wanted-clause-none g c = let none = c.in_err-wanted.ensures.none in search (rules, no_row_at_all)

pub loop-i-preserved : goal.loop-i-preserved
loop-i-preserved g c = λ k d less.
    let rows = c.self.inside.rows in
    let inside : c.loop-i.i < length rows = search rules in
    elim (cases_lt k c.loop-i.i) [
      | inl below ↦ c.loop-i.invariant k d below
      | inr here ↦
          let same : k ≡ c.loop-i.i = omega arith in
          let row : get_or rows k d ≡ get_or rows c.loop-i.i blank = ap (λ (i : ℕ). get_or rows i d) same ∙ get_or_default rows c.loop-i.i d blank inside in
          let differ : bytes_eq (get_or rows k d).name c.in_ok-wanted.wanted ≡ false = ap (λ (v : Var). bytes_eq v.name c.in_ok-wanted.wanted) row ∙ sym c.eq.ensures ∙ c.if-eq.false in
          not_by_bytes (get_or rows k d) c.args.name.now c.in_ok-wanted.wanted (c.self.invariant.named k d (omega arith)) c.in_ok-wanted.ensures.some.0 differ
    ]

pub returns-then-eq-clause-found : goal.returns-then-eq-clause-found
returns-then-eq-clause-found g c =
    let row : Var = get_or c.self.inside.rows c.loop-i.i blank in
    let has : has_name c.args.name.now row ≡ true = named_by_bytes row c.args.name.now c.in_ok-wanted.wanted c.in_ok-wanted.ensures.some.1 c.in_ok-wanted.ensures.some.0 (sym c.eq.ensures ∙ c.if-eq.true) in
    search (rules, position_found)

pub returns-then-eq-clause-none : goal.returns-then-eq-clause-none
returns-then-eq-clause-none g c =
    let row : Var = get_or c.self.inside.rows c.loop-i.i blank in
    let has : has_name c.args.name.now row ≡ true = named_by_bytes row c.args.name.now c.in_ok-wanted.wanted c.in_ok-wanted.ensures.some.1 c.in_ok-wanted.ensures.some.0 (sym c.eq.ensures ∙ c.if-eq.true) in
    search (rules, some_there)

pub returns-then-eq-clause-only : goal.returns-then-eq-clause-only
returns-then-eq-clause-only g c =
    let row : Var = get_or c.self.inside.rows c.loop-i.i blank in
    let has : has_name c.args.name.now row ≡ true = named_by_bytes row c.args.name.now c.in_ok-wanted.wanted c.in_ok-wanted.ensures.some.1 c.in_ok-wanted.ensures.some.0 (sym c.eq.ensures ∙ c.if-eq.true) in
    search (rules, one_row)

pub returns-clause-found : goal.returns-clause-found
returns-clause-found g c = search (rules, position_none)

pub returns-clause-none : goal.returns-clause-none
returns-clause-none g c = search (rules, none_there)
