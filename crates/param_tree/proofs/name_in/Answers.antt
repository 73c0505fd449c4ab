use Rattle.std.proofs.Common.{rules, arith, sym, ap, eq-eqb, ◌==◌, ℕ, take}
use Rattle.std.specs.List.{position_or_len}
use Rattle.std.proofs.lemmas.List.{take_all}
use Rattle.std.proofs.lemmas.List.Sums.{position_or_len_is}
use Rattle.param_tree.proofs.name_in.Goals as goal

pub returns-then-b-eq0 : goal.returns-then-b-eq0
returns-then-b-eq0 c = ap (λ (n : ℕ). take n c.args.bytes.now) (sym (position_or_len_is (λ b. b == 0) c.args.bytes.now c.loop-i.i 0 (omega arith) c.loop-i.invariant (λ _. eq-eqb _ 0 (search rules))))

pub returns : goal.returns
returns c = sym (take_all (position_or_len (λ b. b == 0) c.args.bytes.now) c.args.bytes.now (omega (arith, position_or_len_is (λ b. b == 0) c.args.bytes.now 16 0 (omega arith) (λ k less. c.loop-i.invariant k (omega arith)) (λ h. absurd (omega arith)))))
