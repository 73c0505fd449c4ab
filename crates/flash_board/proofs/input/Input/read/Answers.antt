use Rattle.std.proofs.Common.{◌≡◌, ◌≤◌, ◌++◌, ◌-◌, ◌+◌, length, take, drop, ℕ, List, sym, ◌∙◌, ap, arith, length-drop}
use Rattle.std.proofs.Math.Seq.{take-add}
use Rattle.std.proofs.lemmas.List.{take_at, take-append-drop, drop-drop, length-take-le}
use Rattle.std.proofs.lemmas.Grind.{common_steps}
use Rattle.flash_board.proofs.input.Input.read.Goals as goal

-- a piece that is copied to the front of a buffer, and where the piece ends
module _ (bytes piece behind : List ℕ) (next count : ℕ) (is : piece ≡ take count (drop next bytes)) (fits : count ≤ length bytes - next) where
  front : take count (piece ++ behind) ≡ take count (drop next bytes)
  front = take_at piece behind count (ap (λ (l : List ℕ). length l) is ∙ length-take-le count (drop next bytes) (omega (arith, length-drop next bytes))) ∙ is

  more_given : take (next + count) bytes ≡ take next bytes ++ take count (piece ++ behind)
  more_given = take-add next count bytes ∙ ap (λ (l : List ℕ). take next bytes ++ l) (sym front)

  less_left : drop next bytes ≡ take count (piece ++ behind) ++ drop (next + count) bytes
  less_left =
      sym (take-append-drop count (drop next bytes))
      ∙ ap (λ (l : List ℕ). l ++ drop count (drop next bytes)) (sym front)
      ∙ ap (λ (l : List ℕ). take count (piece ++ behind) ++ l) (drop-drop count next bytes)

pub returns-clause-given : goal.returns-clause-given
returns-clause-given c =
    let is : c.copy_from_slice.new.self ≡ take c.min-count.result (drop c.args.self.now.next c.args.self.now.bytes.items) = grind (arith, common_steps) in
    more_given c.args.self.now.bytes.items c.copy_from_slice.new.self (drop c.min-count.result c.args.into.now) c.args.self.now.next c.min-count.result is (omega (arith, c.args.self.now.within))

pub returns-clause-rest : goal.returns-clause-rest
returns-clause-rest c =
    let is : c.copy_from_slice.new.self ≡ take c.min-count.result (drop c.args.self.now.next c.args.self.now.bytes.items) = grind (arith, common_steps) in
    less_left c.args.self.now.bytes.items c.copy_from_slice.new.self (drop c.min-count.result c.args.into.now) c.args.self.now.next c.min-count.result is (omega (arith, c.args.self.now.within))
