use Rattle.std.proofs.Common.{◌≡◌, ◌≤◌, ◌<◌, ℕ}
use Rattle.std.specs.Prelude.{slice_index}
use Rattle.flash_traits.specs.Calls.{OnlyReads}
use Rattle.flash_traits.specs.declared.numbers.TheConstants.{ERASED}
use Rattle.guard_row.proofs.row.test_erased.Given as goal

abbrev pub invariant-loop-at : goal.invariant-loop-at
invariant-loop-at g l = record {
  reads : OnlyReads g.B.Board l.fn.board l.board;
  counts : g.B.Board.faults l.board ≡ g.B.Board.faults l.fn.board;
  erased : g.B.Board.tells l.board → (k : ℕ) → l.from ≤ k → k < l.at → slice_index (g.B.Board.words l.fn.board).guard k ≡ ERASED;
}
