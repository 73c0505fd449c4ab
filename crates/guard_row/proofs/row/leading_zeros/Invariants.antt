use Rattle.std.proofs.Common.{◌≡◌, ◌<◌, ℕ}
use Rattle.std.specs.Prelude.{slice_index}
use Rattle.flash_traits.specs.Calls.{OnlyReads}
use Rattle.guard_row.proofs.row.leading_zeros.Given as goal

abbrev pub invariant-loop-at : goal.invariant-loop-at
invariant-loop-at g l = record {
  reads : OnlyReads g.B.Board l.fn.board l.board;
  counts : g.B.Board.faults l.board ≡ g.B.Board.faults l.fn.board;
  zeros : g.B.Board.tells l.board → (k : ℕ) → k < l.at → slice_index (g.B.Board.words l.fn.board).guard k ≡ 0;
}
