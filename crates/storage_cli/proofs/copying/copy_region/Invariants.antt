use Rattle.std.proofs.Common.{◌≡◌, ◌<◌, ◌+◌, ◌*◌, ℕ, slice_index}
use Rattle.flash_traits.specs.Words.{halfwords_in}
use Rattle.flash_traits.specs.Calls.{OnlyReads}
use Rattle.script_board.specs.Image.{halfword_at}
use Rattle.storage_cli.proofs.copying.copy_region.Given as goal

abbrev pub invariant-loop-at : goal.invariant-loop-at
invariant-loop-at g l = record {
  reads : OnlyReads g.B.Board l.fn.board l.board;
  counts : g.B.Board.faults l.board ≡ g.B.Board.faults l.fn.board;
  copied : g.B.Board.tells l.board → (k : ℕ) → k < l.at → halfword_at l.bytes (l.start + 2 * k) ≡ slice_index (halfwords_in (g.B.Board.words l.fn.board) l.region) k;
  before : (j : ℕ) → j < l.start → slice_index l.bytes j ≡ slice_index l.fn.bytes j;
}
