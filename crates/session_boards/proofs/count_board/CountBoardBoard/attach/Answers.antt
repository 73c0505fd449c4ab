use Rattle.std.proofs.Common.{◌≡◌, ℕ, [], ◌∷◌, arith}
use Rattle.flash_traits.specs.Losses.{sent_frame}
use Rattle.session_boards.proofs.count_board.CountBoardBoard.attach.Goals as goal

-- a list of no frames and one of one frame differ
no_two_counts : (n : ℕ) → n ≡ 0 → n ≡ 1 → ⊥
no_two_counts n none one = omega arith

pub returns-clause-untold : goal.returns-clause-untold
returns-clause-untold g c = λ any e f. absurd (no_two_counts c.args.self.now.frames (any [] []).frames_count (any [] (sent_frame 0 [] ∷ [])).frames_count)
