use Rattle.std.proofs.Common.{◌≡◌, ◌≤◌, ◌+◌, List}
use Rattle.flash_traits.specs.Losses.{SentFrame}
use Rattle.script_lines.specs.Script.{ScriptLine, HasNoEnd}
use Rattle.script_board.specs.Taking.{events_of}
use Rattle.script_board.specs.Hearing.{loses, FewWait, HasNoLossNow}
use Rattle.replay.specs.Playing.{AddsLines, GoesOn}
use Rattle.replay.proofs.play.Given as goal

abbrev pub invariant-events : goal.invariant-events
invariant-events g l =
    let p = g.P.Player in
    record {
      holds : p.holds l.player;
      fits : p.fits l.player l.node;
      told : p.told l.player → p.told l.fn.player;
      plays : p.told l.player → (lines : List ScriptLine) × (frames : List SentFrame) × AddsLines (p.took l.fn.player) (p.took l.player) (p.printed l.fn.player) (p.printed l.player) lines frames
          × GoesOn l.fn.node l.node (events_of lines) frames × (l.node.budget ≡ l.fn.node.budget)
          × HasNoLossNow lines × HasNoEnd lines × (p.waiting l.player ≡ p.waiting l.fn.player + loses lines) × FewWait (p.waiting l.fn.player) lines;
      remaining : p.remaining l.player ≤ p.remaining l.fn.player;
      unfailed : p.unfailed l.fn.player → p.unfailed l.player;
      input_counts : p.input_faults l.player ≡ p.input_faults l.fn.player;
      output_counts : p.output_faults l.player ≡ p.output_faults l.fn.player;
    }

abbrev pub decreases-events : goal.decreases-events
decreases-events g l = g.P.Player.remaining l.player
