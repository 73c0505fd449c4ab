use Rattle.std.proofs.Common.{◌≡◌, ◌≤◌, ◌++◌, ℕ, List}
use Rattle.sector_image.specs.Stands.{Stands}
use Rattle.script_lines.specs.Script.{ScriptLine}
use Rattle.replay.specs.Histories.{AreNext, Ended}
use Rattle.replay.proofs.replay.Given as goal

abbrev pub invariant-runs : goal.invariant-runs
invariant-runs g l =
    let p = g.P.Player in
    record {
      holds : p.holds l.player;
      told : p.told l.player → p.told l.fn.player;
      ended : p.told l.player → (b : List ℕ) → Stands (p.words l.fn.player) b → (lines : List ScriptLine) × (text : List ℕ) × AreNext (p.took l.fn.player) (p.took l.player) lines
          × (p.printed l.player ≡ p.printed l.fn.player ++ text)
          × Ended p.arming (p.words l.fn.player) lines text (p.waiting l.player) (p.words l.player)
          × ((now : List ℕ) × Stands (p.words l.player) now);
      unfailed : p.unfailed l.fn.player → p.unfailed l.player;
      input_counts : p.input_faults l.player ≡ p.input_faults l.fn.player;
      output_counts : p.output_faults l.player ≡ p.output_faults l.fn.player;
    }

abbrev pub decreases-runs : goal.decreases-runs
decreases-runs g l = g.P.Player.remaining l.player
