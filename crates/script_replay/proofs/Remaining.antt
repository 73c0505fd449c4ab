-- How much of the script and of the waiting losses a call uses up.
use Rattle.std.proofs.Common.{◌≡◌, inl, inr, ℕ, ◌+◌, ◌*◌, ◌-◌, ◌≤◌, List, length, Option, Some, None, Result, Ok, Err, OnOk, IfErr, arith}
use Rattle.flash_traits.specs.declared.stream.Source as source
use Rattle.flash_traits.specs.declared.stream.Sink as sink
use Rattle.vehicle_node.specs.declared.Turn.{Turn}
use Rattle.script_lines.specs.Script.{ScriptLine}
use Rattle.script_lines.specs.declared.numbers.TheConstants.{SCRIPT_LINES}
use Rattle.script_board.specs.Hearing.{loses}
use Rattle.script_board.specs.declared.board.ScriptBoard.{ScriptBoard}
use Rattle.replay.specs.Breaks.{OnLost}
use Rattle.replay.specs.Playing.{Falls, TurnUses, QuietUses}
use Rattle.replay.specs.declared.Break.{Break}
use Rattle.replay.specs.declared.Break.TheVariants.{Lost, Stopped}
use Rattle.script_replay.specs.Steps.Places.{line_at, waiting_at, remaining_at}
use Rattle.script_replay.proofs.Scripts.{loses_most, loses_fewer}

-- what is left after so many lines, and with so many waiting losses
abbrev left_by : ℕ → ℕ → ℕ
left_by line waiting = 3 * (SCRIPT_LINES - line) + 2 * waiting

-- each line that was taken counts for three, and each loss that waits for two
module _ (l0 l1 w0 w1 : ℕ) (lines : List ScriptLine) (line : l1 ≡ l0 + length lines) (below : l1 ≤ SCRIPT_LINES) where
  uses_up : w1 ≤ w0 + loses lines → left_by l1 w1 + length lines ≤ left_by l0 w0
  uses_up few = omega (arith, line, below, few, loses_most lines)

  falls_by : (finished : ℕ) → Falls lines finished w0 w1 → left_by l1 w1 + 1 ≤ left_by l0 w0
  falls_by finished (inl ((front, is, none, done), waits)) = omega (arith, line, below, waits, loses_fewer front lines is)
  falls_by finished (inr (none, waits)) = omega (arith, line, below, waits, loses_most lines)

  lost_by : (r : Result Turn Break) (finished : ℕ) → TurnUses r lines finished w0 w1 → IfErr r (OnLost (left_by l1 w1 + 1 ≤ left_by l0 w0))
  lost_by (Ok t) finished uses = tt
  lost_by (Err Lost) finished uses = falls_by finished uses.1
  lost_by (Err (Stopped why)) finished uses = tt

  finished_so : (r : Result Turn Break) → w1 ≤ w0 + loses lines → OnOk r (1 ≤ length lines) → OnOk r (left_by l1 w1 + 1 ≤ left_by l0 w0)
  finished_so (Ok t) few some = omega (arith, uses_up few, some)
  finished_so (Err e) few some = tt

-- a call that takes no line
quiet_most : {T : Type 0} (r : Result T Break) (w0 w1 : ℕ) → QuietUses r w0 w1 → w1 ≤ w0
quiet_most (Ok t) w0 w1 uses = omega (arith, uses)
quiet_most (Err Lost) w0 w1 uses = omega (arith, uses)
quiet_most (Err (Stopped why)) w0 w1 uses = omega (arith, uses)

quiet_lost : {T : Type 0} (r : Result T Break) (l0 l1 w0 w1 : ℕ) → l1 ≡ l0 → QuietUses r w0 w1 → IfErr r (OnLost (left_by l1 w1 + 1 ≤ left_by l0 w0))
quiet_lost (Ok t) l0 l1 w0 w1 line uses = tt
quiet_lost (Err Lost) l0 l1 w0 w1 line uses = omega (arith, line, uses)
quiet_lost (Err (Stopped why)) l0 l1 w0 w1 line uses = tt

module _ {S K : Type 0} {g : source.Ghosts S} {h : sink.Ghosts K} (old new : Option (ScriptBoard S K g h)) where
  below_at : (place : Option (ScriptBoard S K g h)) → line_at place ≤ SCRIPT_LINES
  below_at (Some b) = b.few
  below_at None = omega arith

  pub remains_less : (lines : List ScriptLine) → line_at new ≡ line_at old + length lines → waiting_at new ≤ waiting_at old + loses lines → remaining_at new ≤ remaining_at old
  remains_less lines line few = omega (arith, uses_up (line_at old) (line_at new) (waiting_at old) (waiting_at new) lines line (below_at new) few)

  pub remains_fewer : (r : Result Turn Break) (lines : List ScriptLine) → line_at new ≡ line_at old + length lines → waiting_at new ≤ waiting_at old + loses lines → OnOk r (1 ≤ length lines)
      → OnOk r (remaining_at new + 1 ≤ remaining_at old)
  remains_fewer r lines line few some = finished_so (line_at old) (line_at new) (waiting_at old) (waiting_at new) lines line (below_at new) r few some

  pub lost_fewer : (r : Result Turn Break) (lines : List ScriptLine) (finished : ℕ) → line_at new ≡ line_at old + length lines → TurnUses r lines finished (waiting_at old) (waiting_at new)
      → IfErr r (OnLost (remaining_at new + 1 ≤ remaining_at old))
  lost_fewer r lines finished line uses = lost_by (line_at old) (line_at new) (waiting_at old) (waiting_at new) lines line (below_at new) r finished uses

  pub quiet_less : {T : Type 0} (r : Result T Break) → line_at new ≡ line_at old + 0 → QuietUses r (waiting_at old) (waiting_at new) → remaining_at new ≤ remaining_at old
  quiet_less r line uses = omega (arith, line, quiet_most r (waiting_at old) (waiting_at new) uses)

  pub quiet_fewer : {T : Type 0} (r : Result T Break) → line_at new ≡ line_at old + 0 → QuietUses r (waiting_at old) (waiting_at new) → IfErr r (OnLost (remaining_at new + 1 ≤ remaining_at old))
  quiet_fewer r line uses = quiet_lost r (line_at old) (line_at new) (waiting_at old) (waiting_at new) (omega (arith, line)) uses
