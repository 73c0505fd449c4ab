use Rattle.std.proofs.Common.{◌≡◌, ◌≤◌, ◌+◌, ◌-◌, ℕ, List, length, slice_index}
use Rattle.flash_traits.specs.Counts.{raised_by}
use Rattle.script_lines.specs.Script.{ScriptLine}
use Rattle.script_lines.specs.declared.numbers.TheConstants.{SCRIPT_LINES}
use Rattle.script_board.specs.Taking.{Took}
use Rattle.script_board.specs.Hearing.{loses, AreLosses, waits_by, since_by}
use Rattle.script_board.specs.declared.waiting.TheConstants.{WAITING_LOSSES}
use Rattle.script_board.specs.Boards.{unread_in, reception_faults, OnlyScript}
use Rattle.script_board.proofs.board.ScriptBoard.take_event.Given as goal

abbrev pub invariant-lines : goal.invariant-lines
invariant-lines g l = record {
  took : (lines : List ScriptLine) × (count : ℕ)
      × Took g.S.Source l.fn.self.input.now l.self.input.now (unread_in l.fn.self) (unread_in l.self) lines count
      × (l.self.taken ≡ raised_by count l.fn.self.taken)
      × AreLosses lines × (l.self.line ≡ l.fn.self.line + length lines)
      × (length l.self.waiting.items ≡ length l.fn.self.waiting.items + loses lines)
      × (l.self.waiting.items ≡ waits_by l.fn.self.waiting.items lines)
      × (l.self.since ≡ since_by l.fn.self.waiting.items l.fn.self.since lines);
  few : length l.fn.self.waiting.items ≤ WAITING_LOSSES → length l.self.waiting.items ≤ WAITING_LOSSES;
  mark : l.self.mark ≡ l.fn.self.mark;
  hears : reception_faults g.S.Source l.self ≡ reception_faults g.S.Source l.fn.self;
  source : g.S.Source.faults l.self.input.now ≡ g.S.Source.faults l.fn.self.input.now;
  failures : slice_index l.self.faults 3 ≡ slice_index l.fn.self.faults 3;
  others : OnlyScript l.fn.self l.self;
  same_input : l.self.input.ghost_name ≡ l.fn.self.input.ghost_name;
  into : length l.into ≡ length l.fn.into;
}

abbrev pub decreases-lines : goal.decreases-lines
decreases-lines g l = SCRIPT_LINES - l.self.line
