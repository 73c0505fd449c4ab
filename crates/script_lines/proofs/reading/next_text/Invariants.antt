use Rattle.std.proofs.Common.{◌≡◌, ◌≤◌, ◌-◌, ℕ, List, length}
use Rattle.script_lines.specs.Reading.{unread_of, ReadsBytes}
use Rattle.script_lines.proofs.reading.next_text.Given as goal

abbrev pub invariant-reading : goal.invariant-reading
invariant-reading g l = record {
  within : l.ahead ≤ length l.buffer.items;
  reads : (fresh : List ℕ) × ReadsBytes g.S.Source l.fn.input l.input (unread_of l.fn.buffer.items l.fn.ahead) (unread_of l.buffer.items l.ahead) fresh;
  faults : g.S.Source.faults l.input ≡ g.S.Source.faults l.fn.input;
}

abbrev pub decreases-reading : goal.decreases-reading
decreases-reading g l = 4201 - l.ahead
