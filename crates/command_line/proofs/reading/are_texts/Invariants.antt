use Rattle.std.proofs.Common.{map, take}
use Rattle.command_line.specs.Matches.{AreTexts}
use Rattle.command_line.proofs.reading.are_texts.Given as goal

abbrev pub invariant-loop-word : goal.invariant-loop-word
invariant-loop-word l = AreTexts (map (λ s. s.now) (take l.word-index l.words))
