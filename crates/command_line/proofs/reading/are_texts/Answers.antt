use Rattle.std.proofs.Common.{ℕ, List, []}
use Rattle.std.specs.Borrow.{Bor}
use Rattle.command_line.proofs.Matches.{texts_more}
use Rattle.command_line.proofs.reading.are_texts.Goals as goal

abbrev nothing : Bor (List ℕ)
nothing = record { ref_ptr = (0, 0); now = [] }

pub loop-word-preserved : goal.loop-word-preserved
loop-word-preserved c =
    texts_more c.args.words.now c.loop-word.word-index nothing c.loop-word-test.true c.loop-word.invariant c.is_text.ensures
