use Rattle.storage_lines.proofs.ByteLemmas.{pieces_are_lines}
use Rattle.storage_lines.proofs.laws.pieces_are_lines.Goals as goal

pub returns : goal.returns
returns c = pieces_are_lines
