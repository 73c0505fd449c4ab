use Rattle.storage_lines.proofs.PieceLemmas.{pieces_in_steps}
use Rattle.storage_lines.proofs.laws.pieces_in_steps.Goals as goal

pub returns : goal.returns
returns c = pieces_in_steps
