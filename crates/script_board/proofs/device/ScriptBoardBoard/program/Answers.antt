use Rattle.std.proofs.Common.{rules}
use Rattle.flash_traits.proofs.Counting.{by_kind}
use Rattle.script_board.proofs.device.ScriptBoardBoard.program.Goals as goal

pub returns-in-Err-clause-cause : goal.returns-in-Err-clause-cause
returns-in-Err-clause-cause g c = by_kind _ _ (search rules) (search rules) (search rules) (search rules) (search rules)
