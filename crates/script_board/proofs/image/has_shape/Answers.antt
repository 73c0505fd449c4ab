use Rattle.std.proofs.Common.{arith}
use Rattle.script_board.proofs.Halfwords.{shaped, all_fit}
use Rattle.script_board.proofs.image.has_shape.Goals as goal

pub returns-clause-shape : goal.returns-clause-shape
returns-clause-shape c = shaped c.args.sector_bytes c.requires.known c.args.image.now

pub returns-clause-halfwords : goal.returns-clause-halfwords
returns-clause-halfwords c = λ r k. all_fit c.args.sector_bytes c.requires.known c.args.image.now r k (λ j. omega (arith, c.type_inv.image j))
