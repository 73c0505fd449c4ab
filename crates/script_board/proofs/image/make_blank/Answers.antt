use Rattle.std.proofs.Common.{arith}
use Rattle.script_board.proofs.Halfwords.{blanks}
use Rattle.script_board.proofs.image.make_blank.Goals as goal

pub returns : goal.returns
returns c = record {
  words = blanks c.args.sector_bytes c.requires.known c.fill.new.bytes
      (λ j from to. c.fill.ensures.filled j from (omega (arith, to, c.requires.size)));
}
