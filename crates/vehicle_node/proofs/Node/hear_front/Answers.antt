use Rattle.vehicle_node.proofs.Heard.{hear_whole}
use Rattle.vehicle_node.proofs.Node.hear_front.Goals as goal

pub returns-clause-done : goal.returns-clause-done
returns-clause-done g c =
    hear_whole g.B.Board g.met.B.Board.reads c.args.self.now c.args.board.now c.args.station c.args.bytes.now c.answer_bytes.result c.answer_bytes.new.self c.answer_bytes.new.board
    c.requires.fits c.requires.front c.answer_bytes.ensures.done
