use Rattle.std.proofs.Common.{None, refl}
use Rattle.vehicle_node.proofs.Heard.{hear_silent, hear_frame}
use Rattle.vehicle_node.proofs.Node.hear_byte.Goals as goal

pub returns-in-Some-clause-done : goal.returns-in-Some-clause-done
returns-in-Some-clause-done g c =
    let p = c.in-Some.ensures.frame in
    hear_frame g.B.Board g.met.B.Board.reads c.args.self.now c.push.new.self c.args.board.now c.args.station c.args.byte p.0 c.answer_frame.result c.answer_frame.new.self c.answer_frame.new.board
    c.requires.fits c.push.ensures.keeps p.1 (c.answer_frame.ensures.done p.0 p.2)

pub returns-in-None-clause-done : goal.returns-in-None-clause-done
returns-in-None-clause-done g c =
    hear_silent g.B.Board g.met.B.Board.reads c.args.self.now c.push.new.self c.args.board.now c.args.station c.args.byte None c.requires.fits c.push.ensures.keeps c.in-None.ensures.frame refl
