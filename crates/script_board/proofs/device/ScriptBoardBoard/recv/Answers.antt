use Rattle.script_board.proofs.Hearing.{events-result}
use Rattle.script_board.proofs.Listed.{lists_heard}
use Rattle.script_board.proofs.Counting.{recv_counts}
use Rattle.script_board.proofs.device.ScriptBoardBoard.recv.Goals as goal

pub returns-clause-lists : goal.returns-clause-lists
returns-clause-lists g c =
    let t = c.take_event.ensures.took in
    lists_heard g.S.Source g.K.Sink c.args.self.now c.take_event.new.self c.take_event.result c.take_event.new.into t.0 t.1 t.2 t.3
    (events-result _ _ _ t.0 _ _ _ _ c.take_event.result c.take_event.new.into t.6)
    c.take_event.ensures.others.out c.take_event.ensures.others.given c.take_event.ensures.output

pub returns-clause-cause : goal.returns-clause-cause
returns-clause-cause g c = recv_counts g.S.Source g.K.Sink c.args.self.now c.take_event.new.self c.take_event.ensures.others.others c.take_event.result c.take_event.ensures.others.out c.take_event.ensures.cause
