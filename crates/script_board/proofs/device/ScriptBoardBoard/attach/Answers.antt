use Rattle.std.proofs.Common.{refl}
use Rattle.script_board.proofs.Listed.{lists_begun, lists_anew, unread_none}
use Rattle.script_board.proofs.device.ScriptBoardBoard.attach.Goals as goal

pub returns-in-None-clause-lists : goal.returns-in-None-clause-lists
returns-in-None-clause-lists g c = lists_begun g.S.Source g.K.Sink _ (unread_none _ c.clear.ensures) c.anew-self.ensures.zero c.anew-self-2.ensures.zero

pub returns-in-None-clause-untold : goal.returns-in-None-clause-untold
returns-in-None-clause-untold g c = lists_anew g.S.Source g.K.Sink c.args.self.now _ (unread_none _ c.clear.ensures) c.anew-self.ensures.counted c.anew-self-2.ensures.counted refl refl refl

pub returns-in-Some-clause-lists : goal.returns-in-Some-clause-lists
returns-in-Some-clause-lists g c = lists_begun g.S.Source g.K.Sink _ (unread_none _ c.clear.ensures) c.anew-self.ensures.zero c.anew-self-2.ensures.zero

pub returns-in-Some-clause-untold : goal.returns-in-Some-clause-untold
returns-in-Some-clause-untold g c = lists_anew g.S.Source g.K.Sink c.args.self.now _ (unread_none _ c.clear.ensures) c.anew-self.ensures.counted c.anew-self-2.ensures.counted refl refl refl
