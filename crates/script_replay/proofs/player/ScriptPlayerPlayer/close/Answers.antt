use Rattle.std.proofs.Common.{false, [], ℕ, subst}
use Rattle.flash_traits.specs.Budget.{budget_of}
use Rattle.replay.specs.Playing.{CloseEnds}
use Rattle.script_replay.specs.Steps.Places.{words_at}
use Rattle.script_replay.proofs.Places.{starts_now, holds_then, told_then, adds_then}
use Rattle.script_replay.proofs.Remaining.{quiet_less, quiet_fewer}
use Rattle.script_replay.proofs.player.ScriptPlayerPlayer.close.Goals as goal

pub close_on-closed-requires-clause-starts : goal.close_on-closed-requires-clause-starts
close_on-closed-requires-clause-starts g c = starts_now false c.args.self.now.place c.requires.holds.some

pub returns-clause-holds : goal.returns-clause-holds
returns-clause-holds g c = holds_then false c.args.self.now.place c.close_on-closed.new.place c.close_on-closed.ensures.back g.M.Beginning c.requires.holds

pub returns-clause-told : goal.returns-clause-told
returns-clause-told g c = λ told. told_then false c.args.self.now.place c.close_on-closed.new.place c.close_on-closed.ensures.back c.args.self.now.printed c.still_printed-self.result c.still_printed-self.ensures.before told

pub returns-clause-ends : goal.returns-clause-ends
returns-clause-ends g c = λ told. subst (λ (k : ℕ). CloseEnds (budget_of k) c.close_on-closed.result c.args.node (words_at c.close_on-closed.new.place)) c.requires.holds.size (c.close_on-closed.ensures.ends (c.still_printed-self.ensures.unfailed told.unfailed) told.written)

pub returns-clause-adds : goal.returns-clause-adds
returns-clause-adds g c = λ told. adds_then false c.args.self.now.place c.close_on-closed.new.place c.close_on-closed.ensures.back g.M.Beginning.rest [] [] c.close_on-closed.ensures.added (c.close_on-closed.ensures.printed (c.still_printed-self.ensures.unfailed told.unfailed)) told.rest told.written

pub returns-clause-remaining : goal.returns-clause-remaining
returns-clause-remaining g c = quiet_less c.args.self.now.place c.close_on-closed.new.place c.close_on-closed.result c.close_on-closed.ensures.added.line c.close_on-closed.ensures.uses

pub returns-clause-lost : goal.returns-clause-lost
returns-clause-lost g c = quiet_fewer c.args.self.now.place c.close_on-closed.new.place c.close_on-closed.result c.close_on-closed.ensures.added.line c.close_on-closed.ensures.uses
