use Rattle.std.proofs.Common.{true, ℕ, subst}
use Rattle.flash_traits.specs.Budget.{budget_of}
use Rattle.script_board.specs.Taking.{events_of}
use Rattle.replay.specs.Playing.{EventEnds}
use Rattle.script_replay.specs.Steps.Places.{words_at}
use Rattle.script_replay.proofs.Places.{starts_now, holds_then, told_then, adds_then}
use Rattle.script_replay.proofs.Remaining.{remains_less, remains_fewer, lost_fewer}
use Rattle.script_replay.proofs.player.ScriptPlayerPlayer.event.Goals as goal

pub event_on-played-requires-clause-starts : goal.event_on-played-requires-clause-starts
event_on-played-requires-clause-starts g c = starts_now true c.args.self.now.place c.requires.holds.some

pub returns-clause-holds : goal.returns-clause-holds
returns-clause-holds g c = holds_then true c.args.self.now.place c.event_on-played.new.place c.event_on-played.ensures.back g.M.Beginning c.requires.holds

pub returns-clause-told : goal.returns-clause-told
returns-clause-told g c = λ told. told_then true c.args.self.now.place c.event_on-played.new.place c.event_on-played.ensures.back c.args.self.now.printed c.still_printed-self.result c.still_printed-self.ensures.before told

pub returns-clause-plays : goal.returns-clause-plays
returns-clause-plays g c = λ told.
    let p = c.event_on-played.ensures.plays in
    let unfailed = c.still_printed-self.ensures.unfailed told.unfailed in (
      p.lines,
      p.frames,
      p.finished,
      adds_then true c.args.self.now.place c.event_on-played.new.place c.event_on-played.ensures.back g.M.Beginning.rest p.lines p.frames p.added (p.printed unfailed) told.rest told.written,
      subst (λ (k : ℕ). EventEnds (budget_of k) c.event_on-played.result c.args.node.now c.event_on-played.new.node (events_of p.lines) p.frames p.finished (words_at c.event_on-played.new.place)) c.requires.holds.size (p.ends unfailed told.written),
      p.uses,
      p.few_wait,
    )

pub returns-clause-remaining : goal.returns-clause-remaining
returns-clause-remaining g c = let p = c.event_on-played.ensures.plays in remains_less c.args.self.now.place c.event_on-played.new.place p.lines p.added.line p.few

pub returns-clause-finished : goal.returns-clause-finished
returns-clause-finished g c = let p = c.event_on-played.ensures.plays in remains_fewer c.args.self.now.place c.event_on-played.new.place c.event_on-played.result p.lines p.added.line p.few p.some

pub returns-clause-lost : goal.returns-clause-lost
returns-clause-lost g c = let p = c.event_on-played.ensures.plays in lost_fewer c.args.self.now.place c.event_on-played.new.place c.event_on-played.result p.lines p.finished p.added.line p.uses
