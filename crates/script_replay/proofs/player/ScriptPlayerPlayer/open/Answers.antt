use Rattle.std.proofs.Common.{false, [], ℕ, subst}
use Rattle.flash_traits.specs.Budget.{budget_of}
use Rattle.sector_image.specs.FirstBad.{FirstBad}
use Rattle.replay.specs.Playing.{OpenEnds}
use Rattle.script_replay.specs.Steps.Places.{ToldAt, words_at}
use Rattle.script_replay.proofs.Places.{starts_now, holds_then, told_then, adds_then, foreign_less}
use Rattle.script_replay.proofs.Remaining.{quiet_less, quiet_fewer}
use Rattle.script_replay.proofs.player.ScriptPlayerPlayer.open.Goals as goal

pub open_on-opened-requires-clause-starts : goal.open_on-opened-requires-clause-starts
open_on-opened-requires-clause-starts g c = starts_now false c.args.self.now.place c.requires.some

pub returns-clause-holds : goal.returns-clause-holds
returns-clause-holds g c = holds_then false c.args.self.now.place c.open_on-opened.new.place c.open_on-opened.ensures.back g.M.Beginning c.requires

pub returns-clause-told : goal.returns-clause-told
returns-clause-told g c = λ told. told_then false c.args.self.now.place c.open_on-opened.new.place c.open_on-opened.ensures.back c.args.self.now.printed c.still_printed-self.result c.still_printed-self.ensures.before told

pub returns-clause-ends : goal.returns-clause-ends
returns-clause-ends g c = λ told. subst (λ (k : ℕ). OpenEnds (budget_of k) c.open_on-opened.result (words_at c.args.self.now.place) (words_at c.open_on-opened.new.place)) c.requires.size (c.open_on-opened.ensures.ends (c.still_printed-self.ensures.unfailed told.unfailed) told.written)

pub returns-clause-adds : goal.returns-clause-adds
returns-clause-adds g c = λ told. adds_then false c.args.self.now.place c.open_on-opened.new.place c.open_on-opened.ensures.back g.M.Beginning.rest [] [] c.open_on-opened.ensures.added (c.open_on-opened.ensures.printed (c.still_printed-self.ensures.unfailed told.unfailed)) told.rest told.written

pub returns-clause-remaining : goal.returns-clause-remaining
returns-clause-remaining g c = quiet_less c.args.self.now.place c.open_on-opened.new.place c.open_on-opened.result c.open_on-opened.ensures.added.line c.open_on-opened.ensures.uses

pub returns-clause-lost : goal.returns-clause-lost
returns-clause-lost g c = quiet_fewer c.args.self.now.place c.open_on-opened.new.place c.open_on-opened.result c.open_on-opened.ensures.added.line c.open_on-opened.ensures.uses

pub returns-clause-foreign : goal.returns-clause-foreign
returns-clause-foreign g c = foreign_less (λ word. FirstBad (words_at c.args.self.now.place) word) (λ word. ToldAt c.still_printed-self.result c.open_on-opened.new.place → FirstBad (words_at c.args.self.now.place) word) (λ word bad told. bad) c.open_on-opened.result c.open_on-opened.ensures.foreign
