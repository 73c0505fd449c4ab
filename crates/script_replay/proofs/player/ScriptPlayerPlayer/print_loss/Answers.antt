use Rattle.std.proofs.Common.{◌≡◌, true, false, [], arith}
use Rattle.script_replay.proofs.Places.{starts_now, holds_then, told_then, next_then}
use Rattle.script_replay.proofs.Remaining.{remains_less}
use Rattle.script_replay.proofs.player.ScriptPlayerPlayer.print_loss.Goals as goal

shut : false ≡ true → ⊥
shut is = cc

pub print_on-requires : goal.print_on-requires
print_on-requires g c = record { starts = starts_now false c.args.self.now.place c.requires.some }

pub returns-in-Ok-clause-holds : goal.returns-in-Ok-clause-holds
returns-in-Ok-clause-holds g c = holds_then false c.args.self.now.place c.print_on.new.place c.in-Ok.ensures.back g.M.Beginning c.requires

pub returns-in-Ok-clause-told : goal.returns-in-Ok-clause-told
returns-in-Ok-clause-told g c = λ told. told_then false c.args.self.now.place c.print_on.new.place c.in-Ok.ensures.back c.args.self.now.printed c.args.self.now.printed (λ is. is) told

pub returns-in-Ok-clause-took : goal.returns-in-Ok-clause-took
returns-in-Ok-clause-took g c = λ told. next_then false c.args.self.now.place c.print_on.new.place c.in-Ok.ensures.back g.M.Beginning.rest [] c.in-Ok.ensures.added told.rest

pub returns-in-Ok-clause-remaining : goal.returns-in-Ok-clause-remaining
returns-in-Ok-clause-remaining g c = remains_less c.args.self.now.place c.print_on.new.place [] c.in-Ok.ensures.added.line (omega (arith, c.in-Ok.ensures.waiting))

pub returns-in-Err-clause-holds : goal.returns-in-Err-clause-holds
returns-in-Err-clause-holds g c = holds_then false c.args.self.now.place c.print_on.new.place c.in-Err.ensures.back g.M.Beginning c.requires

pub returns-in-Err-clause-told : goal.returns-in-Err-clause-told
returns-in-Err-clause-told g c = λ told. told_then false c.args.self.now.place c.print_on.new.place c.in-Err.ensures.back c.args.self.now.printed false (λ is. absurd (shut is)) told

pub returns-in-Err-clause-took : goal.returns-in-Err-clause-took
returns-in-Err-clause-took g c = λ told. next_then false c.args.self.now.place c.print_on.new.place c.in-Err.ensures.back g.M.Beginning.rest [] c.in-Err.ensures.added told.rest

pub returns-in-Err-clause-remaining : goal.returns-in-Err-clause-remaining
returns-in-Err-clause-remaining g c = remains_less c.args.self.now.place c.print_on.new.place [] c.in-Err.ensures.added.line (omega (arith, c.in-Err.ensures.waiting))
