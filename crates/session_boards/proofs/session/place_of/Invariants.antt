use Rattle.std.proofs.Common.{◌≡◌, ◌+◌, ◌-◌, ◌%◌, take, slice_get}
use Rattle.session_boards.specs.Session.{session, turns_from, sent_in}
use Rattle.session_boards.proofs.session.place_of.Given as goal

abbrev pub invariant-loop-round : goal.invariant-loop-round
invariant-loop-round l = record {
  turn : slice_get (session l.rounds) l.number ≡ slice_get (turns_from l.round (l.rounds - l.round)) l.step;
  sequence : sent_in (take l.number (session l.rounds)) % 256 ≡ (l.sequence + sent_in (take l.step (turns_from l.round (l.rounds - l.round)))) % 256;
}
