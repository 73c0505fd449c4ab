use Rattle.std.proofs.Common.{arith}
use Rattle.session_boards.proofs.Events.{whole_session, no_more, session_few}
use Rattle.session_boards.proofs.laws.session_ends.Goals as goal

pub returns : goal.returns
returns c = record {
  whole = whole_session;
  few = λ rounds events are none. omega (arith, no_more rounds events are none, session_few rounds);
}
