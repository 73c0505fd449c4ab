use Rattle.std.proofs.Common.{slice_get, ap}
use Rattle.session_boards.specs.Session.{messages_of, set_of, waits_after}
use Rattle.session_boards.proofs.messages.message_at.Goals as goal

pub returns-then-step-eq0 : goal.returns-then-step-eq0
returns-then-step-eq0 c = (set_of c.args.round, ap (slice_get (waits_after (messages_of c.args.round))) c.if-step-eq0.true, c.set_message.ensures)
