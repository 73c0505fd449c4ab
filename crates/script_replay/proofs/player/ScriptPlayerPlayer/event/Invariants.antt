use Rattle.std.proofs.Common.{true}
use Rattle.script_replay.proofs.Places.{now_at}
use Rattle.script_replay.proofs.player.ScriptPlayerPlayer.event.Given as goal

abbrev pub ghosts-event_on : goal.ghosts-event_on
ghosts-event_on g a = now_at true a.place.now
