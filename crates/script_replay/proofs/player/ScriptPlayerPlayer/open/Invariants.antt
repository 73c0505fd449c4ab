use Rattle.std.proofs.Common.{false}
use Rattle.script_replay.proofs.Places.{now_at}
use Rattle.script_replay.proofs.player.ScriptPlayerPlayer.open.Given as goal

abbrev pub ghosts-open_on : goal.ghosts-open_on
ghosts-open_on g a = now_at false a.place.now
