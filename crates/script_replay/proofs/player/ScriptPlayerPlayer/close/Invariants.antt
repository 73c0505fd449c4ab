use Rattle.std.proofs.Common.{false}
use Rattle.script_replay.proofs.Places.{now_at}
use Rattle.script_replay.proofs.player.ScriptPlayerPlayer.close.Given as goal

abbrev pub ghosts-close_on : goal.ghosts-close_on
ghosts-close_on g a = now_at false a.place.now
