use Rattle.std.proofs.Common.{false}
use Rattle.script_replay.proofs.Places.{now_at}
use Rattle.script_replay.proofs.player.ScriptPlayerPlayer.print_loss.Given as goal

abbrev pub ghosts-print_on : goal.ghosts-print_on
ghosts-print_on g a = now_at false a.place.now
