use Rattle.script_replay.proofs.Replays.{begins_at}
use Rattle.script_replay.proofs.replaying.replay_script.Given as goal

abbrev pub ghosts-replay_on : goal.ghosts-replay_on
ghosts-replay_on g a = begins_at a.place.now
