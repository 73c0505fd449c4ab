use Rattle.mission_records.proofs.Puts.{others_keep}
use Rattle.mission_records.proofs.laws.others_keep_missions.Goals as goal

pub returns : goal.returns
returns c = others_keep
