use Rattle.param_records.proofs.SetLemmas.{kept_whole, kept_number}
use Rattle.param_records.proofs.laws.numbers_are_kept.Goals as goal

pub returns : goal.returns
returns c = record { pattern = kept_number; whole = kept_whole }
