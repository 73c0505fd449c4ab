use Rattle.guard_row.proofs.HomeLemmas as home
use Rattle.guard_row.proofs.laws.home_or_void.Goals as goal

pub returns : goal.returns
returns c = record { either = home.either; voids_home = home.voids_home; opens_other = home.opens_other; first_home = home.first_home; second_void = home.second_void }
