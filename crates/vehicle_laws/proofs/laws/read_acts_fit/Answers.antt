use Rattle.vehicle_laws.proofs.Reading.{read_acts_fit}
use Rattle.vehicle_laws.proofs.laws.read_acts_fit.Goals as goal

pub returns : goal.returns
returns c = read_acts_fit c.asks_what_fits.ensures
