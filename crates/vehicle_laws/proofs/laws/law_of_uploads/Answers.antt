use Rattle.vehicle_laws.proofs.Ends.{law_of_uploads}
use Rattle.vehicle_laws.proofs.laws.law_of_uploads.Goals as goal

pub returns : goal.returns
returns c = law_of_uploads
