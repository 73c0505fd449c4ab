use Rattle.vehicle_laws.proofs.FenceEnds.{law_of_fence_uploads}
use Rattle.vehicle_laws.proofs.laws.law_of_fence_uploads.Goals as goal

pub returns : goal.returns
returns c = law_of_fence_uploads
