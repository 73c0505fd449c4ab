use Rattle.vehicle_runs.proofs.BootLaws.{boot_formats}
use Rattle.vehicle_runs.proofs.laws.boot_formats.Goals as goal

pub returns : goal.returns
returns c = boot_formats
