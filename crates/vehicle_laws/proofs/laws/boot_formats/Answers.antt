use Rattle.vehicle_laws.proofs.BootRows.{boot_formats}
use Rattle.vehicle_laws.proofs.laws.boot_formats.Goals as goal

pub returns : goal.returns
returns c = boot_formats
