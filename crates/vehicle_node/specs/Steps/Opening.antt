-- A node at its opening.
use Rattle.std.specs.Prelude.{◌≡◌, ℕ, length}
use Rattle.block_store.specs.Store.{durable_of}
use Rattle.dirty_lines.specs.Lines.{Lines, lines_of}
use Rattle.vehicle_runs.specs.Reading.{no_rests}
use Rattle.vehicle_runs.specs.Frames.{new_machine}
use Rattle.vehicle_runs.specs.Runs.{boot}
use Rattle.vehicle_node.specs.Standing.{Node, IsIndexed, counts}

-- The lines of boot are pending, the places are those with them, and nothing else has happened.
pub record IsBooted (budget : ℕ) (lines : Lines) (node : Node) : Type 0 where
  pub budget_is : node.budget ≡ budget
  pub lines_are : node.lines ≡ lines_of lines.store (boot (durable_of lines.store))
  pub machine : node.machine ≡ new_machine
  pub rests : node.rests ≡ no_rests
  pub frames : node.frames ≡ 0
  pub issued : node.issued ≡ counts (length (boot (durable_of lines.store)))
  pub index : IsIndexed node
