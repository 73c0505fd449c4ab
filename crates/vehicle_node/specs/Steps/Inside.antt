-- How the acts inside a node are seen.
use Rattle.vehicle_node.specs.Standing.{Node}
use Rattle.vehicle_node.specs.declared.Node.TheInside.{Inside}

abbrev pub view_of : Inside → Node
view_of s = record {
  budget = s.budget;
  lines = s.lines;
  machine = record { vehicle = s.core.vehicle; sequences = s.sequences };
  rests = s.cutters;
  frames = s.frames;
  issued = s.issued;
  index = s.core.index;
}
