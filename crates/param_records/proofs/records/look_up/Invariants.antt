use Rattle.std.proofs.Common.{None, ◌≡◌, ◌≤◌, ◌-◌, List}
use Rattle.storage_lines.specs.Areas.{logical_of}
use Rattle.storage_lines.specs.declared.areas.Area.TheVariants.{Param}
use Rattle.param_records.specs.declared.records.TheConstants.{PARAM_BYTES}
use Rattle.param_records.specs.Records.{Record, place_from}
use Rattle.param_records.proofs.WalkLemmas.{Walk}
use Rattle.param_records.proofs.records.look_up.Given as goal

abbrev pub invariant-loop-header : goal.invariant-loop-header
invariant-loop-header l = record {
  inside : l.at ≤ PARAM_BYTES;
  walk : (rs : List Record) × Walk (logical_of Param l.current) rs l.at × (place_from 4 l.key l.element l.kind rs ≡ None);
}

abbrev pub decreases-loop-header : goal.decreases-loop-header
decreases-loop-header l = PARAM_BYTES - l.at
