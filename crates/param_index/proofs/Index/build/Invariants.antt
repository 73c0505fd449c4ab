use Rattle.std.proofs.Common.{◌≤◌, ◌-◌, List}
use Rattle.storage_lines.specs.declared.areas.Area.TheVariants.{Param}
use Rattle.storage_lines.specs.Areas.{logical_of}
use Rattle.param_records.specs.declared.records.TheConstants.{PARAM_BYTES}
use Rattle.param_records.specs.Records.{Record}
use Rattle.param_records.proofs.WalkLemmas.{Walk}
use Rattle.param_index.specs.Inside.{IsIndexOfRecords}
use Rattle.param_index.proofs.Index.build.Given as goal

abbrev pub invariant-loop-header : goal.invariant-loop-header
invariant-loop-header g l = record {
  inside : l.index.end ≤ PARAM_BYTES;
  walk : (rs : List Record) × Walk (logical_of Param l.current) rs l.index.end × IsIndexOfRecords l.table rs l.index;
}

abbrev pub decreases-loop-header : goal.decreases-loop-header
decreases-loop-header g l = PARAM_BYTES - l.index.end
