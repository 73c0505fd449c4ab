use Rattle.std.proofs.Common.{◌≡◌, drop}
use Rattle.std.specs.List.{find}
use Rattle.param_tree.specs.Rules.{is_part}
use Rattle.param_records.proofs.setting.default_at.Given as goal

abbrev pub invariant-loop-i : goal.invariant-loop-i
invariant-loop-i g l = find (is_part l.row l.part) (drop l.i l.table) ≡ find (is_part l.row l.part) l.table
