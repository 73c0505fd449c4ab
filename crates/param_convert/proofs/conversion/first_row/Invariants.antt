use Rattle.std.proofs.Common.{◌≡◌, drop}
use Rattle.std.specs.List.{find}
use Rattle.param_convert.specs.Rules.{is_new_part}
use Rattle.param_convert.proofs.conversion.first_row.Given as goal

abbrev pub invariant-loop-i : goal.invariant-loop-i
invariant-loop-i g l = find (is_new_part l.rule 0) (drop l.i l.table) ≡ find (is_new_part l.rule 0) l.table
