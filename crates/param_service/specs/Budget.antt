-- How many lines may still be issued while the vehicle is armed.
use Rattle.std.specs.Prelude.{ℕ, Bool, false, nat_lt, if◌then◌else◌, List, [], length, Option, Some}
use Rattle.std.specs.Prelude.{None}
use Rattle.storage_lines.specs.declared.lines.LineWrite.{LineWrite}

-- these are more lines than may be issued; where there is no limit, any may be
abbrev pub exceeds : Option ℕ → List LineWrite → Bool
exceeds None writes = false
exceeds (Some allowed) writes = nat_lt allowed (length writes)

-- all these lines where they may be issued, and else none
abbrev pub allowed_writes : Option ℕ → List LineWrite → List LineWrite
allowed_writes allowed writes = if exceeds allowed writes then [] else writes
