-- What the rows of the table have in common.
use Rattle.std.specs.Prelude.{ℕ, ℤ, pos, negsuc, ◌≤◌, ◌<◌, ◌+◌, ◌*◌, ◌^◌}
use Rattle.mission_commands.specs.declared.table.Use.{Use}
use Rattle.mission_commands.specs.declared.table.Use.TheVariants.{Unused, Whole, Signed, Pattern}
use Rattle.mission_commands.specs.declared.table.Shape.{Shape}
use Rattle.mission_commands.specs.declared.table.Shape.TheVariants.{Located, Plain, Unlisted}
use Rattle.mission_commands.specs.declared.table.Row.{Row}

-- how many bytes of the parameter are stored
abbrev pub stored_width : Use → ℕ
stored_width Unused = 0
stored_width (Whole low high width) = width
stored_width (Signed high width) = width
stored_width Pattern = 4

-- the range fits the bytes
abbrev pub IsRange : ℤ → ℤ → ℕ → Type 0
IsRange (pos low) (pos high) width = high < 256 ^ width
IsRange (negsuc low) (pos high) width = (2 * low < 256 ^ width) × (2 * high < 256 ^ width)
IsRange low (negsuc high) width = ⊥

-- what a row may do with a parameter: a whole number in one or two bytes that hold its range
abbrev pub IsUse : Use → Type 0
IsUse Unused = Unit {0}
IsUse (Whole low high width) = (1 ≤ width) × (width ≤ 2) × (IsRange low high width)
IsUse (Signed high width) = (1 ≤ width) × (width ≤ 2) × (IsRange (pos 0) high width)
IsUse Pattern = Unit {0}

-- how many bytes the parameters have
abbrev pub parameter_room : Shape → ℕ
parameter_room Located = 2
parameter_room Plain = 12
parameter_room Unlisted = 2

-- a row's parameters are such, and their bytes have room
pub record IsRow (row : Row) : Type 0 where
  pub use1 : IsUse row.param1
  pub use2 : IsUse row.param2
  pub use3 : IsUse row.param3
  pub use4 : IsUse row.param4
  pub room :
      stored_width row.param1 + stored_width row.param2 + stored_width row.param3
      + stored_width row.param4 ≤ parameter_room row.shape
