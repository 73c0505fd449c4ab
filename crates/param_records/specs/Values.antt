-- The values of the parameters.
use Rattle.std.specs.Prelude.{ℕ, ◌+◌, ◌*◌, List, slice_index}
use Rattle.std.specs.Option.{option_map_or}
use Rattle.std.specs.Int.{cast_signed, w8, w16, w32}
use Rattle.param_tree.specs.declared.Kind.{Kind}
use Rattle.param_tree.specs.declared.Kind.TheVariants.{I8, I16, I32, F32, Vec3}
use Rattle.param_tree.specs.declared.Var.{Var}
use Rattle.storage_lines.specs.declared.areas.Area.TheVariants.{Param}
use Rattle.storage_lines.specs.Areas.{logical_of}
use Rattle.param_records.specs.declared.values.Value.{Value}
use Rattle.param_records.specs.declared.values.Value.TheVariants.{Whole, Bits}
use Rattle.param_records.specs.Records.{Record, records_of, value_in}

-- the number of four bytes from a place on, little endian
abbrev pub number_of_four_bytes : ℕ → List ℕ → ℕ
number_of_four_bytes at v = slice_index v at + 0x100 * slice_index v (at + 1)
    + 0x1_0000 * slice_index v (at + 2) + 0x100_0000 * slice_index v (at + 3)

-- the value that bytes of this kind have at a part: integers in two's complement, floats as
-- patterns
abbrev pub value_from : Kind → ℕ → List ℕ → Value
value_from I8 part v = Whole (cast_signed w8 (slice_index v 0))
value_from I16 part v = Whole (cast_signed w16 (slice_index v 0 + 0x100 * slice_index v 1))
value_from I32 part v = Whole (cast_signed w32 (number_of_four_bytes 0 v))
value_from F32 part v = Bits (number_of_four_bytes 0 v)
value_from Vec3 part v = Bits (number_of_four_bytes (4 * part) v)

-- the value of a number of 32 bits, as the table's defaults are: a whole number in two's
-- complement, or a float's pattern
abbrev pub value_of_number : Kind → ℕ → Value
value_of_number I8 d = Whole (cast_signed w32 d)
value_of_number I16 d = Whole (cast_signed w32 d)
value_of_number I32 d = Whole (cast_signed w32 d)
value_of_number F32 d = Bits d
value_of_number Vec3 d = Bits d

-- the row's value in these records: that of the first one that matches, else the default
abbrev pub value_in_records : List Record → Var → Value
value_in_records records row = option_map_or (value_from row.kind row.part)
    (value_in row.key row.element row.kind records) (value_of_number row.kind row.default)

-- the row's value in the storage
abbrev pub params_of : List ℕ → Var → Value
params_of bytes row = value_in_records (records_of (logical_of Param bytes)) row
