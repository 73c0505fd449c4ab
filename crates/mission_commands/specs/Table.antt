-- The commands, and how they are stored.
use Rattle.std.specs.Prelude.{ℕ, pos, negsuc, List, [], ◌∷◌, ◌==◌, find, unwrap_or}
use Rattle.mission_commands.specs.declared.table.Use.{Use}
use Rattle.mission_commands.specs.declared.table.Use.TheVariants.{Unused, Whole, Signed, Pattern}
use Rattle.mission_commands.specs.declared.table.Shape.{Shape}
use Rattle.mission_commands.specs.declared.table.Shape.TheVariants.{Located, Plain, Unlisted}
use Rattle.mission_commands.specs.declared.table.Row.{Row}

-- one command, with what it does with its four parameters
abbrev pub command_row : ℕ → Shape → Use → Use → Use → Use → Row
command_row id shape a b c d =
    record { id = id; shape = shape; param1 = a; param2 = b; param3 = c; param4 = d }

-- a whole number in so many bytes
abbrev pub from_to : ℕ → ℕ → ℕ → Use
from_to low high width = Whole (pos low) (pos high) width

-- a whole number from -1, in so many bytes
abbrev pub from_minus_one : ℕ → ℕ → Use
from_minus_one high width = Whole (negsuc 0) (pos high) width

-- a command that has a location; its stored parameters stand in the two bytes before it
abbrev pub located : ℕ → Use → Use → Row
located id a c = command_row id Located a Unused c Unused

-- a command without one; its stored parameters stand in the content
abbrev pub plain : ℕ → Use → Use → Use → Use → Row
plain id a b c d = command_row id Plain a b c d

-- the whole numbers of one byte, and of two
abbrev pub U8 : Use
U8 = from_to 0 255 1

abbrev pub U16 : Use
U16 = from_to 0 65535 2

-- the 22 commands that can be stored, by their numbers in MAV_CMD
unfoldable pub rows : List Row
rows =
    located 16 U16 Unused ∷
    located 17 Unused (Signed (pos 65535) 2) ∷
    located 18 U8 (Signed (pos 255) 1) ∷
    located 19 U16 Unused ∷
    plain 20 Unused Unused Unused Unused ∷
    located 21 U16 Unused ∷
    located 22 U16 Unused ∷
    located 82 U16 Unused ∷
    plain 93 Pattern (from_minus_one 23 1) (from_minus_one 59 1) (from_minus_one 59 1) ∷
    plain 112 Pattern Unused Unused Unused ∷
    plain 114 Pattern Unused Unused Unused ∷
    plain 115 Pattern Pattern (from_minus_one 1 1) (from_to 0 1 1) ∷
    plain 177 U16 (from_minus_one 32767 2) Unused Unused ∷
    plain 178 U8 Pattern Pattern Unused ∷
    located 179 (from_to 0 1 2) Unused ∷
    plain 181 U8 U8 Unused Unused ∷
    plain 183 U8 U16 Unused Unused ∷
    located 189 Unused Unused ∷
    located 201 U16 Unused ∷
    plain 206 Pattern Unused U8 Unused ∷
    plain 211 U8 U8 Unused Unused ∷
    plain 42600 U8 U8 Pattern Pattern ∷
    []

-- a command that is not listed
abbrev pub unlisted : Row
unlisted = command_row 0 Unlisted U16 Unused Unused Unused

-- the command's row
unfoldable pub row_of : ℕ → Row
row_of id = unwrap_or (find (λ r. r.id == id) rows) unlisted
