-- The fields of a message as MAVLink's definition has them, and the layout that follows.
use Rattle.std.specs.Prelude.{ℕ, ◌+◌, ◌*◌, ◌≡◌, max, Bool, if◌then◌else◌, List, [], ◌∷◌, ◌++◌, codes}
use Rattle.mav_crc.specs.Extra.{field_text}
use Rattle.mav_messages.specs.declared.layouts.FieldKind.{FieldKind}
use Rattle.mav_messages.specs.declared.layouts.FieldKind.TheVariants.{Char, Uint8, Uint16, Int16, Uint32, Int32, Float}
use Rattle.mav_messages.specs.declared.layouts.Row.{Row}

-- A field: array is the number of its elements, and 0 where it is no array.
pub record Field : Type 0 where
  pub kind : FieldKind
  pub name : List ℕ
  pub array : ℕ
  pub extension : Bool

-- A message: its id, its extra byte, its name, and its fields in wire order, extensions last.
pub record Description : Type 0 where
  pub id : ℕ
  pub extra : ℕ
  pub name : List ℕ
  pub fields : List Field

-- how many bytes a value of the type takes
abbrev pub width_of : FieldKind → ℕ
width_of Char = 1
width_of Uint8 = 1
width_of Uint16 = 2
width_of Int16 = 2
width_of Uint32 = 4
width_of Int32 = 4
width_of Float = 4

-- the name of the type in MAVLink's definitions
abbrev pub type_name : FieldKind → List ℕ
type_name Char = codes "char"
type_name Uint8 = codes "uint8_t"
type_name Uint16 = codes "uint16_t"
type_name Int16 = codes "int16_t"
type_name Uint32 = codes "uint32_t"
type_name Int32 = codes "int32_t"
type_name Float = codes "float"

-- the texts of the fields that are no extensions, one after another
abbrev pub field_texts : List Field → List ℕ
field_texts [] = []
field_texts (f ∷ fs) =
    (if f.extension then [] else field_text (type_name f.kind) f.name f.array) ++ field_texts fs

-- the bytes whose CRC gives the extra byte
abbrev pub description_text : Description → List ℕ
description_text d = d.name ++ (32 ∷ field_texts d.fields)

-- how many bytes the field takes
abbrev pub field_size : Field → ℕ
field_size f = width_of f.kind * max 1 f.array

-- the row of a field that stands at an offset
abbrev pub row_at : ℕ → Field → Row
row_at offset f = record {
  kind = f.kind;
  offset = offset;
  width = width_of f.kind;
  array = f.array;
  extension = f.extension;
}

-- the rows of fields that stand one after another from an offset on
abbrev pub rows_from : ℕ → List Field → List Row
rows_from offset [] = []
rows_from offset (f ∷ fs) = row_at offset f ∷ rows_from (offset + field_size f) fs

-- where the fields of a message stand in its payload
abbrev pub layout_of : Description → List Row
layout_of d = rows_from 0 d.fields

-- The layout of the code is that of the description.
pub record IsLayout (d : Description) (id extra : ℕ) (rows : List Row) : Type 0 where
  pub id_is : id ≡ d.id
  pub extra_is : extra ≡ d.extra
  pub rows_are : rows ≡ layout_of d
