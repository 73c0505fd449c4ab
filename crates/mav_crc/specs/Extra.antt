-- CRC_EXTRA: the byte that stands for a message's description.
use Rattle.std.specs.Prelude.{ℕ, ◌≡◌, ◌/◌, ◌%◌, ◌==◌, if◌then◌else◌, bit_xor, List, [], ◌∷◌, ◌++◌}
use Rattle.mav_crc.specs.declared.Field.{Field}
use Rattle.mav_crc.specs.declared.Description.{Description}
use Rattle.mav_crc.specs.Division.{IsCrc}

-- the text of a field: its type, a space, its name, a space, and for an array its length as one
-- byte
abbrev pub field_text : List ℕ → List ℕ → ℕ → List ℕ
field_text kind name array =
    kind ++ (32 ∷ (name ++ (32 ∷ (if array == 0 then [] else array ∷ []))))

abbrev pub field_bytes : Field → List ℕ
field_bytes f = field_text f.kind.now f.name.now f.array

-- the texts of fields, one behind another
abbrev pub fields_bytes : List Field → List ℕ
fields_bytes [] = []
fields_bytes (f ∷ fs) = field_bytes f ++ fields_bytes fs

-- the message's name, a space, and its fields in wire order
abbrev pub description_bytes : Description → List ℕ
description_bytes d = d.name.now ++ (32 ∷ fields_bytes d.fields.now)

-- the low and the high byte of a CRC, exclusive-ored
abbrev pub extra_byte : ℕ → ℕ
extra_byte crc = bit_xor (crc % 256) (crc / 256)

-- the extra byte of a description's bytes: that of their CRC from 0xFFFF on
pub record IsExtra (bytes : List ℕ) (extra : ℕ) : Type 0 where
  pub crc : ℕ
  pub is_crc : IsCrc 0xFFFF bytes crc
  pub folded : extra ≡ extra_byte crc
