-- What a rule makes of the records: where an old one is there, and the new one isn't, a new record
-- with the old value, unless that is the default.
use Rattle.std.specs.Prelude.{◌≡◌, ◌≢◌, ◌≤◌, ◌+◌, ◌&&◌, ℕ, Bool, not, nat_le, if◌then◌else◌, List, [], ◌++◌, length, Option, Some, None, option_and_then}
use Rattle.std.specs.List.{find}
use Rattle.std.specs.Option.{option_map_or, is_none}
use Rattle.std.specs.Str.{bytes_eq}
use Rattle.param_tree.specs.declared.Kind.{Kind}
use Rattle.param_tree.specs.declared.Kind.TheVariants.{Vec3}
use Rattle.param_tree.specs.declared.Var.{Var}
use Rattle.storage_lines.specs.declared.lines.LineWrite.{LineWrite}
use Rattle.storage_lines.specs.Pieces.{Piece, writes_of}
use Rattle.param_records.specs.declared.records.TheConstants.{PARAM_BYTES}
use Rattle.param_records.specs.Records.{Record, four_bytes, size_of, spelling, value_in}
use Rattle.param_records.specs.Changes.{part_bytes, appending}
use Rattle.param_records.specs.Steps.{records_in_storage}
use Rattle.param_convert.specs.declared.rules.Rule.{Rule}
use Rattle.param_convert.specs.Rules.{is_new_part}

-- the default of a part of the record that the rule makes
abbrev pub default_of : List Var → Rule → ℕ → ℕ
default_of rows rule part =
    option_map_or (λ row. row.default) (find (is_new_part rule part) rows) 0

-- a value of the kind, part by part
abbrev pub bytes_of_parts : Kind → (ℕ → ℕ) → List ℕ
bytes_of_parts Vec3 number =
    four_bytes (number 0) ++ (four_bytes (number 1) ++ four_bytes (number 2))
bytes_of_parts kind number = part_bytes kind (number 0)

-- the value of the record that the rule makes, with each part at its default
abbrev pub default_value : List Var → Rule → List ℕ
default_value rows rule = bytes_of_parts rule.kind (default_of rows rule)

-- the record that the rule makes of an old value: the same bytes under the new key and element
abbrev pub new_record : Rule → List ℕ → Record
new_record rule value = record {
  key = rule.new_key;
  element = rule.new_element;
  kind = rule.kind;
  value = value;
}

-- The rule makes a record of this value: the old record has it, there is no new one yet, the value
-- isn't the new record's default, and the record fits with the sentinel after it, which take four
-- bytes each beside the value.
pub record Converts (rows : List Var) (records : List Record) (rule : Rule) (value : List ℕ)
    : Type 0 where
  pub old : value_in rule.key rule.element rule.kind records ≡ Some value
  pub absent : value_in rule.new_key rule.new_element rule.kind records ≡ None
  pub other : value ≢ default_value rows rule
  pub fits : 4 + length (spelling records) + 8 + size_of rule.kind ≤ PARAM_BYTES

-- the same as a test, of a value that the old record has
abbrev pub is_conversion_due : List Var → List Record → Rule → List ℕ → Bool
is_conversion_due rows records rule value =
    is_none (value_in rule.new_key rule.new_element rule.kind records)
    && (not (bytes_eq value (default_value rows rule))
    && nat_le (4 + length (spelling records) + 8 + size_of rule.kind) PARAM_BYTES)

-- the value of which the rule makes a record, if there is one
abbrev pub converted : List Var → List Record → Rule → Option (List ℕ)
converted rows records rule =
    option_and_then (λ value. if is_conversion_due rows records rule value then Some value
    else None)
    (value_in rule.key rule.element rule.kind records)

-- the pieces that append the record
abbrev pub convert_pieces : List Var → List Record → Rule → List Piece
convert_pieces rows records rule =
    option_map_or (λ value. appending (4 + length (spelling records)) (new_record rule value))
    (converted rows records rule) []

-- the line writes of the rule
abbrev pub convert_writes : List Var → Rule → List ℕ → List LineWrite
convert_writes rows rule bytes =
    writes_of bytes (convert_pieces rows (records_in_storage bytes) rule)
