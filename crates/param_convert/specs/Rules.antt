-- The rules that turn old parameter records into new ones, and the rows of the records they make.
use Rattle.std.specs.Prelude.{◌==◌, ◌&&◌, ◌<◌, ℕ, Bool, IsTrue, Any, List, [], ◌∷◌, map, filter}
use Rattle.param_tree.specs.declared.Kind.{Kind}
use Rattle.param_tree.specs.declared.Kind.TheVariants.{I16, I32, F32, Vec3}
use Rattle.param_tree.specs.declared.Var.{Var}
use Rattle.param_tree.specs.Rules.{name_of, parts_of}
use Rattle.param_tree.specs.Rows.{element_of}
use Rattle.param_records.specs.Records.{kind_eq}
use Rattle.param_convert.specs.declared.rules.Rule.{Rule}

-- the row is one of the record that the rule makes
abbrev pub is_new_row : Rule → Var → Bool
is_new_row rule row = (row.key == rule.new_key)
    && ((row.element == rule.new_element) && kind_eq row.kind rule.kind)

-- the row is that of this part of the record
abbrev pub is_new_part : Rule → ℕ → Var → Bool
is_new_part rule part row = is_new_row rule row && (row.part == part)

-- the record that the rule makes is of the table: each of its parts has a row
abbrev pub HasRows : List Var → Rule → Type 0
HasRows rows rule =
    (part : ℕ) → part < parts_of rule.kind → Any (λ row. IsTrue (is_new_part rule part row)) rows

-- the names of the rows of the record that the rule makes
abbrev pub new_names : List Var → Rule → List (List ℕ)
new_names rows rule = map name_of (filter (is_new_row rule) rows)

-- a rule for a record that had a key of its own: its kind is kept, and the new key has this path
abbrev pub from_key : ℕ → Kind → ℕ → List ℕ → Rule
from_key key kind new_key path = record {
  key = key;
  element = 0;
  kind = kind;
  new_key = new_key;
  new_element = element_of path;
}

-- the rules that make SERVO1_TRIM, FENCE_RADIUS, RTL_ALT and COMPASS_OFS
abbrev pub to_servo1_trim : Rule
to_servo1_trim = from_key 100 I16 30 (1 ∷ 3 ∷ [])

abbrev pub to_fence_radius : Rule
to_fence_radius = from_key 101 F32 21 (5 ∷ [])

abbrev pub to_rtl_alt : Rule
to_rtl_alt = from_key 102 I32 1 []

abbrev pub to_compass_ofs : Rule
to_compass_ofs = from_key 103 Vec3 24 (1 ∷ [])

-- the vehicle's rules, in the order in which boot tries them
abbrev pub vehicle_rules : List Rule
vehicle_rules = to_servo1_trim ∷ to_fence_radius ∷ to_rtl_alt ∷ to_compass_ofs ∷ []
