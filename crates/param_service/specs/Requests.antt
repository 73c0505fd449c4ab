-- What a message asks of the parameters.
use Rattle.std.specs.Prelude.{◌≡◌, ℕ, zero, suc, ℤ, pos, negsuc, Bool, true, false, List, Option}
use Rattle.std.specs.Prelude.{Some, None, option_map, IfSome, nat_lt, nat_le, ◌==◌, ◌&&◌}
use Rattle.std.specs.Prelude.{if◌then◌else◌, slice_get, position}
use Rattle.std.specs.List.{before_first}
use Rattle.param_tree.specs.declared.Var.{Var}
use Rattle.param_tree.specs.Rules.{has_name}
use Rattle.param_tree.specs.Rows.{vehicle_rows}
use Rattle.param_records.specs.Patterns.{IsNumberOf}
use Rattle.mav_messages.specs.declared.messages.Message.{Message}
use Rattle.mav_messages.specs.declared.messages.Message.TheVariants.{ParamRequestRead}
use Rattle.mav_messages.specs.declared.messages.Message.TheVariants.{ParamRequestList, ParamSet}

-- how many parameters the vehicle has
abbrev pub parameters : ℕ
parameters = 240

-- To show a row; to show all, one after the other; or to set a row to a number, where the value
-- that was sent is one of the row's kind.
pub data Request : Type 0 where
  Show : (index : ℕ) → Request
  ShowAll : Request
  Set : (index : ℕ) (number : Option ℕ) → Request

-- the vehicle is system 1, component 1, and 0 is everybody
abbrev pub is_for : ℕ → ℕ → Bool
is_for system component = nat_le system 1 && nat_le component 1

-- the row with the name in these bytes, which ends before their first zero
abbrev pub row_named : List ℕ → Option ℕ
row_named bytes = position (has_name (before_first (λ b. b == 0) bytes)) vehicle_rows

-- the row with this index, or with this name where the index is -1
abbrev pub row_asked_for : ℤ → List ℕ → Option ℕ
row_asked_for (pos index) name = if nat_lt index parameters then Some index else None
row_asked_for (negsuc zero) name = row_named name
row_asked_for (negsuc (suc n)) name = None

-- the number that the pattern is for the row's kind, or none where it is no value of the kind
abbrev pub IsNumberFor : Var → ℕ → Option ℕ → Type 0
IsNumberFor row bits None = (n : ℕ) → IsNumberOf row.kind bits n → ⊥
IsNumberFor row bits (Some n) = IsNumberOf row.kind bits n

-- the row of the table is to be set to the value with this pattern; where no row was named nothing
-- is asked
abbrev pub IsSetting : Option ℕ → ℕ → Option Request → Type 0
IsSetting None bits asked = asked ≡ None
IsSetting (Some index) bits asked = (number : Option ℕ)
    × IfSome (slice_get vehicle_rows index) (λ row. IsNumberFor row bits number)
    × (asked ≡ Some (Set index number))

-- the message is a PARAM_SET
abbrev pub sets_parameter : Message → Bool
sets_parameter (ParamSet bits system component name kind) = true
sets_parameter _ = false

-- What the message asks for. PARAM_REQUEST_READ names a row by its index or, with the index -1, by
-- its name. PARAM_SET names it by its name; its type isn't looked at. A message with another target
-- and any other message ask for nothing.
abbrev pub Asks : Message → Option Request → Type 0
Asks (ParamRequestRead index system component name) asked =
    asked ≡ (if is_for system component then option_map Show (row_asked_for index name) else None)
Asks (ParamRequestList system component) asked =
    asked ≡ (if is_for system component then Some ShowAll else None)
Asks (ParamSet bits system component name kind) asked =
    IsSetting (if is_for system component then row_named name else None) bits asked
Asks _ asked = asked ≡ None
