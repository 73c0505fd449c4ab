-- No payload is empty.
use Rattle.std.proofs.Common.{ℕ, ◌≡◌, ◌<◌, Bool, true, false, not, ◌&&◌, cond, List, [], ◌∷◌, length, refl, ap, ◌∙◌, arith, length-append, lit<}
use Rattle.mav_messages.specs.declared.layouts.Row.{Row}
use Rattle.mav_messages.specs.declared.messages.Message.{Message}
use Rattle.mav_messages.specs.declared.messages.Message.TheVariants.{Heartbeat, ParamRequestRead, ParamRequestList, ParamValue, ParamSet, MissionRequest, MissionRequestList, MissionCount, MissionClearAll, MissionAck, MissionRequestInt, MissionItemInt, CommandLong, CommandAck}
use Rattle.mav_messages.specs.Fields.{layout_of}
use Rattle.mav_messages.specs.Payload.{Value, Number, number_bytes, wire_bytes}
use Rattle.mav_messages.specs.Messages.{field_values, description_of}
use Rattle.mav_messages.proofs.Spelling.{length-number_bytes}

never : (b : Bool) (xs : List ℕ) → cond (b && false) [] xs ≡ xs
never true xs = refl
never false xs = refl

some : (v2 : Bool) (r : Row) (rs : List Row) (n : ℕ) (vs : List Value) → r.extension ≡ false → 0 < r.width → 0 < length (wire_bytes v2 (r ∷ rs) (Number n ∷ vs))
unfolding wire_bytes
some v2 r rs n vs e h =
    let p : cond (not v2 && r.extension) [] (number_bytes r.width n) ≡ number_bytes r.width n = ap (λ b. cond (not v2 && b) [] (number_bytes r.width n)) e ∙ never (not v2) (number_bytes r.width n) in
    omega (arith, ap length p, length-number_bytes r.width n, length-append (cond (not v2 && r.extension) [] (number_bytes r.width n)) (wire_bytes v2 rs vs))

pub not_empty : (v2 : Bool) (m : Message) → 0 < length (wire_bytes v2 (layout_of (description_of m)) (field_values m))
not_empty v2 (Heartbeat custom_mode kind autopilot base_mode system_status mavlink_version) = some v2 _ _ _ _ refl (lit< tt)
not_empty v2 (ParamRequestRead param_index target_system target_component param_id) = some v2 _ _ _ _ refl (lit< tt)
not_empty v2 (ParamRequestList target_system target_component) = some v2 _ _ _ _ refl (lit< tt)
not_empty v2 (ParamValue param_value param_count param_index param_id param_type) = some v2 _ _ _ _ refl (lit< tt)
not_empty v2 (ParamSet param_value target_system target_component param_id param_type) = some v2 _ _ _ _ refl (lit< tt)
not_empty v2 (MissionRequest seq target_system target_component mission_type) = some v2 _ _ _ _ refl (lit< tt)
not_empty v2 (MissionRequestList target_system target_component mission_type) = some v2 _ _ _ _ refl (lit< tt)
not_empty v2 (MissionCount count target_system target_component mission_type) = some v2 _ _ _ _ refl (lit< tt)
not_empty v2 (MissionClearAll target_system target_component mission_type) = some v2 _ _ _ _ refl (lit< tt)
not_empty v2 (MissionAck target_system target_component kind mission_type) = some v2 _ _ _ _ refl (lit< tt)
not_empty v2 (MissionRequestInt seq target_system target_component mission_type) = some v2 _ _ _ _ refl (lit< tt)
not_empty v2 (MissionItemInt param1 param2 param3 param4 x y z seq command target_system target_component frame current autocontinue mission_type) = some v2 _ _ _ _ refl (lit< tt)
not_empty v2 (CommandLong param1 param2 param3 param4 param5 param6 param7 command target_system target_component confirmation) = some v2 _ _ _ _ refl (lit< tt)
not_empty v2 (CommandAck command result progress result_param2 target_system target_component) = some v2 _ _ _ _ refl (lit< tt)
