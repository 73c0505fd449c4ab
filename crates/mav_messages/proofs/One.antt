-- A payload says one message.
use Rattle.std.proofs.Common.{ℕ, zero, suc, ◌≡◌, ◌==◌, cond, Bool, List, [], ◌∷◌, Option, Some, None, refl, sym, ap, ◌∙◌, ℤ, rules}
use Rattle.std.specs.Int.{w16, w32, cast_unsigned, cast_signed}
use Rattle.std.proofs.lemmas.Int.{to_z-of_z}
use Rattle.mav_messages.specs.declared.messages.Message.{Message}
use Rattle.mav_messages.specs.declared.messages.Message.TheVariants.{Heartbeat, ParamRequestRead, ParamRequestList, ParamValue, ParamSet, MissionRequest, MissionRequestList, MissionCount, MissionClearAll, MissionAck, MissionRequestInt, MissionItemInt, CommandLong, CommandAck}
use Rattle.mav_messages.specs.Fields.{Description, layout_of}
use Rattle.mav_messages.specs.Payload.{Value, Number, Bytes, values_in, filled}
use Rattle.std.specs.Prelude.{MatchOption, IfSome}
use Rattle.mav_messages.specs.Descriptions.{described}
use Rattle.mav_messages.specs.Messages.{field_values, description_of, FitsTypes, SaysMessage, ArrivesAs}
use Rattle.mav_messages.proofs.Plain.{plain}

unfoldable pub number : Value → ℕ
number (Number n) = n
number (Bytes bs) = 0

unfoldable pub bytes : Value → List ℕ
bytes (Number n) = []
bytes (Bytes bs) = bs

unfoldable pub at : List Value → ℕ → Value
at [] k = Number 0
at (v ∷ vs) zero = v
at (v ∷ vs) (suc k) = at vs k

-- the message of a number with these values
unfoldable pub remake : ℕ → List Value → Message
remake id vs =
    cond (id == 0) (Heartbeat (number (at vs 0)) (number (at vs 1)) (number (at vs 2)) (number (at vs 3)) (number (at vs 4)) (number (at vs 5))) (
    cond (id == 20) (ParamRequestRead (cast_signed w16 (number (at vs 0))) (number (at vs 1)) (number (at vs 2)) (bytes (at vs 3))) (
    cond (id == 21) (ParamRequestList (number (at vs 0)) (number (at vs 1))) (
    cond (id == 22) (ParamValue (number (at vs 0)) (number (at vs 1)) (number (at vs 2)) (bytes (at vs 3)) (number (at vs 4))) (
    cond (id == 23) (ParamSet (number (at vs 0)) (number (at vs 1)) (number (at vs 2)) (bytes (at vs 3)) (number (at vs 4))) (
    cond (id == 40) (MissionRequest (number (at vs 0)) (number (at vs 1)) (number (at vs 2)) (number (at vs 3))) (
    cond (id == 43) (MissionRequestList (number (at vs 0)) (number (at vs 1)) (number (at vs 2))) (
    cond (id == 44) (MissionCount (number (at vs 0)) (number (at vs 1)) (number (at vs 2)) (number (at vs 3))) (
    cond (id == 45) (MissionClearAll (number (at vs 0)) (number (at vs 1)) (number (at vs 2))) (
    cond (id == 47) (MissionAck (number (at vs 0)) (number (at vs 1)) (number (at vs 2)) (number (at vs 3))) (
    cond (id == 51) (MissionRequestInt (number (at vs 0)) (number (at vs 1)) (number (at vs 2)) (number (at vs 3))) (
    cond (id == 73) (MissionItemInt (number (at vs 0)) (number (at vs 1)) (number (at vs 2)) (number (at vs 3)) (cast_signed w32 (number (at vs 4))) (cast_signed w32 (number (at vs 5))) (number (at vs 6)) (number (at vs 7)) (number (at vs 8)) (number (at vs 9)) (number (at vs 10)) (number (at vs 11)) (number (at vs 12)) (number (at vs 13)) (number (at vs 14))) (
    cond (id == 76) (CommandLong (number (at vs 0)) (number (at vs 1)) (number (at vs 2)) (number (at vs 3)) (number (at vs 4)) (number (at vs 5)) (number (at vs 6)) (number (at vs 7)) (number (at vs 8)) (number (at vs 9)) (number (at vs 10))) (
    cond (id == 77) (CommandAck (number (at vs 0)) (number (at vs 1)) (number (at vs 2)) (cast_signed w32 (number (at vs 3))) (number (at vs 4)) (number (at vs 5))) (
    ParamRequestList 0 0))))))))))))))

remade : (m : Message) → FitsTypes m → remake (description_of m).id (field_values m) ≡ m
unfolding remake at number bytes
remade (Heartbeat custom_mode kind autopilot base_mode system_status mavlink_version) h = refl
remade (ParamRequestRead param_index target_system target_component param_id) h = ap (λ (z : ℤ). ParamRequestRead z target_system target_component param_id) (to_z-of_z w16 param_index h)
remade (ParamRequestList target_system target_component) h = refl
remade (ParamValue param_value param_count param_index param_id param_type) h = refl
remade (ParamSet param_value target_system target_component param_id param_type) h = refl
remade (MissionRequest seq target_system target_component mission_type) h = refl
remade (MissionRequestList target_system target_component mission_type) h = refl
remade (MissionCount count target_system target_component mission_type) h = refl
remade (MissionClearAll target_system target_component mission_type) h = refl
remade (MissionAck target_system target_component kind mission_type) h = refl
remade (MissionRequestInt seq target_system target_component mission_type) h = refl
remade (MissionItemInt param1 param2 param3 param4 x y z seq command target_system target_component frame current autocontinue mission_type) h = ap (λ (p : ℤ). MissionItemInt param1 param2 param3 param4 p (cast_signed w32 (cast_unsigned w32 y)) z seq command target_system target_component frame current autocontinue mission_type) (to_z-of_z w32 x h.0) ∙ ap (λ (q : ℤ). MissionItemInt param1 param2 param3 param4 x q z seq command target_system target_component frame current autocontinue mission_type) (to_z-of_z w32 y h.1)
remade (CommandLong param1 param2 param3 param4 param5 param6 param7 command target_system target_component confirmation) h = refl
remade (CommandAck command result progress result_param2 target_system target_component) h = ap (λ (z : ℤ). CommandAck command result progress z target_system target_component) (to_z-of_z w32 result_param2 h)

same_description : (d e : Description) → Some d ≡ Some e → d ≡ e
same_description d e h = cc

pub one_message : (id : ℕ) (payload : List ℕ) (m n : Message) → FitsTypes m → FitsTypes n → SaysMessage id payload m → SaysMessage id payload n → m ≡ n
one_message id payload m n f g a b =
    let d : description_of m ≡ description_of n = same_description (description_of m) (description_of n) (sym a.listed ∙ b.listed) in
    let v : field_values m ≡ field_values n = a.fields ∙ ap (λ (e : Description). values_in (layout_of e) (filled payload)) d ∙ sym b.fields in
    sym (remade m f) ∙ ap (λ (e : Description). remake e.id (field_values m)) d ∙ ap (remake (description_of n).id) v ∙ remade n g

-- a message that the bytes say under a description is made of the values there, and has them
pub made_of : (d : Description) (s : List ℕ) (m : Message) → FitsTypes m → Some d ≡ Some (description_of m) → field_values m ≡ values_in (layout_of (description_of m)) s
    → field_values (remake d.id (values_in (layout_of d) s)) ≡ values_in (layout_of d) s
made_of d s m f listed fields =
    let e : description_of m ≡ d = same_description (description_of m) d (sym listed) in
    let v : field_values m ≡ values_in (layout_of d) s = fields ∙ ap (λ (d : Description). values_in (layout_of d) s) e in
    let is : m ≡ remake d.id (values_in (layout_of d) s) = sym (remade m f) ∙ ap (λ (d : Description). remake d.id (field_values m)) e ∙ ap (remake d.id) v in
    ap field_values (sym is) ∙ v

pub plain_fits : (m : Message) → FitsTypes m → FitsTypes (plain m)
plain_fits (Heartbeat custom_mode kind autopilot base_mode system_status mavlink_version) h = h
plain_fits (ParamRequestRead param_index target_system target_component param_id) h = h
plain_fits (ParamRequestList target_system target_component) h = h
plain_fits (ParamValue param_value param_count param_index param_id param_type) h = h
plain_fits (ParamSet param_value target_system target_component param_id param_type) h = h
plain_fits (MissionRequest seq target_system target_component mission_type) h = h
plain_fits (MissionRequestList target_system target_component mission_type) h = h
plain_fits (MissionCount count target_system target_component mission_type) h = h
plain_fits (MissionClearAll target_system target_component mission_type) h = h
plain_fits (MissionAck target_system target_component kind mission_type) h = h
plain_fits (MissionRequestInt seq target_system target_component mission_type) h = h
plain_fits (MissionItemInt param1 param2 param3 param4 x y z seq command target_system target_component frame current autocontinue mission_type) h = h
plain_fits (CommandLong param1 param2 param3 param4 param5 param6 param7 command target_system target_component confirmation) h = h
plain_fits (CommandAck command result progress result_param2 target_system target_component) h = search rules

pub one_arrival : (v2 : Bool) (m a b : Message) → ArrivesAs v2 m a → ArrivesAs v2 m b → a ≡ b
one_arrival v2 m a b p q =
    sym (remade a p.fits) ∙ ap (λ (e : Description). remake e.id (field_values a)) (p.kind ∙ sym q.kind)
    ∙ ap (remake (description_of b).id) (p.fields ∙ sym q.fields) ∙ remade b q.fits

-- what is read is the one message that the payload says
pub read_is : (id : ℕ) (payload : List ℕ) (read : Option Message) → MatchOption read (described id ≡ None) (SaysMessage id payload) → IfSome read FitsTypes
    → (m : Message) → FitsTypes m → SaysMessage id payload m → read ≡ Some m
read_is id payload None none fits m f says = let e = says.listed in cc
read_is id payload (Some n) is fits m f says = ap Some (one_message id payload n m fits f is says)
