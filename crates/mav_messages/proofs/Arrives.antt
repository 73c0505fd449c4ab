-- What arrives of a message that was sent.
use Rattle.std.proofs.Common.{ℕ, ◌≡◌, ◌<◌, ◌≤◌, inl, inr, Bool, true, false, List, [], ◌++◌, length, replicate, Some, refl, sym, ap, subst, ◌∙◌, arith, lit≤, ◌+◌, length-append}
use Rattle.mav_messages.specs.declared.messages.Message.{Message}
use Rattle.mav_messages.specs.declared.messages.Message.TheVariants.{Heartbeat, ParamRequestRead, ParamRequestList, ParamValue, ParamSet, MissionRequest, MissionRequestList, MissionCount, MissionClearAll, MissionAck, MissionRequestInt, MissionItemInt, CommandLong, CommandAck}
use Rattle.mav_messages.specs.Fields.{Description, layout_of}
use Rattle.mav_messages.specs.Descriptions.{described}
use Rattle.mav_messages.specs.Payload.{values_in, filled, wire_bytes, plain_values, Suit, IsPayload, total_width}
use Rattle.mav_messages.specs.Messages.{field_values, description_of, FitsTypes, SaysMessage, ArrivesAs}
use Rattle.mav_messages.proofs.Plain.{plain, sent}
use Rattle.mav_messages.proofs.One.{plain_fits}
use Rattle.mav_messages.proofs.Spelling.{length-spelling}
use Rattle.mav_messages.proofs.NotEmpty.{not_empty}
use Rattle.mav_messages.proofs.RoundTrip.{values_there, filled_zeros, Last, padded, plain_suit}

-- what holds of each kind of message
record Kind (m : Message) : Type 0 where
  listed : described (description_of m).id ≡ Some (description_of m)
  same : description_of (plain m) ≡ description_of m
  values : field_values (plain m) ≡ plain_values (layout_of (description_of m)) (field_values m)
  last : Last (layout_of (description_of m))
  small : total_width (layout_of (description_of m)) ≤ 64

facts : (m : Message) → Kind m
facts (Heartbeat custom_mode kind autopilot base_mode system_status mavlink_version) = record { listed = refl; same = refl; values = refl; last = inl (refl, inl (refl, inl (refl, inl (refl, inl (refl, inl (refl, tt)))))); small = lit≤ tt }
facts (ParamRequestRead param_index target_system target_component param_id) = record { listed = refl; same = refl; values = refl; last = inl (refl, inl (refl, inl (refl, inl (refl, tt)))); small = lit≤ tt }
facts (ParamRequestList target_system target_component) = record { listed = refl; same = refl; values = refl; last = inl (refl, inl (refl, tt)); small = lit≤ tt }
facts (ParamValue param_value param_count param_index param_id param_type) = record { listed = refl; same = refl; values = refl; last = inl (refl, inl (refl, inl (refl, inl (refl, inl (refl, tt))))); small = lit≤ tt }
facts (ParamSet param_value target_system target_component param_id param_type) = record { listed = refl; same = refl; values = refl; last = inl (refl, inl (refl, inl (refl, inl (refl, inl (refl, tt))))); small = lit≤ tt }
facts (MissionRequest seq target_system target_component mission_type) = record { listed = refl; same = refl; values = refl; last = inl (refl, inl (refl, inl (refl, inr (refl, refl, tt)))); small = lit≤ tt }
facts (MissionRequestList target_system target_component mission_type) = record { listed = refl; same = refl; values = refl; last = inl (refl, inl (refl, inr (refl, refl, tt))); small = lit≤ tt }
facts (MissionCount count target_system target_component mission_type) = record { listed = refl; same = refl; values = refl; last = inl (refl, inl (refl, inl (refl, inr (refl, refl, tt)))); small = lit≤ tt }
facts (MissionClearAll target_system target_component mission_type) = record { listed = refl; same = refl; values = refl; last = inl (refl, inl (refl, inr (refl, refl, tt))); small = lit≤ tt }
facts (MissionAck target_system target_component kind mission_type) = record { listed = refl; same = refl; values = refl; last = inl (refl, inl (refl, inl (refl, inr (refl, refl, tt)))); small = lit≤ tt }
facts (MissionRequestInt seq target_system target_component mission_type) = record { listed = refl; same = refl; values = refl; last = inl (refl, inl (refl, inl (refl, inr (refl, refl, tt)))); small = lit≤ tt }
facts (MissionItemInt param1 param2 param3 param4 x y z seq command target_system target_component frame current autocontinue mission_type) = record { listed = refl; same = refl; values = refl; last = inl (refl, inl (refl, inl (refl, inl (refl, inl (refl, inl (refl, inl (refl, inl (refl, inl (refl, inl (refl, inl (refl, inl (refl, inl (refl, inl (refl, inr (refl, refl, tt))))))))))))))); small = lit≤ tt }
facts (CommandLong param1 param2 param3 param4 param5 param6 param7 command target_system target_component confirmation) = record { listed = refl; same = refl; values = refl; last = inl (refl, inl (refl, inl (refl, inl (refl, inl (refl, inl (refl, inl (refl, inl (refl, inl (refl, inl (refl, inl (refl, tt))))))))))); small = lit≤ tt }
facts (CommandAck command result progress result_param2 target_system target_component) = record { listed = refl; same = refl; values = refl; last = inl (refl, inl (refl, inr (refl, refl, (refl, refl, (refl, refl, (refl, refl, tt)))))); small = lit≤ tt }

-- a payload that is sent says the message, in version 1 with extensions 0
pub arrives : (v2 : Bool) (m : Message) (bytes : List ℕ) → Suit (layout_of (description_of m)) (field_values m) → IsPayload v2 (layout_of (description_of m)) (field_values m) bytes
    → SaysMessage (description_of m).id bytes (sent v2 m)
arrives true m bytes suit is =
    let d = description_of m in
    let vs = field_values m in
    let k = facts m in
    let l = length-spelling true (layout_of d) vs suit in
    let f = filled_zeros is.zeros (wire_bytes true (layout_of d) vs) bytes is.whole_is (omega (arith, l, k.small)) in
    record { listed = k.listed; fields = sym (ap (values_in (layout_of d)) f.1 ∙ values_there d.fields 0 vs [] f.0 refl suit) }
arrives false m bytes suit is =
    let d = description_of m in
    let vs = plain_values (layout_of d) (field_values m) in
    let k = facts m in
    let fits = plain_suit (layout_of d) (field_values m) k.last suit in
    let l = length-spelling true (layout_of d) vs fits in
    let p = padded (layout_of d) (field_values m) k.last in
    let f = filled_zeros p.0 (wire_bytes true (layout_of d) vs) bytes (p.1 ∙ ap (λ (b : List ℕ). b ++ replicate p.0 0) (sym is)) (omega (arith, l, k.small)) in
    record {
      listed = k.listed ∙ ap Some (sym k.same);
      fields = k.values ∙ sym (ap (values_in (layout_of d)) f.1 ∙ values_there d.fields 0 vs [] f.0 refl fits) ∙ ap (λ (e : Description). values_in (layout_of e) (filled bytes)) (sym k.same);
    }

pub arrival : (v2 : Bool) (m : Message) → FitsTypes m → ArrivesAs v2 m (sent v2 m)
arrival true m f = record { kind = refl; fields = refl; fits = f }
arrival false m f = let k = facts m in record { kind = k.same; fields = k.values; fits = plain_fits m f }

-- a payload that is sent says what arrives
pub arrives_saying : (v2 : Bool) (m : Message) (bytes : List ℕ) → FitsTypes m → Suit (layout_of (description_of m)) (field_values m)
    → IsPayload v2 (layout_of (description_of m)) (field_values m) bytes
    → (arrived : Message) × ArrivesAs v2 m arrived × SaysMessage (description_of m).id bytes arrived
arrives_saying v2 m bytes f suit is = (sent v2 m, arrival v2 m f, arrives v2 m bytes suit is)

pub some_bytes : (v2 : Bool) (m : Message) (bytes : List ℕ) → IsPayload v2 (layout_of (description_of m)) (field_values m) bytes → 0 < length bytes
some_bytes true m bytes is = is.some
some_bytes false m bytes is = subst (λ (b : List ℕ). 0 < length b) (sym is) (not_empty false m)

pub short_bytes : (v2 : Bool) (m : Message) (bytes : List ℕ) → Suit (layout_of (description_of m)) (field_values m)
    → IsPayload v2 (layout_of (description_of m)) (field_values m) bytes → length bytes ≤ 64
short_bytes true m bytes suit is =
    let rows = layout_of (description_of m) in
    let whole = wire_bytes true rows (field_values m) in
    let n : length whole ≡ length bytes + length (replicate is.zeros 0) = ap length is.whole_is ∙ length-append bytes (replicate is.zeros 0) in
    omega (arith, n, length-spelling true rows (field_values m) suit, (facts m).small)
short_bytes false m bytes suit is =
    let rows = layout_of (description_of m) in
    omega (arith, ap length is, length-spelling false rows (field_values m) suit, (facts m).small)
