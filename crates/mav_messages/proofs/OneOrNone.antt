-- Whether a payload says a message is decided.
use Rattle.std.proofs.Common.{ℕ, ◌≡◌, ◌⊎◌, inl, inr, ◌^◌, ◌<◌, ◌==◌, Bool, true, false, cond, List, [], ◌∷◌, Option, Some, refl, ap, ◌∙◌, arith, FitsSigned}
use Rattle.std.specs.Int.{w16, w32, cast_unsigned, cast_signed}
use Rattle.std.proofs.lemmas.Bool.{cases_lt}
use Rattle.std.proofs.lemmas.Bool.Decides.{nat_tests}
use Rattle.std.proofs.lemmas.Int.{ints, of_z-to_z}
use Rattle.mav_messages.specs.declared.messages.Message.{Message}
use Rattle.mav_messages.specs.Fields.{Description, layout_of}
use Rattle.mav_messages.specs.Payload.{Value, Number, Bytes, offset_number, offset_bytes, values_in, filled}
use Rattle.mav_messages.specs.Descriptions.{descriptions, find_id, heartbeat, param_request_read, param_request_list, param_value, param_set, mission_request, mission_request_list, mission_count, mission_clear_all, mission_ack, mission_request_int, mission_item_int, command_long, command_ack}
use Rattle.mav_messages.specs.Messages.{field_values, description_of, FitsTypes, SaysMessage}
use Rattle.mav_messages.proofs.One.{number, bytes, at, remake, made_of}

-- under a description or none, the bytes say a message, or none
abbrev Decided : Option Description → List ℕ → Type 0
Decided x s =
    ((m : Message) × FitsTypes m × (x ≡ Some (description_of m)) × (field_values m ≡ values_in (layout_of (description_of m)) s))
    ⊎ ((m : Message) → FitsTypes m → x ≡ Some (description_of m) → field_values m ≡ values_in (layout_of (description_of m)) s → ⊥)

fits_sixteen : (n : ℕ) → n < 2 ^ 16 → FitsSigned w16 (cast_signed w16 n)
fits_sixteen n h = record { sfits = grind (arith, nat_tests, ints) }

fits_thirty_two : (n : ℕ) → n < 2 ^ 32 → FitsSigned w32 (cast_signed w32 n)
fits_thirty_two n h = record { sfits = grind (arith, nat_tests, ints) }

small_sixteen : (n : ℕ) → cast_unsigned w16 (cast_signed w16 n) < 2 ^ 16
small_sixteen n = grind (arith, nat_tests, ints)

small_thirty_two : (n : ℕ) → cast_unsigned w32 (cast_signed w32 n) < 2 ^ 32
small_thirty_two n = grind (arith, nat_tests, ints)

of_heartbeat : (s : List ℕ) → Decided (Some heartbeat) s
unfolding remake at number bytes
of_heartbeat s = inl (remake heartbeat.id (values_in (layout_of heartbeat) s), tt, refl, refl)

of_param_request_list : (s : List ℕ) → Decided (Some param_request_list) s
unfolding remake at number bytes
of_param_request_list s = inl (remake param_request_list.id (values_in (layout_of param_request_list) s), tt, refl, refl)

of_param_value : (s : List ℕ) → Decided (Some param_value) s
unfolding remake at number bytes
of_param_value s = inl (remake param_value.id (values_in (layout_of param_value) s), tt, refl, refl)

of_param_set : (s : List ℕ) → Decided (Some param_set) s
unfolding remake at number bytes
of_param_set s = inl (remake param_set.id (values_in (layout_of param_set) s), tt, refl, refl)

of_mission_request : (s : List ℕ) → Decided (Some mission_request) s
unfolding remake at number bytes
of_mission_request s = inl (remake mission_request.id (values_in (layout_of mission_request) s), tt, refl, refl)

of_mission_request_list : (s : List ℕ) → Decided (Some mission_request_list) s
unfolding remake at number bytes
of_mission_request_list s = inl (remake mission_request_list.id (values_in (layout_of mission_request_list) s), tt, refl, refl)

of_mission_count : (s : List ℕ) → Decided (Some mission_count) s
unfolding remake at number bytes
of_mission_count s = inl (remake mission_count.id (values_in (layout_of mission_count) s), tt, refl, refl)

of_mission_clear_all : (s : List ℕ) → Decided (Some mission_clear_all) s
unfolding remake at number bytes
of_mission_clear_all s = inl (remake mission_clear_all.id (values_in (layout_of mission_clear_all) s), tt, refl, refl)

of_mission_ack : (s : List ℕ) → Decided (Some mission_ack) s
unfolding remake at number bytes
of_mission_ack s = inl (remake mission_ack.id (values_in (layout_of mission_ack) s), tt, refl, refl)

of_mission_request_int : (s : List ℕ) → Decided (Some mission_request_int) s
unfolding remake at number bytes
of_mission_request_int s = inl (remake mission_request_int.id (values_in (layout_of mission_request_int) s), tt, refl, refl)

of_command_long : (s : List ℕ) → Decided (Some command_long) s
unfolding remake at number bytes
of_command_long s = inl (remake command_long.id (values_in (layout_of command_long) s), tt, refl, refl)

-- a signed field's number has to fit its width
of_param_request_read : (s : List ℕ) → Decided (Some param_request_read) s
unfolding remake at number bytes
of_param_request_read s =
    elim (cases_lt (offset_number 2 0 s) (2 ^ 16)) [
      | inl less ↦ inl (
        remake param_request_read.id (values_in (layout_of param_request_read) s),
        fits_sixteen (offset_number 2 0 s) less,
        refl,
        ap (λ (n : ℕ). Number n ∷ Number (offset_number 1 2 s) ∷ Number (offset_number 1 3 s) ∷ Bytes (offset_bytes 16 4 s) ∷ []) (of_z-to_z w16 (offset_number 2 0 s) less),
      )
      | inr more ↦ inr (λ m f listed fields. let e : cast_unsigned w16 (cast_signed w16 (offset_number 2 0 s)) ≡ offset_number 2 0 s = ap (λ (vs : List Value). number (at vs 0)) (made_of param_request_read s m f listed fields) in omega (arith, small_sixteen (offset_number 2 0 s)))
    ]

of_command_ack : (s : List ℕ) → Decided (Some command_ack) s
unfolding remake at number bytes
of_command_ack s =
    elim (cases_lt (offset_number 4 4 s) (2 ^ 32)) [
      | inl less ↦ inl (
        remake command_ack.id (values_in (layout_of command_ack) s),
        fits_thirty_two (offset_number 4 4 s) less,
        refl,
        ap (λ (n : ℕ). Number (offset_number 2 0 s) ∷ Number (offset_number 1 2 s) ∷ Number (offset_number 1 3 s) ∷ Number n ∷ Number (offset_number 1 8 s) ∷ Number (offset_number 1 9 s) ∷ []) (of_z-to_z w32 (offset_number 4 4 s) less),
      )
      | inr more ↦ inr (λ m f listed fields. let e : cast_unsigned w32 (cast_signed w32 (offset_number 4 4 s)) ≡ offset_number 4 4 s = ap (λ (vs : List Value). number (at vs 3)) (made_of command_ack s m f listed fields) in omega (arith, small_thirty_two (offset_number 4 4 s)))
    ]

items : List ℕ → ℕ → ℕ → List Value
items s x y = Number (offset_number 4 0 s) ∷ Number (offset_number 4 4 s) ∷ Number (offset_number 4 8 s) ∷ Number (offset_number 4 12 s) ∷ Number x ∷ Number y ∷ Number (offset_number 4 24 s) ∷ Number (offset_number 2 28 s) ∷ Number (offset_number 2 30 s) ∷ Number (offset_number 1 32 s) ∷ Number (offset_number 1 33 s) ∷ Number (offset_number 1 34 s) ∷ Number (offset_number 1 35 s) ∷ Number (offset_number 1 36 s) ∷ Number (offset_number 1 37 s) ∷ []

of_mission_item_int : (s : List ℕ) → Decided (Some mission_item_int) s
unfolding remake at number bytes items
of_mission_item_int s =
    elim (cases_lt (offset_number 4 16 s) (2 ^ 32)) [
      | inl less ↦ elim (cases_lt (offset_number 4 20 s) (2 ^ 32)) [
        | inl low ↦ inl (
          remake mission_item_int.id (values_in (layout_of mission_item_int) s),
          (fits_thirty_two (offset_number 4 16 s) less, fits_thirty_two (offset_number 4 20 s) low),
          refl,
          ap (λ (n : ℕ). items s n (cast_unsigned w32 (cast_signed w32 (offset_number 4 20 s)))) (of_z-to_z w32 (offset_number 4 16 s) less) ∙ ap (items s (offset_number 4 16 s)) (of_z-to_z w32 (offset_number 4 20 s) low),
        )
        | inr more ↦ inr (λ m f listed fields. let e : cast_unsigned w32 (cast_signed w32 (offset_number 4 20 s)) ≡ offset_number 4 20 s = ap (λ (vs : List Value). number (at vs 5)) (made_of mission_item_int s m f listed fields) in omega (arith, small_thirty_two (offset_number 4 20 s)))
      ]
      | inr more ↦ inr (λ m f listed fields. let e : cast_unsigned w32 (cast_signed w32 (offset_number 4 16 s)) ≡ offset_number 4 16 s = ap (λ (vs : List Value). number (at vs 4)) (made_of mission_item_int s m f listed fields) in omega (arith, small_thirty_two (offset_number 4 16 s)))
    ]

AllDecided : List Description → List ℕ → Type 0
AllDecided [] s = Unit {0}
AllDecided (d ∷ ds) s = Decided (Some d) s × AllDecided ds s

choose : (b : Bool) (d : Description) (x : Option Description) (s : List ℕ) → Decided (Some d) s → Decided x s → Decided (cond b (Some d) x) s
choose true d x s h g = h
choose false d x s h g = g

found : (ds : List Description) (id : ℕ) (s : List ℕ) → AllDecided ds s → Decided (find_id ds id) s
unfolding AllDecided
found [] id s h = inr (λ m f listed fields. cc)
found (d ∷ ds) id s h = choose (id == d.id) d (find_id ds id) s h.0 (found ds id s h.1)

all_decided : (s : List ℕ) → AllDecided descriptions s
unfolding AllDecided
all_decided s =
    (of_heartbeat s, (of_param_request_read s, (of_param_request_list s, (of_param_value s, (of_param_set s, (of_mission_request s, (of_mission_request_list s, (of_mission_count s, (of_mission_clear_all s, (of_mission_ack s, (of_mission_request_int s, (of_mission_item_int s, (of_command_long s, (of_command_ack s, tt))))))))))))))

pub one_or_none : (id : ℕ) (payload : List ℕ) → ((m : Message) × FitsTypes m × SaysMessage id payload m) ⊎ ((m : Message) → FitsTypes m → SaysMessage id payload m → ⊥)
one_or_none id payload =
    elim (found descriptions id (filled payload) (all_decided (filled payload))) [
      | inl is ↦ inl (is.0, is.1, record { listed = is.2; fields = is.3 })
      | inr none ↦ inr (λ m f says. none m f says.listed says.fields)
    ]
