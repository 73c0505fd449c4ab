-- The stored fields come back.
use Rattle.std.proofs.Common.{◌≡◌, ℕ, ◌+◌, ◌-◌, ◌/◌, ◌%◌, ◌^◌, Bool, false, List, [], ◌∷◌, ◌++◌, length, get_or, refl, ap, sym, ◌∙◌, subst, IsTrue, arith, append_assoc, length-append}
use Rattle.std.specs.Prelude.{ℤ, pos, negsuc, ◌↔◌, replicate, ◌==◌}
use Rattle.std.proofs.lemmas.Int.{ints}
use Rattle.word_bits.specs.Pattern.{IsNearest, IsCentimetres}
use Rattle.mission_commands.specs.declared.table.Row.{Row}
use Rattle.mission_commands.specs.declared.table.Use.{Use}
use Rattle.mission_commands.specs.declared.table.Use.TheVariants.{Unused, Whole, Signed, Pattern}
use Rattle.mission_commands.specs.declared.table.Shape.{Shape}
use Rattle.mission_commands.specs.declared.table.Shape.TheVariants.{Located, Plain, Unlisted}
use Rattle.mission_commands.specs.declared.commands.Item.{Item}
use Rattle.mission_commands.specs.declared.commands.Command.{Command}
use Rattle.storage_lines.specs.Numbers.{bytes_of_number, number_of, unsigned, signed_of}
use Rattle.mission_commands.specs.Rows.{IsRow, stored_width}
use Rattle.mission_commands.specs.Table.{row_of}
use Rattle.mission_commands.specs.Commands.{Meets, MeetsAll, item_rules, Allows, StoredAs, IsPacked, IsUnpacked, IsLocation, IsRest, IsPlaceOf, IsLatitude, IsLongitude, IfLocated, IsBelowZero, parameter_bytes, location_of, part_at, frame_flags, frame_with, sign_flag, has_sign, has_location}
use Rattle.mission_commands.specs.Back.{SameParam, SamePosition, GivesBack, ComesBack}
use Rattle.storage_lines.proofs.NumberLemmas.{length-bytes_of}
use Rattle.mission_commands.proofs.Rows.{is_signed, HasSigns, row_of-HasSigns, row_of-IsRow}
use Rattle.mission_commands.proofs.Tested.{length-StoredAs}
use Rattle.mission_commands.proofs.Back.{HasSign, same_param, at_place, signed_part, flags_back, IsHalf}

no_sign : (u : Use) (bits : ℕ) (negative : Bool) → is_signed u ≡ false → HasSign u bits negative
no_sign Unused bits negative e = tt
no_sign (Whole low high width) bits negative e = tt
no_sign (Signed high width) bits negative e = absurd (cc)
no_sign Pattern bits negative e = tt

sign_kept : (u : Use) (bits : ℕ) (negative : Bool) → (IsTrue negative ↔ IsBelowZero u bits) → HasSign u bits negative
sign_kept Unused bits negative e = tt
sign_kept (Whole low high width) bits negative e = tt
sign_kept (Signed high width) bits negative e = e
sign_kept Pattern bits negative e = tt

-- the item's parameters, from those of the bytes
pub params_back : (row : Row) (item back : Item) (negative : Bool) (bytes : List ℕ) → IsRow row → HasSigns row → HasSign row.param3 item.param3 negative
    → Allows row.param1 item.param1 → Allows row.param2 item.param2 → Allows row.param3 item.param3 → Allows row.param4 item.param4
    → IsPacked row item bytes → IsUnpacked row negative bytes back
    → (SameParam row.param1 item.param1 back.param1) × (SameParam row.param2 item.param2 back.param2) × (SameParam row.param3 item.param3 back.param3) × (SameParam row.param4 item.param4 back.param4)
params_back row item back negative bytes sound signs sign3 a1 a2 a3 a4 p q =
    let z = replicate (12 - length (p.first ++ p.second ++ p.third ++ p.fourth)) 0 in
    let w1 = length-StoredAs row.param1 item.param1 p.first p.stored1 in
    let w2 = length-StoredAs row.param2 item.param2 p.second p.stored2 in
    let w3 = length-StoredAs row.param3 item.param3 p.third p.stored3 in
    let w4 = length-StoredAs row.param4 item.param4 p.fourth p.stored4 in
    let e4 = p.together ∙ append_assoc (p.first ++ p.second ++ p.third) p.fourth z in
    let e3 = e4 ∙ append_assoc (p.first ++ p.second) p.third (p.fourth ++ z) in
    let e2 = e3 ∙ append_assoc p.first p.second (p.third ++ (p.fourth ++ z)) in
    let l12 : length (p.first ++ p.second) ≡ stored_width row.param1 + stored_width row.param2 = length-append p.first p.second ∙ (rw (w1, w2) refl) in
    let l123 : length (p.first ++ p.second ++ p.third) ≡ stored_width row.param1 + stored_width row.param2 + stored_width row.param3 = length-append (p.first ++ p.second) p.third ∙ (rw (l12, w3) refl) in
    let f1 = at_place [] p.first (p.second ++ (p.third ++ (p.fourth ++ z))) bytes 0 (stored_width row.param1) e2 refl w1 in
    let f2 = at_place p.first p.second (p.third ++ (p.fourth ++ z)) bytes (stored_width row.param1) (stored_width row.param2) e2 w1 w2 in
    let f3 = at_place (p.first ++ p.second) p.third (p.fourth ++ z) bytes (stored_width row.param1 + stored_width row.param2) (stored_width row.param3) e3 l12 w3 in
    let f4 = at_place (p.first ++ p.second ++ p.third) p.fourth z bytes (stored_width row.param1 + stored_width row.param2 + stored_width row.param3) (stored_width row.param4) e4 l123 w4 in (
      same_param row.param1 item.param1 back.param1 _ negative sound.use1 a1 (no_sign row.param1 item.param1 negative signs.none1) (subst (StoredAs row.param1 item.param1) (sym f1) p.stored1) q.param1,
      same_param row.param2 item.param2 back.param2 _ negative sound.use2 a2 (no_sign row.param2 item.param2 negative signs.none2) (subst (StoredAs row.param2 item.param2) (sym f2) p.stored2) q.param2,
      same_param row.param3 item.param3 back.param3 _ negative sound.use3 a3 sign3 (subst (StoredAs row.param3 item.param3) (sym f3) p.stored3) q.param3,
      same_param row.param4 item.param4 back.param4 _ negative sound.use4 a4 (no_sign row.param4 item.param4 negative signs.none4) (subst (StoredAs row.param4 item.param4) (sym f4) p.stored4) q.param4,
    )

half_latitude : (x : ℤ) → IsLatitude x → IsHalf (2 ^ 31) x
half_latitude (pos k) h = omega (arith, ints, h.1)
half_latitude (negsuc k) h = omega (arith, ints, h.0)

half_longitude : (x : ℤ) → IsLongitude x → IsHalf (2 ^ 31) x
half_longitude (pos k) h = omega (arith, ints, h.1)
half_longitude (negsuc k) h = omega (arith, ints, h.0)

half_altitude : (x : ℤ) → IsCentimetres x → IsHalf (2 ^ 23) x
half_altitude (pos k) h = omega (arith, ints, h.1)
half_altitude (negsuc k) h = omega (arith, ints, h.0)

-- what a location's bytes give back
pub location_back : (content : List ℕ) (flags : ℕ) (k x y : ℤ) → content ≡ location_of flags k x y → IsCentimetres k → IsLatitude x → IsLongitude y
    → (get_or content 0 0 ≡ flags) × (signed_of 3 (number_of (part_at 1 3 content)) ≡ k) × (signed_of 4 (number_of (part_at 4 4 content)) ≡ x) × (signed_of 4 (number_of (part_at 8 4 content)) ≡ y)
location_back content flags k x y e h lat lon =
    let a = bytes_of_number 3 (unsigned 3 k) in
    let b = bytes_of_number 4 (unsigned 4 x) in
    let d = bytes_of_number 4 (unsigned 4 y) in
    let la : length (bytes_of_number 3 (unsigned 3 k)) ≡ 3 = length-bytes_of 3 (unsigned 3 k) in
    let lb : length (bytes_of_number 4 (unsigned 4 x)) ≡ 4 = length-bytes_of 4 (unsigned 4 x) in
    let ld : length (bytes_of_number 4 (unsigned 4 y)) ≡ 4 = length-bytes_of 4 (unsigned 4 y) in
    let l4 : length ((flags ∷ []) ++ a) ≡ 4 = length-append (flags ∷ []) a ∙ ap (λ n. 1 + n) la in
    let l8 : length ((flags ∷ []) ++ a ++ b) ≡ 8 = length-append ((flags ∷ []) ++ a) b ∙ (rw (l4, lb) refl) in
    let e8 = e ∙ ap (λ t. (flags ∷ []) ++ a ++ b ++ t) (sym (append_nil d)) in
    let e4 = e ∙ append_assoc ((flags ∷ []) ++ a) b d in
    let e1 = e4 ∙ append_assoc (flags ∷ []) a (b ++ d) in (
      ap (λ t. get_or t 0 0) e,
      signed_part 3 (2 ^ 23) k _ refl (half_altitude k h) (at_place (flags ∷ []) a (b ++ d) content 1 3 e1 refl la),
      signed_part 4 (2 ^ 31) x _ refl (half_latitude x lat) (at_place ((flags ∷ []) ++ a) b d content 4 4 e4 l4 lb),
      signed_part 4 (2 ^ 31) y _ refl (half_longitude y lon) (at_place ((flags ∷ []) ++ a ++ b) d [] content 8 4 e8 l8 ld),
    )
  where
    append_nil : (xs : List ℕ) → xs ++ [] ≡ xs
    append_nil [] = refl
    append_nil (t ∷ xs) = ap (λ r. t ∷ r) (append_nil xs)

abbrev pub IsRestOf : Shape → Row → Item → Command → Type 0
IsRestOf Located row item c = IsLocation row item c.content
IsRestOf Plain row item c = c.p1 ≡ 0
IsRestOf Unlisted row item c = ⊥

pub rest_of : (s : Shape) (item : Item) (c : Command) → IsRest s item c → IsRestOf s (row_of item.command) item c
rest_of Located item c h = h
rest_of Plain item c h = h
rest_of Unlisted item c h = h

-- for a row with a shape
pub back_of : (s : Shape) (row : Row) (item : Item) (c : Command) (back : Item) → row.shape ≡ s → IsRow row → HasSigns row → MeetsAll (Meets item row) item_rules
    → IsPacked row item (parameter_bytes s c) → IsRestOf s row item c → IsUnpacked row (has_sign c.content) (parameter_bytes s c) back → IsPlaceOf s c.content back.frame back.x back.y back.z
    → back.command ≡ item.command → GivesBack row item back
back_of Located row item c back e sound signs meets p l q place id =
    let loc : IfLocated Located (IsLatitude item.x) = subst (λ s. IfLocated s (IsLatitude item.x)) e meets.1.1.1.1.1.1.0 in
    let lon : IfLocated Located (IsLongitude item.y) = subst (λ s. IfLocated s (IsLongitude item.y)) e meets.1.1.1.1.1.1.1.0 in
    let parts = location_back c.content (frame_flags item.frame + sign_flag l.negative) l.altitude item.x item.y l.bytes l.nearest.0 loc lon in
    let flags = flags_back item.frame l.negative in
    let turn : has_sign c.content ≡ l.negative = ap (λ n. ((n / 4) % 2) == 1) parts.0 ∙ flags.1 in
    let params = params_back row item back (has_sign c.content) (parameter_bytes Located c) sound signs (subst (HasSign row.param3 item.param3) (sym turn) (sign_kept row.param3 item.param3 l.negative l.sign)) meets.1.1.0 meets.1.1.1.0 meets.1.1.1.1.0 meets.1.1.1.1.1.0 p q in
    let there : SamePosition Located item back = (place.x_is ∙ parts.2, place.y_is ∙ parts.3, ap frame_flags place.frame_is ∙ (ap (λ n. frame_flags (frame_with n)) parts.0 ∙ flags.0), (l.altitude, l.nearest, (l.nearest.0, subst (λ (k : ℤ). IsNearest back.z k 100) parts.1 place.z_is))) in
    record { command_is = id; param1 = params.0; param2 = params.1; param3 = params.2; param4 = params.3; place = subst (λ s. SamePosition s item back) (sym e) there }
back_of Plain row item c back e sound signs meets p l q place id =
    let none : has_location row.shape ≡ false = ap has_location e in
    let params = params_back row item back (has_sign c.content) (parameter_bytes Plain c) sound signs (no_sign row.param3 item.param3 (has_sign c.content) (signs.none3 none)) meets.1.1.0 meets.1.1.1.0 meets.1.1.1.1.0 meets.1.1.1.1.1.0 p q in
    let there : SamePosition Plain item back = (place.x_is, place.y_is, place.frame_is) in
    record { command_is = id; param1 = params.0; param2 = params.1; param3 = params.2; param4 = params.3; place = subst (λ s. SamePosition s item back) (sym e) there }
back_of Unlisted row item c back e sound signs meets p l q place id = absurd l

pub comes_back : ComesBack
comes_back item c seq back meets stored is =
    let row = row_of item.command in
    let q : IsUnpacked (row_of item.command) (has_sign c.content) (parameter_bytes (row_of item.command).shape c) back =
    subst (λ i. IsUnpacked (row_of i) (has_sign c.content) (parameter_bytes (row_of i).shape c) back) stored.id is.params in
    let place : IsPlaceOf (row_of item.command).shape c.content back.frame back.x back.y back.z =
    subst (λ i. IsPlaceOf (row_of i).shape c.content back.frame back.x back.y back.z) stored.id is.place in
    back_of (row_of item.command).shape (row_of item.command) item c back refl (row_of-IsRow item.command) (row_of-HasSigns item.command) meets stored.params (rest_of (row_of item.command).shape item c stored.rest) q place (is.command_is ∙ stored.id)
