-- The values of fields in a payload.
use Rattle.std.specs.Prelude.{ℕ, max, ◌+◌, ◌-◌, ◌*◌, ◌<◌, ◌≤◌, ◌^◌, ◌≡◌, ◌≢◌, ◌⊎◌, ◌==◌, Bool, true, false, not, ◌&&◌, if◌then◌else◌, List, [], ◌∷◌, ◌++◌, length, take, drop, map, replicate, slice_index}
use Rattle.byteorder.specs.Endian.{little_number, little_bytes}
use Rattle.mav_messages.specs.declared.layouts.Row.{Row}

-- The value of a field: a number, a negative one as its two's complement; of an array its bytes.
pub data Value : Type 0 where
  Number : ℕ → Value
  Bytes : List ℕ → Value

-- the little endian number at an offset
unfoldable pub offset_number : ℕ → ℕ → List ℕ → ℕ
offset_number width offset payload = little_number width (drop offset payload)

-- so many bytes at an offset
unfoldable pub offset_bytes : ℕ → ℕ → List ℕ → List ℕ
offset_bytes count offset payload = take count (drop offset payload)

-- the value of a row's field
abbrev pub value_at : List ℕ → Row → Value
value_at payload r =
    if r.array == 0 then Number (offset_number r.width r.offset payload)
    else Bytes (offset_bytes r.array r.offset payload)

-- the values of all fields
abbrev pub values_in : List Row → List ℕ → List Value
values_in rows payload = map (value_at payload) rows

-- the payload filled with zeros to 64 bytes, and without its rest: no layout is longer than that
unfoldable pub filled : List ℕ → List ℕ
filled payload = take 64 payload ++ replicate (64 - length payload) 0

-- a number as so many bytes, the lowest first
unfoldable pub number_bytes : ℕ → ℕ → List ℕ
number_bytes width n = little_bytes width n

-- the bytes of a field's value
abbrev pub value_bytes : Row → Value → List ℕ
value_bytes r (Number n) = number_bytes r.width n
value_bytes r (Bytes bytes) = bytes

-- the bytes of fields one after another; in version 1 without extensions
unfoldable pub wire_bytes : Bool → List Row → List Value → List ℕ
wire_bytes v2 [] vs = []
wire_bytes v2 (r ∷ rs) [] = []
wire_bytes v2 (r ∷ rs) (v ∷ vs) =
    (if not v2 && r.extension then [] else value_bytes r v) ++ wire_bytes v2 rs vs

-- the values of fields without those of extensions, which are 0
abbrev pub plain_values : List Row → List Value → List Value
plain_values [] vs = []
plain_values (r ∷ rs) [] = []
plain_values (r ∷ rs) (v ∷ vs) = (if r.extension then Number 0 else v) ∷ plain_values rs vs

-- the values that arrive: all in version 2, and in version 1 extensions are 0
abbrev pub arriving_values : Bool → List Row → List Value → List Value
arriving_values true rows values = values
arriving_values false rows values = plain_values rows values

-- a value has the form of its row: a number that fits its width, or as many bytes as the array has
abbrev pub Suits : Row → Value → Type 0
Suits r (Number n) = (r.array ≡ 0) × (r.width ≤ 8) × (n < 256 ^ r.width)
Suits r (Bytes bytes) = (0 < r.array) × (length bytes ≡ r.array) × (r.width ≡ 1)

-- there is one value for each row, and it suits the row
abbrev pub Suit : List Row → List Value → Type 0
Suit [] [] = Unit {0}
Suit [] (v ∷ vs) = ⊥
Suit (r ∷ rs) [] = ⊥
Suit (r ∷ rs) (v ∷ vs) = Suits r v × Suit rs vs

-- Bytes without their trailing zeros, but at least one byte.
pub record IsTrimmed (whole bytes : List ℕ) : Type 0 where
  pub zeros : ℕ
  pub whole_is : whole ≡ bytes ++ replicate zeros 0
  pub some : 0 < length bytes
  pub last : (length bytes ≡ 1) ⊎ (slice_index bytes (length bytes - 1) ≢ 0)

-- the payload that is sent: in version 1 whole and without extensions, in version 2 without
-- trailing zeros
abbrev pub IsPayload : Bool → List Row → List Value → List ℕ → Type 0
IsPayload false rows values bytes = bytes ≡ wire_bytes false rows values
IsPayload true rows values bytes = IsTrimmed (wire_bytes true rows values) bytes

-- how many bytes all fields take
abbrev pub total_width : List Row → ℕ
total_width [] = 0
total_width (r ∷ rs) = r.width * max 1 r.array + total_width rs
