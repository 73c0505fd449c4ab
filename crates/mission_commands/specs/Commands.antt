-- Which items are commands, and how these are stored.
use Rattle.std.specs.Prelude.{ℕ, ℤ, pos, negsuc, neg_ℤ, unsigned_abs, ◌≤ℤ◌, ◌≡◌, ◌<◌, ◌+◌, ◌-◌, ◌/◌, ◌%◌, ◌^◌, ◌≢◌, ◌==◌, ◌||◌, ◌⊎◌, ◌↔◌, IsTrue, Bool, true, false, if◌then◌else◌, List, [], ◌∷◌, ◌++◌, length, replicate, take, drop, slice_index, Result, MatchResult}
use Rattle.word_bits.specs.Pattern.{IsWhole, IsFinite, IsNearest, IsCentimetres, signed}
use Rattle.storage_lines.specs.Numbers.{bytes_of_number, number_of, unsigned, signed_of}
use Rattle.mission_commands.specs.Table.{row_of}
use Rattle.mission_commands.specs.Rows.{stored_width}
use Rattle.mission_commands.specs.declared.table.Use.{Use}
use Rattle.mission_commands.specs.declared.table.Use.TheVariants.{Unused, Whole, Signed, Pattern}
use Rattle.mission_commands.specs.declared.table.Shape.{Shape}
use Rattle.mission_commands.specs.declared.table.Shape.TheVariants.{Located, Plain, Unlisted}
use Rattle.mission_commands.specs.declared.table.Row.{Row}
use Rattle.mission_commands.specs.declared.commands.Command.{Command}
use Rattle.mission_commands.specs.declared.commands.Item.{Item}

-- the pattern is that of a whole number of the range
pub record IsWithin (low high : ℤ) (bits : ℕ) : Type 0 where
  pub number : ℤ
  pub whole : IsWhole bits number
  pub at_least : low ≤ℤ number
  pub at_most : number ≤ℤ high

-- the parameter with this pattern is allowed
abbrev pub Allows : Use → ℕ → Type 0
Allows Unused bits = Unit {0}
Allows (Whole low high width) bits = IsWithin low high bits
Allows (Signed high width) bits = IsWithin (neg_ℤ high) high bits
Allows Pattern bits = IsFinite bits

-- the bytes are those that are stored of the parameter
abbrev pub StoredAs : Use → ℕ → List ℕ → Type 0
StoredAs Unused bits part = part ≡ []
StoredAs (Whole low high width) bits part =
    (n : ℤ) × (IsWhole bits n) × (part ≡ bytes_of_number width (unsigned width n))
StoredAs (Signed high width) bits part =
    (n : ℤ) × (IsWhole bits n) × (part ≡ bytes_of_number width (unsigned_abs n))
StoredAs Pattern bits part = part ≡ bytes_of_number 4 bits

-- the list, filled with zeros to n bytes
abbrev pub filled_to : ℕ → List ℕ → List ℕ
filled_to n xs = xs ++ replicate (n - length xs) 0

-- where the parameters stand: in the content, or before it, where zeros are thought to follow
abbrev pub parameter_bytes : Shape → Command → List ℕ
parameter_bytes Located c = bytes_of_number 12 c.p1
parameter_bytes Plain c = c.content
parameter_bytes Unlisted c = bytes_of_number 12 c.p1

-- the bytes are those of the parameters that are stored, in order, and then zeros
pub record IsPacked (row : Row) (item : Item) (bytes : List ℕ) : Type 0 where
  pub first : List ℕ
  pub second : List ℕ
  pub third : List ℕ
  pub fourth : List ℕ
  pub stored1 : StoredAs row.param1 item.param1 first
  pub stored2 : StoredAs row.param2 item.param2 second
  pub stored3 : StoredAs row.param3 item.param3 third
  pub stored4 : StoredAs row.param4 item.param4 fourth
  pub together : bytes ≡ filled_to 12 (first ++ second ++ third ++ fourth)

-- the frames of a location: over the sea, over home, over the ground
abbrev pub is_location_frame : ℕ → Bool
is_location_frame f = (f == 0) || (f == 5) || (f == 3) || (f == 6) || (f == 10) || (f == 11)

-- which frames a command may have: one without a location also 2, the mission frame
abbrev pub is_frame : Shape → ℕ → Bool
is_frame Located f = is_location_frame f
is_frame Plain f = is_location_frame f || (f == 2)
is_frame Unlisted f = false

-- the command has a location
abbrev pub has_location : Shape → Bool
has_location Located = true
has_location Plain = false
has_location Unlisted = false

-- bit 0 for a height over home or the ground, bit 1 for one over the ground
abbrev pub frame_flags : ℕ → ℕ
frame_flags f = if (f == 0) || (f == 5) then 0 else (if (f == 3) || (f == 6) then 1 else 3)

-- bit 2, for a negative number whose magnitude is stored
abbrev pub sign_flag : Bool → ℕ
sign_flag true = 4
sign_flag false = 0

-- the number whose magnitude is stored is negative
abbrev pub IsBelowZero : Use → ℕ → Type 0
IsBelowZero Unused bits = ⊥
IsBelowZero (Whole low high width) bits = ⊥
IsBelowZero (Signed high width) bits = (m : ℕ) × IsWhole bits (negsuc m)
IsBelowZero Pattern bits = ⊥

-- up to 90 and 180 degrees, in 1e-7 degree
abbrev pub IsLatitude : ℤ → Type 0
IsLatitude x = (negsuc 899999999 ≤ℤ x) × (x ≤ℤ pos 900000000)

abbrev pub IsLongitude : ℤ → Type 0
IsLongitude y = (negsuc 1799999999 ≤ℤ y) × (y ≤ℤ pos 1800000000)

-- the height is stored as this many centimetres
abbrev pub IsAltitude : ℕ → ℤ → Type 0
IsAltitude z k = IsCentimetres k × IsNearest z k 100

-- the bytes of a location: the flags, the altitude, the latitude and the longitude
abbrev pub location_of : ℕ → ℤ → ℤ → ℤ → List ℕ
location_of flags altitude x y =
    (flags ∷ []) ++ bytes_of_number 3 (unsigned 3 altitude)
    ++ bytes_of_number 4 (unsigned 4 x) ++ bytes_of_number 4 (unsigned 4 y)

-- The content is that of a location: the flags of the frame and of a negative number, the altitude
-- in centimetres, latitude and longitude.
pub record IsLocation (row : Row) (item : Item) (content : List ℕ) : Type 0 where
  pub negative : Bool
  pub sign : IsTrue negative ↔ IsBelowZero row.param3 item.param3
  pub altitude : ℤ
  pub nearest : IsAltitude item.z altitude
  pub bytes :
      content ≡ location_of (frame_flags item.frame + sign_flag negative) altitude item.x item.y

-- what is stored beside the parameters: a location, or no bytes before the content
abbrev pub IsRest : Shape → Item → Command → Type 0
IsRest Located item c = IsLocation (row_of item.command) item c.content
IsRest Plain item c = c.p1 ≡ 0
IsRest Unlisted item c = ⊥

-- the command is what is stored of the item
pub record IsStored (item : Item) (c : Command) : Type 0 where
  pub id : c.id ≡ item.command
  pub p1 : c.p1 < 2 ^ 16
  pub params : IsPacked (row_of item.command) item (parameter_bytes (row_of item.command).shape c)
  pub rest : IsRest (row_of item.command).shape item c

-- what an item has to meet to be stored
pub data Rule : Type 0 where
  Listed : Rule
  Framed : Rule
  Param1 : Rule
  Param2 : Rule
  Param3 : Rule
  Param4 : Rule
  Latitude : Rule
  Longitude : Rule
  Altitude : Rule

-- a fact of a command that has a location
abbrev pub IfLocated : Shape → Type 0 → Type 0
IfLocated Located P = P
IfLocated Plain P = Unit {0}
IfLocated Unlisted P = Unit {0}

-- the command is one of the table
abbrev pub IsListed : Shape → Type 0
IsListed Located = Unit {0}
IsListed Plain = Unit {0}
IsListed Unlisted = ⊥

-- the item meets this rule
abbrev pub Meets : Item → Row → Rule → Type 0
Meets item row Listed = IsListed row.shape
Meets item row Framed = IsTrue (is_frame row.shape item.frame)
Meets item row Param1 = Allows row.param1 item.param1
Meets item row Param2 = Allows row.param2 item.param2
Meets item row Param3 = Allows row.param3 item.param3
Meets item row Param4 = Allows row.param4 item.param4
Meets item row Latitude = IfLocated row.shape (IsLatitude item.x)
Meets item row Longitude = IfLocated row.shape (IsLongitude item.y)
Meets item row Altitude = IfLocated row.shape ((k : ℤ) × IsAltitude item.z k)

-- the answer where a rule is the first that is not met
abbrev pub answer_of : Rule → ℕ
answer_of Listed = 3
answer_of Framed = 2
answer_of Param1 = 6
answer_of Param2 = 7
answer_of Param3 = 8
answer_of Param4 = 9
answer_of Latitude = 10
answer_of Longitude = 11
answer_of Altitude = 12

-- in the order in which they are tried
abbrev pub param_rules : List Rule
param_rules = Param1 ∷ Param2 ∷ Param3 ∷ Param4 ∷ []

abbrev pub location_rules : List Rule
location_rules = Latitude ∷ Longitude ∷ Altitude ∷ []

abbrev pub item_rules : List Rule
item_rules =
    Listed ∷ Framed ∷ Param1 ∷ Param2 ∷ Param3 ∷ Param4 ∷ Latitude ∷ Longitude ∷ Altitude ∷ []

-- it meets all of these
abbrev pub MeetsAll : (Rule → Type 0) → List Rule → Type 0
MeetsAll meets [] = Unit {0}
MeetsAll meets (r ∷ rs) = meets r × MeetsAll meets rs

-- the answer is that of the first rule that is not met
abbrev pub FailsWith : (Rule → Type 0) → List Rule → ℕ → Type 0
FailsWith meets [] e = ⊥
FailsWith meets (r ∷ rs) e =
    ((¬ meets r) × (e ≡ answer_of r)) ⊎ (meets r × FailsWith meets rs e)

-- the rules are met and the value is right, or the first that is not met gives the answer
abbrev pub IsTested :
    {A : Type 0} → (Rule → Type 0) → List Rule → (A → Type 0) → Result A ℕ → Type 0
IsTested meets rules P r =
    MatchResult r (λ v. MeetsAll meets rules × P v) (λ e. FailsWith meets rules e)

-- the bytes from a place on
abbrev pub part_at : ℕ → ℕ → List ℕ → List ℕ
part_at start width bytes = take width (drop start bytes)

-- the pattern that stands for the whole number; that of 0 has no sign
abbrev pub IsPatternOfWhole : ℤ → ℕ → Type 0
IsPatternOfWhole n bits = IsNearest bits n 1 × (bits ≢ 2 ^ 31)

-- a stored whole number, which has a sign where its range has
abbrev pub whole_in : ℤ → ℕ → ℕ → ℤ
whole_in (pos low) width n = pos n
whole_in (negsuc low) width n = signed_of width n

-- the pattern is that of a parameter stored in these bytes
abbrev pub IsParam : Use → Bool → List ℕ → ℕ → Type 0
IsParam Unused negative part bits = bits ≡ 0
IsParam (Whole low high width) negative part bits =
    IsPatternOfWhole (whole_in low width (number_of part)) bits
IsParam (Signed high width) negative part bits =
    IsPatternOfWhole (signed negative (number_of part)) bits
IsParam Pattern negative part bits = bits ≡ number_of part

-- the item's parameters are those of the bytes
pub record IsUnpacked (row : Row) (negative : Bool) (bytes : List ℕ) (item : Item) : Type 0 where
  pub param1 : IsParam row.param1 negative (part_at 0 (stored_width row.param1) bytes) item.param1
  pub param2 : IsParam row.param2 negative
      (part_at (stored_width row.param1) (stored_width row.param2) bytes) item.param2
  pub param3 : IsParam row.param3 negative
      (part_at (stored_width row.param1 + stored_width row.param2) (stored_width row.param3) bytes)
      item.param3
  pub param4 : IsParam row.param4 negative
      (part_at (stored_width row.param1 + stored_width row.param2 + stored_width row.param3)
      (stored_width row.param4) bytes) item.param4

-- the frame that the flags of a location give
abbrev pub frame_with : ℕ → ℕ
frame_with flags = if ((flags / 2) % 2) == 1 then 10 else (if (flags % 2) == 1 then 3 else 0)

-- where an item is
pub record IsPlaceOf (shape : Shape) (content : List ℕ) (frame : ℕ) (x y : ℤ) (z : ℕ)
    : Type 0 where
  pub frame_is : frame ≡ (if has_location shape then frame_with (slice_index content 0) else 2)
  pub x_is :
      x ≡ (if has_location shape then signed_of 4 (number_of (part_at 4 4 content)) else pos 0)
  pub y_is :
      y ≡ (if has_location shape then signed_of 4 (number_of (part_at 8 4 content)) else pos 0)
  pub z_is : IsNearest z
      (if has_location shape then signed_of 3 (number_of (part_at 1 3 content)) else pos 0) 100
  pub no_minus_zero : z ≢ 2 ^ 31

-- whether the flags say that a magnitude is that of a negative number
abbrev pub has_sign : List ℕ → Bool
has_sign content = ((slice_index content 0 / 4) % 2) == 1

-- the item is what a stored command is sent as
pub record IsItemOf (c : Command) (seq : ℕ) (item : Item) : Type 0 where
  pub seq_is : item.seq ≡ seq
  pub command_is : item.command ≡ c.id
  pub current_is : item.current ≡ 0
  pub autocontinue_is : item.autocontinue ≡ 1
  pub params :
      IsUnpacked (row_of c.id) (has_sign c.content) (parameter_bytes (row_of c.id).shape c) item
  pub place : IsPlaceOf (row_of c.id).shape c.content item.frame item.x item.y item.z
