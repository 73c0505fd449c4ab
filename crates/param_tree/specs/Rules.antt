-- What holds of the rows of every table.
use Rattle.std.specs.Prelude.{ℕ, ◌≡◌, ◌≢◌, ◌++◌, ◌-◌, ◌<◌, ◌≤◌, ◌^◌, ◌==◌, ◌&&◌, ◌||◌, nat_lt, nat_le, IsTrue, Bool, true, false, List, length, replicate, All, AllPairs, Any}
use Rattle.std.specs.List.{before_first}
use Rattle.std.specs.Str.{bytes_eq}
use Rattle.word_bits.specs.Pattern.{is_finite}
use Rattle.param_tree.specs.declared.Var.{Var}
use Rattle.param_tree.specs.declared.Kind.{Kind}
use Rattle.param_tree.specs.declared.Kind.TheVariants.{I8, I16, I32, F32, Vec3}

-- a name in its 16 bytes, filled with zeros
abbrev pub name16 : List ℕ → List ℕ
name16 s = s ++ replicate (16 - length s) 0

-- bytes that can be a name: at most 16, and none of them zero
abbrev pub IsName : List ℕ → Type 0
IsName s = (length s ≤ 16) × All (λ b. b ≢ 0) s

-- the name in its 16 bytes: the bytes before the first zero, or all of them where there is none
abbrev pub name_of : Var → List ℕ
name_of v = before_first (λ b. b == 0) v.name

-- the row's name is these bytes
abbrev pub has_name : List ℕ → Var → Bool
has_name n v = bytes_eq (name_of v) n

abbrev pub is_three_floats : Kind → Bool
is_three_floats Vec3 = true
is_three_floats _ = false

-- 32 bits that are a whole number from -half to half - 1 in two's complement
abbrev pub is_whole_pattern : ℕ → ℕ → Bool
is_whole_pattern half d = nat_lt d half
    || (nat_le (0x1_0000_0000 - half) d && nat_lt d 0x1_0000_0000)

-- the 32 bits are a value of the kind
abbrev pub is_value_of : Kind → ℕ → Bool
is_value_of I8 d = is_whole_pattern 0x80 d
is_value_of I16 d = is_whole_pattern 0x8000 d
is_value_of I32 d = is_whole_pattern 0x8000_0000 d
is_value_of F32 d = is_finite d
is_value_of Vec3 d = is_finite d

-- the rows that share a value of the kind: one for each of three floats, else the one
abbrev pub parts_of : Kind → ℕ
parts_of Vec3 = 3
parts_of _ = 1

-- key, element, part and default are in their ranges
abbrev pub row_fits : Var → Bool
row_fits v = (nat_lt v.key 0x200 && nat_lt v.element 0x4_0000)
    && (nat_lt v.part (parts_of v.kind) && is_value_of v.kind v.default)

-- w is the part p of the three floats that v is a part of
abbrev pub is_part : Var → ℕ → Var → Bool
is_part v p w = ((w.key == v.key) && (w.element == v.element))
    && (is_three_floats w.kind && (w.part == p))

-- the rows stand for the same part of the same stored value
abbrev pub SamePlace : Var → Var → Type 0
SamePlace v w = (v.key ≡ w.key) × (v.element ≡ w.element) × (v.part ≡ w.part)

-- what holds of every table: a row's number fits in 16 bits; a name is bytes that are not zero,
-- then only zeros; names differ, and so do the places; the numbers of each row are in their ranges;
-- and where one part of three floats has a row, all three have
pub record IsTable (rows : List Var) : Type 0 where
  pub few : length rows < 2 ^ 16
  pub named : All (λ v. v.name ≡ name16 (name_of v)) rows
  pub sixteen : All (λ v. length v.name ≡ 16) rows
  pub names_differ : AllPairs (λ v w. v.name ≢ w.name) rows
  pub places_differ : AllPairs (λ v w. ¬ SamePlace v w) rows
  pub fitting : All (λ v. IsTrue (row_fits v)) rows
  pub parts_there : All (λ v. IsTrue (is_three_floats v.kind) → (p : ℕ) → p < 3
      → Any (λ w. IsTrue (is_part v p w)) rows) rows
