-- Which numbers a pattern is for a kind.
use Rattle.std.specs.Prelude.{ℕ, ℤ, ◌≡◌, pos, negsuc, ◌≤ℤ◌}
use Rattle.std.specs.Int.{cast_unsigned, w32}
use Rattle.word_bits.specs.Pattern.{IsFinite, IsWhole}
use Rattle.param_tree.specs.declared.Kind.{Kind}
use Rattle.param_tree.specs.declared.Kind.TheVariants.{I8, I16, I32, F32, Vec3}
use Rattle.param_records.specs.declared.values.Value.{Value}
use Rattle.param_records.specs.declared.values.Value.TheVariants.{Whole, Bits}

-- the whole numbers that an integer kind holds
abbrev pub IsInRangeOf : Kind → ℤ → Type 0
IsInRangeOf I8 z = (negsuc 127 ≤ℤ z) × (z ≤ℤ pos 127)
IsInRangeOf I16 z = (negsuc 32767 ≤ℤ z) × (z ≤ℤ pos 32767)
IsInRangeOf I32 z = (negsuc 2147483647 ≤ℤ z) × (z ≤ℤ pos 2147483647)
IsInRangeOf F32 z = ⊥
IsInRangeOf Vec3 z = ⊥

-- two's complement in 32 bits
abbrev pub number_of_whole : ℤ → ℕ
number_of_whole z = cast_unsigned w32 z

-- the pattern is that of a whole number of the kind
abbrev pub IsWholeOf : Kind → ℕ → ℕ → Type 0
IsWholeOf kind bits n = (z : ℤ) × IsInRangeOf kind z × IsWhole bits z × (n ≡ number_of_whole z)

-- the pattern is a value of the kind, kept as this number
abbrev pub IsNumberOf : Kind → ℕ → ℕ → Type 0
IsNumberOf I8 bits n = IsWholeOf I8 bits n
IsNumberOf I16 bits n = IsWholeOf I16 bits n
IsNumberOf I32 bits n = IsWholeOf I32 bits n
IsNumberOf F32 bits n = IsFinite bits × (n ≡ bits)
IsNumberOf Vec3 bits n = IsFinite bits × (n ≡ bits)

-- the whole number of the pattern
abbrev pub IsWholeValue : ℕ → Value → Type 0
IsWholeValue bits v = (z : ℤ) × IsWhole bits z × (v ≡ Whole z)

-- the value that the pattern is for the kind: its whole number, or the pattern itself
abbrev pub IsValueOf : Kind → ℕ → Value → Type 0
IsValueOf I8 bits v = IsWholeValue bits v
IsValueOf I16 bits v = IsWholeValue bits v
IsValueOf I32 bits v = IsWholeValue bits v
IsValueOf F32 bits v = v ≡ Bits bits
IsValueOf Vec3 bits v = v ≡ Bits bits
