-- Numbers among the words, and words that come once.
use Rattle.std.specs.Prelude.{◌&&◌, ℕ, Bool, List, [], ◌∷◌, Option, Some, None, length, nat_le}
use Rattle.std.specs.Prelude.{nat_lt, if◌then◌else◌}
use Rattle.std.specs.Str.{all_ascii_digits}
use Rattle.std.specs.Str.Parse.{digits_value}
use Rattle.command_line.specs.Arguments.{Text}

-- one to ten ASCII digits whose decimal value is from `low` to `high`; zeros may lead
abbrev pub is_number_in : ℕ → ℕ → Text → Bool
is_number_in low high text =
    nat_lt 0 (length text) && (nat_le (length text) 10 && (all_ascii_digits text
    && (nat_le low (digits_value 10 text) && nat_le (digits_value 10 text) high)))

-- the number that the text is, if it is one in the range
unfoldable pub number_in : ℕ → ℕ → Text → Option ℕ
number_in low high text = if is_number_in low high text then Some (digits_value 10 text) else None

-- The number of an option that was given these values: `absent` where it was not given, and none
-- where it was given twice.
abbrev pub number_given : ℕ → ℕ → ℕ → List Text → Option ℕ
number_given low high absent [] = Some absent
number_given low high absent (v ∷ []) = number_in low high v
number_given low high absent (v ∷ w ∷ rest) = None

-- the text, where there is exactly one
abbrev pub only_text : List Text → Option Text
only_text (v ∷ []) = Some v
only_text _ = None
