-- What each sector of a legacy image begins with, and which two may stand side by side.
use Rattle.std.specs.Prelude.{ℕ, List, Bool, true, false, not, ◌==◌, ◌||◌, if◌then◌else◌, slice_index, Option, Some, None, Result, Ok, Err}
use Rattle.flash_traits.specs.declared.board.Mark.{Mark}
use Rattle.flash_traits.specs.declared.board.Mark.TheVariants.{Available, InUse, Full}
use Rattle.flash_traits.specs.declared.numbers.TheConstants.{ERASED, SIGNATURE}
use Rattle.flash_traits.specs.Marks.{mark_word}

-- the sector is what it may be by its first halfword, where its second one is as it should be; else
-- the second one is wrong
abbrev pub head_by : Option Mark → ℕ → ℕ → Result (Option Mark) ℕ
head_by head wanted second = if second == wanted then Ok head else Err second

-- A sector is blank, here None, or has a mark with 5168 behind it. Otherwise the first of its two
-- halfwords that is wrong.
abbrev pub head_of : ℕ → ℕ → Result (Option Mark) ℕ
head_of first second = if first == ERASED then head_by None ERASED second
    else (if first == mark_word Available then head_by (Some Available) SIGNATURE second
    else (if first == mark_word InUse then head_by (Some InUse) SIGNATURE second
    else (if first == mark_word Full then head_by (Some Full) SIGNATURE second
    else Err first)))

abbrev pub head_in : List ℕ → Result (Option Mark) ℕ
head_in words = head_of (slice_index words 0) (slice_index words 1)

-- entries stand behind this head
abbrev pub has_log : Option Mark → Bool
has_log None = false
has_log (Some Available) = false
has_log (Some InUse) = true
has_log (Some Full) = true

abbrev pub is_full : Option Mark → Bool
is_full None = false
is_full (Some Available) = false
is_full (Some InUse) = false
is_full (Some Full) = true

-- a sector in use beside one without entries, or a full one beside any that isn't full
abbrev pub goes_beside : Option Mark → Option Mark → Bool
goes_beside None other = false
goes_beside (Some Available) other = false
goes_beside (Some InUse) other = not (has_log other)
goes_beside (Some Full) other = not (is_full other)

abbrev pub is_pair : Option Mark → Option Mark → Bool
is_pair a b = goes_beside a b || goes_beside b a
