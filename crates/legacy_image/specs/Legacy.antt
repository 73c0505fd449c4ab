-- Which lists of bytes are legacy images, of which storage bytes, and where the others fail first.
use Rattle.std.specs.Prelude.{◌≡◌, ◌⊎◌, ℕ, ◌+◌, min, List, ◌++◌, length, slice_index, Bool, true, false, IsTrue, if◌then◌else◌, Option, Ok, Err}
use Rattle.flash_traits.specs.declared.board.Mark.{Mark}
use Rattle.flash_traits.specs.Values.{IsValueUpTo}
use Rattle.sector_log.specs.Entries.{Entry}
use Rattle.sector_log.specs.Bytes.{written_lines}
use Rattle.legacy_image.specs.declared.numbers.TheConstants.{LEGACY_BYTES, MOST_INPUT}
use Rattle.legacy_image.specs.declared.reading.LegacyError.{LegacyError}
use Rattle.legacy_image.specs.declared.reading.LegacyError.TheVariants as errors
use Rattle.legacy_image.specs.Sizes.{IsLegacyLength, sector_0, sector_1}
use Rattle.legacy_image.specs.Heads.{head_in, is_pair, is_full}
use Rattle.legacy_image.specs.Logs.{HasEntries, HasFailure}

-- the sectors begin so, and may stand side by side
pub record HasHeads (input : List ℕ) (a b : Option Mark) : Type 0 where
  pub size : IsLegacyLength (length input)
  pub first : head_in (sector_0 input) ≡ Ok a
  pub second : head_in (sector_1 input) ≡ Ok b
  pub pair : IsTrue (is_pair a b)

-- the entries of both sectors in the order in which they are read: those of a full one first
abbrev pub in_order : Option Mark → List Entry → List Entry → List Entry
in_order b entries_0 entries_1 =
    if is_full b then entries_1 ++ entries_0 else entries_0 ++ entries_1

-- The input is a legacy image, and these are its storage bytes: each line is what the last valid
-- entry that covers it gives it, and zeros where there is none.
pub record IsLegacy (input bytes : List ℕ) : Type 0 where
  pub a : Option Mark
  pub b : Option Mark
  pub heads : HasHeads input a b
  pub entries_0 : List Entry
  pub entries_1 : List Entry
  pub log_0 : HasEntries a (sector_0 input) entries_0
  pub log_1 : HasEntries b (sector_1 input) entries_1
  pub value : IsValueUpTo LEGACY_BYTES (written_lines (in_order b entries_0 entries_1)) bytes

-- The length is none of the four. An input that is longer than the largest image is judged by its
-- first bytes, one more than that image has.
pub record BadLength (input : List ℕ) (len : ℕ) : Type 0 where
  pub shown : len ≡ min (length input) (MOST_INPUT + 1)
  pub bad : ¬ IsLegacyLength (length input)

-- Sector 0 begins with none of the four heads, and this is the halfword that is wrong; or sector 0
-- begins with one and sector 1 with none; or both begin with one, and may not stand side by side:
-- then the halfword is the first one of sector 1.
abbrev pub BadHead : List ℕ → ℕ → ℕ → Type 0
BadHead input sector word =
    ((sector ≡ 0) × (head_in (sector_0 input) ≡ Err word))
    ⊎ ((a : Option Mark) × (sector ≡ 1) × (head_in (sector_0 input) ≡ Ok a)
    × (head_in (sector_1 input) ≡ Err word))
    ⊎ ((a : Option Mark) × (b : Option Mark) × (sector ≡ 1) × (head_in (sector_0 input) ≡ Ok a)
    × (head_in (sector_1 input) ≡ Ok b) × (is_pair a b ≡ false)
    × (word ≡ slice_index (sector_1 input) 0))

-- Of two sectors that are read one after the other, the first one fails here, or it has entries and
-- the second one fails here.
abbrev pub FailsInOrder : ℕ → Option Mark → List ℕ → ℕ → Option Mark → List ℕ → ℕ → ℕ → ℕ → Type 0
FailsInOrder m a first n b second sector place word =
    ((sector ≡ m) × HasFailure a first place word)
    ⊎ ((sector ≡ n) × ((entries : List Entry) × HasEntries a first entries)
    × HasFailure b second place word)

-- the same of both sectors, of which a full one is read first
abbrev pub FailsByOrder : Bool → Option Mark → Option Mark → List ℕ → List ℕ → ℕ → ℕ → ℕ → Type 0
FailsByOrder true a b words_0 words_1 sector place word =
    FailsInOrder 1 b words_1 0 a words_0 sector place word
FailsByOrder false a b words_0 words_1 sector place word =
    FailsInOrder 0 a words_0 1 b words_1 sector place word

-- The sectors begin rightly, and here a log fails first, in the order in which they are read.
pub record BadEntry (input : List ℕ) (sector place word : ℕ) : Type 0 where
  pub a : Option Mark
  pub b : Option Mark
  pub heads : HasHeads input a b
  pub fails : FailsByOrder (is_full b) a b (sector_0 input) (sector_1 input) sector place word

-- why an input is refused
abbrev pub IsRefusedBy : List ℕ → LegacyError → Type 0
IsRefusedBy input errors.Memory = Unit {0}
IsRefusedBy input (errors.Length len) = BadLength input len
IsRefusedBy input (errors.Header sector word) =
    IsLegacyLength (length input) × BadHead input sector word
IsRefusedBy input (errors.Entry sector offset word) = BadEntry input sector offset word
