-- What private steps say: of the walk over a sector, entry after entry, and of pushed entries.
use Rattle.std.specs.Prelude.{◌≡◌, ◌≢◌, ◌≤◌, ◌<◌, ℕ, ◌+◌, ◌*◌, ◌/◌, List, ◌++◌, length, drop, slice_index, All, Option}
use Rattle.flash_traits.specs.declared.board.Mark.{Mark}
use Rattle.flash_traits.specs.declared.numbers.TheConstants.{ERASED}
use Rattle.flash_traits.specs.Words.{FirstOther, halfwords_of}
use Rattle.sector_log.specs.declared.header.Header.{Header}
use Rattle.sector_log.specs.Header.{IsLawful, header_word}
use Rattle.sector_log.specs.Entries.{Entry, entry_words, words_of_entries}
use Rattle.sector_log.specs.Bytes.{apply, applied}
use Rattle.legacy_image.specs.declared.numbers.TheConstants.{LEGACY_LINES}
use Rattle.legacy_image.specs.declared.reading.LegacyError.{LegacyError}
use Rattle.legacy_image.specs.declared.reading.LegacyError.TheVariants as errors
use Rattle.legacy_image.specs.Logs.{IsLegacyEntry, NoLegacyEntry, HasEntries}
use Rattle.legacy_image.specs.Legacy.{in_order}

-- the bytes of a sector: whole halfwords, two at least, and no more than the largest sector has
pub record IsWholeSector (bytes : List ℕ) : Type 0 where
  pub even : length bytes ≡ 2 * (length bytes / 2)
  pub some : 4 ≤ length bytes
  pub most : length bytes ≤ 131072

-- the header of a legacy image's entry stands here, and the entry fits
pub record IsHeaderAt (bytes : List ℕ) (at : ℕ) (header : Header) : Type 0 where
  pub lawful : IsLawful header
  pub inside : header.line + header.lines ≤ LEGACY_LINES
  pub word : header_word header ≡ slice_index (halfwords_of bytes) at
  pub fits : 2 * at + 2 + 8 * header.lines ≤ length bytes

-- an entry stands between two offsets, and the bytes are those before with it
pub record AddsEntry (words : List ℕ) (at end : ℕ) (before after : List ℕ) (e : Entry)
    : Type 0 where
  pub entry : IsLegacyEntry e
  pub here : drop at words ≡ entry_words e ++ drop end words
  pub behind : end ≡ at + length (entry_words e)
  pub bytes : after ≡ apply before e

-- a halfword at this place that isn't FFFF, and with which no entry begins
pub record BadHere (words : List ℕ) (at place word : ℕ) : Type 0 where
  pub here : place ≡ at
  pub within : at < length words
  pub is : word ≡ slice_index words at
  pub other : word ≢ ERASED
  pub none : NoLegacyEntry (drop at words)

-- these entries were read behind the first two halfwords, up to this offset
pub record Walked (words : List ℕ) (at : ℕ) (before after : List ℕ) (entries : List Entry)
    : Type 0 where
  pub whole : drop 2 words ≡ words_of_entries entries ++ drop at words
  pub each : All IsLegacyEntry entries
  pub end : at ≡ 2 + length (words_of_entries entries)
  pub bytes : after ≡ applied before entries

-- from this offset on, the first halfword that isn't FFFF
abbrev pub IsFirstOther : List ℕ → ℕ → ℕ → ℕ → Type 0
IsFirstOther words from place word =
    (n : ℕ) × (place ≡ from + n) × FirstOther (drop from words) n word

-- the error is of an entry, with this sector, offset and halfword
abbrev pub IsEntryError : (ℕ → ℕ → ℕ → Type 0) → LegacyError → Type 0
IsEntryError P errors.Memory = ⊥
IsEntryError P (errors.Length len) = ⊥
IsEntryError P (errors.Header sector word) = ⊥
IsEntryError P (errors.Entry sector offset word) = P sector offset word

-- both sectors were read, a full one first
pub record AreRead (a b : Option Mark) (words_0 words_1 before after : List ℕ) : Type 0 where
  pub entries_0 : List Entry
  pub entries_1 : List Entry
  pub log_0 : HasEntries a words_0 entries_0
  pub log_1 : HasEntries b words_1 entries_1
  pub bytes : after ≡ applied before (in_order b entries_0 entries_1)

-- the header halfword of a valid entry of a chunk's eight lines
abbrev pub entry_head : ℕ → ℕ
entry_head c = 0xE000 + 32 * c
