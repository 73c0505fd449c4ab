-- The log of a sector of a legacy image: its entries, or the first place where it fails.
use Rattle.std.specs.Prelude.{◌≡◌, ℕ, ◌+◌, ◌≤◌, List, [], ◌++◌, length, drop, All, Option, Some, None}
use Rattle.flash_traits.specs.declared.board.Mark.{Mark}
use Rattle.flash_traits.specs.declared.board.Mark.TheVariants.{Available, InUse, Full}
use Rattle.flash_traits.specs.declared.numbers.TheConstants.{ERASED}
use Rattle.flash_traits.specs.Words.{FirstOther}
use Rattle.sector_log.specs.Entries.{Entry, IsEntry, entry_words, words_of_entries}
use Rattle.legacy_image.specs.declared.numbers.TheConstants.{LEGACY_LINES}

-- an entry whose lines a legacy image has
pub record IsLegacyEntry (e : Entry) : Type 0 where
  pub entry : IsEntry e
  pub inside : e.header.line + e.header.lines ≤ LEGACY_LINES

-- no such entry stands at the front of these halfwords
abbrev pub NoLegacyEntry : List ℕ → Type 0
NoLegacyEntry words =
    (e : Entry) (more : List ℕ) → IsLegacyEntry e → words ≡ entry_words e ++ more → ⊥

-- behind the first two halfwords stand these entries, and then only FFFF
pub record IsLog (words : List ℕ) (entries : List Entry) : Type 0 where
  pub rest : List ℕ
  pub whole : drop 2 words ≡ words_of_entries entries ++ rest
  pub each : All IsLegacyEntry entries
  pub erased : All (λ word. word ≡ ERASED) rest

-- Behind the entries stands a halfword other than FFFF: one that begins no entry, or one behind a
-- FFFF.
pub record FailsAt (words : List ℕ) (place word : ℕ) : Type 0 where
  pub entries : List Entry
  pub rest : List ℕ
  pub erased : ℕ
  pub whole : drop 2 words ≡ words_of_entries entries ++ rest
  pub each : All IsLegacyEntry entries
  pub last : NoLegacyEntry rest
  pub other : FirstOther rest erased word
  pub at : place ≡ 2 + length (words_of_entries entries) + erased

-- the entries of a sector that begins so: a blank or available one is read no further
abbrev pub HasEntries : Option Mark → List ℕ → List Entry → Type 0
HasEntries None words entries = entries ≡ []
HasEntries (Some Available) words entries = entries ≡ []
HasEntries (Some InUse) words entries = IsLog words entries
HasEntries (Some Full) words entries = IsLog words entries

-- the first place where the log of a sector that begins so fails
abbrev pub HasFailure : Option Mark → List ℕ → ℕ → ℕ → Type 0
HasFailure None words place word = ⊥
HasFailure (Some Available) words place word = ⊥
HasFailure (Some InUse) words place word = FailsAt words place word
HasFailure (Some Full) words place word = FailsAt words place word
