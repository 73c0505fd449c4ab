-- The legacy image that is made of storage bytes.
use Rattle.std.specs.Prelude.{◌≡◌, ℕ, zero, suc, ◌*◌, ◌/◌, List, [], ◌∷◌, ◌++◌, length, take, drop, replicate, Bool, if◌then◌else◌}
use Rattle.std.specs.Str.{bytes_eq}
use Rattle.flash_traits.specs.declared.board.Mark.TheVariants.{Available, InUse}
use Rattle.flash_traits.specs.Words.{halfwords_of}
use Rattle.sector_log.specs.Entries.{Entry}
use Rattle.sector_log.specs.Sector.{IsSector}
use Rattle.legacy_image.specs.declared.numbers.TheConstants.{LEGACY_LINES}
use Rattle.legacy_image.specs.Sizes.{sector_0, sector_1}

-- the chunks of a legacy image's storage, of eight lines each
abbrev pub legacy_chunks : ℕ
legacy_chunks = LEGACY_LINES / 8

-- the 64 bytes of a chunk
abbrev pub chunk_of : List ℕ → ℕ → List ℕ
chunk_of bytes c = take 64 (drop (64 * c) bytes)

-- it is all zeros
abbrev pub is_zero_chunk : List ℕ → ℕ → Bool
is_zero_chunk bytes c = bytes_eq (chunk_of bytes c) (replicate 64 0)

-- the valid entry of eight lines with a chunk's bytes
abbrev pub chunk_entry : List ℕ → ℕ → Entry
chunk_entry bytes c = record {
  header = record { state = 0; line = 8 * c; lines = 8 };
  content = halfwords_of (chunk_of bytes c);
}

-- no entry where the chunk is all zeros
abbrev pub entry_in : List ℕ → ℕ → List Entry
entry_in bytes c = if is_zero_chunk bytes c then [] else chunk_entry bytes c ∷ []

-- the entries of the first chunks, ascending
unfoldable pub entries_below : ℕ → List ℕ → List Entry
entries_below zero bytes = []
entries_below (suc c) bytes = entries_below c bytes ++ entry_in bytes c

-- Sector 0 is in use with these entries, sector 1 is available, and all other halfwords are FFFF.
pub record IsMade (bytes : List ℕ) (sector_bytes : ℕ) (image : List ℕ) : Type 0 where
  pub size : length image ≡ 2 * sector_bytes
  pub first : IsSector (sector_0 image) InUse (entries_below legacy_chunks bytes)
  pub second : IsSector (sector_1 image) Available []
