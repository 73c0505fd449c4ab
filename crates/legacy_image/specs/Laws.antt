-- Laws of legacy images.
use Rattle.std.specs.Prelude.{◌≡◌, ◌≢◌, ◌⊎◌, ◌↔◌, ℕ, ◌<◌, List, length, slice_index}
use Rattle.legacy_image.specs.declared.numbers.TheConstants.{LEGACY_BYTES}
use Rattle.legacy_image.specs.declared.reading.LegacyError.{LegacyError}
use Rattle.legacy_image.specs.declared.reading.LegacyError.TheVariants as errors
use Rattle.legacy_image.specs.Sizes.{IsLegacySectorSize}
use Rattle.legacy_image.specs.Legacy.{IsLegacy, IsRefusedBy}
use Rattle.legacy_image.specs.Made.{IsMade}

-- the input is a legacy image of some storage bytes
abbrev pub IsSomeLegacy : List ℕ → Type 0
IsSomeLegacy input = (bytes : List ℕ) × IsLegacy input bytes

-- the input is refused, and not for want of memory
abbrev pub IsRefused : List ℕ → Type 0
IsRefused input = (e : LegacyError) × (e ≢ errors.Memory) × IsRefusedBy input e

-- An input is a legacy image of one list of storage bytes or is refused for one reason, and never
-- both.
pub record OneReading : Type 0 where
  pub either : (input : List ℕ) → IsSomeLegacy input ⊎ IsRefused input
  pub never_both : (input : List ℕ) → IsSomeLegacy input → IsRefused input → ⊥
  pub bytes : (input a b : List ℕ) → IsLegacy input a → IsLegacy input b → a ≡ b
  pub refusal : (input : List ℕ) (d e : LegacyError) → d ≢ errors.Memory → e ≢ errors.Memory
      → IsRefusedBy input d → IsRefusedBy input e → d ≡ e

-- the bytes of a storage, of which a legacy image with sectors of this size is made
pub record HasImage (storage : List ℕ) (sector_bytes : ℕ) : Type 0 where
  pub size : IsLegacySectorSize sector_bytes
  pub whole : length storage ≡ LEGACY_BYTES
  pub small : (k : ℕ) → slice_index storage k < 256

-- What is made of storage bytes is read as these bytes and as no others.
abbrev pub RoundTrip : Type 0
RoundTrip = (storage image : List ℕ) (sector_bytes : ℕ) → HasImage storage sector_bytes
    → IsMade storage sector_bytes image
    → (read : List ℕ) → IsLegacy image read ↔ (read ≡ storage)
