-- The sizes of a legacy image.
use Rattle.std.specs.Prelude.{◌≡◌, ◌⊎◌, ℕ, ◌*◌, ◌/◌, List, length, take, drop}
use Rattle.flash_traits.specs.Words.{halfwords_of}

-- one of the four sizes of a legacy image's sector
abbrev pub IsLegacySectorSize : ℕ → Type 0
IsLegacySectorSize n = (n ≡ 16384) ⊎ (n ≡ 32768) ⊎ (n ≡ 65536) ⊎ (n ≡ 131072)

-- two sectors of one of these sizes, without a guard row
abbrev pub IsLegacyLength : ℕ → Type 0
IsLegacyLength n =
    (sector_bytes : ℕ) × IsLegacySectorSize sector_bytes × (n ≡ 2 * sector_bytes)

-- the halfwords of each sector
abbrev pub sector_0 : List ℕ → List ℕ
sector_0 input = halfwords_of (take (length input / 2) input)

abbrev pub sector_1 : List ℕ → List ℕ
sector_1 input = halfwords_of (drop (length input / 2) input)
