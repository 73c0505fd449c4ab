-- Laws of the areas and of line writes.
use Rattle.std.specs.Prelude.{◌≡◌, ◌≢◌, ◌⊎◌, ℕ, ◌+◌, ◌-◌, ◌*◌, ◌/◌, ◌<◌, ◌≤◌, List, length, take, slice_index}
use Rattle.storage_lines.specs.declared.areas.Area.{Area}
use Rattle.storage_lines.specs.declared.lines.LineWrite.{LineWrite}
use Rattle.storage_lines.specs.declared.lines.TheConstants.{STORAGE_BYTES}
use Rattle.storage_lines.specs.Areas.{size_of_area, place_of, logical_of}
use Rattle.storage_lines.specs.Bytes.{IsBytes, HaveBytes, AreInside}
use Rattle.storage_lines.specs.Lines.{after, changes}
use Rattle.storage_lines.specs.Pieces.{writes_of_piece}

-- No two areas share a byte, and no two bytes of an area have one place.
abbrev pub AreasApart : Type 0
AreasApart = (a b : Area) (i j : ℕ) → i < size_of_area a → j < size_of_area b
    → place_of a i ≡ place_of b j → (a ≡ b) × (i ≡ j)

-- new in each line below the border, and old from it on
pub record UpToLine (border : ℕ) (old new bytes : List ℕ) : Type 0 where
  pub size : length bytes ≡ length old
  pub front : (k : ℕ) → k < 8 * border → k < length old → slice_index bytes k ≡ slice_index new k
  pub back : (k : ℕ) → 8 * border ≤ k → k < length old → slice_index bytes k ≡ slice_index old k

-- The writes that turn some bytes into others do so, and each prefix of them does so up to a line.
pub record ChangesInLines : Type 0 where
  pub whole : (old new : List ℕ) → length old ≡ STORAGE_BYTES → length new ≡ STORAGE_BYTES
      → after old (changes old new) ≡ new
  pub each : (old new : List ℕ) (j : ℕ) → length old ≡ STORAGE_BYTES → j ≤ length (changes old new)
      → (border : ℕ) × UpToLine border old new (after old (take j (changes old new)))

-- The first c of some new bytes stand at their logical place, and all others are as before.
pub record HasPut (at : ℕ) (new : List ℕ) (c : ℕ) (old now : List ℕ) : Type 0 where
  pub size : length now ≡ length old
  pub put : (i : ℕ) → i < c → slice_index now (at + i) ≡ slice_index new i
  pub below : (i : ℕ) → i < at → slice_index now i ≡ slice_index old i
  pub behind : (i : ℕ) → at + c ≤ i → slice_index now i ≡ slice_index old i

-- the first c of n bytes are none, or all, or end where a line of the storage does
abbrev pub EndsWithLine : Area → ℕ → ℕ → ℕ → Type 0
EndsWithLine area at n c = (c ≡ 0) ⊎ ((c ≡ n)
    ⊎ ((0 < c) × (c < n) × (place_of area (at + c - 1) / 8 < place_of area (at + c) / 8)))

-- Of the writes of a piece, each prefix puts a prefix of its bytes, up to the end of a line, and
-- all of them put the piece. No other area changes.
pub record PiecesInSteps : Type 0 where
  pub each : (area : Area) (at : ℕ) (new old : List ℕ) (j : ℕ)
      → length old ≡ STORAGE_BYTES → at + length new ≤ size_of_area area
      → j ≤ length (writes_of_piece area at new old)
      → (c : ℕ) × (c ≤ length new) × EndsWithLine area at (length new) c
      × HasPut at new c (logical_of area old)
      (logical_of area (after old (take j (writes_of_piece area at new old))))
  pub whole : (area : Area) (at : ℕ) (new old : List ℕ)
      → length old ≡ STORAGE_BYTES → at + length new ≤ size_of_area area
      → HasPut at new (length new) (logical_of area old)
      (logical_of area (after old (writes_of_piece area at new old)))
  pub others : (area other : Area) (at : ℕ) (new old : List ℕ) (j : ℕ)
      → area ≢ other → length old ≡ STORAGE_BYTES → at + length new ≤ size_of_area area
      → j ≤ length (writes_of_piece area at new old)
      → logical_of other (after old (take j (writes_of_piece area at new old)))
      ≡ logical_of other old

-- The writes of a piece are no more than it has bytes, each of a line of the storage. Those of
-- bytes have bytes, after writes of bytes all are bytes still, and so are those of each area.
pub record PiecesAreLines : Type 0 where
  pub few : (area : Area) (at : ℕ) (new old : List ℕ)
      → length old ≡ STORAGE_BYTES → length (writes_of_piece area at new old) ≤ length new
  pub inside : (area : Area) (at : ℕ) (new old : List ℕ)
      → AreInside (writes_of_piece area at new old)
  pub bytes : (area : Area) (at : ℕ) (new old : List ℕ)
      → IsBytes old → IsBytes new → HaveBytes (writes_of_piece area at new old)
  pub bytes_after : (old : List ℕ) (writes : List LineWrite)
      → IsBytes old → HaveBytes writes → IsBytes (after old writes)
  pub bytes_in_area : (area : Area) (bytes : List ℕ)
      → IsBytes bytes → IsBytes (logical_of area bytes)
