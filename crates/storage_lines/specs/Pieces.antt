-- The line writes of a change.
use Rattle.std.specs.Prelude.{ℕ, List, [], ◌∷◌, ◌++◌}
use Rattle.storage_lines.specs.declared.areas.Area.{Area}
use Rattle.storage_lines.specs.declared.lines.LineWrite.{LineWrite}
use Rattle.storage_lines.specs.Areas.{spans_of, put_in}
use Rattle.storage_lines.specs.Lines.{after, changes}

-- The writes that put bytes at a logical place of an area: each line that changes, ascending. A
-- byte that isn't the area's stays as it is.
abbrev pub writes_of_piece : Area → ℕ → List ℕ → List ℕ → List LineWrite
writes_of_piece area at new bytes = changes bytes (put_in (spans_of area) at new bytes)

-- bytes for a logical place of an area
pub record Piece : Type 0 where
  pub area : Area
  pub at : ℕ
  pub bytes : List ℕ

-- the writes of a change, which is a list of pieces: those of each piece over the bytes with the
-- earlier ones applied
abbrev pub writes_of : List ℕ → List Piece → List LineWrite
writes_of bytes [] = []
writes_of bytes (p ∷ pieces) = writes_of_piece p.area p.at p.bytes bytes
    ++ writes_of (after bytes (writes_of_piece p.area p.at p.bytes bytes)) pieces
