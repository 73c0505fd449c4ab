-- Line writes, and the bytes after them.
use Rattle.std.specs.Prelude.{ℕ, zero, suc, ◌≤◌, ◌*◌, ◌/◌, ◌%◌, ◌==◌, List, [], ◌∷◌, ◌++◌, length, take, drop, slice_index, if◌then◌else◌}
use Rattle.std.specs.List.{fold}
use Rattle.std.specs.Str.{bytes_eq}
use Rattle.storage_lines.specs.declared.lines.LineWrite.{LineWrite}
use Rattle.storage_lines.specs.declared.lines.TheConstants.{LINES}
use Rattle.storage_lines.specs.Areas.{listed}

-- the bytes with those of the line replaced
abbrev pub put_line : List ℕ → LineWrite → List ℕ
put_line bytes w =
    listed (length bytes)
    (λ k. if (k / 8) == w.line then slice_index w.bytes (k % 8) else slice_index bytes k)

-- the bytes after the writes, one after the other
abbrev pub after : List ℕ → List LineWrite → List ℕ
after bytes writes = fold put_line bytes writes

-- a property of the bytes after each prefix of the writes, none and all included
abbrev pub EachPrefix : (List ℕ → Type 0) → List ℕ → List LineWrite → Type 0
EachPrefix P bytes writes = (j : ℕ) → j ≤ length writes → P (after bytes (take j writes))

-- the eight bytes of a line
abbrev pub line_of : List ℕ → ℕ → List ℕ
line_of bytes line = take 8 (drop (8 * line) bytes)

-- the line's write, where its eight bytes differ
abbrev pub line_change : ℕ → List ℕ → List ℕ → List LineWrite
line_change line before now = if bytes_eq (line_of before line) (line_of now line) then []
    else record { line = line; bytes = line_of now line } ∷ []

-- the writes of the lines below n whose bytes differ, ascending
unfoldable pub changes_below : ℕ → List ℕ → List ℕ → List LineWrite
changes_below zero before now = []
changes_below (suc n) before now = changes_below n before now ++ line_change n before now

-- the writes that turn some storage bytes into others: each line whose eight bytes differ,
-- ascending
abbrev pub changes : List ℕ → List ℕ → List LineWrite
changes before now = changes_below LINES before now
