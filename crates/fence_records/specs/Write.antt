-- The writes of a fence.
use Rattle.std.specs.Prelude.{ℕ, List, [], ◌∷◌, ◌++◌, take, drop}
use Rattle.std.specs.List.{flat_map}
use Rattle.storage_lines.specs.declared.areas.Area.TheVariants.{Fence}
use Rattle.storage_lines.specs.declared.lines.LineWrite.{LineWrite}
use Rattle.storage_lines.specs.Areas.{logical_of, put_in, spans_of}
use Rattle.storage_lines.specs.Lines.{changes}
use Rattle.fence_records.specs.Fence.{Figure, record_of, fence_version}

-- the bytes of the fence's area
abbrev pub fence_area : List ℕ → List ℕ
fence_area bytes = logical_of Fence bytes

-- the version, the records and the end mark
abbrev pub encoded : List Figure → List ℕ
encoded figures = fence_version ++ flat_map record_of figures ++ 99 ∷ []

-- the storage without a fence: an end behind the version
abbrev pub without_fence : List ℕ → List ℕ
without_fence bytes = put_in (spans_of Fence) 0 (fence_version ++ 99 ∷ []) bytes

-- all lines but the first are those of the new fence
abbrev pub with_records : List ℕ → List ℕ → List ℕ
with_records new bytes = put_in (spans_of Fence) 8 (drop 8 new) (without_fence bytes)

-- and the first line too
abbrev pub with_fence : List ℕ → List ℕ → List ℕ
with_fence new bytes = put_in (spans_of Fence) 0 (take 8 new) (with_records new bytes)

-- the lines that change, in these three steps
abbrev pub fence_writes : List ℕ → List ℕ → List LineWrite
fence_writes new bytes =
    changes bytes (without_fence bytes)
    ++ (changes (without_fence bytes) (with_records new bytes)
    ++ changes (with_records new bytes) (with_fence new bytes))
