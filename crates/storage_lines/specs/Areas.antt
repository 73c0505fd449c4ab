-- The areas of the storage, and the places of their bytes.
use Rattle.std.specs.Prelude.{ℕ, zero, suc, ◌≤◌, ◌+◌, ◌-◌, List, [], ◌∷◌, ◌++◌, if◌then◌else◌, nat_lt, slice_index, slice_set}
use Rattle.storage_lines.specs.declared.areas.Area.{Area}
use Rattle.storage_lines.specs.declared.areas.Area.TheVariants.{Param, Mission, Rally, Fence, Keys, Bind}
use Rattle.storage_lines.specs.declared.areas.Span.{Span}
use Rattle.storage_lines.specs.declared.areas.Spans.{Spans}
use Rattle.storage_lines.specs.declared.lines.TheConstants.{STORAGE_BYTES}

-- a run of bytes: where it starts, and how many bytes it has
abbrev pub span : ℕ → ℕ → Span
span start size = record { start = start; size = size }

-- no bytes
abbrev pub no_span : Span
no_span = span STORAGE_BYTES 0

-- three spans, in the order of their logical places
abbrev pub spans : Span → Span → Span → Spans
spans a b c = record { first = a; second = b; third = c }

-- Where each area's bytes lie: up to three spans, in the order of their logical places. Bytes 8184
-- to 8191 belong to no area.
abbrev pub spans_of : Area → Spans
spans_of Param = spans (span 0 1280) (span 4096 1280) (span 8192 7168)
spans_of Mission = spans (span 1280 2506) (span 5932 2132) no_span
spans_of Rally = spans (span 3786 150) (span 5376 300) no_span
spans_of Fence = spans (span 3936 160) (span 5676 256) no_span
spans_of Keys = spans (span 8064 64) no_span no_span
spans_of Bind = spans (span 8128 56) no_span no_span

-- the spans lie inside the storage, each after the one before it
pub record IsAscending (p : Spans) : Type 0 where
  pub first : p.first.start + p.first.size ≤ p.second.start
  pub second : p.second.start + p.second.size ≤ p.third.start
  pub third : p.third.start + p.third.size ≤ STORAGE_BYTES

-- how many bytes the spans have together
abbrev pub total_size : Spans → ℕ
total_size p = p.first.size + p.second.size + p.third.size

-- the place in the storage of the byte with this logical place: logical places run through the
-- spans in their order
abbrev pub place_in : Spans → ℕ → ℕ
place_in p i = if nat_lt i p.first.size then p.first.start + i
    else (if nat_lt i (p.first.size + p.second.size) then p.second.start + (i - p.first.size)
    else p.third.start + (i - p.first.size - p.second.size))

-- how many bytes an area has
abbrev pub size_of_area : Area → ℕ
size_of_area area = total_size (spans_of area)

-- the place in the storage of an area's byte
abbrev pub place_of : Area → ℕ → ℕ
place_of area i = place_in (spans_of area) i

-- f 0, f 1 and so on, n of them
unfoldable pub listed : ℕ → (ℕ → ℕ) → List ℕ
listed zero f = []
listed (suc n) f = listed n f ++ f n ∷ []

-- the bytes of an area, in the order of their logical places
abbrev pub logical_of : Area → List ℕ → List ℕ
logical_of area bytes = listed (size_of_area area) (λ i. slice_index bytes (place_of area i))

-- the storage with these bytes at a logical place of the spans
abbrev pub put_in : Spans → ℕ → List ℕ → List ℕ → List ℕ
put_in p at [] bytes = bytes
put_in p at (x ∷ xs) bytes = slice_set (put_in p (at + 1) xs bytes) (place_in p at) x
