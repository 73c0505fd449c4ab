-- Chunks of 64 bytes, and the room rule: what is left to copy has room in the other sector.
use Rattle.std.specs.Prelude.{ℕ, zero, suc, ◌+◌, ◌*◌, ◌/◌, ◌%◌, List, take, drop, Bool, false, not, ◌&&◌, ◌||◌, ◌==◌, nat_le, if◌then◌else◌, ◌++◌, Option, Some, None}
use Rattle.std.specs.Str.{bytes_eq}
use Rattle.std.specs.Option.{option_and_then}
use Rattle.flash_traits.specs.Budget.{chunks, copy_bytes}
use Rattle.sector_log.specs.Entries.{Entry}
use Rattle.sector_log.specs.Bytes.{value_of, programmable}
use Rattle.flash_traits.specs.Words.{halfwords_of}
use Rattle.sector_log.specs.Log.{end_of_entries, last_of}

-- the bytes of a chunk
abbrev pub chunk_at : List ℕ → ℕ → List ℕ
chunk_at bytes chunk = take 64 (drop (64 * chunk) bytes)

-- the other sector's entries alone give the chunk as both sectors' entries together do
abbrev pub is_covered : List ℕ → List ℕ → ℕ → Bool
is_covered whole upper chunk = bytes_eq (chunk_at whole chunk) (chunk_at upper chunk)

abbrev pub is_chunk : Option ℕ → ℕ → Bool
is_chunk None chunk = false
is_chunk (Some n) chunk = n == chunk

-- The chunk is to be copied: it isn't covered, and it isn't the one of a completable torn last
-- entry.
abbrev pub is_left : List ℕ → List ℕ → Option ℕ → ℕ → Bool
is_left whole upper finishing chunk = not (is_covered whole upper chunk || is_chunk finishing chunk)

-- how many numbers below n pass
abbrev pub count_below : ℕ → (ℕ → Bool) → ℕ
count_below zero p = 0
count_below (suc n) p = count_below n p + (if p n then 1 else 0)

-- how many chunks below n are to be copied
unfoldable pub left_below : ℕ → List ℕ → List ℕ → Option ℕ → ℕ
left_below n whole upper finishing = count_below n (is_left whole upper finishing)

abbrev pub left_to_copy : List ℕ → List ℕ → Option ℕ → ℕ
left_to_copy whole upper finishing = left_below chunks whole upper finishing

-- The entry is torn, has eight lines from a chunk's start on, and can be completed with the bytes
-- that the image has there: each halfword w of it and the new one d satisfy w AND d = d.
abbrev pub is_completable : List ℕ → Entry → Bool
is_completable whole e =
    (e.header.state == 1) && (e.header.lines == 8) && (e.header.line % 8 == 0)
    && programmable e.content (halfwords_of (chunk_at whole (e.header.line / 8)))

unfoldable pub chunk_to_finish : List ℕ → Entry → Option ℕ
chunk_to_finish whole e = if is_completable whole e then Some (e.header.line / 8) else None

-- the chunk of a completable torn last entry
abbrev pub finishing : List ℕ → List Entry → Option ℕ
finishing whole entries = option_and_then (chunk_to_finish whole) (last_of entries)

-- How far a whole copy fills the other sector, in bytes: its entries, and one of 66 bytes for each
-- chunk that is to be copied.
unfoldable pub copied_end : List Entry → List Entry → ℕ
copied_end home other =
    let whole = value_of (home ++ other) in
    copy_bytes * left_to_copy whole (value_of other)
    (finishing whole other) + 2 * end_of_entries other

-- The room rule: the other sector has room for a whole copy.
abbrev pub has_room : ℕ → List Entry → List Entry → Bool
has_room halfwords home other = nat_le (copied_end home other) (2 * halfwords)
