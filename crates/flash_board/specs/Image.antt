-- An image's bytes as words.
use Rattle.std.specs.Prelude.{ℕ, ◌*◌, ◌++◌, ◌==◌, if◌then◌else◌, List, [], take, drop, slice_range}
use Rattle.flash_traits.specs.Words.{Words, bytes_of, halfwords_of, image_length}

-- the sector size of an image of this length, or 0
abbrev pub image_size : ℕ → ℕ
image_size len =
    if len == image_length 16384 then 16384
    else if len == image_length 32768 then 32768
    else if len == image_length 65536 then 65536
    else if len == image_length 131072 then 131072
    else 0

-- an image's bytes as its words, and none where the sector size is 0
abbrev pub image_words : ℕ → List ℕ → Words
image_words size bytes = if size == 0 then record { s0 = []; s1 = []; guard = [] } else record {
  s0 = halfwords_of (take size bytes);
  s1 = halfwords_of (slice_range bytes size (2 * size));
  guard = halfwords_of (drop (2 * size) bytes);
}

-- sector 0, sector 1, the guard row
abbrev pub image_bytes : Words → List ℕ
image_bytes w = bytes_of w.s0 ++ bytes_of w.s1 ++ bytes_of w.guard
