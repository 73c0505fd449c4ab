-- The two lists of storage bytes in memory.
use Rattle.std.specs.Prelude.{◌≡◌, ℕ, ◌*◌, ◌<◌, List, true, false, None}
use Rattle.flash_traits.specs.Budget.{chunks}
use Rattle.flash_traits.specs.Values.{put}
use Rattle.sector_image.specs.Room.{chunk_at, is_left}

-- the bytes of the image, and those of the entries of the sector in use alone
pub record Bytes : Type 0 where
  pub whole : List ℕ
  pub upper : List ℕ

abbrev pub both_bytes : List ℕ → List ℕ → Bytes
both_bytes whole upper = record { whole = whole; upper = upper }

-- a chunk of the image is also among the bytes of the sector in use
abbrev pub with_chunk : Bytes → ℕ → Bytes
with_chunk images chunk =
    record images { upper = put (64 * chunk) (chunk_at images.whole chunk) images.upper }

-- the chunk isn't covered, and each one before it is
pub record IsFirstLeft (images : Bytes) (chunk : ℕ) : Type 0 where
  pub below : chunk < chunks
  pub left : is_left images.whole images.upper None chunk ≡ true
  pub first : (c : ℕ) → c < chunk → is_left images.whole images.upper None c ≡ false
