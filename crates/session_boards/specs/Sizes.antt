-- The lists of a device in memory: their room, and what they hold at first.
use Rattle.std.specs.Prelude.{◌≤◌, ℕ, ◌/◌, List, length, replicate, slice_set, Vec, vec_capacity}
use Rattle.std.specs.declared.alloc.Global.{Global}
use Rattle.flash_traits.specs.declared.numbers.TheConstants.{ERASED, SIGNATURE}
use Rattle.session_boards.specs.declared.device.TheConstants.{SECTOR_BYTES}

-- at most n halfwords, in room for n, so that no call takes memory
pub record HasRoomFor (halfwords : Vec ℕ Global) (n : ℕ) : Type 0 where
  pub size : length halfwords.items ≤ n
  pub room : n ≤ vec_capacity halfwords

-- how many halfwords a sector of a fresh image has
abbrev pub sector_halfwords : ℕ
sector_halfwords = SECTOR_BYTES / 2

-- a sector whose first two halfwords are a mark and the signature, and every other one FFFF
abbrev pub fresh_sector : ℕ → List ℕ
fresh_sector mark = slice_set (slice_set (replicate sector_halfwords ERASED) 0 mark) 1 SIGNATURE
