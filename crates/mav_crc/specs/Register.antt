-- The CRC as a register that takes one bit after another, by which CRCs of pieces chain. That it is
-- the remainder of the division is a law of this crate.
use Rattle.std.specs.Prelude.{ℕ, zero, suc, ◌/◌, ◌%◌, ◌==◌, if◌then◌else◌, bit_xor, List, fold}

-- a bit leaves the register: where it is 1, the reflected polynomial is subtracted
abbrev pub step_of : ℕ → ℕ
step_of c = if c % 2 == 1 then bit_xor (c / 2) 0x8408 else c / 2

-- k bits leave it
abbrev pub steps : ℕ → ℕ → ℕ
steps zero c = c
steps (suc k) c = steps k (step_of c)

-- the register after a byte
unfoldable pub register_after : ℕ → ℕ → ℕ
register_after c byte = steps 8 (bit_xor c byte)

-- the CRC of bytes, from a start value
unfoldable pub crc_of : ℕ → List ℕ → ℕ
crc_of start bytes = fold register_after start bytes
