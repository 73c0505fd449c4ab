-- How much of the storage may be written while armed.
use Rattle.std.specs.Prelude.{ℕ, ◌+◌, ◌-◌, ◌*◌, ◌/◌}
use Rattle.flash_traits.specs.declared.numbers.TheConstants.{LINES}

-- the bytes of a sector's header
abbrev pub header_bytes : ℕ
header_bytes = 4

-- the bytes of an entry of eight lines, as a copy of a chunk has
abbrev pub copy_bytes : ℕ
copy_bytes = 66

-- the bytes of an entry of one line
abbrev pub line_bytes : ℕ
line_bytes = 10

-- the chunks of the storage, of eight lines each
abbrev pub chunks : ℕ
chunks = LINES / 8

-- How many entries of one line fit into a sector beside its header, a full copy of the storage and
-- one more whole entry.
abbrev pub budget_of : ℕ → ℕ
budget_of sector_bytes =
    (sector_bytes - (header_bytes + copy_bytes * chunks + copy_bytes)) / line_bytes
