-- What the count of a guard row says of the sectors.
use Rattle.std.specs.Prelude.{ℕ, ◌/◌, ◌%◌, ◌==◌, if◌then◌else◌, Option, Some, None}
use Rattle.std.specs.Option.{option_map_or}
use Rattle.flash_traits.specs.declared.board.Region.{Region}
use Rattle.flash_traits.specs.declared.board.Region.TheVariants.{S0, S1, Guard}

-- the sector of this number
abbrev pub sector_of : ℕ → Region
sector_of n = if n == 0 then S0 else S1

-- Where the count is even, no sector is void, and the home is sector count / 2 mod 2.
abbrev pub home_of : ℕ → Option Region
home_of count = if count % 2 == 0 then Some (sector_of (count / 2 % 2)) else None

-- Where the count is odd, there is no home: sector 0 is void at 1 modulo 4, and sector 1 at 3.
abbrev pub void_of : ℕ → Option Region
void_of count = if count % 4 == 1 then Some S0 else (if count % 4 == 3 then Some S1 else None)

-- the other one of the two sectors
abbrev pub sector_beside : Region → Region
sector_beside S0 = S1
sector_beside S1 = S0
sector_beside Guard = Guard

-- the home, or the sector that isn't void
abbrev pub first_of : ℕ → Region
first_of count =
    option_map_or (λ home. home) (home_of count) (option_map_or sector_beside (void_of count) S0)

-- the sector beside home, or the void one
abbrev pub second_of : ℕ → Region
second_of count = sector_beside (first_of count)
