-- What a step of the guard count does to the row.
use Rattle.std.specs.Prelude.{◌⊎◌, ℕ, ◌+◌}
use Rattle.flash_traits.specs.Words.{Words}
use Rattle.guard_row.specs.Row.{IsGuardRow}

-- a row of this count has the next one
abbrev pub Counts : ℕ → Words → Words → Type 0
Counts count old new = IsGuardRow old.guard count → IsGuardRow new.guard (count + 1)

-- a row of this count still has it, or has the next one
abbrev pub CountMayLeave : ℕ → Words → Words → Type 0
CountMayLeave count old new =
    IsGuardRow old.guard count → IsGuardRow new.guard count ⊎ IsGuardRow new.guard (count + 1)
