-- When a waiting loss of power falls.
use Rattle.std.specs.Prelude.{ℕ, ◌+◌, ◌-◌, ◌^◌, ◌==◌, min, Bool, false, List, [], ◌∷◌}
use Rattle.script_lines.specs.declared.line.Waiting.{Waiting}

-- the first waiting loss falls in the next call, so many calls after the last loss
abbrev pub falls_now : List Waiting → ℕ → Bool
falls_now [] since = false
falls_now (first ∷ waiting) since = since + 1 == first.call

-- the calls since the last loss, one more where a loss waits; the count stands still at its end
abbrev pub calls_counted : List Waiting → ℕ → ℕ
calls_counted [] since = since
calls_counted (first ∷ waiting) since = min (since + 1) (2 ^ 32 - 1)

-- what the first waiting loss leaves
abbrev pub first_leaves : List Waiting → ℕ
first_leaves [] = 0
first_leaves (first ∷ waiting) = first.how
