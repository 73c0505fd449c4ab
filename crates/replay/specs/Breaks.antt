-- What holds by how a run broke off.
use Rattle.std.specs.Prelude.{ℕ, Result, Ok, Err}
use Rattle.flash_traits.specs.Counts.{raised}
use Rattle.sector_image.specs.FirstBad.{Place, foreign_place}
use Rattle.replay.specs.declared.Stop.{Stop}
use Rattle.replay.specs.declared.Stop.TheVariants as stop
use Rattle.replay.specs.declared.Break.{Break}
use Rattle.replay.specs.declared.Break.TheVariants.{Lost, Stopped}

-- what holds where power was lost
abbrev pub OnLost : Type 0 → Break → Type 0
OnLost P Lost = P
OnLost P (Stopped why) = Unit {0}

-- what holds where it stopped, by why
abbrev pub OnStopped : (Stop → Type 0) → Break → Type 0
OnStopped P Lost = Unit {0}
OnStopped P (Stopped why) = P why

-- what holds where the words of an opening are no image, of the first foreign word
abbrev pub OnForeign : (Place → Type 0) → Stop → Type 0
OnForeign P (stop.Foreign region offset word) = P (foreign_place region offset word)
OnForeign P stop.Memory = Unit {0}
OnForeign P (stop.Worn count) = Unit {0}
OnForeign P (stop.Refused line) = Unit {0}
OnForeign P stop.Input = Unit {0}
OnForeign P stop.Output = Unit {0}

-- what holds where the guard row is used up, of its count
abbrev pub OnWorn : (ℕ → Type 0) → Stop → Type 0
OnWorn P (stop.Worn count) = P count
OnWorn P stop.Memory = Unit {0}
OnWorn P (stop.Foreign region offset word) = Unit {0}
OnWorn P (stop.Refused line) = Unit {0}
OnWorn P stop.Input = Unit {0}
OnWorn P stop.Output = Unit {0}

-- what holds where a line was refused, of its number
abbrev pub OnRefused : (ℕ → Type 0) → Stop → Type 0
OnRefused P (stop.Refused line) = P line
OnRefused P stop.Memory = Unit {0}
OnRefused P (stop.Foreign region offset word) = Unit {0}
OnRefused P (stop.Worn count) = Unit {0}
OnRefused P stop.Input = Unit {0}
OnRefused P stop.Output = Unit {0}

-- what holds where the source failed
abbrev pub OnInput : Type 0 → Stop → Type 0
OnInput P stop.Input = P
OnInput P stop.Memory = Unit {0}
OnInput P (stop.Foreign region offset word) = Unit {0}
OnInput P (stop.Worn count) = Unit {0}
OnInput P (stop.Refused line) = Unit {0}
OnInput P stop.Output = Unit {0}

-- what holds where the sink failed
abbrev pub OnOutput : Type 0 → Stop → Type 0
OnOutput P stop.Output = P
OnOutput P stop.Memory = Unit {0}
OnOutput P (stop.Foreign region offset word) = Unit {0}
OnOutput P (stop.Worn count) = Unit {0}
OnOutput P (stop.Refused line) = Unit {0}
OnOutput P stop.Input = Unit {0}

-- what holds where it stopped between two events: at a refused line, or where the source failed
abbrev pub BetweenEvents : Type 0 → Stop → Type 0
BetweenEvents P (stop.Refused line) = P
BetweenEvents P stop.Input = P
BetweenEvents P stop.Memory = Unit {0}
BetweenEvents P (stop.Foreign region offset word) = Unit {0}
BetweenEvents P (stop.Worn count) = Unit {0}
BetweenEvents P stop.Output = Unit {0}

-- how often the source has failed where it stopped so: once more where the source failed
abbrev pub input_counted : Stop → ℕ → ℕ
input_counted stop.Input before = raised before
input_counted stop.Memory before = before
input_counted (stop.Foreign region offset word) before = before
input_counted (stop.Worn count) before = before
input_counted (stop.Refused line) before = before
input_counted stop.Output before = before

-- how often the sink has failed where it stopped so: once more where the sink failed
abbrev pub output_counted : Stop → ℕ → ℕ
output_counted stop.Output before = raised before
output_counted stop.Memory before = before
output_counted (stop.Foreign region offset word) before = before
output_counted (stop.Worn count) before = before
output_counted (stop.Refused line) before = before
output_counted stop.Input before = before

-- a count where a run broke off: as it was at a loss
abbrev pub counted_at : (Stop → ℕ → ℕ) → Break → ℕ → ℕ
counted_at counted Lost before = before
counted_at counted (Stopped why) before = counted why before

-- a count after a run's call, which changes only where it stopped
abbrev pub after_break : {T : Type 0} → (Stop → ℕ → ℕ) → Result T Break → ℕ → ℕ
after_break counted (Ok t) before = before
after_break counted (Err how) before = counted_at counted how before

-- the same after a replay
abbrev pub after_stop : {T : Type 0} → (Stop → ℕ → ℕ) → Result T Stop → ℕ → ℕ
after_stop counted (Ok t) before = before
after_stop counted (Err why) before = counted why before
