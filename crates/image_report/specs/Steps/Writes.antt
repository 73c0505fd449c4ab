-- What the writing of a text's pieces has in common.
use Rattle.std.specs.Prelude.{◌≡◌, ℕ, ◌++◌, take, List, Result, MatchResult}
use Rattle.flash_traits.specs.declared.stream.Sink.{Ghosts}
use Rattle.flash_traits.specs.Causes.{HasOneCause}

-- The whole text is written at Ok, and a prefix of it at Err. An Err comes only where the sink's
-- count of faults rose.
pub record Writes {K T E : Type 0} (g : Ghosts K) (old new : K) (result : Result T E)
    (text : List ℕ) : Type 0 where
  pub told : g.tells_written new → g.tells_written old
  pub written : g.tells_written new
      → MatchResult result (λ _. g.written new ≡ g.written old ++ text)
      (λ _. (count : ℕ) × (g.written new ≡ g.written old ++ take count text))
  pub cause : HasOneCause (g.faults old) (g.faults new) result
