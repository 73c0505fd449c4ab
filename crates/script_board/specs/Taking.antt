-- Lines of a script that were taken.
use Rattle.std.specs.Prelude.{◌≡◌, ◌⊎◌, ℕ, ◌+◌, ◌<◌, List, [], ◌∷◌, ◌++◌, length, take}
use Rattle.flash_traits.specs.declared.stream.Source.{Ghosts}
use Rattle.flash_traits.specs.Losses as link
use Rattle.flash_traits.specs.Losses.{Received}
use Rattle.script_lines.specs.Script.{ScriptLine, Datagram, Idle, LossNow, LossLater, End, Spells}
use Rattle.script_lines.specs.Script.{AreLines, line_feed}
use Rattle.script_lines.specs.Reading.{HasNoLineFeed}
use Rattle.script_lines.specs.declared.numbers.TheConstants.{SCRIPT_LINE_BYTES}

-- The unread bytes begin with this line, which takes so many bytes: its text and its end. A last
-- text may lack its end, where no byte is left.
pub record IsAhead (line : ScriptLine) (bytes : ℕ) (unread : List ℕ) (told : Type 0)
    (rest : List ℕ) : Type 0 where
  pub text : List ℕ
  pub spells : Spells line text
  pub takes : List ℕ
  pub later : List ℕ
  pub unread_are : unread ≡ takes ++ later
  pub long : length takes ≡ bytes
  pub ends : (takes ≡ text ++ line_feed ∷ [])
      ⊎ ((takes ≡ text) × (later ≡ []) × (told → rest ≡ []))

-- The unread bytes begin with no line of the grammar: none is left, or a text with its end, or a
-- last one, spells no line, or there are too many bytes with no end.
abbrev pub HasNoLine : List ℕ → Type 0 → List ℕ → Type 0
HasNoLine unread told rest =
    ((unread ≡ []) × (told → rest ≡ []))
    ⊎ ((text : List ℕ) × (later : List ℕ) × (unread ≡ text ++ line_feed ∷ later)
    × HasNoLineFeed text × ((line : ScriptLine) → Spells line text → ⊥))
    ⊎ (((line : ScriptLine) → Spells line unread → ⊥) × HasNoLineFeed unread × (told → rest ≡ []))
    ⊎ ((SCRIPT_LINE_BYTES < length unread)
    × HasNoLineFeed (take (SCRIPT_LINE_BYTES + 1) unread))

-- The bytes are these lines, each with its end. Where nothing follows, the last one may lack its
-- end.
abbrev pub AreTaken : List ScriptLine → List ℕ → List ℕ → Type 0
AreTaken lines bytes rest =
    AreLines lines bytes ⊎ (AreLines lines (bytes ++ line_feed ∷ []) × (rest ≡ []))

-- These lines were taken, so many bytes, and the source gave what was wanting for that: the bytes
-- that are unread now follow those of the lines. What the source tells, it told before.
pub record Took {S : Type 0} (g : Ghosts S) (old new : S) (unread_before unread_now : List ℕ)
    (lines : List ScriptLine) (count : ℕ) : Type 0 where
  pub fresh : List ℕ
  pub bytes : List ℕ
  pub long : length bytes ≡ count
  pub unread : unread_before ++ fresh ≡ bytes ++ unread_now
  pub given : g.tells_given new → g.given new ≡ g.given old ++ fresh
  pub rest : g.tells_rest new → g.rest old ≡ fresh ++ g.rest new
  pub told_given : g.tells_given new → g.tells_given old
  pub told_rest : g.tells_rest new → g.tells_rest old
  pub whole : g.tells_rest new → AreTaken lines bytes (unread_now ++ g.rest new)

-- the events of a line: one, or none
abbrev pub events_in : ScriptLine → List Received
events_in (Datagram station bytes) = link.Datagram station bytes ∷ []
events_in Idle = link.Idle ∷ []
events_in LossNow = []
events_in (LossLater call how) = []
events_in End = link.End ∷ []

-- the events of these lines, in order
abbrev pub events_of : List ScriptLine → List Received
events_of [] = []
events_of (line ∷ lines) = events_in line ++ events_of lines
