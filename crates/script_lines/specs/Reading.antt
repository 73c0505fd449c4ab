-- The bytes that were read and not taken, and what stands at their start.
use Rattle.std.specs.Prelude.{◌≡◌, ◌≢◌, ◌-◌, ◌+◌, ◌≤◌, ◌<◌, ℕ, List, [], ◌∷◌, ◌++◌, length, drop, take}
use Rattle.flash_traits.specs.declared.stream.Source.{Ghosts}
use Rattle.script_lines.specs.Script.{line_feed}
use Rattle.script_lines.specs.declared.numbers.TheConstants.{SCRIPT_LINE_BYTES}
use Rattle.script_lines.specs.declared.reading.Next.{Next}
use Rattle.script_lines.specs.declared.reading.Next.TheVariants.{Line, Last, Nothing, TooLong}

-- the last `ahead` bytes of the buffer: read, and not taken
abbrev pub unread_of : List ℕ → ℕ → List ℕ
unread_of buffer ahead = drop (length buffer - ahead) buffer

-- no byte ends a line
abbrev pub HasNoLineFeed : List ℕ → Type 0
HasNoLineFeed [] = Unit {0}
HasNoLineFeed (byte ∷ bytes) = (byte ≢ line_feed) × HasNoLineFeed bytes

-- The source gave these bytes, and all of them were read: the unread bytes are those of before,
-- followed by these. What the source tells, it told before.
pub record ReadsBytes {S : Type 0} (g : Ghosts S) (old new : S)
    (unread_before unread_now fresh : List ℕ) : Type 0 where
  pub unread : unread_now ≡ unread_before ++ fresh
  pub given : g.tells_given new → g.given new ≡ g.given old ++ fresh
  pub rest : g.tells_rest new → g.rest old ≡ fresh ++ g.rest new
  pub told_given : g.tells_given new → g.tells_given old
  pub told_rest : g.tells_rest new → g.tells_rest old

-- a text of so many bytes, at most as many as a line may have, and the byte that ends its line
pub record FindsLine (bytes : ℕ) (unread : List ℕ) : Type 0 where
  pub text : List ℕ
  pub later : List ℕ
  pub whole : unread ≡ text ++ line_feed ∷ later
  pub long : length text ≡ bytes
  pub no_end : HasNoLineFeed text
  pub few : bytes ≤ SCRIPT_LINE_BYTES

-- A last text of so many bytes, without its end: the source has nothing left, where it tells that.
pub record FindsLast (bytes : ℕ) (unread : List ℕ) (told : Type 0) (rest : List ℕ) : Type 0 where
  pub long : length unread ≡ bytes
  pub some : 1 ≤ bytes
  pub few : bytes ≤ SCRIPT_LINE_BYTES
  pub no_end : HasNoLineFeed unread
  pub ended : told → rest ≡ []

-- no byte is unread, and the source has nothing left, where it tells that
pub record FindsNothing (unread : List ℕ) (told : Type 0) (rest : List ℕ) : Type 0 where
  pub none : unread ≡ []
  pub ended : told → rest ≡ []

-- more bytes than a line may have, with no end among them
pub record FindsTooLong (unread : List ℕ) : Type 0 where
  pub long : SCRIPT_LINE_BYTES < length unread
  pub no_end : HasNoLineFeed (take (SCRIPT_LINE_BYTES + 1) unread)

-- what was said stands at the start of the unread bytes
abbrev pub Finds : Next → List ℕ → Type 0 → List ℕ → Type 0
Finds (Line bytes) unread told rest = FindsLine bytes unread
Finds (Last bytes) unread told rest = FindsLast bytes unread told rest
Finds Nothing unread told rest = FindsNothing unread told rest
Finds TooLong unread told rest = FindsTooLong unread
