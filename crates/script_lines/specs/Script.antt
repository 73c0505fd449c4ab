-- The lines of a replay script as a grammar on bytes.
use Rattle.std.specs.Prelude.{◌≡◌, ◌≢◌, ◌⊎◌, ℕ, ◌+◌, ◌*◌, ◌≤◌, ◌<◌, IsTrue, List, [], ◌∷◌, ◌++◌, length, codes, Ok}
use Rattle.std.specs.Str.{all_ascii_digits}
use Rattle.std.specs.Str.Parse.{digits_value}
use Rattle.hex.specs.Hex.{decode_of}
use Rattle.flash_traits.specs.declared.numbers.TheConstants.{DATAGRAM_BYTES, STATIONS}
use Rattle.script_lines.specs.declared.numbers.TheConstants.{SCRIPT_LINES, LAST_CALL, LOSS_WAYS}

-- what a line says: a datagram from a station; an idle turn; a loss of power now; one at a later
-- program or erase call, in one of the ways; the end
pub data ScriptLine : Type 0 where
  Datagram : (station : ℕ) (bytes : List ℕ) → ScriptLine
  Idle : ScriptLine
  LossNow : ScriptLine
  LossLater : (call how : ℕ) → ScriptLine
  End : ScriptLine

-- the byte that ends a line
abbrev pub line_feed : ℕ
line_feed = 10

-- the ASCII digit of a number below ten
abbrev pub digit_of : ℕ → ℕ
digit_of number = 48 + number

-- `d S HEX`, with the byte S and the bytes HEX
abbrev pub datagram_text : ℕ → List ℕ → List ℕ
datagram_text station digits = codes "d " ++ (station ∷ codes " " ++ digits)

-- `l K M`, with the bytes K and the byte M
abbrev pub loss_text : List ℕ → ℕ → List ℕ
loss_text digits how = codes "l " ++ (digits ++ (codes " " ++ how ∷ []))

-- The text is `d S HEX`: a station's digit, and two digits of either case for each byte.
pub record SpellsDatagram (station : ℕ) (bytes text : List ℕ) : Type 0 where
  pub digits : List ℕ
  pub station_fits : station < STATIONS
  pub few : length digits ≤ 2 * DATAGRAM_BYTES
  pub decoded : decode_of digits ≡ Ok bytes
  pub text_is : text ≡ datagram_text (digit_of station) digits

-- one to ten decimal digits with this value; zeros may lead
pub record IsNumeral (digits : List ℕ) (value : ℕ) : Type 0 where
  pub some : 1 ≤ length digits
  pub few : length digits ≤ 10
  pub each : IsTrue (all_ascii_digits digits)
  pub is : digits_value 10 digits ≡ value

-- The text is `l K M`: the number of a call from 1 on, and the digit of a way.
pub record SpellsLossLater (call how : ℕ) (text : List ℕ) : Type 0 where
  pub digits : List ℕ
  pub numeral : IsNumeral digits call
  pub some : 1 ≤ call
  pub few : call ≤ LAST_CALL
  pub how_fits : how < LOSS_WAYS
  pub text_is : text ≡ loss_text digits (digit_of how)

-- the text says this line, without the byte that ends it
abbrev pub Spells : ScriptLine → List ℕ → Type 0
Spells (Datagram station bytes) text = SpellsDatagram station bytes text
Spells Idle text = text ≡ codes "i"
Spells LossNow text = text ≡ codes "x"
Spells (LossLater call how) text = SpellsLossLater call how text
Spells End text = text ≡ codes "e"

-- The bytes are these lines and nothing else, each with its end.
abbrev pub AreLines : List ScriptLine → List ℕ → Type 0
AreLines [] bytes = bytes ≡ []
AreLines (line ∷ lines) bytes = (text : List ℕ) × (rest : List ℕ) × Spells line text
    × (bytes ≡ text ++ line_feed ∷ rest) × AreLines lines rest

-- no line is the end
abbrev pub HasNoEnd : List ScriptLine → Type 0
HasNoEnd [] = Unit {0}
HasNoEnd (line ∷ lines) = (line ≢ End) × HasNoEnd lines

-- The script that an input begins with: the lines before its first `e`, that line, and what follows
-- it. Where nothing follows it, it may lack its own end.
pub record IsScript (lines : List ScriptLine) (rest input : List ℕ) : Type 0 where
  pub bytes : List ℕ
  pub reads : AreLines (lines ++ End ∷ []) bytes
  pub before : HasNoEnd lines
  pub few : length lines < SCRIPT_LINES
  pub whole : (input ≡ bytes ++ rest) ⊎ ((input ++ line_feed ∷ [] ≡ bytes) × (rest ≡ []))
