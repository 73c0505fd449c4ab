-- The lines that a call prints.
use Rattle.std.specs.Prelude.{ℕ, List, ◌++◌, codes, decimal}
use Rattle.flash_traits.specs.declared.board.Region.{Region}
use Rattle.hex.specs.Hex.{encode_lower}
use Rattle.printed_text.specs.Names.{region_name}
use Rattle.printed_text.specs.Pieces.{with_newline, place_text}

-- where the words are no command line
abbrev pub words_line : List ℕ
words_line = with_newline (codes "error 1 words")

-- where memory is wanting
abbrev pub memory_line : List ℕ
memory_line = with_newline (codes "error 2 memory")

-- where a read failed
abbrev pub read_line : List ℕ
read_line = with_newline (codes "error 4 read")

-- where a program or an erase failed
abbrev pub flash_line : List ℕ
flash_line = with_newline (codes "error 5 flash")

-- where a call of the link failed
abbrev pub link_line : List ℕ
link_line = with_newline (codes "error 6 link")

-- where the guard row is used up: it has 8,192 halfwords
abbrev pub worn_line : List ℕ
worn_line = with_newline (codes "error 7 worn 8192")

-- where a read of the input failed
abbrev pub input_line : List ℕ
input_line = with_newline (codes "error 9 input")

-- where the attach failed
abbrev pub attach_line : List ℕ
attach_line = with_newline (codes "error 13 attach")

-- the place of a foreign halfword and its digits
abbrev pub foreign_line : Region → ℕ → ℕ → List ℕ
foreign_line region offset word =
    with_newline (codes "error 3 foreign " ++ region_name region ++ codes " "
    ++ place_text offset word)

-- where so many turns are over
abbrev pub turns_line : ℕ → List ℕ
turns_line turns = with_newline (codes "error 8 turns " ++ decimal turns)

-- where the script's line of this number, from 1 on, is refused
abbrev pub script_line : ℕ → List ℕ
script_line line = with_newline (codes "error 11 line " ++ decimal line)

-- the digest of the storage bytes at the end of a replay
abbrev pub replay_digest_line : List ℕ → List ℕ
replay_digest_line digest = with_newline (codes "bytes " ++ encode_lower digest)

-- how many events came before the end, and how many frames were sent
abbrev pub served_line : ℕ → ℕ → List ℕ
served_line events frames =
    with_newline (codes "served " ++ decimal events ++ codes " events " ++ decimal frames
    ++ codes " frames")

-- what a generated session of so many rounds came to: the events before its end, the frames sent,
-- the lines issued, and the digest of the storage bytes
abbrev pub session_line : ℕ → ℕ → ℕ → ℕ → List ℕ → List ℕ
session_line rounds events frames lines digest =
    with_newline (codes "gen " ++ decimal rounds ++ codes " events " ++ decimal events
    ++ codes " frames " ++ decimal frames
    ++ (codes " lines " ++ decimal lines ++ codes " sha256 ") ++ encode_lower digest)

-- the lines that a call may print
pub data PrintedLine : List ℕ → Type 0 where
  Words : PrintedLine words_line
  Memory : PrintedLine memory_line
  Foreign : (region : Region) (offset word : ℕ) → PrintedLine (foreign_line region offset word)
  Read : PrintedLine read_line
  Flash : PrintedLine flash_line
  Link : PrintedLine link_line
  Worn : PrintedLine worn_line
  Turns : (turns : ℕ) → PrintedLine (turns_line turns)
  Attach : PrintedLine attach_line
  Input : PrintedLine input_line
  Script : (line : ℕ) → PrintedLine (script_line line)
  Served : (events frames : ℕ) → PrintedLine (served_line events frames)
  Session : (rounds events frames lines : ℕ) (digest : List ℕ)
      → PrintedLine (session_line rounds events frames lines digest)
