-- The lines that a replay prints.
use Rattle.std.specs.Prelude.{ℕ, ◌+◌, ◌%◌, List, [], ◌∷◌, ◌++◌, codes}
use Rattle.hex.specs.Hex.{encode_lower}
use Rattle.flash_traits.specs.Losses.{SentFrame}

-- the byte of a station: its digit for the stations 0 to 7
abbrev pub station_byte : ℕ → ℕ
station_byte peer = (48 + peer) % 256

-- `f S HEX` with its end: a frame and the station that it was sent to
abbrev pub frame_line : SentFrame → List ℕ
frame_line frame =
    codes "f " ++ (station_byte frame.peer ∷ codes " " ++ (encode_lower frame.bytes ++ codes "\n"))

-- the lines of these frames, in order
abbrev pub frame_lines : List SentFrame → List ℕ
frame_lines [] = []
frame_lines (frame ∷ frames) = frame_line frame ++ frame_lines frames

-- `loss` with its end
abbrev pub loss_line : List ℕ
loss_line = codes "loss\n"
