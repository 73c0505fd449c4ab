-- The pieces that printed lines have in common.
use Rattle.std.specs.Prelude.{ℕ, List, [], ◌∷◌, ◌++◌, codes, decimal}
use Rattle.std.specs.Int.{to_be_bytes, w16}
use Rattle.hex.specs.Hex.{encode_upper}

-- a line is its text and LF
abbrev pub with_newline : List ℕ → List ℕ
with_newline text = text ++ 0x0A ∷ []

-- a halfword as four upper-case hexadecimal digits, those of its high byte first
abbrev pub word_text : ℕ → List ℕ
word_text word = encode_upper (to_be_bytes w16 word)

-- `2 000E`, a halfword's place in its region, counted in halfwords, and its digits
abbrev pub place_text : ℕ → ℕ → List ℕ
place_text offset word = decimal offset ++ codes " " ++ word_text word
