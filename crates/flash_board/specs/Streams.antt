-- The bytes of sources and sinks in memory.
use Rattle.std.specs.Prelude.{ℕ, List, take, drop}
use Rattle.flash_board.specs.declared.input.Input.{Input}

-- the bytes in front of the place that is read next
abbrev pub given_of : Input → List ℕ
given_of i = take i.next i.bytes.items

-- the bytes from there on
abbrev pub rest_of : Input → List ℕ
rest_of i = drop i.next i.bytes.items
