use Rattle.std.proofs.Common.{◌≡◌, ◌++◌, take}
use Rattle.flash_traits.specs.Words.{bytes_of}
use Rattle.flash_board.proofs.flash.append_bytes.Given as goal

abbrev pub invariant-loop-halfword : goal.invariant-loop-halfword
invariant-loop-halfword l = l.bytes.items ≡ l.fn.bytes.items ++ bytes_of (take l.halfword-index l.halfwords)
