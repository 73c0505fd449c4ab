-- What `SureBoard`'s own clauses speak of.
use Rattle.flash_board.specs.Holdings.{Holdings, holdings_of}
use Rattle.flash_board.specs.declared.memory.Memory.{Memory}
use Rattle.flash_board.specs.declared.sure_board.SureBoard.{SureBoard}

-- all of the board
abbrev pub device : SureBoard → Memory
device b = b.memory

-- its image's sector size, the feed that is left, its first frames and the size of its record
abbrev pub holdings : SureBoard → Holdings
holdings b = holdings_of b.memory
