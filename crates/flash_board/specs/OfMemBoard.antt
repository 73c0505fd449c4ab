-- What `MemBoard`'s own clauses speak of.
use Rattle.std.specs.Prelude.{ℕ, List}
use Rattle.flash_board.specs.Holdings.{Holdings, holdings_of}
use Rattle.flash_board.specs.declared.memory.Memory.{Memory}
use Rattle.flash_board.specs.declared.mem_board.MemBoard.{MemBoard}

-- all but the numbers of the failing calls and the counts of calls and of faults
abbrev pub device : MemBoard → Memory
device b = b.memory

-- its image's sector size, the feed that is left, its first frames and the size of its record
abbrev pub holdings : MemBoard → Holdings
holdings b = holdings_of b.memory

-- the numbers of the calls that fail
abbrev pub failing_calls : MemBoard → List ℕ
failing_calls b = b.fails.items

-- the number of the next call, which is at most the last value of a u64
abbrev pub next_call : MemBoard → ℕ
next_call b = b.number
