-- What `MemSource`'s own clauses speak of.
use Rattle.std.specs.Prelude.{ℕ, List}
use Rattle.flash_board.specs.declared.mem_source.MemSource.{MemSource}

-- the numbers of the calls that fail
abbrev pub failing_calls : MemSource → List ℕ
failing_calls s = s.fails.items

-- the number of the next call, which is at most the last value of a u64
abbrev pub next_call : MemSource → ℕ
next_call s = s.number
