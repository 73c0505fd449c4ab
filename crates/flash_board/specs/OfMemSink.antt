-- What `MemSink`'s own clauses speak of.
use Rattle.std.specs.Prelude.{ℕ, List}
use Rattle.flash_board.specs.declared.mem_sink.MemSink.{MemSink}

-- the numbers of the calls that fail
abbrev pub failing_calls : MemSink → List ℕ
failing_calls s = s.fails.items

-- the number of the next call, which is at most the last value of a u64
abbrev pub next_call : MemSink → ℕ
next_call s = s.number

-- how many bytes are kept at most
abbrev pub capacity_of : MemSink → ℕ
capacity_of s = s.output.room
