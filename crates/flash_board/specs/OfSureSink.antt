-- What `SureSink`'s own clauses speak of.
use Rattle.std.specs.Prelude.{ℕ}
use Rattle.flash_board.specs.declared.sure_sink.SureSink.{SureSink}

-- how many bytes are kept at most
abbrev pub capacity_of : SureSink → ℕ
capacity_of s = s.output.room
