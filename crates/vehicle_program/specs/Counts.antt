-- What a board over a file and a socket tells.
use Rattle.std.specs.Prelude.{[]}
use Rattle.flash_traits.specs.Words.{Words}

-- the words of a board that tells none
abbrev pub untold : Words
untold = record { s0 = []; s1 = []; guard = [] }
