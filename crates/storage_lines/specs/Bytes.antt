-- Lists of bytes, and writes of bytes.
use Rattle.std.specs.Prelude.{ℕ, ◌<◌, List, All, slice_index}
use Rattle.storage_lines.specs.declared.lines.LineWrite.{LineWrite}
use Rattle.storage_lines.specs.declared.lines.TheConstants.{LINES}

-- numbers below 256, as all bytes of a storage are
abbrev pub IsBytes : List ℕ → Type 0
IsBytes bytes = (i : ℕ) → slice_index bytes i < 256

-- each of the writes has bytes: so do all that were pushed on a batch
abbrev pub HaveBytes : List LineWrite → Type 0
HaveBytes writes = All (λ write. IsBytes write.bytes) writes

-- each of the writes is of a line of the storage
abbrev pub AreInside : List LineWrite → Type 0
AreInside writes = All (λ write. write.line < LINES) writes
