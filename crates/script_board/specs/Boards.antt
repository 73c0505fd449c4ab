-- What contracts say of a script's board.
use Rattle.std.specs.Prelude.{◌≡◌, ℕ, zero, suc, ◌+◌, ◌-◌, ◌^◌, ◌<◌, min, List, slice_index}
use Rattle.flash_traits.specs.Words.{Words, erased}
use Rattle.flash_traits.specs.declared.board.Region.{Region}
use Rattle.flash_traits.specs.declared.stream.Source as source
use Rattle.flash_traits.specs.declared.stream.Sink as sink
use Rattle.script_lines.specs.Reading.{unread_of}
use Rattle.script_board.specs.Image.{words_of, half_erased}
use Rattle.script_board.specs.declared.board.ScriptBoard.{ScriptBoard}

-- the words of the image
abbrev pub words_in : {S K : Type 0} {g : source.Ghosts S} {h : sink.Ghosts K}
    → ScriptBoard S K g h → Words
words_in b = words_of b.geometry.sector_bytes b.image.items

-- the words that a loss in a program leaves: those after it where it comes after, else those before
abbrev pub after_loss : ℕ → Words → Words → Words
after_loss (suc zero) before later = later
after_loss how before later = before

-- the words that a loss in an erase leaves: those before it, those after it, or with the odd
-- offsets erased
abbrev pub erased_by : ℕ → Words → Region → Words
erased_by (suc zero) words region = erased words region
erased_by (suc (suc zero)) words region = half_erased words region
erased_by how words region = words

-- the call was one of the device: neither the source nor the sink was asked, and no line taken
pub record OnlyDevice {S K : Type 0} {g : source.Ghosts S} {h : sink.Ghosts K}
    (old new : ScriptBoard S K g h) : Type 0 where
  pub geometry : new.geometry ≡ old.geometry
  pub input : new.input ≡ old.input
  pub out : new.out ≡ old.out
  pub buffer : new.buffer ≡ old.buffer
  pub ahead : new.ahead ≡ old.ahead
  pub line : new.line ≡ old.line
  pub taken : new.taken ≡ old.taken
  pub given : new.given ≡ old.given
  pub moment : new.moment ≡ old.moment
  pub faults : new.faults ≡ old.faults

-- the bytes that were read and not taken
abbrev pub unread_in : {S K : Type 0} {g : source.Ghosts S} {h : sink.Ghosts K}
    → ScriptBoard S K g h → List ℕ
unread_in b = unread_of b.buffer.items b.ahead

-- How often a reception has failed, up to the end of the count: the lines `x`, the refused lines
-- and the faults of the source.
abbrev pub reception_faults : {S K : Type 0} {h : sink.Ghosts K} (g : source.Ghosts S)
    → ScriptBoard S K g h → ℕ
reception_faults g b = min (slice_index b.faults 3 + g.faults b.input.now) (2 ^ 64 - 1)

-- the call was one of the script: neither the words were changed nor the sink asked
pub record OnlyScript {S K : Type 0} {g : source.Ghosts S} {h : sink.Ghosts K}
    (old new : ScriptBoard S K g h) : Type 0 where
  pub geometry : new.geometry ≡ old.geometry
  pub image : new.image ≡ old.image
  pub out : new.out ≡ old.out
  pub given : new.given ≡ old.given
  pub moment : new.moment ≡ old.moment
  pub others : (k : ℕ) → k < 3 → slice_index new.faults k ≡ slice_index old.faults k

-- the call was one of the sink: neither the words were changed nor the source asked
pub record OnlySink {S K : Type 0} {g : source.Ghosts S} {h : sink.Ghosts K}
    (old new : ScriptBoard S K g h) : Type 0 where
  pub geometry : new.geometry ≡ old.geometry
  pub image : new.image ≡ old.image
  pub input : new.input ≡ old.input
  pub buffer : new.buffer ≡ old.buffer
  pub ahead : new.ahead ≡ old.ahead
  pub line : new.line ≡ old.line
  pub taken : new.taken ≡ old.taken
  pub waiting : new.waiting ≡ old.waiting
  pub since : new.since ≡ old.since
  pub moment : new.moment ≡ old.moment
  pub faults : new.faults ≡ old.faults
