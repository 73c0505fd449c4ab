-- When what a state keeps fits a board and the bytes in memory.
use Rattle.std.specs.Prelude.{◌≡◌, ℕ, ◌+◌, ◌-◌, ◌*◌, ◌/◌, ◌%◌, ◌≤◌, List, [], ◌++◌, length, Bool, true, false, Option, Some, None, IsSome, IfSome}
use Rattle.std.specs.Option.{option_map, option_and_then, is_some}
use Rattle.flash_traits.specs.declared.numbers.TheConstants.{GUARD_HALFWORDS}
use Rattle.flash_traits.specs.Budget.{copy_bytes}
use Rattle.flash_traits.specs.Words.{Words, IsSectorSize}
use Rattle.flash_traits.specs.declared.board.Board.{Ghosts}
use Rattle.flash_traits.specs.declared.board.Mark.{Mark}
use Rattle.flash_traits.specs.declared.board.Mark.TheVariants.{Available, InUse, Full}
use Rattle.sector_log.specs.Storage.{storage_bytes}
use Rattle.sector_log.specs.declared.log.Log.{Log}
use Rattle.sector_log.specs.Entries.{Entry}
use Rattle.sector_log.specs.Bytes.{IsValue}
use Rattle.sector_log.specs.Log.{IsLogOf}
use Rattle.sector_log.specs.Appends.{IsLogIn}
use Rattle.sector_image.specs.declared.kept.Kept.{Kept}
use Rattle.sector_image.specs.declared.kept.Shape.{Shape}
use Rattle.sector_image.specs.declared.kept.Shape.TheVariants as shape
use Rattle.sector_image.specs.Images.{Bytes}
use Rattle.sector_image.specs.Room.{left_to_copy, finishing}
use Rattle.sector_image.specs.Stands.{Reading, Both, One, IsReadAs, IsBoth}
use Rattle.guard_row.specs.Home.{first_of, second_of}

-- home in use where the image stands alone or a sector is void, and else full
abbrev pub mark_of : Shape → Mark
mark_of shape.Alone = InUse
mark_of shape.Marked = Full
mark_of shape.Spilled = Full
mark_of shape.Voided = InUse

-- the other sector in use where the image is spilled, and else available; a void one isn't looked
-- at
abbrev pub other_mark_of : Shape → Mark
other_mark_of shape.Alone = Available
other_mark_of shape.Marked = Available
other_mark_of shape.Spilled = InUse
other_mark_of shape.Voided = Available

-- the guard count is odd exactly where a sector is void
abbrev pub parity_of : Shape → ℕ
parity_of shape.Alone = 0
parity_of shape.Marked = 0
parity_of shape.Spilled = 0
parity_of shape.Voided = 1

-- what the words of this state tell, with home's entries and the other's
abbrev pub reading_of : Shape → ℕ → List Entry → List Entry → Reading
reading_of shape.Alone count home other = Both count InUse Available home other
reading_of shape.Marked count home other = Both count Full Available home other
reading_of shape.Spilled count home other = Both count Full InUse home other
reading_of shape.Voided count home other = One count home

-- What holds of every state whether the words are told or not: the sector size is the board's, the
-- guard count is of the row and of the state's parity, and home's log is of the sector that this
-- count names and ends inside it.
pub record IsKeptState (name : Shape) (sector_bytes : ℕ) (kept : Kept)
    (images : Bytes) : Type 0 where
  pub attached : IsSectorSize sector_bytes
  pub size : kept.sector_bytes ≡ sector_bytes
  pub count : kept.guard ≤ GUARD_HALFWORDS
  pub parity : kept.guard % 2 ≡ parity_of name
  pub region : kept.home.region ≡ first_of kept.guard
  pub mark : kept.home.mark ≡ mark_of name
  pub log : IsLogIn (sector_bytes / 2) kept.home
  pub whole_size : length images.whole ≡ storage_bytes
  pub upper_size : length images.upper ≡ storage_bytes

-- alone, marked and voided: there is one log
pub record OneLogRules (name : Shape) (sector_bytes : ℕ) (kept : Kept)
    (images : Bytes) : Type 0 where
  pub home : IsKeptState name sector_bytes kept images
  pub none : kept.other ≡ None
  pub plain : kept.completable ≡ false

-- What they keep of words that are told: the words are in the state of this name with this count
-- and this log, and where home is in use `upper` is its bytes.
pub record OneLogWords (name : Shape) (kept : Kept) (images : Bytes) (w : Words) : Type 0 where
  pub entries : List Entry
  pub reads : IsReadAs w (reading_of name kept.guard entries [])
  pub log : IsLogOf kept.home (first_of kept.guard) (mark_of name) entries
  pub whole : IsValue entries images.whole
  pub upper : mark_of name ≡ InUse → IsValue entries images.upper

abbrev pub FitsOneLog : Shape → {B : Type 0} → Ghosts B → B → Kept → Bytes → Type 0
FitsOneLog name g b kept images = OneLogRules name (g.sector_bytes b) kept images
    × (g.tells b → OneLogWords name kept images (g.words b))

abbrev pub FitsAlone : {B : Type 0} → Ghosts B → B → Kept → Bytes → Type 0
FitsAlone g b kept images = FitsOneLog shape.Alone g b kept images

abbrev pub FitsMarked : {B : Type 0} → Ghosts B → B → Kept → Bytes → Type 0
FitsMarked g b kept images = FitsOneLog shape.Marked g b kept images

abbrev pub FitsVoided : {B : Type 0} → Ghosts B → B → Kept → Bytes → Type 0
FitsVoided g b kept images = FitsOneLog shape.Voided g b kept images

-- the chunk of the torn last entry, where it is known to be completable
abbrev pub torn_chunk : Bool → Log → Option ℕ
torn_chunk false log = None
torn_chunk true log = option_map (λ torn. torn.line / 8) log.torn

-- Spilled, whether the words are told or not: there is the log of the other sector too. Where its
-- torn last entry is completable it has eight lines from a chunk's start on, and the room rule
-- holds of the logs and the bytes.
pub record TwoLogRules (sector_bytes : ℕ) (kept : Kept) (log : Log) (images : Bytes) : Type 0 where
  pub home : IsKeptState shape.Spilled sector_bytes kept images
  pub other : kept.other ≡ Some log
  pub region : log.region ≡ second_of kept.guard
  pub mark : log.mark ≡ InUse
  pub other_log : IsLogIn (sector_bytes / 2) log
  pub chunk : kept.completable ≡ true → IsSome log.torn
      × IfSome log.torn (λ torn. (torn.lines ≡ 8) × (torn.line % 8 ≡ 0))
  pub room :
      copy_bytes * left_to_copy images.whole images.upper (torn_chunk kept.completable log)
      + 2 * log.end ≤ sector_bytes

-- What it keeps of words that are told: both logs, the bytes of both, and of the other alone.
pub record TwoLogWords (kept : Kept) (log : Log) (images : Bytes) (w : Words) : Type 0 where
  pub home : List Entry
  pub other : List Entry
  pub reads : IsBoth w kept.guard Full InUse home other
  pub home_log : IsLogOf kept.home (first_of kept.guard) Full home
  pub other_log : IsLogOf log (second_of kept.guard) InUse other
  pub whole : IsValue (home ++ other) images.whole
  pub upper : IsValue other images.upper
  pub completable : kept.completable ≡ is_some (finishing images.whole other)

abbrev pub FitsSpilled : {B : Type 0} → Ghosts B → B → Kept → Bytes → Type 0
FitsSpilled g b kept images = (log : Log) × TwoLogRules (g.sector_bytes b) kept log images
    × (g.tells b → TwoLogWords kept log images (g.words b))

-- the chunk of the completable torn last entry
abbrev pub state_chunk : Kept → Option ℕ
state_chunk kept = option_and_then (torn_chunk kept.completable) kept.other

-- the chunks that are left to copy
abbrev pub left_chunks : Kept → Bytes → ℕ
left_chunks kept images = left_to_copy images.whole images.upper (state_chunk kept)

-- a state of this name
abbrev pub FitsShape : Shape → {B : Type 0} → Ghosts B → B → Kept → Bytes → Type 0
FitsShape shape.Alone g b kept images = FitsAlone g b kept images
FitsShape shape.Marked g b kept images = FitsMarked g b kept images
FitsShape shape.Spilled g b kept images = FitsSpilled g b kept images
FitsShape shape.Voided g b kept images = FitsVoided g b kept images

-- home's free bytes
abbrev pub free_of : Kept → ℕ
free_of kept = kept.sector_bytes - 2 * kept.home.end
