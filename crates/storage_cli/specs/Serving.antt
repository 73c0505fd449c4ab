-- What a `serve` and a `format` have done.
use Rattle.std.specs.Prelude.{◌≡◌, ◌⊎◌, ℕ, ◌-◌, Bool, false, List, [], ◌∷◌, ◌++◌, length}
use Rattle.flash_traits.specs.Words.{Words}
use Rattle.flash_traits.specs.declared.board.Board.{Ghosts}
use Rattle.dirty_lines.specs.Lines.{Lines}
use Rattle.dirty_lines.specs.Losses.{IsWornForNext}
use Rattle.storage_lines.specs.declared.lines.LineWrite.{LineWrite}
use Rattle.flash_traits.specs.Losses.{Received, SentFrame, Moment}
use Rattle.sector_image.specs.FirstBad.{Place, FirstBad}
use Rattle.sector_image.specs.Stands.{Stands, IsUsedUp}
use Rattle.vehicle_core.specs.Acts.{Act}
use Rattle.vehicle_runs.specs.Arming.{is_armed_after_all, IsArmedOnce}
use Rattle.vehicle_runs.specs.Reading.{Reads, no_rests}
use Rattle.vehicle_node.specs.Wearing.{EventUnworn, AllUnworn, BootUnworn}
use Rattle.flash_traits.specs.Counts.{counts}
use Rattle.replay.specs.Histories.{IsWholeRun}
use Rattle.session_boards.specs.Session.{HasNoEnd, EndsOnce}
use Rattle.storage_cli.specs.declared.status.TheConstants.{DONE, TURNS_OVER}
use Rattle.storage_cli.specs.Texts.{foreign_line, served_line}

-- whether the vehicle is armed after these events, by the acts of each
abbrev pub is_armed_after_events : Bool → List (List Act) → Bool
is_armed_after_events armed [] = armed
is_armed_after_events armed (acts ∷ events) =
    is_armed_after_events (is_armed_after_all armed acts) events

-- Events one after another, from the lines that are pending before them to those after them: for
-- nothing that was put a sector was to be voided where the guard row was used up.
abbrev pub EventsUnworn : Bool → List (List Act) → Lines → Lines → Type 0
EventsUnworn armed [] old new = new ≡ old
EventsUnworn armed (acts ∷ events) old new = (issued : List LineWrite) × (mid : Lines)
    × EventUnworn armed acts issued old mid
    × EventsUnworn (is_armed_after_all armed acts) events mid new

-- The same of a whole serve of these events, from the words of its attach on: of the lines of boot,
-- of those that each event put, and of those that were pending after the last one.
pub record ServeUnworn {B : Type 0} (g : Ghosts B) (before : Words) (events : List Received)
    (board : B) : Type 0 where
  pub acts : List (List Act)
  pub rests : List (List ℕ)
  pub reads : Reads no_rests events acts rests
  pub opened : Lines
  pub boot : BootUnworn before opened
  pub last : Lines
  pub each : EventsUnworn false acts opened last
  pub closed : AllUnworn g (is_armed_after_events false acts) last board

-- What a `serve` of so many turns has done that came to the end or to the last of its turns,
-- from the words of its attach on. The board is the one at the end, and `printed` what was printed.
pub record Serves {B : Type 0} (g : Ghosts B) (budget : ℕ) (before : Words) (board : B)
    (turns status : ℕ) (printed : List ℕ → Type 0) : Type 0 where
  pub events : List Received
  pub frames : List SentFrame
  -- the board has received these events and sent these frames
  pub are_these : g.has_lists board events frames
  -- where all was done the last event was an end, and no earlier one
  pub ends : status ≡ DONE → EndsOnce events
  -- where the turns are over that many events came, and none was an end
  pub over : status ≡ TURNS_OVER → HasNoEnd events × (length events ≡ turns)
  -- all frames of the run were sent, and all of its lines are in the image
  pub whole : g.tells board → (b : List ℕ) → Stands before b
      → IsWholeRun budget b events frames (g.words board)
  -- nowhere was a sector to be voided where the guard row was used up
  pub unworn : g.tells board → ServeUnworn g before events board
  -- where all was done the events before the end and the frames are printed; a count of 64 bits
  -- stands still at its end
  pub sent : ℕ
  pub count : g.tells board → sent ≡ counts (length frames)
  pub line : status ≡ DONE → printed (served_line (length events - 1) sent)

-- The line names a foreign halfword: where the words are told, the first one.
pub record NamesForeign (told : Type 0) (words : Words) (printed : List ℕ → Type 0)
    : Type 0 where
  pub place : Place
  pub first : told → FirstBad words place
  pub line : printed (foreign_line place.region place.at place.word)

-- Of the events received since the attach, the last is one in which the vehicle was armed, at its
-- start or after one of its acts.
pub record WasArmed {B : Type 0} (g : Ghosts B) (board : B) : Type 0 where
  pub events : List Received
  pub frames : List SentFrame
  pub are_these : g.has_lists board events frames
  pub acts : List (List Act)
  pub last : List Act
  pub rests : List (List ℕ)
  pub reads : Reads no_rests events (acts ++ last ∷ []) rests
  pub armed : IsArmedOnce (is_armed_after_events false acts) last

-- The guard row is used up where a sector has to be voided. The image that was attached has one; or
-- the words left are spilled with every chunk copied, and home's free bytes are fewer than those of
-- the next entry of the lines that wait; or the vehicle was armed, and it had spilled while nothing
-- could be erased.
abbrev pub HasToVoid : {B : Type 0} → Ghosts B → Words → B → Type 0
HasToVoid g words board = (g.tells board → IsUsedUp words)
    ⊎ ((lines : Lines) × IsWornForNext g board lines)
    ⊎ (g.tells board → WasArmed g board)

-- the moment and the words are as they were
pub record IsLeftAlone {B : Type 0} (g : Ghosts B) (old new : B) : Type 0 where
  pub moment : g.moment new ≡ g.moment old
  pub words : g.words new ≡ g.words old

-- nothing was received and nothing sent between two moments
pub record LeavesLink (before now : Moment) : Type 0 where
  pub receptions : now.receptions ≡ before.receptions
  pub sendings : now.sendings ≡ before.sendings
