-- What the fields of a board in memory have to do with each other.
use Rattle.std.specs.Prelude.{◌≡◌, ℕ, ◌≤◌, Bool, true, ◌&&◌, nat_lt, List, [], ◌∷◌, length, map, take, Vec, vec_capacity}
use Rattle.std.specs.declared.alloc.Global.{Global}
use Rattle.flash_traits.specs.Words.{IsSectorSize, HasShape}
use Rattle.flash_traits.specs.Losses.{SentFrame, sent_frame, Moment, Outcome}
use Rattle.flash_board.specs.Flash.{words_of}
use Rattle.flash_board.specs.Record.{replayed, moment_after}
use Rattle.flash_board.specs.declared.flash.Flash.{Flash}
use Rattle.flash_board.specs.declared.record.Feed.{Feed}
use Rattle.flash_board.specs.declared.record.Feed.TheVariants as fed
use Rattle.flash_board.specs.declared.record.Call.{Call}
use Rattle.flash_board.specs.declared.record.Sent.{Sent}
use Rattle.flash_board.specs.declared.counts.Counts.{Counts}
use Rattle.flash_board.specs.declared.counts.Faults.{Faults}

-- the counts of calls as a moment
abbrev pub moment_of : Counts → Moment
moment_of c = record {
  programs = c.programs;
  erases = c.erases;
  receptions = c.receptions;
  sendings = c.sendings;
}

-- how the board stood at its attach
abbrev pub outcome_at_attach : Flash → Outcome
outcome_at_attach base = record { words = words_of base; events = []; frames = [] }

-- a kept frame with its peer
abbrev pub frame_of : Sent → SentFrame
frame_of s = sent_frame s.peer s.bytes.items

-- The record, replayed over the image of the last attach, gives the image, the moment and the first
-- frames.
pub record KeepsRecord (image base : Flash) (feed : List Feed) (calls : List Call)
    (sent : List Sent)
    (now first : Counts) : Type 0 where
  pub words : words_of image ≡ (replayed feed calls (outcome_at_attach base)).words
  pub moment : moment_of now ≡ moment_after feed calls (moment_of first)
  pub frames : map frame_of sent ≡ take 4096 (replayed feed calls (outcome_at_attach base)).frames

-- the record has room for 65,536 calls, and beside it there is room for 4,096 frames
pub record HasSpace (calls : Vec Call Global) (sent : Vec Sent Global) : Type 0 where
  pub calls_room : 65536 ≤ vec_capacity calls
  pub calls_size : length calls.items ≤ 65536
  pub frames_room : 4096 ≤ vec_capacity sent
  pub frames_size : length sent.items ≤ 4096

-- the image has the lengths of its sector size
abbrev pub IsShaped : ℕ → Flash → Type 0
IsShaped sector_bytes image = IsSectorSize sector_bytes → HasShape sector_bytes (words_of image)

-- each peer is below 8
abbrev pub peers_fit : List Feed → Bool
peers_fit [] = true
peers_fit (fed.Datagram peer bytes ∷ feed) = nat_lt peer 8 && peers_fit feed
peers_fit (fed.Idle ∷ feed) = peers_fit feed
peers_fit (fed.End ∷ feed) = peers_fit feed
