-- What a board in memory has beside its words, its moment and what it tells.
use Rattle.std.specs.Prelude.{ℕ, ◌+◌, min, List, [], ◌∷◌, ◌++◌, take, drop, map, length, slice_get, Option, Some, None}
use Rattle.flash_traits.specs.Losses.{Received, SentFrame, sent_frame}
use Rattle.flash_board.specs.Record.{event_of}
use Rattle.flash_board.specs.Kept.{frame_of}
use Rattle.flash_board.specs.declared.record.Feed.{Feed}
use Rattle.flash_board.specs.declared.memory.Memory.{Memory}
use Rattle.arrayvec.specs.ArrayVec.{ArrayVec}

-- the image's sector size, the feed that is left, the first frames and the size of the record
pub record Holdings : Type 0 where
  -- the sector size of its image, or 0 where the image has another length than the four
  pub image_size : ℕ
  -- what it is still to receive; behind that comes End
  pub upcoming : List Feed
  -- the first 4,096 frames sent since the last attach
  pub first_frames : List SentFrame
  -- how many calls since the last attach are on the record
  pub recorded : ℕ

-- one more call on the record, which has room for 65,536
abbrev pub noted : Holdings → Holdings
noted h = record {
  image_size = h.image_size;
  upcoming = h.upcoming;
  first_frames = h.first_frames;
  recorded = min (h.recorded + 1) 65536;
}

-- the first of what it is still to receive is received
abbrev pub fed : Holdings → Holdings
fed h = record {
  image_size = h.image_size;
  upcoming = drop 1 h.upcoming;
  first_frames = h.first_frames;
  recorded = h.recorded;
}

-- one more frame is sent
abbrev pub sent_on : SentFrame → Holdings → Holdings
sent_on f h = record {
  image_size = h.image_size;
  upcoming = h.upcoming;
  first_frames = take 4096 (h.first_frames ++ f ∷ []);
  recorded = h.recorded;
}

-- an image of this sector size is attached
abbrev pub newly_attached : ℕ → Holdings → Holdings
newly_attached size h = record
    { image_size = size; upcoming = h.upcoming; first_frames = []; recorded = 0 }

-- the event that comes next
abbrev pub next_event : Holdings → Received
next_event h = event_of (slice_get h.upcoming 0)

-- what the device in memory holds
abbrev pub holdings_of : Memory → Holdings
holdings_of m = record {
  image_size = m.size;
  upcoming = drop m.next m.feed.items;
  first_frames = map frame_of m.frames.items;
  recorded = length m.calls.items;
}

-- a peer and bytes as a frame
abbrev pub frame_in : Option (ℕ × ArrayVec ℕ) → Option SentFrame
frame_in (Some pair) = Some (sent_frame pair.0 pair.1.items)
frame_in None = None
