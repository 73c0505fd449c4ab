-- What a board tells that makes its events from their numbers, and only counts its frames.
use Rattle.std.specs.Prelude.{◌≡◌, ℕ, List, length}
use Rattle.flash_traits.specs.Counts.{counts}
use Rattle.flash_traits.specs.Losses.{Received, SentFrame}
use Rattle.session_boards.specs.Session.{AreFirst}

-- The events are the first ones of the session and the frames are any, each as many as were counted
-- since the last attach. A count of 64 bits stands still at its end.
pub record HasLists (rounds events frames : ℕ) (e : List Received) (f : List SentFrame)
    : Type 0 where
  pub session : AreFirst rounds e
  pub events_count : events ≡ counts (length e)
  pub frames_count : frames ≡ counts (length f)
