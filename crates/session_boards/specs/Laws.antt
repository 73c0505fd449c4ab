-- What holds of every generated session.
use Rattle.std.specs.Prelude.{◌≡◌, ◌≤◌, ℕ, ◌*◌, List, length}
use Rattle.flash_traits.specs.Losses.{Received}
use Rattle.session_boards.specs.Session.{AreFirst, EndsOnce, HasNoEnd, IsGenerated}

-- Events from the first one on that come to an end are the whole session, and each round has at
-- most nine turns.
pub record SessionEnds : Type 0 where
  pub whole : (rounds : ℕ) (events : List Received) → AreFirst rounds events → EndsOnce events
      → IsGenerated rounds events
  pub few : (rounds : ℕ) (events : List Received) → AreFirst rounds events → HasNoEnd events
      → length events ≤ 9 * rounds

-- A number of rounds has one session: lists of events that are the whole session are the same.
abbrev pub OneSession : Type 0
OneSession = (rounds : ℕ) (events others : List Received) → IsGenerated rounds events
    → IsGenerated rounds others → events ≡ others
