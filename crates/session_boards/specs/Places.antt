-- Where an event stands in the session, for the crate's own functions.
use Rattle.std.specs.Prelude.{◌≡◌, ◌≤◌, ℕ, ◌%◌, length, slice_get, take}
use Rattle.session_boards.specs.Session.{session, messages_of, waits_after, sent_in}
use Rattle.session_boards.specs.declared.session.Place.{Place}

-- the event's turn is this step of this round, and so many messages come before it, modulo 256
pub record IsPlace (rounds number : ℕ) (place : Place) : Type 0 where
  pub step : place.step ≤ length (messages_of place.round)
  pub turn : slice_get (session rounds) number
      ≡ slice_get (waits_after (messages_of place.round)) place.step
  pub sequence : sent_in (take number (session rounds)) % 256 ≡ place.sequence
