-- The record of calls, and what a loss may have left.
use Rattle.std.specs.Prelude.{◌≡◌, ◌⊎◌, ℕ, ◌+◌, ◌≤◌, List, [], ◌∷◌, ◌++◌, Option, Some, None, slice_get, true, false}
use Rattle.std.proofs.Common.{refl, arith, inl, inr, length}
use Rattle.flash_traits.specs.Words.{programmed, erased, ProgramMayLeave, EraseMayLeave}
use Rattle.flash_traits.specs.Losses.{Received, Datagram, Idle, End, sent_frame, Moment, IsUpTo, Outcome, OnWords, Receives, Sends, Unchanged, Either}
use Rattle.flash_board.specs.Flash.{half_erased}
use Rattle.flash_board.specs.declared.record.Feed.{Feed}
use Rattle.flash_board.specs.declared.record.Feed.TheVariants as fed
use Rattle.flash_board.specs.declared.record.Call.{Call}
use Rattle.flash_board.specs.declared.record.Call.TheVariants as call

-- an entry of the feed as what is received; behind the feed comes End
abbrev pub event_of : Option Feed → Received
event_of (Some (fed.Datagram peer bytes)) = Datagram peer bytes.items
event_of (Some fed.Idle) = Idle
event_of (Some fed.End) = End
event_of None = End

module _ (feed : List Feed) where
  -- what a recorded call did
  abbrev pub stepped : Call → Outcome → Outcome
  stepped (call.Program r at word true) s = record {
    words = programmed s.words r at word;
    events = s.events;
    frames = s.frames;
  }
  stepped (call.Program r at word false) s = s
  stepped (call.Erase r true) s = record {
    words = erased s.words r;
    events = s.events;
    frames = s.frames;
  }
  stepped (call.Erase r false) s = record {
    words = half_erased s.words r;
    events = s.events;
    frames = s.frames;
  }
  stepped (call.Recv next true) s = record {
    words = s.words;
    events = s.events ++ event_of (slice_get feed next) ∷ [];
    frames = s.frames;
  }
  stepped (call.Recv next false) s = s
  stepped (call.Send peer bytes true) s = record {
    words = s.words;
    events = s.events;
    frames = s.frames ++ sent_frame peer bytes.items ∷ [];
  }
  stepped (call.Send peer bytes false) s = s

  -- what a loss inside it may have left
  abbrev pub MayLeave : Call → Outcome → Outcome → Type 0
  MayLeave (call.Program r at word done) = OnWords (ProgramMayLeave r at word)
  MayLeave (call.Erase r done) = OnWords (EraseMayLeave r)
  MayLeave (call.Recv next true) = Either Unchanged (Receives (event_of (slice_get feed next)))
  MayLeave (call.Recv next false) = Unchanged
  MayLeave (call.Send peer bytes done) = Either Unchanged (Sends (sent_frame peer bytes.items))

  -- the moment after it
  abbrev pub counted : Call → Moment → Moment
  counted (call.Program r at word done) t = record {
    programs = t.programs + 1;
    erases = t.erases;
    receptions = t.receptions;
    sendings = t.sendings;
  }
  counted (call.Erase r done) t = record {
    programs = t.programs;
    erases = t.erases + 1;
    receptions = t.receptions;
    sendings = t.sendings;
  }
  counted (call.Recv next done) t = record {
    programs = t.programs;
    erases = t.erases;
    receptions = t.receptions + 1;
    sendings = t.sendings;
  }
  counted (call.Send peer bytes done) t = record {
    programs = t.programs;
    erases = t.erases;
    receptions = t.receptions;
    sendings = t.sendings + 1;
  }

  -- after all calls, the oldest first
  abbrev pub replayed : List Call → Outcome → Outcome
  replayed [] s = s
  replayed (c ∷ calls) s = replayed calls (stepped c s)

  abbrev pub moment_after : List Call → Moment → Moment
  moment_after [] t = t
  moment_after (c ∷ calls) t = moment_after calls (counted c t)

  -- a loss since t, in front of one of these calls, inside it, or behind the last, when m and s
  -- were before the first
  abbrev pub LeftBy : List Call → Moment → Outcome → Moment → Outcome → Type 0
  LeftBy [] m s t o = IsUpTo t m × (o ≡ s)
  LeftBy (c ∷ calls) m s t o = (IsUpTo t m × ((o ≡ s) ⊎ MayLeave c s o)) ⊎
      LeftBy calls (counted c m) (stepped c s) t o

total : Moment → ℕ
total t = t.programs + t.erases + t.receptions + t.sendings

total-counted : (feed : List Feed) (c : Call) (t : Moment) → total (counted feed c t) ≡ total t + 1
unfolding total
total-counted feed (call.Program r at word done) t = omega arith
total-counted feed (call.Erase r done) t = omega arith
total-counted feed (call.Recv next done) t = omega arith
total-counted feed (call.Send peer bytes done) t = omega arith

total-after : (feed : List Feed) (calls : List Call) (t : Moment) →
    total (moment_after feed calls t) ≡ total t + length calls
total-after feed [] t = omega arith
total-after feed (c ∷ calls) t = omega (
  arith,
  total-after feed calls (counted feed c t),
  total-counted feed c t,
)

total-up_to : (t m : Moment) → IsUpTo t m → total t ≤ total m
unfolding total
total-up_to t m le = omega (arith, le.programs, le.erases, le.receptions, le.sendings)

-- since the last moment there is nothing but what stands now
pub only_last : (feed : List Feed) (calls : List Call) (m : Moment) (s o : Outcome) →
    LeftBy feed calls m s (moment_after feed calls m) o → o ≡ replayed feed calls s
only_last feed [] m s o left = left.1
only_last feed (c ∷ calls) m s o (inl here) = absurd (omega (
  arith,
  total-up_to (moment_after feed
      calls (counted feed c m)) m here.0,
  total-after feed calls (counted feed c m),
  total-counted
      feed c m,
))
only_last feed (c ∷ calls) m s o (inr rest) = only_last feed calls (counted feed c m) (stepped feed
    c s) o rest

-- what stands now is one of the outcomes since an earlier moment
pub counts_last : (feed : List Feed) (calls : List Call) (m t : Moment) (s : Outcome) →
    IsUpTo t (moment_after feed calls m) → LeftBy feed calls m s t (replayed feed calls s)
counts_last feed [] m t s le = (le, refl)
counts_last feed (c ∷ calls) m t s le = inr (counts_last feed calls (counted feed c m) t (stepped
    feed c s) le)
