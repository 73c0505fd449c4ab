-- Lines of a script that were taken, one call after another.
use Rattle.std.proofs.Common.{◌≡◌, ◌⊎◌, inl, inr, ℕ, ◌+◌, ◌≤◌, Bool, List, [], ◌∷◌, ◌++◌, length, Option, Some, None, Ok, refl, ap, arith, length-append}
use Rattle.flash_traits.specs.declared.board.Event.{Event}
use Rattle.flash_traits.specs.declared.board.Event.TheVariants as event
use Rattle.script_lines.specs.Script.{ScriptLine, Datagram, Idle, LossNow, LossLater, End}
use Rattle.script_lines.specs.declared.line.Waiting.{Waiting}
use Rattle.script_board.specs.Hearing.{loses, loses_in, IsRefused, waiting_behind}
use Rattle.script_board.specs.Taking.{IsAhead, HasNoLine}
use Rattle.script_board.specs.declared.board.ScriptMark.{ScriptMark}
use Rattle.script_board.specs.declared.board.ScriptMark.TheVariants.{Lost, Refused, Input, Output}
use Rattle.script_board.proofs.TakenLines.{taken-append}
use Rattle.script_replay.specs.Calls.{Takes, HasHeard, WaitsBy}

-- no line was taken
pub takes_none : (unread rest : List ℕ) → Takes unread rest unread rest []
takes_none unread rest = record { bytes = []; split = refl; whole = inl refl }

-- these lines were taken, and then others
pub takes_then : (u0 r0 u1 r1 u2 r2 : List ℕ) (ls ms : List ScriptLine) → Takes u0 r0 u1 r1 ls → Takes u1 r1 u2 r2 ms → Takes u0 r0 u2 r2 (ls ++ ms)
takes_then u0 r0 u1 r1 u2 r2 ls ms first second =
    let both = taken-append ls ms (u0 ++ r0) first.bytes (u1 ++ r1) second.bytes (u2 ++ r2) first.split first.whole second.split second.whole in
    record { bytes = first.bytes ++ second.bytes; split = both.0; whole = both.1 }

most_in : (l : ScriptLine) → loses_in l ≤ 1
most_in (Datagram station bytes) = omega arith
most_in Idle = omega arith
most_in LossNow = omega arith
most_in (LossLater call how) = omega arith
most_in End = omega arith

-- no more losses at later calls than lines
pub loses_most : (lines : List ScriptLine) → loses lines ≤ length lines
loses_most [] = omega arith
loses_most (l ∷ lines) = omega (arith, most_in l, loses_most lines)

loses_append : (a b : List ScriptLine) → loses (a ++ b) ≡ loses a + loses b
loses_append [] b = omega arith
loses_append (l ∷ a) b = omega (arith, loses_append a b)

-- fewer where a line `x` is the last
pub loses_fewer : (front lines : List ScriptLine) → lines ≡ front ++ LossNow ∷ [] → loses lines + 1 ≤ length lines
loses_fewer front lines is =
    let one = LossNow ∷ [] in
    omega (arith, ap length is, ap loses is, length-append front (LossNow ∷ []), loses_append front (LossNow ∷ []), loses_most front)

waits_most : (m : Option ScriptMark) (would now : ℕ) → WaitsBy m would now → now ≤ would
waits_most None would now waits = omega (arith, waits)
waits_most (Some Lost) would now waits = omega (arith, waits)
waits_most (Some (Refused line)) would now waits = absurd waits
waits_most (Some Input) would now waits = absurd waits
waits_most (Some Output) would now waits = omega (arith, waits)

behind_most : (heard : Event) (before : ℕ) (lines : List ScriptLine) → waiting_behind (Ok heard) before lines ≤ before + loses lines
behind_most (event.Datagram peer len) before lines = omega arith
behind_most event.Idle before lines = omega arith
behind_most event.End before lines = omega arith

-- a call adds no more waiting losses than it took
pub few_heard : (room : Bool) (heard : Option Event) (buffer : List ℕ) (m : Option ScriptMark) (before now was here : ℕ) (refused : Type 0) (next : ℕ) (lines : List ScriptLine)
    → HasHeard room heard buffer m before now was here next refused lines → now ≤ before + loses lines
few_heard room None buffer m before now was here refused next lines (inl (none, waits)) = omega (arith, waits_most m before now waits)
few_heard room None buffer m before now was here refused next lines (inr (has_room, un, waits)) = omega (arith, waits)
few_heard room (Some heard) buffer m before now was here refused next lines hears = omega (arith, waits_most m _ now hears.1, behind_most heard before lines)

-- The line that is refused stays refused where what is left is told.
no_line_told : (unread : List ℕ) (told : Type 0) (rest : List ℕ) → told → HasNoLine unread told rest → HasNoLine unread (Unit {0}) rest
no_line_told unread told rest is (inl (none, left)) = inl (none, λ t. left is)
no_line_told unread told rest is (inr (inl ended)) = inr (inl ended)
no_line_told unread told rest is (inr (inr (inl (spells, feed, left)))) = inr (inr (inl (spells, feed, λ t. left is)))
no_line_told unread told rest is (inr (inr (inr long))) = inr (inr (inr long))

ahead_told : (line : ScriptLine) (bytes : ℕ) (unread : List ℕ) (told : Type 0) (rest : List ℕ) → told → IsAhead line bytes unread told rest → IsAhead line bytes unread (Unit {0}) rest
ahead_told line bytes unread told rest is a = record {
  text = a.text;
  spells = a.spells;
  takes = a.takes;
  later = a.later;
  unread_are = a.unread_are;
  long = a.long;
  ends = by a.ends;
}
  where
    by : (a.takes ≡ a.text ++ 10 ∷ []) ⊎ ((a.takes ≡ a.text) × (a.later ≡ []) × (told → rest ≡ []))
        → (a.takes ≡ a.text ++ 10 ∷ []) ⊎ ((a.takes ≡ a.text) × (a.later ≡ []) × (Unit {0} → rest ≡ []))
    by (inl whole) = inl whole
    by (inr (same, none, left)) = inr (same, none, λ t. left is)

pub refused_told : (line : ℕ) (waiting : List Waiting) (unread : List ℕ) (told : Type 0) (rest : List ℕ) → told → IsRefused line waiting unread told rest → IsRefused line waiting unread (Unit {0}) rest
refused_told line waiting unread told rest is (inl many) = inl many
refused_told line waiting unread told rest is (inr (inl none)) = inr (inl (no_line_told unread told rest is none))
refused_told line waiting unread told rest is (inr (inr (full, (call, how, bytes, ahead)))) = inr (inr (full, (call, how, bytes, ahead_told (LossLater call how) bytes unread told rest is ahead)))
