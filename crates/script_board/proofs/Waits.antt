-- Losses at later calls before the line of an event.
use Rattle.std.proofs.Common.{◌≡◌, ◌⊎◌, inl, inr, ℕ, ◌+◌, ◌≤◌, ◌<◌, List, [], ◌∷◌, ◌++◌, length, take, Option, refl, sym, ◌∙◌, ap, subst, arith, length-append}
use Rattle.flash_traits.specs.declared.numbers.TheConstants.{STATIONS}
use Rattle.flash_traits.specs.declared.stream.Source as source
use Rattle.flash_traits.specs.declared.stream.Sink as sink
use Rattle.flash_traits.specs.Counts.{raised}
use Rattle.script_lines.specs.Script.{ScriptLine, Datagram, Idle, LossNow, LossLater, End, Spells}
use Rattle.script_lines.specs.declared.line.Waiting.{Waiting}
use Rattle.script_lines.specs.declared.line.ScriptLine as read
use Rattle.script_lines.specs.declared.line.ScriptLine.TheVariants as kinds
use Rattle.script_lines.specs.Seen.{script_line_of}
use Rattle.script_board.specs.Hearing.{loses, loses_in, waiting_after, waits_by, since_taken, since_after, since_by, AreLosses, IsUnheard}
use Rattle.script_board.specs.Marks.{marked}
use Rattle.script_board.specs.Boards.{OnlyScript}
use Rattle.script_board.specs.declared.board.ScriptBoard.{ScriptBoard}
use Rattle.script_board.specs.declared.board.ScriptMark.{ScriptMark}
use Rattle.script_board.specs.declared.board.ScriptMark.TheVariants.{Refused, Input}

pub loses-append : (a b : List ScriptLine) → loses (a ++ b) ≡ loses a + loses b
loses-append [] b = omega arith
loses-append (l ∷ a) b = let rest = loses-append a b in omega (arith, rest)

pub loses_more : (a : List ScriptLine) (l : ScriptLine) → loses (a ++ l ∷ []) ≡ loses a + loses_in l
loses_more a l = let both = loses-append a (l ∷ []) in omega (arith, both)

pub loses_nothing : (a : List ScriptLine) → loses (a ++ []) ≡ loses a
loses_nothing a = let both = loses-append a [] in omega (arith, both)

pub waits_more : (line : ScriptLine) (old new : List Waiting) → new ≡ waiting_after old line → length new ≡ length old + loses_in line
waits_more (LossLater call how) old new is = ap length is ∙ length-append old (record { call = call; how = how } ∷ [])
waits_more (Datagram station bytes) old new is = omega (arith, ap length is)
waits_more Idle old new is = omega (arith, ap length is)
waits_more LossNow old new is = omega (arith, ap length is)
waits_more End old new is = omega (arith, ap length is)

-- the losses that wait, and the calls that are counted, after one line more
pub waits_then : (waiting : List Waiting) (a : List ScriptLine) (l : ScriptLine) → waits_by waiting (a ++ l ∷ []) ≡ waiting_after (waits_by waiting a) l
waits_then waiting [] l = refl
waits_then waiting (line ∷ a) l = waits_then (waiting_after waiting line) a l

pub since_then : (waiting : List Waiting) (since : ℕ) (a : List ScriptLine) (l : ScriptLine) → since_by waiting since (a ++ l ∷ []) ≡ since_after (waits_by waiting a) (since_by waiting since a) l
since_then waiting since [] l = refl
since_then waiting since (line ∷ a) l = since_then (waiting_after waiting line) (since_after waiting since line) a l

pub waits_nothing : (waiting : List Waiting) (a : List ScriptLine) → waits_by waiting (a ++ []) ≡ waits_by waiting a
waits_nothing waiting [] = refl
waits_nothing waiting (line ∷ a) = waits_nothing (waiting_after waiting line) a

pub since_nothing : (waiting : List Waiting) (since : ℕ) (a : List ScriptLine) → since_by waiting since (a ++ []) ≡ since_by waiting since a
since_nothing waiting since [] = refl
since_nothing waiting since (line ∷ a) = since_nothing (waiting_after waiting line) (since_after waiting since line) a

-- the same of a board, after its next line
pub waits_next : (start before now : List Waiting) (a : List ScriptLine) (l : ScriptLine) → before ≡ waits_by start a → now ≡ waiting_after before l → now ≡ waits_by start (a ++ l ∷ [])
waits_next start before now a l was is = is ∙ ap (λ (w : List Waiting). waiting_after w l) was ∙ sym (waits_then start a l)

pub since_next : (start before : List Waiting) (since was now : ℕ) (a : List ScriptLine) (l : ScriptLine) → before ≡ waits_by start a → was ≡ since_by start since a → now ≡ since_after before was l
    → now ≡ since_by start since (a ++ l ∷ [])
since_next start before since was now a l waits counted is =
    is ∙ ap (λ (w : List Waiting). since_after w was l) waits ∙ ap (λ (n : ℕ). since_after (waits_by start a) n l) counted ∙ sym (since_then start since a l)

-- a line of another kind than `x` leaves the count as it was taken
pub taken_after : (waiting : List Waiting) (since : ℕ) (line kind : ScriptLine) → line ≡ kind → since_taken waiting since kind ≡ since_after waiting since kind → since_taken waiting since line ≡ since_after waiting since line
taken_after waiting since line kind is same = ap (λ (l : ScriptLine). since_taken waiting since l) is ∙ same ∙ sym (ap (λ (l : ScriptLine). since_after waiting since l) is)

-- a line that lets no loss wait leaves the count
pub other_since : (line : read.ScriptLine) → ((loss : Waiting) → line ≡ kinds.LossLater loss → ⊥) → (waiting : List Waiting) (since : ℕ) → since_taken waiting since (script_line_of line) ≡ since
other_since (kinds.Datagram station bytes) other waiting since = refl
other_since kinds.Idle other waiting since = refl
other_since kinds.LossNow other waiting since = refl
other_since (kinds.LossLater loss) other waiting since = absurd (other loss refl)
other_since kinds.End other waiting since = refl

pub take_front : (n : ℕ) (xs ys : List ℕ) → n ≡ length xs → take n (xs ++ ys) ≡ xs
take_front n xs ys is = ap (λ (k : ℕ). take k (xs ++ ys)) is ∙ front xs ys
  where
    front : (xs ys : List ℕ) → take (length xs) (xs ++ ys) ≡ xs
    front [] ys = refl
    front (x ∷ xs) ys = ap (λ (l : List ℕ). x ∷ l) (front xs ys)

pub station_fits : (line : ScriptLine) (station : ℕ) (bytes text : List ℕ) → line ≡ Datagram station bytes → Spells line text → station < STATIONS
station_fits line station bytes text is spells = (subst (λ (l : ScriptLine). Spells l text) is spells).station_fits

-- no event after losses at later calls, by why the next line wasn't taken
pub unheard_then : (m0 m1 m2 : Option ScriptMark) (f0 f1 s0 s1 s2 : ℕ) (lines : List ScriptLine) (line : ℕ) (refused : Type 0) → m1 ≡ m0 → f1 ≡ f0 → s1 ≡ s0 → AreLosses lines
    → ((s2 ≡ raised s1) × (f1 ≡ 0 → m2 ≡ marked m1 Input)) ⊎ (refused × (m2 ≡ marked m1 (Refused line)) × (s2 ≡ s1))
    → IsUnheard m0 m2 f0 lines s0 s2 line refused
unheard_then m0 m1 m2 f0 f1 s0 s1 s2 lines line refused mark same more losses (inl (rose, marks)) =
    inr (inl (losses, rose ∙ ap raised more, λ none. marks (same ∙ none) ∙ ap (λ (m : Option ScriptMark). marked m Input) mark))
unheard_then m0 m1 m2 f0 f1 s0 s1 s2 lines line refused mark same more losses (inr (refusal, marks, still)) =
    inr (inr (losses, refusal, marks ∙ ap (λ (m : Option ScriptMark). marked m (Refused line)) mark, still ∙ more))

module _ {S K : Type 0} {g : source.Ghosts S} {h : sink.Ghosts K} where
  pub only_none : (a : ScriptBoard S K g h) → OnlyScript a a
  only_none a = record { geometry = refl; image = refl; out = refl; given = refl; moment = refl; others = λ k lt. refl }

  pub only_then : (a b c : ScriptBoard S K g h) → OnlyScript a b → OnlyScript b c → OnlyScript a c
  only_then a b c first second = record {
    geometry = second.geometry ∙ first.geometry;
    image = second.image ∙ first.image;
    out = second.out ∙ first.out;
    given = second.given ∙ first.given;
    moment = second.moment ∙ first.moment;
    others = λ k lt. second.others k lt ∙ first.others k lt;
  }
