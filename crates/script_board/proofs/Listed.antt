-- The lists that a script's board stands for, call by call.
use Rattle.std.proofs.Common.{◌≡◌, ◌≢◌, ◌⊎◌, inl, inr, ℕ, ◌+◌, ◌-◌, ◌^◌, ◌≤◌, ◌<◌, min, List, [], ◌∷◌, ◌++◌, length, replicate, take, Result, Ok, Err, Option, Some, None, refl, sym, ◌∙◌, ap, subst, arith, append_assoc, append-nil, length-append}
use Rattle.std.proofs.lemmas.List.{length-replicate}
use Rattle.flash_traits.specs.declared.stream.Source as source
use Rattle.flash_traits.specs.declared.stream.Sink as sink
use Rattle.flash_traits.specs.Losses as link
use Rattle.flash_traits.specs.Losses.{Received, SentFrame, sent_frame}
use Rattle.flash_traits.specs.Counts.{raised_by}
use Rattle.script_lines.specs.Script.{ScriptLine, Datagram, Idle, LossNow, LossLater, End, AreLines, line_feed}
use Rattle.script_lines.specs.Reading.{unread_of}
use Rattle.std.specs.Prelude.{MatchResult, OnOk, OnErr}
use Rattle.flash_traits.specs.declared.board.Event.{Event}
use Rattle.flash_traits.specs.declared.board.Failed.{Failed}
use Rattle.script_board.specs.Taking.{Took, AreTaken, events_in, events_of}
use Rattle.script_board.specs.Printing.{frame_line, frame_lines}
use Rattle.script_board.specs.Marks.{marked}
use Rattle.script_board.specs.Boards.{unread_in}
use Rattle.script_board.specs.Lists.{HasTaken, HasPrinted, HasLists}
use Rattle.script_board.specs.declared.board.ScriptMark.{ScriptMark}
use Rattle.script_board.specs.declared.board.ScriptMark.TheVariants.{Lost, Refused, Input, Output}
use Rattle.script_board.specs.declared.board.ScriptBoard.{ScriptBoard}
use Rattle.script_board.proofs.TakenLines.{taken_join}
use Rattle.script_board.proofs.Hearing.{events-append}

-- a mark of the sink stays
pub still_output : (m : Option ScriptMark) (new : ScriptMark) → marked m new ≢ Some Output → m ≢ Some Output
still_output None new other is = cc
still_output (Some Lost) new other is = cc
still_output (Some (Refused line)) new other is = cc
still_output (Some Input) new other is = cc
still_output (Some Output) new other is = other refl

module _ {S K : Type 0} (g : source.Ghosts S) (h : sink.Ghosts K) where
  -- nothing of the link changed
  pub lists_same : (a b : ScriptBoard S K g h) → b.input ≡ a.input → b.out ≡ a.out → unread_in b ≡ unread_in a → b.taken ≡ a.taken → b.given ≡ a.given
      → (b.mark ≢ Some Output → a.mark ≢ Some Output) → (e : List Received) (f : List SentFrame) → HasLists g h a e f → HasLists g h b e f
  lists_same a b input out unread taken given mark e f had = record {
    taken = λ told rest few.
        subst (λ i. HasTaken (g.given i.now) (g.rest i.now) (unread_in b) b.taken e) (sym input)
        (subst (λ (u : List ℕ). HasTaken (g.given a.input.now) (g.rest a.input.now) u b.taken e) (sym unread)
        (subst (λ (n : ℕ). HasTaken (g.given a.input.now) (g.rest a.input.now) (unread_in a) n e) (sym taken)
        (had.taken (subst (λ i. g.tells_given i.now) input told) (subst (λ i. g.tells_rest i.now) input rest) (subst (λ (n : ℕ). n < 2 ^ 64 - 1) taken few))));
    printed = λ no_output told few.
        subst (λ o. HasPrinted (h.written o.now) b.given f) (sym out)
        (subst (λ (n : ℕ). HasPrinted (h.written a.out.now) n f) (sym given)
        (had.printed (mark no_output) (subst (λ o. h.tells_written o.now) out told) (subst (λ (n : ℕ). n < 2 ^ 64 - 1) given few)));
  }

  pub lists_begun : (b : ScriptBoard S K g h) → unread_in b ≡ [] → (b.taken < 2 ^ 64 - 1 → b.taken ≡ 0) → (b.given < 2 ^ 64 - 1 → b.given ≡ 0) → HasLists g h b [] []
  lists_begun b none taken given = record {
    taken = λ told rest few. record {
      before = g.given b.input.now;
      bytes = [];
      lines = [];
      given_are = sym (append-nil (g.given b.input.now)) ∙ ap (λ (l : List ℕ). g.given b.input.now ++ l) (sym none);
      count = sym (taken few);
      are = inl refl;
      events_are = refl;
    };
    printed = λ no_output told few. record {
      before = h.written b.out.now;
      written_are = sym (append-nil (h.written b.out.now));
      count = sym (given few);
    };
  }

pub unread_none : (buffer : List ℕ) → buffer ≡ [] → unread_of buffer 0 ≡ []
unread_none buffer is = ap (λ (l : List ℕ). unread_of l 0) is

-- one taking more
pub taken_more : {S : Type 0} (g : source.Ghosts S) (a b : S) (u v : List ℕ) (m n k : ℕ) (lines : List ScriptLine) (e x : List Received) → Took g a b u v lines k → n ≡ raised_by k m → n < 2 ^ 64 - 1
    → g.tells_given b → g.tells_rest b → events_of lines ≡ x
    → (g.tells_given a → g.tells_rest a → m < 2 ^ 64 - 1 → HasTaken (g.given a) (g.rest a) u m e) → HasTaken (g.given b) (g.rest b) v n (e ++ x)
taken_more g a b u v m n k lines e x took is few told told_rest events had =
    let was = had (took.told_given told) (took.told_rest told_rest) (omega (arith, is, few)) in
    let rest = took.rest told_rest in
    record {
      before = was.before;
      bytes = was.bytes ++ took.bytes;
      lines = was.lines ++ lines;
      given_are = took.given told ∙ ap (λ (l : List ℕ). l ++ took.fresh) was.given_are ∙ append_assoc was.before (was.bytes ++ u) took.fresh
          ∙ ap (λ (l : List ℕ). was.before ++ l) (append_assoc was.bytes u took.fresh ∙ ap (λ (l : List ℕ). was.bytes ++ l) took.unread ∙ sym (append_assoc was.bytes took.bytes v));
      count = length-append was.bytes took.bytes ∙ omega (arith, was.count, took.long, is, few);
      are = taken_join was.lines lines was.bytes took.bytes u v took.fresh (g.rest a) (g.rest b) was.are (took.whole told_rest) rest took.unread;
      events_are = ap (λ (l : List Received). l ++ x) was.events_are ∙ ap (λ (l : List Received). events_of was.lines ++ l) (sym events) ∙ sym (events-append was.lines lines);
    }

pub frame_lines-append : (xs ys : List SentFrame) → frame_lines (xs ++ ys) ≡ frame_lines xs ++ frame_lines ys
frame_lines-append [] ys = refl
frame_lines-append (x ∷ xs) ys = ap (λ (l : List ℕ). frame_line x ++ l) (frame_lines-append xs ys) ∙ sym (append_assoc (frame_line x) (frame_lines xs) (frame_lines ys))

-- one frame more
pub printed_more : (written : List ℕ) (m n : ℕ) (f : List SentFrame) (x : SentFrame) → n ≡ min (m + length (frame_line x)) (2 ^ 64 - 1) → n < 2 ^ 64 - 1
    → (m < 2 ^ 64 - 1 → HasPrinted written m f) → (now : List ℕ) → now ≡ written ++ frame_line x → HasPrinted now n (f ++ x ∷ [])
printed_more written m n f x is few had now now_is =
    let was = had (omega (arith, is, few)) in
    let lines : frame_lines (f ++ x ∷ []) ≡ frame_lines f ++ frame_line x = frame_lines-append f (x ∷ []) ∙ ap (λ (l : List ℕ). frame_lines f ++ l) (append-nil (frame_line x)) in
    record {
      before = was.before;
      written_are = now_is ∙ ap (λ (l : List ℕ). l ++ frame_line x) was.written_are ∙ append_assoc was.before (frame_lines f) (frame_line x) ∙ ap (λ (l : List ℕ). was.before ++ l) (sym lines);
      count = ap length lines ∙ length-append (frame_lines f) (frame_line x) ∙ omega (arith, was.count, is, few);
    }

-- so many events take more bytes than they are
two_bytes : (lines : List ScriptLine) (bytes : List ℕ) → AreLines lines bytes → length lines ≤ length bytes
two_bytes [] bytes are = omega arith
two_bytes (l ∷ lines) bytes are = omega (arith, ap length are.3, length-append are.0 (line_feed ∷ are.1), two_bytes lines are.1 are.4)

few_events : (lines : List ScriptLine) → length (events_of lines) ≤ length lines
few_events [] = omega arith
few_events (l ∷ lines) = omega (arith, few_events lines, one l, length-append (events_in l) (events_of lines))
  where
    one : (l : ScriptLine) → length (events_in l) ≤ 1
    one (Datagram station bytes) = omega arith
    one Idle = omega arith
    one LossNow = omega arith
    one (LossLater call how) = omega arith
    one End = omega arith

taken_fits : (given rest unread : List ℕ) (n : ℕ) (e : List Received) → HasTaken given rest unread n e → length e ≤ n + 1
taken_fits given rest unread n e had = fits had.are
  where
    fits : AreTaken had.lines had.bytes (unread ++ rest) → length e ≤ n + 1
    fits (inl are) = omega (arith, ap length had.events_are, few_events had.lines, two_bytes had.lines had.bytes are, had.count)
    fits (inr are) = omega (arith, ap length had.events_are, few_events had.lines, two_bytes had.lines (had.bytes ++ line_feed ∷ []) are.0, length-append had.bytes (line_feed ∷ []), had.count)

-- no board stands for each list
pub any_events : (given rest unread : List ℕ) (n : ℕ) → ((e : List Received) → HasTaken given rest unread n e) → ⊥
any_events given rest unread n any = omega (arith, taken_fits given rest unread n (replicate (n + 2) link.Idle) (any (replicate (n + 2) link.Idle)), length-replicate (n + 2) link.Idle)

pub any_frames : (written : List ℕ) (n : ℕ) → ((f : List SentFrame) → HasPrinted written n f) → ⊥
any_frames written n any =
    let none = (any []).count in
    let one = (any (sent_frame 0 [] ∷ [])).count in
    let long : 1 ≤ length (frame_lines (sent_frame 0 [] ∷ [])) = omega arith in
    omega (arith, none, one, long)

pub unread_by : (x y : List ℕ) (m n : ℕ) → x ≡ y → m ≡ n → unread_of x m ≡ unread_of y n
unread_by x y m n same is = ap (λ (l : List ℕ). unread_of l m) same ∙ ap (unread_of y) is

module _ {S K : Type 0} (g : source.Ghosts S) (h : sink.Ghosts K) (a b : ScriptBoard S K g h) where
  -- a reception
  pub lists_heard : (r : Result Event Failed) (buffer : List ℕ) (lines : List ScriptLine) (count : ℕ) → Took g a.input.now b.input.now (unread_in a) (unread_in b) lines count
      → b.taken ≡ raised_by count a.taken → MatchResult r (λ event. events_of lines ≡ link.received event buffer ∷ []) (λ x. events_of lines ≡ []) → b.out ≡ a.out → b.given ≡ a.given → (a.mark ≡ Some Output → b.mark ≡ Some Output)
      → (e : List Received) (f : List SentFrame) → HasLists g h a e f → MatchResult r (λ event. HasLists g h b (e ++ link.received event buffer ∷ []) f) (λ x. HasLists g h b e f)
  lists_heard r buffer lines count took taken hears out given mark e f had = by_result r hears
    where
      more : (x : List Received) → events_of lines ≡ x → HasLists g h b (e ++ x) f
      more x events = record {
        taken = λ told rest few. taken_more g a.input.now b.input.now (unread_in a) (unread_in b) a.taken b.taken count lines e x took taken few told rest events had.taken;
        printed = λ no_output told few.
            subst (λ o. HasPrinted (h.written o.now) b.given f) (sym out)
            (subst (λ (n : ℕ). HasPrinted (h.written a.out.now) n f) (sym given)
            (had.printed (λ is. no_output (mark is)) (subst (λ o. h.tells_written o.now) out told) (subst (λ (n : ℕ). n < 2 ^ 64 - 1) given few)));
      }

      by_result : (r : Result Event Failed) → MatchResult r (λ event. events_of lines ≡ link.received event buffer ∷ []) (λ x. events_of lines ≡ []) → MatchResult r (λ event. HasLists g h b (e ++ link.received event buffer ∷ []) f) (λ x. HasLists g h b e f)
      by_result (Ok event) hears = more (link.received event buffer ∷ []) hears
      by_result (Err x) hears = subst (λ (l : List Received). HasLists g h b l f) (append-nil e) (more [] hears)

  -- a sending
  pub lists_sent : (r : Result (Unit {0}) Failed) (x : SentFrame) → b.input ≡ a.input → unread_in b ≡ unread_in a → b.taken ≡ a.taken
      → (h.tells_written b.out.now → h.tells_written a.out.now)
      → (h.tells_written b.out.now → MatchResult r (λ done. h.written b.out.now ≡ h.written a.out.now ++ frame_line x) (λ failed. (count : ℕ) × (h.written b.out.now ≡ h.written a.out.now ++ take count (frame_line x))))
      → OnOk r (b.given ≡ min (a.given + length (frame_line x)) (2 ^ 64 - 1)) → OnOk r (b.mark ≡ a.mark) → OnErr r (b.mark ≡ Some Output)
      → (e : List Received) (f : List SentFrame) → HasLists g h a e f → MatchResult r (λ done. HasLists g h b e (f ++ x ∷ [])) (λ failed. HasLists g h b e f ⊎ HasLists g h b e (f ++ x ∷ []))
  lists_sent r x input unread taken told written given unmarked marked e f had = by_result r written given unmarked marked
    where
      events : g.tells_given b.input.now → g.tells_rest b.input.now → b.taken < 2 ^ 64 - 1 → HasTaken (g.given b.input.now) (g.rest b.input.now) (unread_in b) b.taken e
      events told rest few =
          subst (λ i. HasTaken (g.given i.now) (g.rest i.now) (unread_in b) b.taken e) (sym input)
          (subst (λ (u : List ℕ). HasTaken (g.given a.input.now) (g.rest a.input.now) u b.taken e) (sym unread)
          (subst (λ (n : ℕ). HasTaken (g.given a.input.now) (g.rest a.input.now) (unread_in a) n e) (sym taken)
          (had.taken (subst (λ i. g.tells_given i.now) input told) (subst (λ i. g.tells_rest i.now) input rest) (subst (λ (n : ℕ). n < 2 ^ 64 - 1) taken few))))

      by_result : (r : Result (Unit {0}) Failed)
          → (h.tells_written b.out.now → MatchResult r (λ done. h.written b.out.now ≡ h.written a.out.now ++ frame_line x) (λ failed. (count : ℕ) × (h.written b.out.now ≡ h.written a.out.now ++ take count (frame_line x))))
          → OnOk r (b.given ≡ min (a.given + length (frame_line x)) (2 ^ 64 - 1)) → OnOk r (b.mark ≡ a.mark) → OnErr r (b.mark ≡ Some Output)
          → MatchResult r (λ done. HasLists g h b e (f ++ x ∷ [])) (λ failed. HasLists g h b e f ⊎ HasLists g h b e (f ++ x ∷ []))
      by_result (Ok done) written given unmarked marked = record {
        taken = events;
        printed = λ no_output tell few. printed_more (h.written a.out.now) a.given b.given f x given few (had.printed (λ is. no_output (unmarked ∙ is)) (told tell)) (h.written b.out.now) (written tell);
      }
      by_result (Err failed) written given unmarked marked = inl (record { taken = events; printed = λ no_output tell few. absurd (no_output marked) })

  -- an attach, after which the lists begin anew
  pub lists_anew : (unread_in b ≡ []) → (b.taken < 2 ^ 64 - 1 → a.taken < 2 ^ 64 - 1) → (b.given < 2 ^ 64 - 1 → a.given < 2 ^ 64 - 1) → b.input ≡ a.input → b.out ≡ a.out → b.mark ≡ a.mark
      → ((e : List Received) (f : List SentFrame) → HasLists g h a e f) → (e : List Received) (f : List SentFrame) → HasLists g h b e f
  lists_anew none taken given input out mark any e f = record {
    taken = λ told rest few. absurd (any_events (g.given a.input.now) (g.rest a.input.now) (unread_in a) a.taken
        (λ l. (any l []).taken (subst (λ i. g.tells_given i.now) input told) (subst (λ i. g.tells_rest i.now) input rest) (taken few)));
    printed = λ no_output told few. absurd (any_frames (h.written a.out.now) a.given
        (λ l. (any [] l).printed (λ is. no_output (mark ∙ is)) (subst (λ o. h.tells_written o.now) out told) (given few)));
  }
