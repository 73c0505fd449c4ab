-- The whole replay, over an image and from the source to the sink.
use Rattle.std.proofs.Common.{◌≡◌, ◌≢◌, ◌≤◌, ◌<◌, inl, inr, ℕ, ◌+◌, false, true, List, [], ◌∷◌, ◌++◌, arith, append-nil, length-append, length, Option, Some, None, IsSome, IfSome, Result, Ok, Err, IfOk, IfErr, sym, ◌∙◌, ap, subst}
use Rattle.std.specs.Borrow.{MutBor}
use Rattle.flash_traits.specs.Budget.{budget_of}
use Rattle.flash_traits.specs.Words.{Words}
use Rattle.flash_traits.specs.declared.stream.Source as source
use Rattle.flash_traits.specs.declared.stream.Sink as sink
use Rattle.sha2.specs.Sha256.{sha256}
use Rattle.sector_image.specs.FirstBad.{Place, FirstBad}
use Rattle.sector_image.specs.Laws.{OneOfBoth}
use Rattle.sector_image.specs.Stands.{Stands}
use Rattle.script_lines.specs.Script.{ScriptLine, End, HasNoEnd, AreLines, IsScript, line_feed}
use Rattle.script_board.specs.Boards.{words_in, unread_in}
use Rattle.script_board.specs.Hearing.{IsRefused}
use Rattle.script_board.specs.Taking.{AreTaken}
use Rattle.script_lines.specs.declared.numbers.TheConstants.{SCRIPT_LINES}
use Rattle.script_board.specs.Image.{words_of}
use Rattle.script_board.specs.declared.board.ScriptBoard.{ScriptBoard}
use Rattle.replay.specs.Breaks.{OnForeign, OnRefused}
use Rattle.replay.specs.Histories.{Replayed, CutShort}
use Rattle.replay.specs.declared.Stop.{Stop}
use Rattle.replay.specs.declared.Stop.TheVariants as stops
use Rattle.script_replay.specs.Steps.Answers.{IsForeign}
use Rattle.script_replay.specs.Calls.{Takes}
use Rattle.script_replay.specs.Steps.Places.{input_of, out_of, size_of, words_at, rest_at, written_at, RefusesAt}
use Rattle.script_replay.specs.Steps.Replaying.{Ran, ReplaysAt, StopsAt}
use Rattle.script_replay.specs.Replays.{ReplaysWhole, ReplaysPart}
use Rattle.script_replay.proofs.Replays.{begins_at}
use Rattle.script_replay.proofs.Scripts.{refused_told}

-- a refusal of the survey is a foreign word
pub foreign_bad : (P : Place → Type 0) (Q : Type 0) → ((p : Place) → P p → Q) → (stop : Stop) → IsForeign P stop → Q
foreign_bad P Q so stops.Memory bad = absurd bad
foreign_bad P Q so (stops.Foreign region offset word) bad = so _ bad
foreign_bad P Q so (stops.Worn count) bad = absurd bad
foreign_bad P Q so (stops.Refused line) bad = absurd bad
foreign_bad P Q so stops.Input bad = absurd bad
foreign_bad P Q so stops.Output bad = absurd bad

pub on_foreign_bad : (P Q : Place → Type 0) → ((p : Place) → P p → Q p) → (stop : Stop) → IsForeign P stop → OnForeign Q stop
on_foreign_bad P Q so stops.Memory bad = tt
on_foreign_bad P Q so (stops.Foreign region offset word) bad = so _ bad
on_foreign_bad P Q so (stops.Worn count) bad = tt
on_foreign_bad P Q so (stops.Refused line) bad = tt
on_foreign_bad P Q so stops.Input bad = tt
on_foreign_bad P Q so stops.Output bad = tt

-- no more lines were taken than a script may have
few_lines : (count : ℕ) (lines : List ScriptLine) → count ≤ SCRIPT_LINES → count ≡ length lines → length lines ≤ SCRIPT_LINES
few_lines count lines few is = subst (λ (n : ℕ). n ≤ SCRIPT_LINES) is few

-- lines that were taken up to the end are the script that the source began with
is_script : (lines front : List ScriptLine) (before unread now : List ℕ) → Takes [] before unread now lines → lines ≡ front ++ End ∷ [] → HasNoEnd front → length lines ≤ SCRIPT_LINES
    → IsScript front (unread ++ now) before
is_script lines front before unread now took are none few =
    let long : length lines ≡ length front + 1 = ap length are ∙ length-append front (End ∷ []) in
    by_end took.whole (omega (arith, few, long))
  where
    by_end : AreTaken lines took.bytes (unread ++ now) → length front < SCRIPT_LINES → IsScript front (unread ++ now) before
    by_end (inl reads) short = record {
      bytes = took.bytes;
      reads = subst (λ (l : List ScriptLine). AreLines l took.bytes) are reads;
      before = none;
      few = short;
      whole = inl took.split;
    }
    by_end (inr (reads, nothing)) short = record {
      bytes = took.bytes ++ line_feed ∷ [];
      reads = subst (λ (l : List ScriptLine). AreLines l (took.bytes ++ line_feed ∷ [])) are reads;
      before = none;
      few = short;
      whole = inr (ap (λ (l : List ℕ). l ++ line_feed ∷ []) (took.split ∙ ap (λ (l : List ℕ). took.bytes ++ l) nothing ∙ append-nil took.bytes), nothing);
    }

module _ {S K : Type 0} {g : source.Ghosts S} {h : sink.Ghosts K} where
  -- what is known of a place that was made of these
  pub record Placed (p : Option (ScriptBoard S K g h)) (i : MutBor S) (o : MutBor K) (size : ℕ) (image : List ℕ) : Type 0 where
    pub input : input_of p ≡ i.ghost_name
    pub out : out_of p ≡ o.ghost_name
    pub size_is : size_of p ≡ size
    pub words : words_at p ≡ words_of size image
    pub rest : rest_at p ≡ g.rest i.now
    pub written : written_at p ≡ h.written o.now

  pub placed_so : (p : Option (ScriptBoard S K g h)) (i : MutBor S) (o : MutBor K) (size : ℕ) (image : List ℕ) → IsSome p → IfSome p (λ b. (b.input ≡ i) × (b.out ≡ o))
      → IfSome p (λ b. (b.geometry.sector_bytes ≡ size) × (b.image.items ≡ image)) → Placed p i o size image
  placed_so None i o size image some these over = absurd (nobody some)
    where
      nobody : false ≡ true → ⊥
      nobody is = cc
  placed_so (Some b) i o size image some these over = record {
    input = ap (λ r. r.ghost_name) these.0;
    out = ap (λ r. r.ghost_name) these.1;
    size_is = over.0;
    words = ap (λ (n : ℕ). words_of n b.image.items) over.0 ∙ ap (λ (l : List ℕ). words_of size l) over.1;
    rest = ap (λ r. g.rest r.now) these.0;
    written = ap (λ r. h.written r.now) these.1;
  }

  module _ (first : Option (ScriptBoard S K g h)) (i : MutBor S) (o : MutBor K) (size : ℕ) (image : List ℕ) (made : Placed first i o size image) (b : ScriptBoard S K g h) where
    -- the lines that were taken, and the text, over the words of the image
    lines_so : {M : Type 0} (H : List ScriptLine → List ℕ → Type 0) → (ran : Ran (begins_at {M = M} first) (words_at first) (Some b) H) → Takes [] (g.rest i.now) (unread_in b) (g.rest b.input.now) ran.lines
    lines_so H ran = subst (λ (r : List ℕ). Takes [] r (unread_in b) (g.rest b.input.now) ran.lines) made.rest ran.takes

    text_so : {M : Type 0} (H : List ScriptLine → List ℕ → Type 0) → (ran : Ran (begins_at {M = M} first) (words_at first) (Some b) H) → h.written b.out.now ≡ h.written o.now ++ ran.text
    text_so H ran = ran.written ∙ ap (λ (l : List ℕ). l ++ ran.text) made.written

    -- it came to its end
    module _ {M : Type 0} (replays : ReplaysAt (begins_at {M = M} first) (words_at first) (Some b)) where
      pub whole_so : (digest bytes : List ℕ) → Stands (words_in b) bytes → digest ≡ sha256 bytes → g.tells_rest b.input.now → h.tells_written b.out.now → (bs : List ℕ) → Stands (words_of size image) bs
          → (text : List ℕ) × (h.written b.out.now ≡ h.written o.now ++ text) × ReplaysWhole (budget_of size) (words_of size image) (g.rest i.now) (g.rest b.input.now) text digest
      whole_so digest bytes stands is tells told bs stood =
          let ran = replays tells told bs (subst (λ (w : Words). Stands w bs) (sym made.words) stood) in (
            ran.text,
            text_so _ ran,
            record {
              lines = ran.lines;
              unread = unread_in b;
              takes = lines_so _ ran;
              now = words_in b;
              replayed = subst (λ (w : Words). Replayed (budget_of size) w ran.lines ran.text (words_in b)) made.words
                  (subst (λ (n : ℕ). Replayed (budget_of n) (words_at first) ran.lines ran.text (words_in b)) made.size_is ran.is);
              front = ran.is.ends.0;
              lines_are = ran.is.ends.1;
              script = is_script ran.lines ran.is.ends.0 _ (unread_in b) _ (lines_so _ ran) ran.is.ends.1 ran.is.ends.2 (few_lines b.line ran.lines b.few ran.count);
              bytes = bytes;
              stands = stands;
              digest_is = is;
            },
          )

      -- and so its words are no foreign ones
      pub never_foreign : OneOfBoth → (p : Place) → FirstBad (words_in b) p → g.tells_rest b.input.now → h.tells_written b.out.now → (bs : List ℕ) → Stands (words_of size image) bs → ⊥
      never_foreign law p bad tells told bs stood =
          let ran = replays tells told bs (subst (λ (w : Words). Stands w bs) (sym made.words) stood) in
          law.never_both (words_in b) _ p ran.is.whole.all_lines bad

    refused_so : (stop : Stop) (count : ℕ) → b.line ≡ count → g.tells_rest b.input.now → OnRefused (RefusesAt (Some b)) stop
        → OnRefused (λ line. (line ≡ count + 1) × IsRefused count b.waiting.items (unread_in b) (Unit {0}) (g.rest b.input.now)) stop
    refused_so stops.Memory count is tells why = tt
    refused_so (stops.Foreign region offset word) count is tells why = tt
    refused_so (stops.Worn n) count is tells why = tt
    refused_so (stops.Refused line) count is tells why = (
      why.0 ∙ ap (λ (n : ℕ). n + 1) is,
      refused_told count b.waiting.items (unread_in b) (g.tells_rest b.input.now) (g.rest b.input.now) tells
          (subst (λ (n : ℕ). IsRefused n b.waiting.items (unread_in b) (g.tells_rest b.input.now) (g.rest b.input.now)) is why.1),
    )
    refused_so stops.Input count is tells why = tt
    refused_so stops.Output count is tells why = tt

    -- it stopped before
    pub part_so : {M : Type 0} (stop : Stop) → StopsAt (begins_at {M = M} first) (words_at first) (Some b) stop → g.tells_rest b.input.now → h.tells_written b.out.now → (bs : List ℕ) → Stands (words_of size image) bs
        → (text : List ℕ) × (h.written b.out.now ≡ h.written o.now ++ text) × ReplaysPart (budget_of size) (words_of size image) (g.rest i.now) (g.rest b.input.now) text stop
    part_so stop stopped tells told bs stood =
        let ran = stopped tells told bs (subst (λ (w : Words). Stands w bs) (sym made.words) stood) in (
          ran.text,
          text_so _ ran,
          record {
            lines = ran.lines;
            unread = unread_in b;
            takes = lines_so _ ran;
            waiting = b.waiting.items;
            now = words_in b;
            few = few_lines b.line ran.lines b.few ran.count;
            cut = subst (λ (w : Words). CutShort (budget_of size) w ran.lines ran.text stop (length b.waiting.items) (words_in b)) made.words
                (subst (λ (n : ℕ). CutShort (budget_of n) (words_at first) ran.lines ran.text stop (length b.waiting.items) (words_in b)) made.size_is ran.is.0);
            refused = refused_so stop (length ran.lines) ran.count tells ran.is.1;
          },
        )

    -- the same of what stands behind the references at last
    module _ (i1 : S) (o1 : K) (same_input : i1 ≡ b.input.now) (same_out : o1 ≡ b.out.now) where
      over_last : (P : S → K → Type 0) → P b.input.now b.out.now → P i1 o1
      over_last P is = subst (λ (x : S). P x o1) (sym same_input) (subst (λ (y : K). P b.input.now y) (sym same_out) is)

      module _ {M : Type 0} (replays : ReplaysAt (begins_at {M = M} first) (words_at first) (Some b)) (law : OneOfBoth) where
        pub whole_by : (r : Result (List ℕ) Stop) → IfOk r (λ digest. (bytes : List ℕ) × Stands (words_in b) bytes × (digest ≡ sha256 bytes))
            → IfOk r (λ digest. g.tells_rest i1 → h.tells_written o1 → (bs : List ℕ) → Stands (words_of size image) bs
            → (text : List ℕ) × (h.written o1 ≡ h.written o.now ++ text) × ReplaysWhole (budget_of size) (words_of size image) (g.rest i.now) (g.rest i1) text digest)
        whole_by (Ok digest) is = over_last (λ x y. g.tells_rest x → h.tells_written y → (bs : List ℕ) → Stands (words_of size image) bs
            → (text : List ℕ) × (h.written y ≡ h.written o.now ++ text) × ReplaysWhole (budget_of size) (words_of size image) (g.rest i.now) (g.rest x) text digest) (whole_so replays digest is.0 is.1 is.2)
        whole_by (Err stop) is = tt

        never : (p : Place) → FirstBad (words_in b) p → g.tells_rest i1 → h.tells_written o1 → (bs : List ℕ) → Stands (words_of size image) bs → ⊥
        never p bad = over_last (λ x y. g.tells_rest x → h.tells_written y → (bs : List ℕ) → Stands (words_of size image) bs → ⊥) (never_foreign replays law p bad)

        pub part_never : (H : Stop → List ℕ → Type 0) (r : Result (List ℕ) Stop) → IfErr r (IsForeign (FirstBad (words_in b)))
            → IfErr r (λ stop. stop ≢ stops.Output → g.tells_rest i1 → h.tells_written o1 → (bs : List ℕ) → Stands (words_of size image) bs → (text : List ℕ) × (h.written o1 ≡ h.written o.now ++ text) × H stop text)
        part_never H (Ok digest) bad = tt
        part_never H (Err stop) bad = λ other tells told bs stood. absurd (foreign_bad (FirstBad (words_in b)) ⊥ (λ p is. never p is tells told bs stood) stop bad)

        pub foreign_never : (r : Result (List ℕ) Stop) → IfErr r (IsForeign (FirstBad (words_in b)))
            → IfErr r (OnForeign (λ p. g.tells_rest i1 → h.tells_written o1 → (bs : List ℕ) → Stands (words_of size image) bs → ⊥))
        foreign_never (Ok digest) bad = tt
        foreign_never (Err stop) bad = on_foreign_bad (FirstBad (words_in b)) (λ p. g.tells_rest i1 → h.tells_written o1 → (bs : List ℕ) → Stands (words_of size image) bs → ⊥) never stop bad

      pub part_by : {M : Type 0} (stop : Stop) → (stop ≢ stops.Output → StopsAt (begins_at {M = M} first) (words_at first) (Some b) stop) → stop ≢ stops.Output → g.tells_rest i1 → h.tells_written o1 → (bs : List ℕ)
          → Stands (words_of size image) bs → (text : List ℕ) × (h.written o1 ≡ h.written o.now ++ text) × ReplaysPart (budget_of size) (words_of size image) (g.rest i.now) (g.rest i1) text stop
      part_by stop stopped other = over_last (λ x y. g.tells_rest x → h.tells_written y → (bs : List ℕ) → Stands (words_of size image) bs
          → (text : List ℕ) × (h.written y ≡ h.written o.now ++ text) × ReplaysPart (budget_of size) (words_of size image) (g.rest i.now) (g.rest x) text stop) (part_so stop (stopped other))

      pub foreign_by : (stop : Stop) → OnForeign (λ p. g.tells_rest b.input.now → h.tells_written b.out.now → (bs : List ℕ) → Stands (words_at first) bs → ⊥) stop
          → OnForeign (λ p. g.tells_rest i1 → h.tells_written o1 → (bs : List ℕ) → Stands (words_of size image) bs → ⊥) stop
      foreign_by stops.Memory bad = tt
      foreign_by (stops.Foreign region offset word) bad = over_last (λ x y. g.tells_rest x → h.tells_written y → (bs : List ℕ) → Stands (words_of size image) bs → ⊥)
          (λ tells told bs stood. bad tells told bs (subst (λ (w : Words). Stands w bs) (sym made.words) stood))
      foreign_by (stops.Worn count) bad = tt
      foreign_by (stops.Refused line) bad = tt
      foreign_by stops.Input bad = tt
      foreign_by stops.Output bad = tt
