-- The lines of a list's elements, by their indices.
use Rattle.std.proofs.Common.{◌≡◌, ◌≤◌, ℕ, zero, suc, ◌+◌, ◌++◌, List, [], ◌∷◌, Some, refl, sym, ◌∙◌, ap, arith, take, drop, length}
use Rattle.std.specs.Prelude.{slice_get, Result, Ok, Err, IsErrAnd}
use Rattle.std.specs.List.{flat_map, enumerate_from}
use Rattle.std.proofs.lemmas.List.{append-nil, take-append-drop, take_more, take_all}
use Rattle.std.proofs.lemmas.List.FromFn.{length-enumerate_from}
use Rattle.std.proofs.lemmas.Option.{slice_get_within, get_or_from_slice_get}
use Rattle.std.proofs.lemmas.Grind.{flat_map-append}
use Rattle.flash_traits.specs.declared.stream.Sink.{Ghosts}
use Rattle.mission_records.specs.Mission.{total_of, mission_area, mission_of}
use Rattle.mission_records.proofs.Commands.{length-commands_in}
use Rattle.fence_records.specs.declared.items.FenceItem.{FenceItem}
use Rattle.fence_records.specs.Lists.{fence_of}
use Rattle.image_report.specs.Dumps.{numbered_lines, mission_line, command_line, mission_lines, fence_line, fence_item_line, fence_lines}
use Rattle.image_report.specs.Steps.Writes.{Writes}
use Rattle.image_report.proofs.Writing.{writes_then, writes_cut, retext}

-- the element at an index, with it
numbered_get : {X : Type 0} (n i : ℕ) (xs : List X) (x : X) → slice_get xs i ≡ Some x → slice_get (enumerate_from n xs) i ≡ Some (n + i, x)
numbered_get n i [] x h = cc
numbered_get n zero (y ∷ xs) x h = let place : n ≡ n + 0 = omega arith in let same : y ≡ x = cc in ap (λ k. Some (k, y)) place ∙ ap (λ z. Some (n + 0, z)) same
numbered_get n (suc i) (y ∷ xs) x h = numbered_get (n + 1) i xs x h ∙ ap (λ k. Some (k, x)) (let place : n + 1 + i ≡ n + suc i = omega arith in place)

-- the lines of the first i elements
unfoldable pub lines_before : {X : Type 0} → (ℕ → X → List ℕ) → List X → ℕ → List ℕ
lines_before line xs i = flat_map (λ p. line p.0 p.1) (take i (enumerate_from 0 xs))

lines_more : {X : Type 0} (line : ℕ → X → List ℕ) (xs : List X) (i : ℕ) (x : X) → slice_get xs i ≡ Some x → lines_before line xs i ++ line i x ≡ lines_before line xs (i + 1)
unfolding lines_before
lines_more {X} line xs i x is =
    let f : ℕ × X → List ℕ = λ p. line p.0 p.1 in
    let ps = enumerate_from 0 xs in
    let there : slice_get ps i ≡ Some (i, x) = numbered_get 0 i xs x is ∙ ap (λ k. Some (k, x)) (let place : 0 + i ≡ i = omega arith in place) in
    let more : take (i + 1) ps ≡ take i ps ++ (i, x) ∷ [] = take_more ps i (i, x) (slice_get_within ps i (i, x) there) ∙ ap (λ r. take i ps ++ r ∷ []) (get_or_from_slice_get ps i (i, x) (i, x) there) in
    sym (ap (flat_map f) more ∙ flat_map-append f (take i ps) ((i, x) ∷ []) ∙ ap (λ l. flat_map f (take i ps) ++ l) (append-nil (line i x)))

lines_split : {X : Type 0} (line : ℕ → X → List ℕ) (xs : List X) (i : ℕ) → lines_before line xs i ++ flat_map (λ p. line p.0 p.1) (drop i (enumerate_from 0 xs)) ≡ numbered_lines line xs
unfolding lines_before numbered_lines
lines_split {X} line xs i =
    let f : ℕ × X → List ℕ = λ p. line p.0 p.1 in
    let ps = enumerate_from 0 xs in
    sym (flat_map-append f (take i ps) (drop i ps)) ∙ ap (flat_map f) (take-append-drop i ps)

pub no_lines : {X : Type 0} (line : ℕ → X → List ℕ) (xs : List X) → [] ≡ lines_before line xs 0
unfolding lines_before
no_lines line xs = refl

module _ {K : Type 0} (g : Ghosts K) where
  pub numbered_step : {S F T E X : Type 0} (old mid new : K) (line : ℕ → X → List ℕ) (xs : List X) (i : ℕ) (x : X) (done : S) (r : Result T E) → slice_get xs i ≡ Some x → Writes g mid new r (line i x)
      → Writes {T = S} {E = F} g old mid (Ok done) (lines_before line xs i) → Writes g old new r (lines_before line xs (i + 1))
  numbered_step old mid new line xs i x done r is step before =
      retext g old new r _ _ (lines_more line xs i x is) (writes_then g old mid new done r (lines_before line xs i) (line i x) before step)

  pub numbered_cut : {S F T E X : Type 0} (old new : K) (line : ℕ → X → List ℕ) (xs : List X) (i : ℕ) (e : F) (r : Result T E) (P : E → Type 0) → IsErrAnd r P
      → Writes {T = S} {E = F} g old new (Err e) (lines_before line xs i) → Writes g old new r (numbered_lines line xs)
  numbered_cut old new line xs i e r P failed part =
      retext g old new r _ _ (lines_split line xs i) (writes_cut g old new e r P (lines_before line xs i) (flat_map (λ p. line p.0 p.1) (drop i (enumerate_from 0 xs))) failed part)

  pub numbered_all : {T E X : Type 0} (old new : K) (line : ℕ → X → List ℕ) (xs : List X) (i : ℕ) (r : Result T E) → length xs ≤ i → Writes g old new r (lines_before line xs i) → Writes g old new r (numbered_lines line xs)
  unfolding lines_before numbered_lines
  numbered_all {T} {E} {X} old new line xs i r all part =
      let f : ℕ × X → List ℕ = λ p. line p.0 p.1 in
      retext g old new r _ _ (ap (flat_map f) (take_all i (enumerate_from 0 xs) (omega (arith, length-enumerate_from 0 xs, all)))) part

  -- a line, and then another text
  pub line_cut : {S F T E : Type 0} (old new : K) (e : F) (r : Result T E) (P : E → Type 0) (piece a b text : List ℕ) → IsErrAnd r P → piece ≡ a → a ++ b ≡ text → Writes {T = S} {E = F} g old new (Err e) piece → Writes g old new r text
  line_cut old new e r P piece a b text failed is whole part = retext g old new r (piece ++ b) text (ap (λ (l : List ℕ). l ++ b) is ∙ whole) (writes_cut g old new e r P piece b failed part)

  pub line_then : {S F T E : Type 0} (old mid new : K) (x : S) (r : Result T E) (piece a b text : List ℕ) → piece ≡ a → a ++ b ≡ text → Writes {T = S} {E = F} g old mid (Ok x) piece → Writes g mid new r b → Writes g old new r text
  line_then old mid new x r piece a b text is whole first second = retext g old new r (piece ++ b) text (ap (λ (l : List ℕ). l ++ b) is ∙ whole) (writes_then g old mid new x r piece b first second)

-- a section is its first line and the others
pub mission_whole : (bytes : List ℕ) (count : ℕ) → count ≡ total_of bytes → mission_line count ++ numbered_lines command_line (mission_of bytes) ≡ mission_lines bytes
unfolding mission_lines
mission_whole bytes count is =
    let long : count ≡ length (mission_of bytes) = is ∙ sym (length-commands_in (total_of bytes) (mission_area bytes)) in
    ap (λ (n : ℕ). mission_line n ++ numbered_lines command_line (mission_of bytes)) long

pub fence_whole : (bytes : List ℕ) (items : List FenceItem) (count : ℕ) → items ≡ fence_of bytes → count ≡ length items → fence_line count ++ numbered_lines fence_item_line items ≡ fence_lines bytes
unfolding fence_lines
fence_whole bytes items count is long =
    ap (λ (n : ℕ). fence_line n ++ numbered_lines fence_item_line items) long ∙ ap (λ (l : List FenceItem). fence_line (length l) ++ numbered_lines fence_item_line l) is
