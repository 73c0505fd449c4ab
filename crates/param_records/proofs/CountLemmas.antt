-- How many lines a piece writes.
use Rattle.std.proofs.Common.{◌≡◌, inl, inr, ℕ, zero, suc, ◌+◌, ◌*◌, ◌/◌, ◌%◌, ◌<◌, ◌≤◌, List, length, refl, ◌∙◌, ap, arith}
use Rattle.std.specs.Prelude.{IsErrOf, Result, Err}
use Rattle.std.proofs.lemmas.List.{length-append}
use Rattle.std.proofs.lemmas.Bool.{cases_lt, cases_order}
use Rattle.storage_lines.specs.declared.lines.TheConstants.{STORAGE_BYTES}
use Rattle.storage_lines.specs.declared.lines.LineWrite.{LineWrite}
use Rattle.storage_lines.specs.declared.areas.Area.TheVariants.{Param}
use Rattle.storage_lines.specs.declared.pieces.SplitError.{SplitError}
use Rattle.storage_lines.specs.declared.pieces.SplitError.TheVariants.{OutOfArea, NoPlace}
use Rattle.storage_lines.specs.Areas.{place_in, put_in, spans_of}
use Rattle.storage_lines.specs.Lines.{line_change, changes_below}
use Rattle.storage_lines.specs.Pieces.{writes_of_piece}
use Rattle.storage_lines.proofs.LineLemmas.{line_cases, changes_more}
use Rattle.storage_lines.proofs.SplitLemmas.{line_untouched, no_lines}
use Rattle.storage_lines.proofs.PieceLemmas.{Cut, cut}
use Rattle.param_records.specs.declared.records.TheConstants.{PARAM_BYTES}
use Rattle.param_records.proofs.PieceLemmas.{cut_at_line, param_rises}

-- the lines below k that change, by how many bytes of the piece lie there
pub record FewLines (at n lines c : ℕ) : Type 0 where
  pub none : c ≡ 0 → lines ≡ 0
  pub some : 0 < c → 8 * lines ≤ at % 8 + c + 7

-- where the bytes below a border end, a line ends, or the piece
whole_lines : (at n m lines c : ℕ) → at + n ≤ PARAM_BYTES → Cut (spans_of Param) at n (8 * m) c → FewLines at n lines c → 0 < c → c < n → 8 * lines ≤ at % 8 + c
whole_lines at n m lines c fits k few some less = let bound = few.some some in elim (cut_at_line at n m c fits k) [
  | inl none ↦ absurd (omega arith)
  | inr x ↦ elim x [ inl all ↦ absurd (omega arith) | inr border ↦ omega arith ]
]

pub few_lines : (k at : ℕ) (new b : List ℕ) → length b ≡ STORAGE_BYTES → k ≤ 1920 → at + length new ≤ PARAM_BYTES → (c : ℕ) → Cut (spans_of Param) at (length new) (8 * k) c →
    FewLines at (length new) (length (changes_below k b (put_in (spans_of Param) at new b))) c
few_lines zero at new b size small fits c is =
    let none : length (changes_below zero b (put_in (spans_of Param) at new b)) ≡ 0 = ap (λ (l : List LineWrite). length l) (no_lines b (put_in (spans_of Param) at new b)) in
    let few = is.few in
    record { none = λ e. none; some = λ h. omega arith }
few_lines (suc k) at new b size small fits c is =
    let p = spans_of Param in
    let N = put_in p at new b in
    let found = cut p at (length new) (8 * k) param_rises fits in
    let d = found.0 in
    let below = found.1 in
    let before = few_lines k at new b size (omega arith) fits d below in
    let few = is.few in
    let few' = below.few in
    let next : suc k ≡ k + 1 = omega arith in
    let sum : length (changes_below (suc k) b N) ≡ length (changes_below k b N) + length (line_change k b N) =
    ap (λ (n : ℕ). length (changes_below n b N)) next ∙ ap (λ (l : List LineWrite). length l) (changes_more k b N) ∙ length-append (changes_below k b N) (line_change k b N) in
    let grows : d ≤ c = elim (cases_lt c d) [
      | inl less ↦ absurd (omega (arith, below.below c less, is.above c (omega arith) (omega arith)))
      | inr fine ↦ fine
    ] in
    elim (line_cases k b N) [
      | inl same ↦
          let zero' : length (line_change k b N) ≡ 0 = ap (λ (l : List LineWrite). length l) same.1 in
          record {
            none = λ e. omega (arith, before.none (omega arith));
            some = λ h. elim (cases_order d 0) [
              | inl nothing ↦ omega (arith, before.none nothing)
              | inr x ↦ elim x [ inl neg ↦ absurd (omega arith) | inr pos ↦ omega (arith, before.some pos) ]
            ];
          }
      | inr other ↦
          let one : length (line_change k b N) ≡ 1 = ap (λ (l : List LineWrite). length l) other.1 in
          let more : d < c = elim (cases_lt d c) [
            | inl fine ↦ fine
            | inr stuck ↦ absurd (other.0 (line_untouched p at new b k (omega arith) (λ i l (e : place_in p (at + i) / 8 ≡ k). elim (cases_lt i d) [
              | inl less ↦ omega (arith, below.below i less)
              | inr over ↦ omega (arith, is.above i (omega arith) l)
            ])))
          ] in
          record {
            none = λ e. absurd (omega arith);
            some = λ h. elim (cases_order d 0) [
              | inl nothing ↦ omega (arith, before.none nothing)
              | inr x ↦ elim x [ inl neg ↦ absurd (omega arith) | inr pos ↦ omega (arith, whole_lines at (length new) k (length (changes_below k b N)) d fits below before pos (omega arith)) ]
            ];
          }
    ]

pub few_writes : (at : ℕ) (new b : List ℕ) → length b ≡ STORAGE_BYTES → at + length new ≤ PARAM_BYTES → 8 * length (writes_of_piece Param at new b) ≤ at % 8 + length new + 7
few_writes at new b size fits =
    let found = cut (spans_of Param) at (length new) STORAGE_BYTES param_rises fits in
    let few = few_lines 1920 at new b size (omega arith) fits found.0 found.1 in
    let c = found.1.few in
    elim (cases_order found.0 0) [
      | inl nothing ↦ omega (arith, few.none nothing)
      | inr x ↦ elim x [ inl neg ↦ absurd (omega arith) | inr pos ↦ omega (arith, few.some pos) ]
    ]

-- there is no third reason to refuse a piece
abbrev refused : SplitError → Result (Unit {0}) SplitError
refused e = Err e

pub no_refusal : (e : SplitError) → (IsErrOf (refused e) OutOfArea → ⊥) → (IsErrOf (refused e) NoPlace → ⊥) → ⊥
no_refusal OutOfArea a b = a refl
no_refusal NoPlace a b = b refl
