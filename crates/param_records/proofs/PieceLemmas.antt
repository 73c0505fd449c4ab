-- What the first writes of a piece leave of the bytes of the parameter storage, whose parts begin and end with lines.
use Rattle.std.proofs.Common.{◌≡◌, ◌⊎◌, inl, inr, ℕ, ◌+◌, ◌-◌, ◌*◌, ◌/◌, ◌%◌, ◌<◌, ◌≤◌, List, length, get_or, take, arith}
use Rattle.std.proofs.lemmas.Bool.{cases_lt, cases_order}
use Rattle.storage_lines.specs.declared.areas.Area.TheVariants.{Param}
use Rattle.storage_lines.specs.declared.lines.TheConstants.{STORAGE_BYTES}
use Rattle.storage_lines.specs.Areas.{place_of, logical_of, IsAscending, spans_of}
use Rattle.storage_lines.specs.Lines.{after}
use Rattle.storage_lines.specs.Pieces.{writes_of_piece}
use Rattle.storage_lines.specs.Laws.{HasPut}
use Rattle.storage_lines.proofs.AreaLemmas.{place_cases}
use Rattle.storage_lines.proofs.ApartLemmas.{ascending}
use Rattle.storage_lines.proofs.PieceLemmas.{Cut, area_prefix, area_whole, length-area, get_or-area}
use Rattle.param_records.specs.declared.records.TheConstants.{PARAM_BYTES}

pub param_rises : IsAscending (spans_of Param)
param_rises = ascending Param

-- the byte at a logical place
pub get_or-logical : (b : List ℕ) (i : ℕ) → i < PARAM_BYTES → get_or (logical_of Param b) i 0 ≡ get_or b (place_of Param i) 0
get_or-logical b i h = get_or-area Param b i h

pub length-logical : (b : List ℕ) → length (logical_of Param b) ≡ PARAM_BYTES
length-logical b = length-area Param b

-- After each prefix of a piece's writes some first bytes of the piece are there: all of them after the last write.
pub piece_prefix : (at : ℕ) (new old : List ℕ) (j : ℕ) → length old ≡ STORAGE_BYTES → at + length new ≤ PARAM_BYTES → j ≤ length (writes_of_piece Param at new old) →
    (m : ℕ) × (c : ℕ) × Cut (spans_of Param) at (length new) (8 * m) c × HasPut at new c (logical_of Param old) (logical_of Param (after old (take j (writes_of_piece Param at new old))))
piece_prefix at new old j size fits h = area_prefix Param at new old j size fits h

pub piece_whole : (at : ℕ) (new old : List ℕ) → length old ≡ STORAGE_BYTES → at + length new ≤ PARAM_BYTES →
    HasPut at new (length new) (logical_of Param old) (logical_of Param (after old (writes_of_piece Param at new old)))
piece_whole at new old size fits = area_whole Param at new old size fits

-- the lines of logical places that lie in one line of eight
pub param_line : (i j : ℕ) → i < PARAM_BYTES → j < PARAM_BYTES → i / 8 ≡ j / 8 → place_of Param i / 8 ≡ place_of Param j / 8
param_line i j h g e = elim (place_cases (spans_of Param) i) [
  | inl a ↦ elim (place_cases (spans_of Param) j) [
    | inl b ↦ omega arith
    | inr x ↦ elim x [ inl b ↦ omega arith | inr b ↦ omega arith ]
  ]
  | inr y ↦ elim y [
    | inl a ↦ elim (place_cases (spans_of Param) j) [
      | inl b ↦ omega arith
      | inr x ↦ elim x [ inl b ↦ omega arith | inr b ↦ omega arith ]
    ]
    | inr a ↦ elim (place_cases (spans_of Param) j) [
      | inl b ↦ omega arith
      | inr x ↦ elim x [ inl b ↦ omega arith | inr b ↦ omega arith ]
    ]
  ]
]

-- bytes in one line are there all at once
pub one_line : (at n m c : ℕ) → at + n ≤ PARAM_BYTES → (at + n - 1) / 8 ≡ at / 8 → Cut (spans_of Param) at n (8 * m) c → (c ≡ 0) ⊎ (c ≡ n)
one_line at n m c fits one k = let few = k.few in elim (cases_order c 0) [
  | inl none ↦ inl none
  | inr x ↦ elim x [
    | inl neg ↦ absurd (omega arith)
    | inr some ↦ elim (cases_lt c n) [
      | inl less ↦
          let same = param_line (at + 0) (at + c) (omega arith) (omega arith) (omega arith) in
          absurd (omega (arith, k.below 0 some, k.above c (omega arith) less))
      | inr all ↦ inr (omega arith)
    ]
  ]
]

-- where a piece is cut, a line ends
pub cut_at_line : (at n m c : ℕ) → at + n ≤ PARAM_BYTES → Cut (spans_of Param) at n (8 * m) c → (c ≡ 0) ⊎ ((c ≡ n) ⊎ ((at + c) % 8 ≡ 0))
cut_at_line at n m c fits k = let few = k.few in elim (cases_order c 0) [
  | inl none ↦ inl none
  | inr x ↦ elim x [
    | inl neg ↦ absurd (omega arith)
    | inr some ↦ elim (cases_lt c n) [
      | inl less ↦ elim (cases_order ((at + c) % 8) 0) [
        | inl border ↦ inr (inr border)
        | inr y ↦
            let same = param_line (at + (c - 1)) (at + c) (omega arith) (omega arith) (omega arith) in
            absurd (omega (arith, k.below (c - 1) (omega arith), k.above c (omega arith) less))
      ]
      | inr all ↦ inr (inl (omega arith))
    ]
  ]
]
