-- The lines that a piece of the mission's area touches: by its two ends, six at most.
use Rattle.std.proofs.Common.{◌≡◌, ◌≢◌, ◌⊎◌, inl, inr, ℕ, zero, suc, ◌+◌, ◌-◌, ◌/◌, ◌<◌, ◌≤◌, List, length, ◌∙◌, ap, arith, refl}
use Rattle.std.proofs.lemmas.List.{length-append}
use Rattle.std.proofs.lemmas.Bool.{cases_lt, lt-ltb, le-ltb}
use Rattle.storage_lines.specs.declared.lines.TheConstants.{STORAGE_BYTES, LINES}
use Rattle.storage_lines.specs.declared.lines.LineWrite.{LineWrite}
use Rattle.storage_lines.specs.declared.areas.Area.TheVariants.{Mission}
use Rattle.storage_lines.specs.Areas.{place_of, put_in, spans_of, size_of_area}
use Rattle.storage_lines.specs.Lines.{line_change, changes_below}
use Rattle.storage_lines.specs.Pieces.{writes_of_piece}
use Rattle.storage_lines.proofs.LineLemmas.{line_cases, changes_more, no_changes}
use Rattle.storage_lines.proofs.SplitLemmas.{line_untouched, no_lines, no_piece}

-- one line more has at most one write more
few_step : (n : ℕ) (a c : List ℕ) → length (changes_below (n + 1) a c) ≤ length (changes_below n a c) + 1
few_step n a c =
    let e : length (changes_below (n + 1) a c) ≡ length (changes_below n a c) + length (line_change n a c) = ap (λ (l : List LineWrite). length l) (changes_more n a c) ∙ length-append (changes_below n a c) (line_change n a c) in
    elim (line_cases n a c) [
      | inl same ↦ let f : length (line_change n a c) ≡ 0 = ap (λ (l : List LineWrite). length l) same.1 in omega arith
      | inr other ↦ let f : length (line_change n a c) ≡ 1 = ap (λ (l : List LineWrite). length l) other.1 in omega arith
    ]

few_more : (m k : ℕ) (a c : List ℕ) → length (changes_below (m + k) a c) ≤ length (changes_below m a c) + k
few_more m zero a c =
    let e : m + zero ≡ m = omega arith in
    let f : length (changes_below (m + zero) a c) ≡ length (changes_below m a c) = ap (λ (n : ℕ). length (changes_below n a c)) e in
    omega arith
few_more m (suc k) a c =
    let e : m + suc k ≡ (m + k) + 1 = omega arith in
    let f : length (changes_below (m + suc k) a c) ≡ length (changes_below ((m + k) + 1) a c) = ap (λ (n : ℕ). length (changes_below n a c)) e in
    let g = few_step (m + k) a c in
    let h = few_more m k a c in
    omega arith

-- where the bytes of the area lie
place_low : (i : ℕ) → i < 2506 → place_of Mission i ≡ 1280 + i
place_low i h = rw (lt-ltb i 2506 h) refl

place_high : (i : ℕ) → 2506 ≤ i → i < 4638 → place_of Mission i ≡ 5932 + (i - 2506)
place_high i low high = rw (le-ltb i 2506 low, lt-ltb i 4638 high) refl

-- a byte of a short piece lies near one of its ends
near_an_end : (at n i : ℕ) → 0 < n → n ≤ 15 → at + n ≤ 4638 → i < n →
    ((place_of Mission at / 8 ≤ place_of Mission (at + i) / 8) × (place_of Mission (at + i) / 8 ≤ place_of Mission (at + n - 1) / 8))
    × ((place_of Mission (at + i) / 8 < place_of Mission at / 8 + 3) ⊎ (place_of Mission (at + n - 1) / 8 < place_of Mission (at + i) / 8 + 3))
near_an_end at n i some few fits inside = elim (cases_lt (at + n - 1) 2506) [
  | inl low ↦
      let a = place_low at (omega arith) in let b = place_low (at + i) (omega arith) in let c = place_low (at + n - 1) low in
      ((omega arith, omega arith), inl (omega arith))
  | inr high ↦
      let c = place_high (at + n - 1) high (omega arith) in
      elim (cases_lt at 2506) [
        | inr beyond ↦
            let a = place_high at beyond (omega arith) in let b = place_high (at + i) (omega arith) (omega arith) in
            ((omega arith, omega arith), inl (omega arith))
        | inl before ↦
            let a = place_low at before in
            elim (cases_lt (at + i) 2506) [
              | inl first ↦ let b = place_low (at + i) first in ((omega arith, omega arith), inl (omega arith))
              | inr second ↦ let b = place_high (at + i) second (omega arith) in ((omega arith, omega arith), inr (omega arith))
            ]
      ]
]

-- no line from m to m + k is touched
apart_lines : (at : ℕ) (xs b : List ℕ) (m k : ℕ) → length b ≡ STORAGE_BYTES → m + k ≤ LINES → ((n : ℕ) (i : ℕ) → m ≤ n → n < m + k → i < length xs → place_of Mission (at + i) / 8 ≢ n)
    → length (changes_below (m + k) b (put_in (spans_of Mission) at xs b)) ≡ length (changes_below m b (put_in (spans_of Mission) at xs b))
apart_lines at xs b m k size fits apart = ap (λ (l : List LineWrite). length l) (no_changes m k b (put_in (spans_of Mission) at xs b) (λ n h g. line_untouched (spans_of Mission) at xs b n (omega arith) (λ i less. apart n i h g less)))

-- a piece of at most fifteen bytes has at most six writes
some_writes : (at : ℕ) (xs b : List ℕ) → length b ≡ STORAGE_BYTES → 0 < length xs → length xs ≤ 15 → at + length xs ≤ 4638 → length (writes_of_piece Mission at xs b) ≤ 6
some_writes at xs b size some few fits =
    let now = put_in (spans_of Mission) at xs b in
    let count : ℕ → ℕ = λ n. length (changes_below n b now) in
    let first = place_of Mission at / 8 in
    let last = place_of Mission (at + length xs - 1) / 8 in
    let near = near_an_end at (length xs) in
    let zero_below : count 0 ≡ 0 = ap (λ (l : List LineWrite). length l) (no_lines b now) in
    let ends = near (length xs - 1) some few fits (omega arith) in
    let last_byte : at + (length xs - 1) ≡ at + length xs - 1 = omega arith in
    let same_end : place_of Mission (at + (length xs - 1)) ≡ place_of Mission (at + length xs - 1) = ap (λ (k : ℕ). place_of Mission k) last_byte in
    let inside : last < 1008 = elim (cases_lt (at + length xs - 1) 2506) [
      | inl low ↦ omega (arith, place_low (at + length xs - 1) low)
      | inr high ↦ omega (arith, place_high (at + length xs - 1) high (omega arith))
    ] in
    let order : first ≤ last = omega (arith, ends.0.0) in
    let below : count (0 + first) ≡ count 0 = apart_lines at xs b 0 first size (omega arith) (λ n i h g less e. let x = (near i some few fits less).0.0 in omega arith) in
    let e1 : 0 + first ≡ first = omega arith in
    let b1 : count (0 + first) ≡ count first = ap count e1 in
    let above : count ((last + 1) + (LINES - (last + 1))) ≡ count (last + 1) = apart_lines at xs b (last + 1) (LINES - (last + 1)) size (omega arith) (λ n i h g less e. let x = (near i some few fits less).0.1 in omega arith) in
    let e2 : (last + 1) + (LINES - (last + 1)) ≡ LINES = omega arith in
    let a1 : count ((last + 1) + (LINES - (last + 1))) ≡ count LINES = ap count e2 in
    elim (cases_lt last (first + 6)) [
      | inl close ↦
          let all = few_more first (last + 1 - first) b now in
          let e3 : first + (last + 1 - first) ≡ last + 1 = omega arith in
          let a2 : count (first + (last + 1 - first)) ≡ count (last + 1) = ap count e3 in
          omega arith
      | inr far ↦
          let left = few_more first 3 b now in
          let middle : count ((first + 3) + (last - 2 - (first + 3))) ≡ count (first + 3) = apart_lines at xs b (first + 3) (last - 2 - (first + 3)) size (omega arith)
          (λ n i h g less e. elim (near i some few fits less).1 [ inl x ↦ omega arith | inr x ↦ omega arith ]) in
          let e4 : (first + 3) + (last - 2 - (first + 3)) ≡ last - 2 = omega arith in
          let a2 : count ((first + 3) + (last - 2 - (first + 3))) ≡ count (last - 2) = ap count e4 in
          let right = few_more (last - 2) 3 b now in
          let e5 : (last - 2) + 3 ≡ last + 1 = omega arith in
          let a3 : count ((last - 2) + 3) ≡ count (last + 1) = ap count e5 in
          omega arith
    ]

pub few_writes : (at : ℕ) (xs b : List ℕ) → length b ≡ STORAGE_BYTES → length xs ≤ 15 → at + length xs ≤ size_of_area Mission → length (writes_of_piece Mission at xs b) ≤ 6
few_writes at xs b size few fits = elim (cases_lt 0 (length xs)) [
  | inl some ↦ some_writes at xs b size some few fits
  | inr none ↦ let e : length (writes_of_piece Mission at xs b) ≡ 0 = ap (λ (l : List LineWrite). length l) (no_piece (spans_of Mission) at xs b (omega arith)) in omega arith
]
