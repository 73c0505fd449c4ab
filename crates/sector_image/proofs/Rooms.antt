-- How many chunks are left to copy, after each step of the copy and after a caller's entry.
use Rattle.std.proofs.Common.{◌≡◌, ◌⊎◌, inl, inr, ℕ, ◌+◌, ◌-◌, ◌*◌, ◌/◌, ◌<◌, ◌≤◌, true, false, Option, Some, None, List, length, get_or, refl, sym, ◌∙◌, ap, subst, arith, eq-eqb, add-one}
use Rattle.std.specs.Prelude.{◌||◌, ◌==◌, if◌then◌else◌}
use Rattle.std.proofs.lemmas.List.{ext_get_or}
use Rattle.std.proofs.lemmas.Slice.Eq.{bytes_eq-Decides}
use Rattle.std.proofs.lemmas.Bool.{cases_eq, not-true, not-false, or_parts, or_cases, or_from, or_right, or_left, not_from_false, not_from_true, false_from_ne_true, ne_eqb, both_ways}
use Rattle.flash_traits.specs.Values.{put}
use Rattle.sector_image.specs.Room.{chunk_at, is_covered, is_chunk, is_left, count_below, left_below}
use Rattle.sector_image.proofs.Counts.{count_le, count_le_one, count_less, count_none, count_of_none, count_most}
use Rattle.sector_image.proofs.ChunkLemmas.{put_both, put_chunk_here, put_chunk_other, length_chunk, chunk_byte}

-- what the test says
pub left_true : (w u : List ℕ) (f : Option ℕ) (c : ℕ) → is_left w u f c ≡ true → (chunk_at w c ≡ chunk_at u c → ⊥) × (is_chunk f c ≡ false)
left_true w u f c is =
    let parts = or_parts (is_covered w u c) (is_chunk f c) (not-true (is_covered w u c || is_chunk f c) is) in
    (λ same. both_ways (is_covered w u c) parts.0 ((bytes_eq-Decides (chunk_at w c) (chunk_at u c)).1 same), parts.1)

pub left_from : (w u : List ℕ) (f : Option ℕ) (c : ℕ) → (chunk_at w c ≡ chunk_at u c → ⊥) → is_chunk f c ≡ false → is_left w u f c ≡ true
left_from w u f c differ other =
    not_from_false (is_covered w u c || is_chunk f c) (or_from (is_covered w u c) (is_chunk f c) (false_from_ne_true (is_covered w u c) (λ is. differ ((bytes_eq-Decides (chunk_at w c) (chunk_at u c)).0 is))) other)

pub left_false : (w u : List ℕ) (f : Option ℕ) (c : ℕ) → is_left w u f c ≡ false → (chunk_at w c ≡ chunk_at u c) ⊎ (is_chunk f c ≡ true)
left_false w u f c is = elim (or_cases (is_covered w u c) (is_chunk f c) (not-false (is_covered w u c || is_chunk f c) is)) [
  | inl covered ↦ inl ((bytes_eq-Decides (chunk_at w c) (chunk_at u c)).0 covered)
  | inr one ↦ inr one
]

pub covered_not_left : (w u : List ℕ) (f : Option ℕ) (c : ℕ) → chunk_at w c ≡ chunk_at u c → is_left w u f c ≡ false
covered_not_left w u f c same = not_from_true (is_covered w u c || is_chunk f c) (or_left (is_covered w u c) (is_chunk f c) ((bytes_eq-Decides (chunk_at w c) (chunk_at u c)).1 same))

pub finished_not_left : (w u : List ℕ) (c : ℕ) → is_left w u (Some c) c ≡ false
finished_not_left w u c = not_from_true (is_covered w u c || is_chunk (Some c) c) (or_right (is_covered w u c) (c == c) (eq-eqb c c refl))

module _ (n : ℕ) (w u : List ℕ) (size : length w ≡ length u) (fits : 64 * n ≤ length u) where
  -- a chunk is copied
  pub copied_falls : (c : ℕ) → c < n → is_left w u None c ≡ true → left_below n w (put (64 * c) (chunk_at w c) u) None + 1 ≤ left_below n w u None
  unfolding left_below
  copied_falls c lt left =
      let new = put (64 * c) (chunk_at w c) u in
      count_less n c (is_left w new None) (is_left w u None) lt
      (covered_not_left w new None c (sym (put_chunk_here w u c size (omega arith)))) left
      (λ k below other is. left_from w u None k
      (λ same. (left_true w new None k is).0 (same ∙ sym (put_chunk_other (chunk_at w c) u c k (length_chunk w c (omega arith)) (omega arith) (omega arith) other))) refl)

  -- it is copied as far as a torn entry
  pub torn_falls : (c : ℕ) → c < n → is_left w u None c ≡ true → left_below n w u (Some c) + 1 ≤ left_below n w u None
  unfolding left_below
  torn_falls c lt left = count_less n c (is_left w u (Some c)) (is_left w u None) lt (finished_not_left w u c) left
      (λ k below other is. left_from w u None k (left_true w u (Some c) k is).0 refl)

  -- a torn entry of a chunk is completed
  pub finished_le : (c : ℕ) → c < n → left_below n w (put (64 * c) (chunk_at w c) u) None ≤ left_below n w u (Some c)
  unfolding left_below
  finished_le c lt =
      let new = put (64 * c) (chunk_at w c) u in
      count_le n (is_left w new None) (is_left w u (Some c))
      (λ k below is. elim (cases_eq k c) [
        | inl same ↦ absurd ((left_true w new None k is).0 (subst (λ (j : ℕ). chunk_at w j ≡ chunk_at new j) (sym same) (sym (put_chunk_here w u c size (omega arith)))))
        | inr other ↦ left_from w u (Some c) k
            (λ same. (left_true w new None k is).0 (same ∙ sym (put_chunk_other (chunk_at w c) u c k (length_chunk w c (omega arith)) (omega arith) (omega arith) other)))
            (ne_eqb c k (λ same. other (sym same)))
      ])

  -- another torn entry is the last
  pub other_torn : (f g : Option ℕ) → left_below n w u g ≤ left_below n w u f + 1
  unfolding left_below
  other_torn f g = elim f as (λ h. left_below n w u g ≤ left_below n w u h + 1) [
    | None ↦ omega (arith, count_le n (is_left w u g) (is_left w u None) (λ k below is. left_from w u None k (left_true w u g k is).0 refl))
    | Some d ↦ count_le_one n d (is_left w u g) (is_left w u (Some d)) (λ k below other is. left_from w u (Some d) k (left_true w u g k is).0 (ne_eqb d k (λ same. other (sym same))))
  ]

  -- the same bytes are put into both
  pub both_none : (at : ℕ) (new : List ℕ) → at + length new ≤ length u → left_below n (put at new w) (put at new u) None ≤ left_below n w u None
  unfolding left_below
  both_none at new inside =
      count_le n (is_left (put at new w) (put at new u) None) (is_left w u None)
      (λ k below is. left_from w u None k (λ same. (left_true (put at new w) (put at new u) None k is).0 (put_both w u new at k size (omega arith) (omega arith) same)) refl)

  pub both_le : (at : ℕ) (new : List ℕ) (f : Option ℕ) → at + length new ≤ length u → left_below n (put at new w) (put at new u) None ≤ left_below n w u f + 1
  both_le at new f inside = omega (arith, both_none at new inside, other_torn f None)

pub left_most : (n : ℕ) (w u : List ℕ) (f : Option ℕ) → left_below n w u f ≤ n
unfolding left_below
left_most n w u f = count_most n (is_left w u f)

-- counted from the first chunk on
pub left_zero : (w u : List ℕ) (f : Option ℕ) → left_below 0 w u f ≡ 0
unfolding left_below
left_zero w u f = refl

pub left_more : (n : ℕ) (w u : List ℕ) (f : Option ℕ) → left_below (n + 1) w u f ≡ left_below n w u f + (if is_left w u f n then 1 else 0)
unfolding left_below
left_more n w u f = ap (λ (k : ℕ). count_below k (is_left w u f)) (add-one n)

pub left_none : (n : ℕ) (w u : List ℕ) (f : Option ℕ) → left_below n w u f ≡ 0 → (c : ℕ) → c < n → is_left w u f c ≡ false
unfolding left_below
left_none n w u f none = count_none n (is_left w u f) none

pub none_left : (n : ℕ) (w u : List ℕ) (f : Option ℕ) → ((c : ℕ) → c < n → is_left w u f c ≡ false) → left_below n w u f ≡ 0
unfolding left_below
none_left n w u f h = count_of_none n (is_left w u f) h

-- where none is left and none is torn, the lists are one
pub all_copied : (n : ℕ) (w u : List ℕ) → length w ≡ 64 * n → length u ≡ 64 * n → left_below n w u None ≡ 0 → w ≡ u
all_copied n w u sw su none = ext_get_or 0 w u (sw ∙ sym su) (λ k lt.
    let c = k / 64 in
    let inside : c < n = omega arith in
    let parts : k ≡ 64 * c + (k - 64 * c) = omega arith in
    let small : k - 64 * c < 64 = omega arith in
    let same : chunk_at w c ≡ chunk_at u c = elim (left_false w u None c (left_none n w u None none c inside)) [ inl same ↦ same | inr is ↦ absurd (both_ways false refl is) ] in
    ap (λ (j : ℕ). get_or w j 0) parts ∙ sym (chunk_byte w c (k - 64 * c) small) ∙ ap (λ (l : List ℕ). get_or l (k - 64 * c) 0) same
    ∙ chunk_byte u c (k - 64 * c) small ∙ ap (λ (j : ℕ). get_or u j 0) (sym parts))
