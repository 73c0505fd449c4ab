-- The loop over the odd offsets of a region.
use Rattle.std.proofs.Common.{◌≡◌, ◌≢◌, ◌⊎◌, inl, inr, ⊎_elim, ℕ, zero, suc, ◌+◌, ◌*◌, ◌%◌, ◌<◌, ◌≤◌, List, slice_index, refl, sym, ◌∙◌, ap, arith}
use Rattle.std.proofs.lemmas.Bool.{cases_lt}
use Rattle.flash_traits.specs.Words.{region_length, IsSectorSize}
use Rattle.flash_traits.specs.declared.board.Region.{Region}
use Rattle.flash_traits.specs.declared.board.Region.TheVariants.{S0, S1, Guard}
use Rattle.script_board.specs.Image.{start_of, halfword_at, halfwords_from, words_of, odd_erased, half_erased}
use Rattle.script_board.proofs.Halfwords.{elsewhere, region_is, ends}

-- the odd halfwords between the start and here are FFFF, and all other bytes are as they were
pub record OddErased (old new : List ℕ) (start at end : ℕ) : Type 0 where
  pub from : start ≤ at
  pub to : at ≤ end
  pub start_fits : start % 4 ≡ 0
  pub at_fits : at % 4 ≡ 0
  pub end_fits : end % 4 ≡ 0
  pub below : end ≤ 278528
  pub odd : (j : ℕ) → start ≤ j → j < at → 2 ≤ j % 4 → slice_index new j ≡ 255
  pub even : (j : ℕ) → j % 4 < 2 → slice_index new j ≡ slice_index old j
  pub before : (j : ℕ) → j < start → slice_index new j ≡ slice_index old j
  pub later : (j : ℕ) → at ≤ j → slice_index new j ≡ slice_index old j

pub begun : (n : ℕ) (r : Region) (image : List ℕ) → IsSectorSize n → OddErased image image (start_of n r) (start_of n r) (start_of n r + 2 * region_length n r)
begun n r image known = record {
  from = omega arith;
  to = omega arith;
  start_fits = (fours r).0;
  at_fits = (fours r).0;
  end_fits = (fours r).1;
  below = ends n known r;
  odd = λ j from to two. absurd (omega (arith, from, to));
  even = λ j fits. refl;
  before = λ j low. refl;
  later = λ j high. refl;
}
  where
    fours : (r : Region) → (start_of n r % 4 ≡ 0) × ((start_of n r + 2 * region_length n r) % 4 ≡ 0)
    fours S0 = (omega (arith, known), omega (arith, known))
    fours S1 = (omega (arith, known), omega (arith, known))
    fours Guard = (omega (arith, known), omega (arith, known))

pub more : (old mid new : List ℕ) (start at end : ℕ) → OddErased old mid start at end → at < end
    → slice_index new (at + 2) ≡ 255 → slice_index new (at + 2 + 1) ≡ 255
    → ((j : ℕ) → j ≢ at + 2 → j ≢ at + 2 + 1 → slice_index new j ≡ slice_index mid j)
    → OddErased old new start (at + 4) end
more old mid new start at end was lt low high others =
    let from = was.from in
    let at_fits = was.at_fits in
    let end_fits = was.end_fits in
    record {
      from = omega (arith, from);
      to = omega (arith, at_fits, end_fits, lt);
      start_fits = was.start_fits;
      at_fits = omega (arith, at_fits);
      end_fits = end_fits;
      below = was.below;
      odd = λ j first last two. odd_here j first last two at_fits;
      even = λ j fits. others j (λ e. omega (arith, e, fits, at_fits)) (λ e. omega (arith, e, fits, at_fits)) ∙ was.even j fits;
      before = λ j lower. others j (λ e. omega (arith, e, lower, from)) (λ e. omega (arith, e, lower, from)) ∙ was.before j lower;
      later = λ j above. others j (λ e. omega (arith, e, above)) (λ e. omega (arith, e, above)) ∙ was.later j (omega (arith, above));
    }
  where
    odd_here : (j : ℕ) → start ≤ j → j < at + 4 → 2 ≤ j % 4 → at % 4 ≡ 0 → slice_index new j ≡ 255
    odd_here j first last two at_fits = ⊎_elim
        (λ (lower : j < at). others j (λ e. omega (arith, e, lower)) (λ e. omega (arith, e, lower)) ∙ was.odd j first lower two)
        (λ (upper : at ≤ j). ⊎_elim
        (λ (third : j < at + 3). ap (slice_index new) (omega (arith, third, upper, two, at_fits, last)) ∙ low)
        (λ (fourth : at + 3 ≤ j). ap (slice_index new) (omega (arith, fourth, last)) ∙ high)
        (cases_lt j (at + 3)))
        (cases_lt j at)

odd_halfwords : (a b : List ℕ) (start count : ℕ) → start % 4 ≡ 0 → count % 2 ≡ 0
    → ((j : ℕ) → start ≤ j → j < start + 2 * count → 2 ≤ j % 4 → slice_index a j ≡ 255)
    → ((j : ℕ) → j % 4 < 2 → slice_index a j ≡ slice_index b j)
    → halfwords_from a start count ≡ odd_erased (halfwords_from b start count)
unfolding halfwords_from
odd_halfwords a b start zero fits pairs odd even = refl
odd_halfwords a b start (suc zero) fits pairs odd even = absurd (omega (arith, pairs))
odd_halfwords a b start (suc (suc count)) fits pairs odd even =
    let first : halfword_at a start ≡ halfword_at b start = omega (arith, even start (omega (arith, fits)), even (start + 1) (omega (arith, fits))) in
    let second : halfword_at a (start + 2) ≡ 65535 = omega (arith, odd (start + 2) (omega arith) (omega arith) (omega (arith, fits)), odd (start + 2 + 1) (omega arith) (omega arith) (omega (arith, fits))) in
    let rest : halfwords_from a (start + 2 + 2) count ≡ odd_erased (halfwords_from b (start + 2 + 2) count) =
    odd_halfwords a b (start + 2 + 2) count (omega (arith, fits)) (omega (arith, pairs)) (λ j from to two. odd j (omega (arith, from)) (omega (arith, to)) two) even in
    cc

pub finished : (n : ℕ) (r : Region) (old new : List ℕ) (at : ℕ) → IsSectorSize n
    → OddErased old new (start_of n r) at (start_of n r + 2 * region_length n r) → start_of n r + 2 * region_length n r ≤ at
    → words_of n new ≡ half_erased (words_of n old) r
finished n r old new at known is end =
    elsewhere n known new old r _
    (odd_halfwords new old (start_of n r) (region_length n r) is.start_fits (pairs r) (λ j from to two. is.odd j from (omega (arith, to, end)) two) is.even
    ∙ ap odd_erased (sym (region_is n known old r)))
    (λ j out. outside j out)
  where
    pairs : (r : Region) → region_length n r % 2 ≡ 0
    pairs S0 = omega (arith, known)
    pairs S1 = omega (arith, known)
    pairs Guard = refl

    outside : (j : ℕ) → (j < start_of n r) ⊎ (start_of n r + 2 * region_length n r ≤ j) → slice_index new j ≡ slice_index old j
    outside j (inl low) = is.before j low
    outside j (inr high) = let to = is.to in is.later j (omega (arith, high, to))
