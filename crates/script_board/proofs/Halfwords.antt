-- Halfwords in bytes, when some of these change.
use Rattle.std.proofs.Common.{◌≡◌, ◌≢◌, ◌⊎◌, inl, inr, ℕ, zero, suc, ◌+◌, ◌*◌, ◌^◌, ◌<◌, ◌≤◌, List, length, replicate, slice_index, slice_set, bit_and, refl, sym, ◌∙◌, ap, subst, arith}
use Rattle.flash_traits.specs.Words.{halfwords_in, with_halfwords, region_length, IsSectorSize, programmed, erased, blank}
use Rattle.flash_traits.specs.declared.board.Region.{Region}
use Rattle.flash_traits.specs.declared.board.Region.TheVariants.{S0, S1, Guard}
use Rattle.script_board.specs.Image.{start_of, halfword_at, halfwords_from, words_of}

pub long : (bytes : List ℕ) (start count : ℕ) → length (halfwords_from bytes start count) ≡ count
unfolding halfwords_from
long bytes start zero = refl
long bytes start (suc count) = omega (arith, long bytes (start + 2) count)

-- halfword k
pub at_index : (bytes : List ℕ) (start count k : ℕ) → k < count
    → slice_index (halfwords_from bytes start count) k ≡ halfword_at bytes (start + 2 * k)
unfolding halfwords_from
at_index bytes start zero k lt = absurd (omega arith)
at_index bytes start (suc count) zero lt = ap (halfword_at bytes) (omega arith)
at_index bytes start (suc count) (suc k) lt =
    at_index bytes (start + 2) count k (omega arith) ∙ ap (halfword_at bytes) (omega arith)

same_halfword : (a b : List ℕ) (at : ℕ) → slice_index a at ≡ slice_index b at → slice_index a (at + 1) ≡ slice_index b (at + 1) → halfword_at a at ≡ halfword_at b at
same_halfword a b at low high = omega (arith, low, high)

-- the bytes of these halfwords are as they were
pub same : (a b : List ℕ) (start count : ℕ) → ((j : ℕ) → start ≤ j → j < start + 2 * count → slice_index a j ≡ slice_index b j)
    → halfwords_from a start count ≡ halfwords_from b start count
unfolding halfwords_from
same a b start zero each = refl
same a b start (suc count) each =
    let head : halfword_at a start ≡ halfword_at b start = same_halfword a b start (each start (omega arith) (omega arith)) (each (start + 1) (omega arith) (omega arith)) in
    let tail : halfwords_from a (start + 2) count ≡ halfwords_from b (start + 2) count = same a b (start + 2) count (λ j from to. each j (omega arith) (omega arith)) in
    cc

-- one halfword is another
pub one : (a b : List ℕ) (start count k word : ℕ) → k < count → halfword_at a (start + 2 * k) ≡ word
    → ((j : ℕ) → j ≢ start + 2 * k → j ≢ start + 2 * k + 1 → slice_index a j ≡ slice_index b j)
    → halfwords_from a start count ≡ slice_set (halfwords_from b start count) k word
unfolding halfwords_from
one a b start zero k word lt is others = absurd (omega arith)
one a b start (suc count) zero word lt is others =
    let head : halfword_at a start ≡ word = ap (halfword_at a) (omega arith) ∙ is in
    let tail : halfwords_from a (start + 2) count ≡ halfwords_from b (start + 2) count = same a b (start + 2) count (λ j from to. others j (λ e. omega (arith, e)) (λ e. omega (arith, e))) in
    cc
one a b start (suc count) (suc k) word lt is others =
    let head : halfword_at a start ≡ halfword_at b start = same_halfword a b start (others start (λ e. omega (arith, e)) (λ e. omega (arith, e))) (others (start + 1) (λ e. omega (arith, e)) (λ e. omega (arith, e))) in
    let tail : halfwords_from a (start + 2) count ≡ slice_set (halfwords_from b (start + 2) count) k word =
    one a b (start + 2) count k word (omega arith) (ap (halfword_at a) (omega arith) ∙ is) (λ j x y. others j (λ e. x (omega (arith, e))) (λ e. y (omega (arith, e)))) in
    cc

-- all are FFFF
pub all : (a : List ℕ) (start count : ℕ) → ((j : ℕ) → start ≤ j → j < start + 2 * count → slice_index a j ≡ 255)
    → halfwords_from a start count ≡ replicate count 65535
unfolding halfwords_from
all a start zero each = refl
all a start (suc count) each =
    let head : halfword_at a start ≡ 65535 = omega (arith, each start (omega arith) (omega arith), each (start + 1) (omega arith) (omega arith)) in
    let tail : halfwords_from a (start + 2) count ≡ replicate count 65535 = all a (start + 2) count (λ j from to. each j (omega arith) (omega arith)) in
    cc

-- each is below 2 ^ 16
pub fits : (a : List ℕ) (start count k : ℕ) → ((j : ℕ) → slice_index a j < 256) → slice_index (halfwords_from a start count) k < 2 ^ 16
unfolding halfwords_from
fits a start zero k bytes = omega arith
fits a start (suc count) zero bytes = omega (arith, bytes start, bytes (start + 1))
fits a start (suc count) (suc k) bytes = fits a (start + 2) count k bytes

module _ (n : ℕ) (known : IsSectorSize n) where
  pub inside : (r : Region) (at : ℕ) → at < region_length n r → start_of n r + 2 * at + 1 < 278528
  inside S0 at lt = omega (arith, known)
  inside S1 at lt = omega (arith, known)
  inside Guard at lt = omega (arith, known)

  pub ends : (r : Region) → start_of n r + 2 * region_length n r ≤ 278528
  ends S0 = omega (arith, known)
  ends S1 = omega (arith, known)
  ends Guard = omega (arith, known)

  pub region_is : (bytes : List ℕ) (r : Region) → halfwords_in (words_of n bytes) r ≡ halfwords_from bytes (start_of n r) (region_length n r)
  region_is bytes S0 = refl
  region_is bytes S1 = refl
  region_is bytes Guard = refl

  -- the bytes outside a region are as they were
  pub elsewhere : (a b : List ℕ) (r : Region) (hs : List ℕ) → halfwords_from a (start_of n r) (region_length n r) ≡ hs
      → ((j : ℕ) → (j < start_of n r) ⊎ (start_of n r + 2 * region_length n r ≤ j) → slice_index a j ≡ slice_index b j)
      → words_of n a ≡ with_halfwords (words_of n b) r hs
  elsewhere a b S0 hs is others =
      let second = same a b (start_of n S1) (region_length n S1) (λ j from to. others j (inr (omega (arith, known)))) in
      let row = same a b (start_of n Guard) (region_length n Guard) (λ j from to. others j (inr (omega (arith, known)))) in
      λ i. record { s0 = is i; s1 = second i; guard = row i }
  elsewhere a b S1 hs is others =
      let first = same a b (start_of n S0) (region_length n S0) (λ j from to. others j (inl (omega (arith, known)))) in
      let row = same a b (start_of n Guard) (region_length n Guard) (λ j from to. others j (inr (omega (arith, known)))) in
      λ i. record { s0 = first i; s1 = is i; guard = row i }
  elsewhere a b Guard hs is others =
      let first = same a b (start_of n S0) (region_length n S0) (λ j from to. others j (inl (omega (arith, known)))) in
      let second = same a b (start_of n S1) (region_length n S1) (λ j from to. others j (inl (omega (arith, known)))) in
      λ i. record { s0 = first i; s1 = second i; guard = is i }

  pub programs : (a b : List ℕ) (r : Region) (at word : ℕ) → at < region_length n r → halfword_at a (start_of n r + 2 * at) ≡ bit_and (halfword_at b (start_of n r + 2 * at)) word
      → ((j : ℕ) → j ≢ start_of n r + 2 * at → j ≢ start_of n r + 2 * at + 1 → slice_index a j ≡ slice_index b j)
      → words_of n a ≡ programmed (words_of n b) r at word
  programs a b r at word lt is others =
      let was : slice_index (halfwords_in (words_of n b) r) at ≡ halfword_at b (start_of n r + 2 * at) =
      ap (λ (l : List ℕ). slice_index l at) (region_is b r) ∙ at_index b (start_of n r) (region_length n r) at lt in
      let new = one a b (start_of n r) (region_length n r) at _ lt is others in
      elsewhere a b r _ (new ∙ ap (λ (l : List ℕ). slice_set l at (bit_and (halfword_at b (start_of n r + 2 * at)) word)) (sym (region_is b r))
      ∙ ap (λ (h : ℕ). slice_set (halfwords_in (words_of n b) r) at (bit_and h word)) (sym was))
      (λ j out. others j (λ e. off j e out) (λ e. off_by_one j e out))
    where
      off : (j : ℕ) → j ≡ start_of n r + 2 * at → (j < start_of n r) ⊎ (start_of n r + 2 * region_length n r ≤ j) → ⊥
      off j e (inl low) = omega (arith, e, low)
      off j e (inr high) = omega (arith, e, high, lt)

      off_by_one : (j : ℕ) → j ≡ start_of n r + 2 * at + 1 → (j < start_of n r) ⊎ (start_of n r + 2 * region_length n r ≤ j) → ⊥
      off_by_one j e (inl low) = omega (arith, e, low)
      off_by_one j e (inr high) = omega (arith, e, high, lt)

  pub erases : (a b : List ℕ) (r : Region) → ((j : ℕ) → start_of n r ≤ j → j < start_of n r + 2 * region_length n r → slice_index a j ≡ 255)
      → ((j : ℕ) → (j < start_of n r) ⊎ (start_of n r + 2 * region_length n r ≤ j) → slice_index a j ≡ slice_index b j)
      → words_of n a ≡ erased (words_of n b) r
  erases a b r each others =
      elsewhere a b r _ (all a (start_of n r) (region_length n r) each
      ∙ ap (λ (k : ℕ). replicate k 65535) (sym (ap length (region_is b r) ∙ long b (start_of n r) (region_length n r)))) others

  pub blanks : (a : List ℕ) → ((j : ℕ) → 0 ≤ j → j < 278528 → slice_index a j ≡ 255) → words_of n a ≡ blank n
  blanks a each =
      let first = all a (start_of n S0) (region_length n S0) (λ j from to. each j (omega arith) (omega (arith, ends S0))) in
      let second = all a (start_of n S1) (region_length n S1) (λ j from to. each j (omega arith) (omega (arith, ends S1))) in
      let row = all a (start_of n Guard) (region_length n Guard) (λ j from to. each j (omega arith) (omega (arith, ends Guard))) in
      λ i. record { s0 = first i; s1 = second i; guard = row i }

  pub shaped : (a : List ℕ) (r : Region) → length (halfwords_in (words_of n a) r) ≡ region_length n r
  shaped a r = ap length (region_is a r) ∙ long a (start_of n r) (region_length n r)

  pub all_fit : (a : List ℕ) (r : Region) (k : ℕ) → ((j : ℕ) → slice_index a j < 256) → slice_index (halfwords_in (words_of n a) r) k < 2 ^ 16
  all_fit a r k bytes = subst (λ (l : List ℕ). slice_index l k < 2 ^ 16) (sym (region_is a r)) (fits a (start_of n r) (region_length n r) k bytes)
