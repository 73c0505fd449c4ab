-- The words of an image, with the lengths of its sector size, and its bytes.
use Rattle.std.proofs.Common.{◌≡◌, ◌≢◌, inl, inr, ℕ, ◌+◌, ◌*◌, ◌/◌, ◌%◌, ◌-◌, ◌++◌, ◌<◌, List, [], ◌∷◌, length, take, drop, get_or, append_assoc, false, refl, sym, ◌∙◌, ap, subst, arith, length-drop}
use Rattle.std.specs.Prelude.{◌==◌, Bool, slice_range, if◌then◌else◌}
use Rattle.std.proofs.lemmas.Bool.Decides.{nat_tests}
use Rattle.std.proofs.lemmas.List.{length-take-le, take_more}
use Rattle.flash_traits.specs.Words.{Words, halfwords_in, region_length, IsSectorSize, HasShape, bytes_of, halfwords_of, image_length}
use Rattle.flash_traits.proofs.Sizes.{size_not_zero}
use Rattle.flash_board.specs.Image.{image_size, image_words}
use Rattle.flash_traits.specs.declared.board.Region.{Region}
use Rattle.flash_traits.specs.declared.board.Region.TheVariants.{S0, S1, Guard}

half-more : (n : ℕ) → (n + 2) / 2 ≡ n / 2 + 1
half-more n = omega arith

pub length-halfwords : (bytes : List ℕ) → length (halfwords_of bytes) ≡ length bytes / 2
length-halfwords [] = refl
length-halfwords (x ∷ []) = refl
length-halfwords (x ∷ y ∷ rest) = omega (arith, length-halfwords rest, half-more (length rest))

long : (bytes : List ℕ) (n : ℕ) → IsSectorSize n → n ≡ image_size (length bytes) → length bytes ≡ image_length n
long bytes n known is = grind (arith, nat_tests)

not_zero : (n : ℕ) → IsSectorSize n → (n == 0) ≡ false
not_zero n known = grind (arith, nat_tests)

split : (bytes : List ℕ) (n : ℕ) → (n == 0) ≡ false → image_words n bytes ≡ record { s0 = halfwords_of (take n bytes); s1 = halfwords_of (slice_range bytes n (2 * n)); guard = halfwords_of (drop (2 * n) bytes) }
split bytes n nonzero = ap (λ (b : Bool). let w : Words = if b then record { s0 = []; s1 = []; guard = [] } else record { s0 = halfwords_of (take n bytes); s1 = halfwords_of (slice_range bytes n (2 * n)); guard = halfwords_of (drop (2 * n) bytes) } in w) nonzero

module _ (bytes : List ℕ) (n : ℕ) (size : length bytes ≡ image_length n) where
  parts : (r : Region) → length (halfwords_in (record { s0 = halfwords_of (take n bytes); s1 = halfwords_of (slice_range bytes n (2 * n)); guard = halfwords_of (drop (2 * n) bytes) }) r) ≡ region_length n r
  parts S0 = length-halfwords (take n bytes) ∙ ap (λ (k : ℕ). k / 2) (length-take-le n bytes (omega arith))
  parts S1 =
      let middle : length (slice_range bytes n (2 * n)) ≡ n = omega (arith, length-take-le (2 * n - n) (drop n bytes) (omega (arith, length-drop n bytes))) in
      length-halfwords (slice_range bytes n (2 * n)) ∙ ap (λ (k : ℕ). k / 2) middle
  parts Guard =
      let back : length (drop (2 * n) bytes) ≡ 16384 = omega (arith, length-drop (2 * n) bytes) in
      length-halfwords (drop (2 * n) bytes) ∙ ap (λ (k : ℕ). k / 2) back

-- the size that an image's length tells
pub size_some : (len n : ℕ) → IsSectorSize n → len ≡ image_length n → n ≡ image_size len
size_some len n known is = grind (arith, nat_tests)

pub size_none : (len : ℕ) → ((n : ℕ) → IsSectorSize n → len ≢ image_length n) → 0 ≡ image_size len
size_none len none =
    let small = none 16384 (inl refl) in
    let second = none 32768 (inr (inl refl)) in
    let third = none 65536 (inr (inr (inl refl))) in
    let large = none 131072 (inr (inr (inr refl))) in
    grind (arith, nat_tests)

pub shape-image : (bytes : List ℕ) (n : ℕ) (w : Words) → n ≡ image_size (length bytes) → w ≡ image_words n bytes → IsSectorSize n → HasShape n w
shape-image bytes n w is words known = subst (λ (w : Words). HasShape n w) (sym (words ∙ split bytes n (not_zero n known))) (parts bytes n (long bytes n known is))

bytes-append : (xs ys : List ℕ) → bytes_of (xs ++ ys) ≡ bytes_of xs ++ bytes_of ys
bytes-append [] ys = refl
bytes-append (x ∷ xs) ys = ap (λ (l : List ℕ). x % 256 ∷ x / 256 ∷ l) (bytes-append xs ys)

-- one more halfword
pub bytes-push : (front halfwords : List ℕ) (i : ℕ) → i < length halfwords
    → front ++ bytes_of (take (i + 1) halfwords) ≡ ((front ++ bytes_of (take i halfwords)) ++ get_or halfwords i 0 % 256 ∷ []) ++ get_or halfwords i 0 / 256 ∷ []
bytes-push front halfwords i lt =
    let x = get_or halfwords i 0 in
    let before = bytes_of (take i halfwords) in
    ap (λ (l : List ℕ). front ++ bytes_of l) (take_more halfwords i 0 lt)
    ∙ ap (λ (l : List ℕ). front ++ l) (bytes-append (take i halfwords) (x ∷ []))
    ∙ sym (append_assoc front before (x % 256 ∷ x / 256 ∷ []))
    ∙ sym (append_assoc (front ++ before) (x % 256 ∷ []) (x / 256 ∷ []))
