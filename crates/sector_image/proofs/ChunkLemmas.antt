-- Chunks of bytes, of which one is put into the other list.
use Rattle.std.proofs.Common.{◌≡◌, inl, inr, ℕ, suc, ◌+◌, ◌-◌, ◌*◌, ◌/◌, ◌%◌, ◌<◌, ◌≤◌, List, [], ◌∷◌, ◌++◌, length, get_or, take, drop, refl, sym, ◌∙◌, ap, subst, arith}
use Rattle.std.proofs.lemmas.List.{length-take-le, length-drop, get_or-take, get_or-drop, ext_get_or, take-append-drop, drop-drop, get_or_past, length-take}
use Rattle.std.proofs.lemmas.Bool.{cases_lt}
use Rattle.flash_traits.specs.Values.{put}
use Rattle.flash_traits.specs.Words.{bytes_of, halfwords_of}
use Rattle.flash_traits.proofs.ValueLemmas.{length_put, put_below, put_within, put_above}
use Rattle.sector_image.specs.Room.{chunk_at}

pub length_chunk : (bytes : List ℕ) (c : ℕ) → 64 * c + 64 ≤ length bytes → length (chunk_at bytes c) ≡ 64
length_chunk bytes c fits = length-take-le 64 (drop (64 * c) bytes) (omega (arith, length-drop (64 * c) bytes))

pub chunk_byte : (bytes : List ℕ) (c k : ℕ) → k < 64 → get_or (chunk_at bytes c) k 0 ≡ get_or bytes (64 * c + k) 0
chunk_byte bytes c k lt = get_or-take 64 (drop (64 * c) bytes) k 0 lt ∙ get_or-drop (64 * c) bytes k 0

-- Two lists give equal chunks after the same bytes are put into both, where they did before.
pub same_chunk : (xs ys : List ℕ) (c : ℕ) → length xs ≡ length ys → 64 * c + 64 ≤ length xs → ((k : ℕ) → k < 64 → get_or xs (64 * c + k) 0 ≡ get_or ys (64 * c + k) 0) → chunk_at xs c ≡ chunk_at ys c
same_chunk xs ys c size fits each = ext_get_or 0 (chunk_at xs c) (chunk_at ys c) (length_chunk xs c fits ∙ sym (length_chunk ys c (omega arith)))
    (λ k lt. let below : k < 64 = omega (arith, length_chunk xs c fits) in chunk_byte xs c k below ∙ each k below ∙ sym (chunk_byte ys c k below))

pub put_both : (xs ys new : List ℕ) (at c : ℕ) → length xs ≡ length ys → at + length new ≤ length xs → 64 * c + 64 ≤ length xs → chunk_at xs c ≡ chunk_at ys c
    → chunk_at (put at new xs) c ≡ chunk_at (put at new ys) c
put_both xs ys new at c size fits inside same =
    same_chunk (put at new xs) (put at new ys) c (omega (arith, length_put at new xs fits, length_put at new ys (omega arith))) (omega (arith, length_put at new xs fits))
    (λ k lt. elim (cases_lt (64 * c + k) at) [
      | inl below ↦ put_below at new xs (64 * c + k) (omega arith) below ∙ were k lt ∙ sym (put_below at new ys (64 * c + k) (omega arith) below)
      | inr from ↦ elim (cases_lt (64 * c + k) (at + length new)) [
        | inl within ↦ put_within at new xs (64 * c + k) (omega arith) from within ∙ sym (put_within at new ys (64 * c + k) (omega arith) from within)
        | inr above ↦ put_above at new xs (64 * c + k) (omega arith) above ∙ were k lt ∙ sym (put_above at new ys (64 * c + k) (omega arith) above)
      ]
    ])
  where
    were : (k : ℕ) → k < 64 → get_or xs (64 * c + k) 0 ≡ get_or ys (64 * c + k) 0
    were k lt = sym (chunk_byte xs c k lt) ∙ ap (λ (l : List ℕ). get_or l k 0) same ∙ chunk_byte ys c k lt

-- a chunk's bytes put in its place change nothing
pub put_chunk_same : (bytes : List ℕ) (c : ℕ) → 64 * c + 64 ≤ length bytes → put (64 * c) (chunk_at bytes c) bytes ≡ bytes
put_chunk_same bytes c fits =
    ap (λ (n : ℕ). take (64 * c) bytes ++ (chunk_at bytes c ++ drop n bytes)) (omega (arith, length_chunk bytes c fits))
    ∙ ap (λ (l : List ℕ). take (64 * c) bytes ++ (chunk_at bytes c ++ l)) (sym (drop-drop 64 (64 * c) bytes))
    ∙ ap (λ (l : List ℕ). take (64 * c) bytes ++ l) (take-append-drop 64 (drop (64 * c) bytes))
    ∙ take-append-drop (64 * c) bytes

-- put into another list they are its chunk there
pub put_chunk_here : (whole bytes : List ℕ) (c : ℕ) → length whole ≡ length bytes → 64 * c + 64 ≤ length bytes → chunk_at (put (64 * c) (chunk_at whole c) bytes) c ≡ chunk_at whole c
put_chunk_here whole bytes c size fits =
    let many = length_chunk whole c (omega arith) in
    let kept = length_put (64 * c) (chunk_at whole c) bytes (omega arith) in
    ext_get_or 0 (chunk_at (put (64 * c) (chunk_at whole c) bytes) c) (chunk_at whole c) (length_chunk (put (64 * c) (chunk_at whole c) bytes) c (omega arith) ∙ sym many)
    (λ k lt. let below : k < 64 = omega (arith, length_chunk (put (64 * c) (chunk_at whole c) bytes) c (omega arith)) in
    chunk_byte (put (64 * c) (chunk_at whole c) bytes) c k below
    ∙ put_within (64 * c) (chunk_at whole c) bytes (64 * c + k) (omega arith) (omega arith) (omega arith)
    ∙ ap (λ (n : ℕ). get_or (chunk_at whole c) n 0) (omega arith))

-- and the others stay
pub put_chunk_other : (new bytes : List ℕ) (c d : ℕ) → length new ≡ 64 → 64 * c + 64 ≤ length bytes → 64 * d + 64 ≤ length bytes → (d ≡ c → ⊥) → chunk_at (put (64 * c) new bytes) d ≡ chunk_at bytes d
put_chunk_other new bytes c d size fits inside other =
    same_chunk (put (64 * c) new bytes) bytes d (length_put (64 * c) new bytes (omega arith)) (omega (arith, length_put (64 * c) new bytes (omega arith)))
    (λ k lt. elim (cases_lt d c) [
      | inl below ↦ put_below (64 * c) new bytes (64 * d + k) (omega arith) (omega arith)
      | inr from ↦ put_above (64 * c) new bytes (64 * d + k) (omega arith) (omega arith)
    ])

-- halfwords of bytes have these bytes
pub bytes_of_halfwords : (n : ℕ) (bytes : List ℕ) → length bytes ≡ 2 * n → ((k : ℕ) → get_or bytes k 0 < 256) → bytes_of (halfwords_of bytes) ≡ bytes
bytes_of_halfwords n [] size small = refl
bytes_of_halfwords n (a ∷ []) size small = absurd (odd n (omega arith))
  where
    odd : (n : ℕ) → 1 ≡ 2 * n → ⊥
    odd n is = omega arith
bytes_of_halfwords n (a ∷ b ∷ bytes) size small =
    let low : (a + 256 * b) % 256 ≡ a = omega (arith, small 0) in
    let high : (a + 256 * b) / 256 ≡ b = omega (arith, small 0) in
    ap (λ (x : ℕ). x ∷ (a + 256 * b) / 256 ∷ bytes_of (halfwords_of bytes)) low
    ∙ ap (λ (x : ℕ). a ∷ x ∷ bytes_of (halfwords_of bytes)) high
    ∙ ap (λ (l : List ℕ). a ∷ b ∷ l) (bytes_of_halfwords (n - 1) bytes (omega arith) (λ k. small (suc (suc k))))

pub chunk_small : (bytes : List ℕ) (c k : ℕ) → ((k : ℕ) → get_or bytes k 0 < 256) → get_or (chunk_at bytes c) k 0 < 256
chunk_small bytes c k small = elim (cases_lt k 64) [
  | inl below ↦ omega (arith, chunk_byte bytes c k below, small (64 * c + k))
  | inr above ↦ omega (arith, get_or_past (chunk_at bytes c) k 0 (omega (arith, length-take 64 (drop (64 * c) bytes))))
]

-- as a slice of the code spells a chunk
pub chunk_slice : (c : ℕ) (bytes : List ℕ) → take (64 * c + 64 - 64 * c) (drop (64 * c) bytes) ≡ chunk_at bytes c
chunk_slice c bytes = let n : 64 * c + 64 - 64 * c ≡ 64 = omega arith in ap (λ (k : ℕ). take k (drop (64 * c) bytes)) n

-- the chunk's bytes, as they are lent
pub small_of : (bytes : List ℕ) (c : ℕ) (lent : List ℕ) → lent ≡ chunk_at bytes c → ((k : ℕ) → get_or lent k 0 < 256) → (k : ℕ) → get_or (chunk_at bytes c) k 0 < 256
small_of bytes c lent same small = subst (λ (l : List ℕ). (k : ℕ) → get_or l k 0 < 256) same small
