-- What the programs of a format make of blank words.
use Rattle.std.proofs.Common.{◌≡◌, ◌≢◌, ℕ, ◌/◌, ◌<◌, ◌≤◌, List, length, get_or, replicate, bit_and, refl, ◌∙◌, ap, arith, Bool, true, false, cond, Result, Ok, Err, true≢false, eqb-true, get_or-set_other, get_or-set_same, length-set, subst, sym}
use Rattle.std.specs.Prelude.{◌==◌, is_err, IfOk, OnOk}
use Rattle.flash_traits.specs.declared.board.Fault.{Fault}
use Rattle.flash_traits.specs.declared.board.Geometry.{Geometry}
use Rattle.flash_traits.specs.Causes.{HasCause}
use Rattle.std.proofs.Math.ListN.{set}
use Rattle.std.proofs.lemmas.Bool.{eqb-false}
use Rattle.std.proofs.lemmas.List.{get_or-replicate, length-replicate}
use Rattle.flash_traits.specs.declared.board.Region.{Region}
use Rattle.flash_traits.specs.declared.board.Region.TheVariants.{S0, S1, Guard}
use Rattle.flash_traits.specs.Words.{Words, halfwords_in, region_length, blank, programmed, HasShape, IsSectorSize}
use Rattle.flash_traits.specs.Pairs.{ProgramsPair}
use Rattle.flash_traits.proofs.Sizes.{half_at_least}
use Rattle.storage_cli.specs.Fresh.{header_only, fresh_word, IsFreshImage}

pub on_ok_part : {T E : Type 0} (r : Result T E) (P : Type 0) → is_err r ≡ false → OnOk r P → P
on_ok_part (Ok x) P ok p = p
on_ok_part (Err e) P ok p = absurd (true≢false ok)

-- a call that didn't fail has changed no count
pub no_cause : {T E : Type 0} (r : Result T E) (kind : Fault) (before now : Fault → ℕ) → is_err r ≡ false → HasCause kind before now r → now ≡ before
no_cause (Ok x) kind before now ok cause = cause
no_cause (Err e) kind before now ok cause = absurd (true≢false ok)

-- a row whose first two halfwords were programmed
abbrev with_first : List ℕ → ℕ → List ℕ
with_first xs state = set xs 0 (bit_and (get_or xs 0 0) state)

abbrev with_header : List ℕ → ℕ → List ℕ
with_header xs state = set (with_first xs state) 1 (bit_and (get_or (with_first xs state) 1 0) 0x5168)

module _ (xs : List ℕ) (state : ℕ) (long : 2 ≤ length xs) (blank_at : (i : ℕ) → i < length xs → get_or xs i 0 ≡ 65535) (masked : bit_and 65535 state ≡ state) where
  first_zero : get_or (with_first xs state) 0 0 ≡ state
  first_zero = get_or-set_same xs 0 (bit_and (get_or xs 0 0) state) 0 (omega (arith, long)) ∙ ap (λ (n : ℕ). bit_and n state) (blank_at 0 (omega (arith, long))) ∙ masked

  first_other : (i : ℕ) → i ≢ 0 → i < length xs → get_or (with_first xs state) i 0 ≡ 65535
  first_other i other inside = get_or-set_other xs 0 i (bit_and (get_or xs 0 0) state) 0 other ∙ blank_at i inside

  header_at : (k : ℕ) → k < length xs → get_or (with_header xs state) k 0 ≡ header_only state k
  header_at k inside = go (k == 0) (k == 1) refl refl
    where
      go : (a b : Bool) → (k == 0) ≡ a → (k == 1) ≡ b → get_or (with_header xs state) k 0 ≡ cond a state (cond b 0x5168 0xFFFF)
      go true b e f =
          let is : k ≡ 0 = eqb-true k 0 e in
          let other : 0 ≢ 1 = λ (z : 0 ≡ 1). omega (arith, z) in
          ap (λ (i : ℕ). get_or (with_header xs state) i 0) is ∙ get_or-set_other (with_first xs state) 1 0 (bit_and (get_or (with_first xs state) 1 0) 0x5168) 0 other ∙ first_zero
      go false true e f =
          let is : k ≡ 1 = eqb-true k 1 f in
          let size : 1 < length (with_first xs state) = omega (arith, long, length-set xs 0 (bit_and (get_or xs 0 0) state)) in
          ap (λ (i : ℕ). get_or (with_header xs state) i 0) is ∙ get_or-set_same (with_first xs state) 1 (bit_and (get_or (with_first xs state) 1 0) 0x5168) 0 size
          ∙ ap (λ (n : ℕ). bit_and n 0x5168) (first_other 1 (λ z. omega (arith, z)) (omega (arith, long)))
      go false false e f =
          let not_zero : k ≢ 0 = eqb-false k 0 e in
          let not_one : k ≢ 1 = eqb-false k 1 f in
          get_or-set_other (with_first xs state) 1 k (bit_and (get_or (with_first xs state) 1 0) 0x5168) 0 not_one ∙ first_other k not_zero inside

blank_row : (n i : ℕ) → i < length {A = ℕ} (replicate n 65535) → (let v : ℕ = 65535 in get_or (replicate n v) i 0 ≡ v)
blank_row n i less = get_or-replicate n i 65535 0 (omega (arith, less, length-replicate {A = ℕ} n 65535))

half_long : (n : ℕ) → IsSectorSize n → 2 ≤ length {A = ℕ} (replicate (n / 2) 65535)
half_long n known = omega (arith, length-replicate {A = ℕ} (n / 2) 65535, half_at_least n known)

-- the words after both headers
abbrev formatted : ℕ → Words
formatted n = programmed (programmed (programmed (programmed (blank n) S1 0 0x5BFF) S1 1 0x5168) S0 0 0x5BFE) S0 1 0x5168

formatted_at : (n : ℕ) → IsSectorSize n → (region : Region) (offset : ℕ) → offset < region_length n region → get_or (halfwords_in (formatted n) region) offset 0 ≡ fresh_word region offset
formatted_at n known S0 offset inside = header_at (replicate (n / 2) 65535) 0x5BFE (half_long n known) (blank_row (n / 2)) refl offset (omega (arith, inside, length-replicate {A = ℕ} (n / 2) 65535))
formatted_at n known S1 offset inside = header_at (replicate (n / 2) 65535) 0x5BFF (half_long n known) (blank_row (n / 2)) refl offset (omega (arith, inside, length-replicate {A = ℕ} (n / 2) 65535))
formatted_at n known Guard offset inside = get_or-replicate 8192 offset 65535 0 inside

pub formatted_fresh : (n : ℕ) (w0 w1 w2 : Words) → IsSectorSize n → w0 ≡ blank n → ProgramsPair S1 0 0x5BFF 0x5168 w0 w1 → ProgramsPair S0 0 0x5BFE 0x5168 w1 w2 → HasShape n w2 → IsFreshImage n w2
formatted_fresh n w0 w1 w2 known start one two shape = record {
  shape = shape;
  fresh = record {
    each = λ region offset inside.
        ap (λ (w : Words). get_or (halfwords_in w region) offset 0) is ∙ formatted_at n known region offset (omega (arith, inside, shape region));
  };
}
  where
    is : w2 ≡ formatted n
    is = two ∙ ap (λ (w : Words). programmed (programmed w S0 0 0x5BFE) S0 1 0x5168) (one ∙ ap (λ (w : Words). programmed (programmed w S1 0 0x5BFF) S1 1 0x5168) start)

pub geometry_part : {E : Type 0} (r : Result Geometry E) (board size : ℕ) → is_err r ≡ false → IfOk r (λ geometry. (board ≡ geometry.sector_bytes) × IsSectorSize geometry.sector_bytes × (geometry.sector_bytes ≡ size)) → board ≡ size
geometry_part (Ok geometry) board size ok is = is.0 ∙ is.2
geometry_part (Err e) board size ok is = absurd (true≢false ok)

pub size_part : {E : Type 0} (r : Result Geometry E) (board : ℕ) (Q : Geometry → Type 0) → is_err r ≡ false → IfOk r (λ geometry. (board ≡ geometry.sector_bytes) × IsSectorSize geometry.sector_bytes × Q geometry) → IsSectorSize board
size_part (Ok geometry) board Q ok is = subst IsSectorSize (sym is.0) is.1
size_part (Err e) board Q ok is = absurd (true≢false ok)
