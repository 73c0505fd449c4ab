-- How many numbers pass, where one changes.
use Rattle.std.proofs.Common.{◌≡◌, inl, inr, ℕ, zero, suc, ◌+◌, ◌<◌, ◌≤◌, Bool, true, false, refl, ◌∙◌, ap, arith}
use Rattle.std.specs.Prelude.{if◌then◌else◌}
use Rattle.std.proofs.lemmas.Bool.{cases_Bool, cases_eq}
use Rattle.sector_image.specs.Room.{count_below}

abbrev pub one_if : Bool → ℕ
one_if b = if b then 1 else 0

one_true : (b : Bool) → b ≡ true → one_if b ≡ 1
one_true b is = ap one_if is

one_false : (b : Bool) → b ≡ false → one_if b ≡ 0
one_false b is = ap one_if is

one_le : (b c : Bool) → (b ≡ true → c ≡ true) → one_if b ≤ one_if c
one_le b c h = elim (cases_Bool b) [
  | inl is ↦ omega (arith, one_true b is, one_true c (h is))
  | inr is ↦ omega (arith, one_false b is)
]

one_most : (b : Bool) → one_if b ≤ 1
one_most b = elim (cases_Bool b) [
  | inl is ↦ omega (arith, one_true b is)
  | inr is ↦ omega (arith, one_false b is)
]

-- what passes the one test passes the other
pub count_le : (n : ℕ) (p q : ℕ → Bool) → ((k : ℕ) → k < n → p k ≡ true → q k ≡ true) → count_below n p ≤ count_below n q
count_le zero p q h = omega arith
count_le (suc n) p q h = omega (arith, count_le n p q (λ k lt. h k (omega arith)), one_le (p n) (q n) (h n (omega arith)))

-- both tests say the same
pub count_same : (n : ℕ) (p q : ℕ → Bool) → ((k : ℕ) → k < n → p k ≡ q k) → count_below n p ≡ count_below n q
count_same zero p q h = refl
count_same (suc n) p q h = omega (arith, count_same n p q (λ k lt. h k (omega arith)), ap one_if (h n (omega arith)))

-- but for one number
pub count_le_one : (n d : ℕ) (p q : ℕ → Bool) → ((k : ℕ) → k < n → (k ≡ d → ⊥) → p k ≡ true → q k ≡ true) → count_below n p ≤ count_below n q + 1
count_le_one zero d p q h = omega arith
count_le_one (suc n) d p q h = elim (cases_eq n d) [
  | inl is ↦ omega (arith, count_le n p q (λ k lt. h k (omega arith) (λ same. omega arith)), one_most (p n))
  | inr other ↦ omega (arith, count_le_one n d p q (λ k lt. h k (omega arith)), one_le (p n) (q n) (h n (omega arith) other))
]

-- one number passes the second alone, and no other one passes the first alone
pub count_less : (n d : ℕ) (p q : ℕ → Bool) → d < n → p d ≡ false → q d ≡ true → ((k : ℕ) → k < n → (k ≡ d → ⊥) → p k ≡ true → q k ≡ true) → count_below n p + 1 ≤ count_below n q
count_less zero d p q lt fails passes h = absurd (omega arith)
count_less (suc n) d p q lt fails passes h = elim (cases_eq n d) [
  | inl is ↦ omega (arith, count_le n p q (λ k below. h k (omega arith) (λ same. omega arith)), one_false (p n) (ap p is ∙ fails), one_true (q n) (ap q is ∙ passes))
  | inr other ↦ omega (arith, count_less n d p q (omega arith) fails passes (λ k below. h k (omega arith)), one_le (p n) (q n) (h n (omega arith) other))
]

-- where none passes, each fails
pub count_none : (n : ℕ) (p : ℕ → Bool) → count_below n p ≡ 0 → (k : ℕ) → k < n → p k ≡ false
count_none zero p none k lt = absurd (omega arith)
count_none (suc n) p none k lt = elim (cases_Bool (p n)) [
  | inl is ↦ absurd (omega (arith, one_true (p n) is))
  | inr is ↦ elim (cases_eq k n) [
    | inl same ↦ ap p same ∙ is
    | inr other ↦ count_none n p (omega arith) k (omega arith)
  ]
]

pub count_of_none : (n : ℕ) (p : ℕ → Bool) → ((k : ℕ) → k < n → p k ≡ false) → count_below n p ≡ 0
count_of_none zero p h = refl
count_of_none (suc n) p h = omega (arith, count_of_none n p (λ k lt. h k (omega arith)), one_false (p n) (h n (omega arith)))

pub count_most : (n : ℕ) (p : ℕ → Bool) → count_below n p ≤ n
count_most zero p = omega arith
count_most (suc n) p = omega (arith, count_most n p, one_most (p n))

-- all numbers but one pass both tests alike
pub count_change : (n d : ℕ) (p q : ℕ → Bool) → d < n → ((k : ℕ) → k < n → (k ≡ d → ⊥) → p k ≡ q k) → count_below n p + one_if (q d) ≡ count_below n q + one_if (p d)
count_change zero d p q lt h = absurd (omega arith)
count_change (suc n) d p q lt h = elim (cases_eq n d) [
  | inl is ↦ omega (arith, count_same n p q (λ k below. h k (omega arith) (λ same. omega arith)), ap (λ (k : ℕ). one_if (p k)) is, ap (λ (k : ℕ). one_if (q k)) is)
  | inr other ↦ omega (arith, count_change n d p q (omega arith) (λ k below. h k (omega arith)), ap one_if (h n (omega arith) other))
]
