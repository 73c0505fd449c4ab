-- What a count and the next one say.
use Rattle.std.proofs.Common.{◌≡◌, ◌≢◌, ◌⊎◌, inl, inr, ℕ, ◌+◌, ◌/◌, ◌%◌, Option, Some, None, refl, sym, ◌∙◌, ap, subst, arith}
use Rattle.std.specs.Prelude.{if◌then◌else◌, ◌==◌}
use Rattle.std.proofs.lemmas.Bool.{cases_eq}
use Rattle.flash_traits.specs.declared.board.Region.{Region}
use Rattle.std.specs.Option.{option_map_or}
use Rattle.flash_traits.specs.declared.board.Region.TheVariants.{S0, S1}
use Rattle.flash_traits.specs.Words.{IsSectorRegion}
use Rattle.guard_row.specs.Home.{sector_of, home_of, void_of, sector_beside, first_of, second_of}

-- the same by the remainder of the count
abbrev home_at : ℕ → ℕ → Option Region
home_at two half = if two == 0 then Some (sector_of half) else None

abbrev void_at : ℕ → Option Region
void_at four = if four == 1 then Some S0 else (if four == 3 then Some S1 else None)

-- one of the four remainders
pub rests : (n : ℕ) → (n % 4 ≡ 0) ⊎ (n % 4 ≡ 1) ⊎ (n % 4 ≡ 2) ⊎ (n % 4 ≡ 3)
rests n = elim (cases_eq (n % 4) 0) [
  | inl is ↦ inl is
  | inr a ↦ elim (cases_eq (n % 4) 1) [
    | inl is ↦ inr (inl is)
    | inr b ↦ elim (cases_eq (n % 4) 2) [
      | inl is ↦ inr (inr (inl is))
      | inr d ↦ inr (inr (inr (omega (arith, a, b, d))))
    ]
  ]
]

home : (n two half : ℕ) → n % 2 ≡ two → n / 2 % 2 ≡ half → home_of n ≡ home_at two half
home n two half p q = ap (λ (k : ℕ). home_at k (n / 2 % 2)) p ∙ ap (home_at two) q

void : (n four : ℕ) → n % 4 ≡ four → void_of n ≡ void_at four
void n four p = ap void_at p

pub either : (n : ℕ) → ((r : Region) × (home_of n ≡ Some r) × (void_of n ≡ None)) ⊎ ((r : Region) × (void_of n ≡ Some r) × (home_of n ≡ None))
either n = elim (rests n) [
  | inl is ↦ inl (S0, home n 0 0 (omega arith) (omega arith), void n 0 is)
  | inr a ↦ elim a [
    | inl is ↦ inr (S0, void n 1 is, home n 1 (n / 2 % 2) (omega arith) refl)
    | inr b ↦ elim b [
      | inl is ↦ inl (S1, home n 0 1 (omega arith) (omega arith), void n 2 is)
      | inr is ↦ inr (S1, void n 3 is, home n 1 (n / 2 % 2) (omega arith) refl)
    ]
  ]
]

pub voids_home : (n : ℕ) (r : Region) → home_of n ≡ Some r → void_of (n + 1) ≡ Some r
voids_home n r is = elim (rests n) [
  | inl four ↦ void (n + 1) 1 (omega arith) ∙ sym (home n 0 0 (omega arith) (omega arith)) ∙ is
  | inr a ↦ elim a [
    | inl four ↦ let none : None ≡ Some r = sym (home n 1 (n / 2 % 2) (omega arith) refl) ∙ is in cc
    | inr b ↦ elim b [
      | inl four ↦ void (n + 1) 3 (omega arith) ∙ sym (home n 0 1 (omega arith) (omega arith)) ∙ is
      | inr four ↦ let none : None ≡ Some r = sym (home n 1 (n / 2 % 2) (omega arith) refl) ∙ is in cc
    ]
  ]
]

pub opens_other : (n : ℕ) (r q : Region) → void_of n ≡ Some r → home_of (n + 1) ≡ Some q → q ≢ r
opens_other n r q is next same = elim (rests n) [
  | inl four ↦ let none : None ≡ Some r = sym (void n 0 four) ∙ is in cc
  | inr a ↦ elim a [
    | inl four ↦
        let one : Some S0 ≡ Some r = sym (void n 1 four) ∙ is in
        let other : Some S1 ≡ Some q = sym (home (n + 1) 0 1 (omega arith) (omega arith)) ∙ next in
        cc
    | inr b ↦ elim b [
      | inl four ↦ let none : None ≡ Some r = sym (void n 2 four) ∙ is in cc
      | inr four ↦
          let one : Some S1 ≡ Some r = sym (void n 3 four) ∙ is in
          let other : Some S0 ≡ Some q = sym (home (n + 1) 0 0 (omega arith) (omega arith)) ∙ next in
          cc
    ]
  ]
]

-- home, or the sector that isn't void, by what the count says
abbrev first_at : Option Region → Option Region → Region
first_at home void = option_map_or (λ (r : Region). r) home (option_map_or sector_beside void S0)

first : (n : ℕ) (h v : Option Region) → home_of n ≡ h → void_of n ≡ v → first_of n ≡ first_at h v
first n h v p q = ap (λ (o : Option Region). first_at o (void_of n)) p ∙ ap (first_at h) q

pub first_0 : (n : ℕ) → n % 4 ≡ 0 → first_of n ≡ S0
first_0 n is = first n (Some S0) None (home n 0 0 (omega arith) (omega arith)) (void n 0 is)

pub first_1 : (n : ℕ) → n % 4 ≡ 1 → first_of n ≡ S1
first_1 n is = first n None (Some S0) (home n 1 (n / 2 % 2) (omega arith) refl) (void n 1 is)

pub first_2 : (n : ℕ) → n % 4 ≡ 2 → first_of n ≡ S1
first_2 n is = first n (Some S1) None (home n 0 1 (omega arith) (omega arith)) (void n 2 is)

pub first_3 : (n : ℕ) → n % 4 ≡ 3 → first_of n ≡ S0
first_3 n is = first n None (Some S1) (home n 1 (n / 2 % 2) (omega arith) refl) (void n 3 is)

-- one is sector 0 and the other sector 1
pub sides : (count : ℕ) → ((first_of count ≡ S0) × (second_of count ≡ S1)) ⊎ ((first_of count ≡ S1) × (second_of count ≡ S0))
sides count = elim (rests count) [
  | inl is ↦ inl (first_0 count is, ap sector_beside (first_0 count is))
  | inr a ↦ elim a [
    | inl is ↦ inr (first_1 count is, ap sector_beside (first_1 count is))
    | inr b ↦ elim b [
      | inl is ↦ inr (first_2 count is, ap sector_beside (first_2 count is))
      | inr is ↦ inl (first_3 count is, ap sector_beside (first_3 count is))
    ]
  ]
]

pub first_sector : (count : ℕ) → IsSectorRegion (first_of count)
first_sector count = elim (sides count) [
  | inl is ↦ subst IsSectorRegion (sym is.0) tt
  | inr is ↦ subst IsSectorRegion (sym is.0) tt
]

pub second_sector : (count : ℕ) → IsSectorRegion (second_of count)
second_sector count = elim (sides count) [
  | inl is ↦ subst IsSectorRegion (sym is.1) tt
  | inr is ↦ subst IsSectorRegion (sym is.1) tt
]

-- after an even count, one more makes the second sector the one that isn't void
pub next_first : (count : ℕ) → count % 2 ≡ 0 → first_of (count + 1) ≡ second_of count
next_first count even = elim (rests count) [
  | inl is ↦ first_1 (count + 1) (omega arith) ∙ sym (ap sector_beside (first_0 count is))
  | inr a ↦ elim a [
    | inl is ↦ absurd (omega arith)
    | inr b ↦ elim b [
      | inl is ↦ first_3 (count + 1) (omega arith) ∙ sym (ap sector_beside (first_2 count is))
      | inr is ↦ absurd (omega arith)
    ]
  ]
]

-- after an odd count, one more makes the sector that isn't void the home
pub next_home : (count : ℕ) → count % 2 ≡ 1
    → (first_of (count + 1) ≡ first_of count) × (second_of (count + 1) ≡ second_of count)
next_home count odd = elim (rests count) [
  | inl is ↦ absurd (omega arith)
  | inr a ↦ elim a [
    | inl is ↦ both (first_2 (count + 1) (omega arith) ∙ sym (first_1 count is))
    | inr b ↦ elim b [
      | inl is ↦ absurd (omega arith)
      | inr is ↦ both (first_0 (count + 1) (omega arith) ∙ sym (first_3 count is))
    ]
  ]
]
  where
    both : first_of (count + 1) ≡ first_of count
        → (first_of (count + 1) ≡ first_of count) × (second_of (count + 1) ≡ second_of count)
    both same = (same, ap sector_beside same)

-- the first sector is the home where there is one, and the second one the void one where there is one
pub first_home : (n : ℕ) (r : Region) → home_of n ≡ Some r → first_of n ≡ r
first_home n r is = first n (Some r) (void_of n) is refl

pub second_void : (n : ℕ) (r : Region) → void_of n ≡ Some r → second_of n ≡ r
second_void n r is = elim (rests n) [
  | inl four ↦ let none : None ≡ Some r = sym (void n 0 four) ∙ is in cc
  | inr a ↦ elim a [
    | inl four ↦ let one : Some S0 ≡ Some r = sym (void n 1 four) ∙ is in ap sector_beside (first_1 n four) ∙ (cc)
    | inr b ↦ elim b [
      | inl four ↦ let none : None ≡ Some r = sym (void n 2 four) ∙ is in cc
      | inr four ↦ let one : Some S1 ≡ Some r = sym (void n 3 four) ∙ is in ap sector_beside (first_3 n four) ∙ (cc)
    ]
  ]
]
