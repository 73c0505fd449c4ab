-- Line writes, one after the other, and the lines in which two lists of bytes differ.
use Rattle.std.proofs.Common.{◌≡◌, ◌≢◌, ℕ, zero, suc, ◌+◌, ◌-◌, ◌*◌, ◌/◌, ◌%◌, ◌<◌, ◌≤◌, Bool, true, cond, List, [], ◌∷◌, ◌++◌, length, get_or, take, drop, refl, sym, ◌∙◌, ap, subst, arith, ◌⊎◌, inl, inr}
use Rattle.std.specs.Prelude.{◌==◌}
use Rattle.std.proofs.lemmas.List.{length-take, length-drop, get_or-take, get_or-drop, ext_get_or, length-append, take_all, take-append-le, append-nil, same_lists, get_or_append_left, get_or-append_right, get_or_default}
use Rattle.std.proofs.lemmas.Bool.Decides.{nat_tests}
use Rattle.std.proofs.lemmas.Bool.{cases_lt, cases_Bool}
use Rattle.std.proofs.lemmas.Slice.Eq.{bytes_eq-Decides}
use borrow.Rule.Slice.PartMut.{put_mid}
use Rattle.std.specs.Str.{bytes_eq}
use Rattle.storage_lines.specs.declared.lines.LineWrite.{LineWrite}
use Rattle.storage_lines.specs.Lines.{put_line, after, line_of, line_change, changes_below}
use Rattle.storage_lines.proofs.Listed.{length-listed, get_or-listed}

-- byte k of the bytes with a line replaced
abbrev pub byte_put : List ℕ → LineWrite → ℕ → ℕ
byte_put b w k = cond ((k / 8) == w.line) (get_or w.bytes (k % 8) 0) (get_or b k 0)

pub length-put_line : (b : List ℕ) (w : LineWrite) → length (put_line b w) ≡ length b
length-put_line b w = length-listed (length b) (byte_put b w)

pub get_or-put_line : (b : List ℕ) (w : LineWrite) (k d : ℕ) → k < length b → get_or (put_line b w) k d ≡ byte_put b w k
get_or-put_line b w k d h = get_or-listed (length b) (byte_put b w) k d h

pub put_line-same : (b : List ℕ) (w : LineWrite) (k d : ℕ) → k < length b → k / 8 ≡ w.line → get_or (put_line b w) k d ≡ get_or w.bytes (k % 8) 0
put_line-same b w k d h e = get_or-put_line b w k d h ∙ grind (arith, nat_tests)

pub put_line-other : (b : List ℕ) (w : LineWrite) (k d : ℕ) → k < length b → k / 8 ≢ w.line → get_or (put_line b w) k d ≡ get_or b k 0
put_line-other b w k d h e = get_or-put_line b w k d h ∙ grind (arith, nat_tests)

pub length-after : (b : List ℕ) (ws : List LineWrite) → length (after b ws) ≡ length b
length-after b [] = refl
length-after b (w ∷ ws) = length-after (put_line b w) ws ∙ length-put_line b w

pub length-line_of : (b : List ℕ) (n : ℕ) → 8 * n + 8 ≤ length b → length (line_of b n) ≡ 8
length-line_of b n h = omega (arith, length-take 8 (drop (8 * n) b), length-drop (8 * n) b)

pub get_or-line_of : (b : List ℕ) (n j d : ℕ) → j < 8 → get_or (line_of b n) j d ≡ get_or b (8 * n + j) d
get_or-line_of b n j d h = get_or-take 8 (drop (8 * n) b) j d h ∙ get_or-drop (8 * n) b j d

-- a line's bytes, one by one
pub same_line : (a b : List ℕ) (n : ℕ) → 8 * n + 8 ≤ length a → 8 * n + 8 ≤ length b → ((j : ℕ) → j < 8 → get_or a (8 * n + j) 0 ≡ get_or b (8 * n + j) 0) → line_of a n ≡ line_of b n
same_line a b n h g each = ext_get_or 0 (line_of a n) (line_of b n) (length-line_of a n h ∙ sym (length-line_of b n g))
    (λ j l. let few : j < 8 = omega (arith, length-line_of a n h) in get_or-line_of a n j 0 few ∙ each j few ∙ sym (get_or-line_of b n j 0 few))

pub same_byte : (a b : List ℕ) (n j : ℕ) → line_of a n ≡ line_of b n → j < 8 → get_or a (8 * n + j) 0 ≡ get_or b (8 * n + j) 0
same_byte a b n j e h = sym (get_or-line_of a n j 0 h) ∙ ap (λ (l : List ℕ). get_or l j 0) e ∙ get_or-line_of b n j 0 h

-- a line differs, or it doesn't
pub line_cases : (n : ℕ) (a b : List ℕ) →
    ((line_of a n ≡ line_of b n) × (line_change n a b ≡ []))
    ⊎ ((line_of a n ≢ line_of b n) × (line_change n a b ≡ record { line = n; bytes = line_of b n } ∷ []))
line_cases n a b =
    let test = bytes_eq-Decides (line_of a n) (line_of b n) in
    elim (cases_Bool (bytes_eq (line_of a n) (line_of b n))) [
      | inl holds ↦ inl (test.0 holds, ap (λ (t : Bool). cond t [] (record { line = n; bytes = line_of b n } ∷ [])) holds)
      | inr fails ↦ inr (λ e. let holds : bytes_eq (line_of a n) (line_of b n) ≡ true = test.1 e in cc, ap (λ (t : Bool). cond t [] (record { line = n; bytes = line_of b n } ∷ [])) fails)
    ]

pub after-append : (b : List ℕ) (xs ys : List LineWrite) → after b (xs ++ ys) ≡ after (after b xs) ys
after-append b [] ys = refl
after-append b (w ∷ xs) ys = after-append (put_line b w) xs ys

-- a line that was put, and the other lines
pub line_put : (b : List ℕ) (w : LineWrite) (n : ℕ) → 8 * n + 8 ≤ length b → w.line ≡ n → length w.bytes ≡ 8 → line_of (put_line b w) n ≡ w.bytes
line_put b w n h e size =
    let fits : 8 * n + 8 ≤ length (put_line b w) = omega (arith, length-put_line b w) in
    ext_get_or 0 (line_of (put_line b w) n) w.bytes (length-line_of (put_line b w) n fits ∙ sym size)
    (λ j l. let few : j < 8 = omega (arith, length-line_of (put_line b w) n fits) in
    let rest : (8 * n + j) % 8 ≡ j = omega arith in
    get_or-line_of (put_line b w) n j 0 few ∙ put_line-same b w (8 * n + j) 0 (omega arith) (omega arith) ∙ ap (λ (i : ℕ). get_or w.bytes i 0) rest)

pub line_kept : (b : List ℕ) (w : LineWrite) (n : ℕ) → 8 * n + 8 ≤ length b → w.line ≢ n → line_of (put_line b w) n ≡ line_of b n
line_kept b w n h e =
    let fits : 8 * n + 8 ≤ length (put_line b w) = omega (arith, length-put_line b w) in
    same_line (put_line b w) b n fits h (λ j few. put_line-other b w (8 * n + j) 0 (omega arith) (λ (same : (8 * n + j) / 8 ≡ w.line). e (omega arith)))

-- new before a line border, and old from it on
pub record IsMixed (border : ℕ) (old new bytes : List ℕ) : Type 0 where
  pub size : length bytes ≡ length old
  pub front : (k : ℕ) → k < 8 * border → k < length old → get_or bytes k 0 ≡ get_or new k 0
  pub back : (k : ℕ) → 8 * border ≤ k → k < length old → get_or bytes k 0 ≡ get_or old k 0

-- the border moves over a line that doesn't change
mixed_over : (n : ℕ) (old new bytes : List ℕ) → line_of old n ≡ line_of new n → IsMixed n old new bytes → IsMixed (n + 1) old new bytes
mixed_over n old new bytes same m = record {
  size = m.size;
  front = λ k h l. elim (cases_lt k (8 * n)) [
    | inl below ↦ m.front k below l
    | inr here ↦
        let at : k ≡ 8 * n + (k - 8 * n) = omega arith in
        m.back k here l ∙ ap (λ (i : ℕ). get_or old i 0) at ∙ same_byte old new n (k - 8 * n) same (omega arith) ∙ ap (λ (i : ℕ). get_or new i 0) (sym at)
  ];
  back = λ k h l. m.back k (omega arith) l;
}

-- and over a line that is put
mixed_put : (n : ℕ) (old new bytes : List ℕ) → 8 * n + 8 ≤ length old → IsMixed n old new bytes → IsMixed (n + 1) old new (put_line bytes (record { line = n; bytes = line_of new n }))
mixed_put n old new bytes fits m =
    let w : LineWrite = record { line = n; bytes = line_of new n } in
    record {
      size = length-put_line bytes w ∙ m.size;
      front = λ k h l. let size = m.size in elim (cases_lt k (8 * n)) [
        | inl below ↦ put_line-other bytes w k 0 (omega arith) (λ (e : k / 8 ≡ n). omega arith) ∙ m.front k below l
        | inr here ↦
            let at : 8 * n + k % 8 ≡ k = omega arith in
            put_line-same bytes w k 0 (omega arith) (omega arith) ∙ get_or-line_of new n (k % 8) 0 (omega arith) ∙ ap (λ (i : ℕ). get_or new i 0) at
      ];
      back = λ k h l. let size = m.size in put_line-other bytes w k 0 (omega arith) (λ (e : k / 8 ≡ n). omega arith) ∙ m.back k (omega arith) l;
    }

-- all the changes below a line
pub mixed_all : (n : ℕ) (old new : List ℕ) → 8 * n ≤ length old → IsMixed n old new (after old (changes_below n old new))
unfolding changes_below
mixed_all zero old new h = record { size = refl; front = λ k l g. absurd (omega arith); back = λ k l g. refl }
mixed_all (suc n) old new h =
    let below = mixed_all n old new (omega arith) in
    let next : suc n ≡ n + 1 = omega arith in
    let M : ℕ → List LineWrite → Type 0 = λ b ws. IsMixed b old new (after old ws) in
    elim (line_cases n old new) [
      | inl same ↦
          let writes : changes_below n old new ≡ changes_below n old new ++ line_change n old new = sym (ap (λ (l : List LineWrite). changes_below n old new ++ l) same.1 ∙ append-nil (changes_below n old new)) in
          subst (λ (b : ℕ). M b (changes_below n old new ++ line_change n old new)) (sym next) (subst (M (n + 1)) writes (mixed_over n old new (after old (changes_below n old new)) same.0 below))
      | inr other ↦
          let w : LineWrite = record { line = n; bytes = line_of new n } in
          let writes : changes_below n old new ++ w ∷ [] ≡ changes_below n old new ++ line_change n old new = sym (ap (λ (l : List LineWrite). changes_below n old new ++ l) other.1) in
          let put : IsMixed (n + 1) old new (after old (changes_below n old new ++ w ∷ [])) = subst (IsMixed (n + 1) old new) (sym (after-append old (changes_below n old new) (w ∷ []))) (mixed_put n old new (after old (changes_below n old new)) (omega arith) below) in
          subst (λ (b : ℕ). M b (changes_below n old new ++ line_change n old new)) (sym next) (subst (M (n + 1)) writes put)
    ]

-- after each prefix of the changes the bytes are new before some line border and old from it on
pub mixed_prefix : (n : ℕ) (old new : List ℕ) (j : ℕ) → 8 * n ≤ length old → j ≤ length (changes_below n old new) → (m : ℕ) × (m ≤ n) × IsMixed m old new (after old (take j (changes_below n old new)))
unfolding changes_below
mixed_prefix zero old new j h g =
    let none : take j (changes_below zero old new) ≡ [] = take_all j [] (omega arith) in
    let M : List LineWrite → Type 0 = λ ws. IsMixed 0 old new (after old ws) in
    let start : M [] = record { size = refl; front = λ k l i. absurd (omega arith); back = λ k l i. refl } in
    (0, omega arith, subst M (sym none) start)
mixed_prefix (suc n) old new j h g =
    let front = changes_below n old new in
    let last = line_change n old new in
    let few : length last ≤ 1 = elim (line_cases n old new) [
      | inl same ↦ omega (arith, ap (λ (l : List LineWrite). length l) same.1)
      | inr other ↦ omega (arith, ap (λ (l : List LineWrite). length l) other.1)
    ] in
    elim (cases_lt (length front) j) [
      | inl whole ↦
          let all : take j (front ++ last) ≡ front ++ last = take_all j (front ++ last) (omega (arith, length-append front last)) in
          (suc n, omega arith, subst (λ (ws : List LineWrite). IsMixed (suc n) old new (after old ws)) (sym all) (mixed_all (suc n) old new h))
      | inr within ↦
          let found = mixed_prefix n old new j (omega arith) within in
          (found.0, omega arith, subst (λ (ws : List LineWrite). IsMixed found.0 old new (after old ws)) (sym (take-append-le j front last within)) found.2)
    ]

-- lines that don't change have no writes
pub no_changes : (m k : ℕ) (old new : List ℕ) → ((n : ℕ) → m ≤ n → n < m + k → line_of old n ≡ line_of new n) → changes_below (m + k) old new ≡ changes_below m old new
unfolding changes_below
no_changes m zero old new same = let here : m + zero ≡ m = omega arith in ap (λ (n : ℕ). changes_below n old new) here
no_changes m (suc k) old new same =
    let next : m + suc k ≡ suc (m + k) = omega arith in
    elim (line_cases (m + k) old new) [
      | inl equal ↦ ap (λ (n : ℕ). changes_below n old new) next ∙ ap (λ (l : List LineWrite). changes_below (m + k) old new ++ l) equal.1 ∙ append-nil (changes_below (m + k) old new) ∙ no_changes m k old new (λ n h g. same n h (omega arith))
      | inr other ↦ absurd (other.0 (same (m + k) (omega arith) (omega arith)))
    ]

-- one line more
pub changes_more : (n : ℕ) (old new : List ℕ) → changes_below (n + 1) old new ≡ changes_below n old new ++ line_change n old new
unfolding changes_below
changes_more n old new = let next : n + 1 ≡ suc n = omega arith in ap (λ (k : ℕ). changes_below k old new) next

pub changes_grow : (m k : ℕ) (old new : List ℕ) → length (changes_below m old new) ≤ length (changes_below (m + k) old new)
unfolding changes_below
changes_grow m zero old new = let same : m ≡ m + zero = omega arith in omega (arith, ap (λ (n : ℕ). length (changes_below n old new)) same)
changes_grow m (suc k) old new =
    let next : m + suc k ≡ suc (m + k) = omega arith in
    omega (arith, changes_grow m k old new, length-append (changes_below (m + k) old new) (line_change (m + k) old new), ap (λ (n : ℕ). length (changes_below n old new)) next)

-- eight bytes written at a line, as `copy_from_slice` leaves them
pub put_written : (b ys : List ℕ) (w : LineWrite) (a k : ℕ) → ys ≡ w.bytes → length ys ≡ 8 → a ≡ 8 * w.line → k ≡ 8 → a + 8 ≤ length b → put_mid a k b ys ≡ put_line b w
put_written b ys w a k e size at eight fits = same_lists (put_mid a k b ys) (put_line b w)
    (omega (arith, length-put_line b w, length-append (take a b) (ys ++ drop k (drop a b)), length-append ys (drop k (drop a b)), length-take a b, length-drop a b, length-drop k (drop a b)))
    (λ i d h.
    let whole : length (put_line b w) ≡ length b = length-put_line b w in
    let sum : length (put_mid a k b ys) ≡ length b = omega (arith, length-append (take a b) (ys ++ drop k (drop a b)), length-append ys (drop k (drop a b)), length-take a b, length-drop a b, length-drop k (drop a b)) in
    let head : length (take a b) ≡ a = omega (arith, length-take a b) in
    elim (cases_lt i a) [
      | inl below ↦
          get_or_append_left (take a b) (ys ++ drop k (drop a b)) d i (omega arith) ∙ get_or-take a b i d below ∙ get_or_default b i d 0 (omega arith)
          ∙ sym (put_line-other b w i d (omega arith) (λ (same : i / 8 ≡ w.line). omega arith))
      | inr above ↦ get_or-append_right (take a b) (ys ++ drop k (drop a b)) a i d head above ∙ elim (cases_lt i (a + 8)) as (λ x. get_or (ys ++ drop k (drop a b)) (i - a) d ≡ get_or (put_line b w) i d) [
        | inl inside ↦
            let rest : i - a ≡ i % 8 = omega arith in
            get_or_append_left ys (drop k (drop a b)) d (i - a) (omega arith) ∙ get_or_default ys (i - a) d 0 (omega arith)
            ∙ ap (λ (l : List ℕ). get_or l (i - a) 0) e ∙ ap (λ (j : ℕ). get_or w.bytes j 0) rest
            ∙ sym (put_line-same b w i d (omega arith) (omega arith))
        | inr behind ↦
            let rest : a + (k + (i - a - 8)) ≡ i = omega arith in
            get_or-append_right ys (drop k (drop a b)) 8 (i - a) d size (omega arith) ∙ get_or-drop k (drop a b) (i - a - 8) d ∙ get_or-drop a b (k + (i - a - 8)) d
            ∙ ap (λ (j : ℕ). get_or b j d) rest ∙ get_or_default b i d 0 (omega arith)
            ∙ sym (put_line-other b w i d (omega arith) (λ (same : i / 8 ≡ w.line). omega arith))
      ]
    ])
