-- What the marks of a comparison say of the chunks that are left to copy.
use Rattle.std.proofs.Common.{◌≡◌, ◌≢◌, ◌⊎◌, inl, inr, ℕ, zero, suc, ◌+◌, ◌*◌, ◌<◌, ◌≤◌, Bool, true, false, not, ltb, List, [], ◌∷◌, ◌++◌, length, take, drop, get_or, set, Option, Some, None, refl, sym, ◌∙◌, ap, arith, add-zero}
use mir.Val.{bool_byte}
use Rattle.std.specs.Prelude.{◌||◌, ◌↔◌, IsTrue, IfSome, IfNone, All}
use Rattle.std.proofs.lemmas.List.{get_or-set_same, get_or-set_other, ext_get_or}
use Rattle.std.specs.List.{position, position_or_len, list_all}
use Rattle.std.proofs.lemmas.List.Quantifiers.{position-Some}
use Rattle.std.proofs.lemmas.Slice.Eq.{bytes_eq-Decides}
use Rattle.std.proofs.Math.Seq.{take-append_seam}
use Rattle.std.specs.Str.{bytes_eq}
use Rattle.flash_traits.specs.Values.{put}
use Rattle.flash_traits.proofs.ValueLemmas.{length_put, put_below, put_above}
use Rattle.sector_log.specs.Storage.{storage_bytes}
use Rattle.sector_image.specs.Images.{Bytes, IsFirstLeft}
use Rattle.sector_image.proofs.ChunkLemmas.{length_chunk, same_chunk, put_chunk_here, put_chunk_other}
use Rattle.std.proofs.lemmas.List.Sums.{prefix_len_passes}
use Rattle.std.proofs.lemmas.Bool.{cases_eq, cases_lt, both_ways, ne_eqb, and_parts, not-true, not-false, not_from_true, not_from_false, true_from_ne_false, cond-true, lt-ltb}
use Rattle.sector_image.specs.Room.{chunk_at, is_covered, is_left, left_below}
use Rattle.sector_image.specs.Coverage.{is_marked, unmarked_below, IsComparison, AreCompared}
use Rattle.sector_image.proofs.Counts.{one_if, count_same, count_change, count_most, count_none, count_of_none}
use Rattle.sector_image.proofs.Rooms.{finished_not_left}

-- the marks agree with a comparison of the lists, up to the n-th chunk
abbrev pub Agrees : ℕ → List ℕ → List ℕ → List Bool → Type 0
Agrees n w u marks = (c : ℕ) → c < n → is_marked marks c ≡ is_covered w u c

or_false : (b : Bool) → (b || false) ≡ b
or_false true = refl
or_false false = refl

left_by_mark : (w u : List ℕ) (marks : List Bool) (c : ℕ) → is_marked marks c ≡ is_covered w u c → is_left w u None c ≡ not (is_marked marks c)
left_by_mark w u marks c is = ap not (or_false (is_covered w u c) ∙ sym is)

pub left_of_marks : (n : ℕ) (w u : List ℕ) (marks : List Bool) → Agrees n w u marks → left_below n w u None ≡ unmarked_below n marks
unfolding left_below unmarked_below
left_of_marks n w u marks is = count_same n (is_left w u None) (λ c. not (is_marked marks c)) (λ c lt. left_by_mark w u marks c (is c lt))

left_at_other : (w u : List ℕ) (marks : List Bool) (d c : ℕ) → (c ≡ d → ⊥) → is_marked marks c ≡ is_covered w u c → is_left w u (Some d) c ≡ not (is_marked marks c)
left_at_other w u marks d c other is =
    ap (λ (b : Bool). not (is_covered w u c || b)) (ne_eqb d c (λ same. other (sym same))) ∙ left_by_mark w u marks c is

-- beside a chunk without a mark, one fewer is left
pub left_but_one : (n : ℕ) (w u : List ℕ) (marks : List Bool) (d : ℕ) → Agrees n w u marks → d < n → is_marked marks d ≡ false → left_below n w u (Some d) + 1 ≡ unmarked_below n marks
unfolding left_below unmarked_below
left_but_one n w u marks d is lt none =
    let change = count_change n d (is_left w u (Some d)) (λ c. not (is_marked marks c)) lt (λ c below other. left_at_other w u marks d c other (is c below)) in
    omega (arith, change, ap one_if (not_from_false (is_marked marks d) none), ap one_if (finished_not_left w u d))

-- and beside one that has a mark, or that is none of these, as many
pub left_elsewhere : (n : ℕ) (w u : List ℕ) (marks : List Bool) (d : ℕ) → Agrees n w u marks → (d < n → is_marked marks d ≡ true) → left_below n w u (Some d) ≡ unmarked_below n marks
unfolding left_below unmarked_below
left_elsewhere n w u marks d is marked = count_same n (is_left w u (Some d)) (λ c. not (is_marked marks c)) (λ c below. elim (cases_eq c d) [
  | inl same ↦
      ap (λ (k : ℕ). is_left w u (Some d) k) same ∙ finished_not_left w u d
      ∙ sym (not_from_true (is_marked marks c) (ap (is_marked marks) same ∙ marked (omega arith)))
  | inr other ↦ left_at_other w u marks d c other (is c below)
])

-- a mark is set or taken back
pub unmarked_change : (n : ℕ) (old new : List Bool) (d : ℕ) → d < n → ((c : ℕ) → c ≢ d → is_marked new c ≡ is_marked old c) →
    unmarked_below n new + one_if (not (is_marked old d)) ≡ unmarked_below n old + one_if (not (is_marked new d))
unfolding unmarked_below
unmarked_change n old new d lt others = count_change n d (λ c. not (is_marked new c)) (λ c. not (is_marked old c)) lt (λ c below other. ap not (others c other))

pub unmarked_most : (n : ℕ) (marks : List Bool) → unmarked_below n marks ≤ n
unfolding unmarked_below
unmarked_most n marks = count_most n (λ c. not (is_marked marks c))

pub unmarked_none : (n : ℕ) (marks : List Bool) → ((c : ℕ) → c < n → is_marked marks c ≡ true) → unmarked_below n marks ≡ 0
unfolding unmarked_below
unmarked_none n marks each = count_of_none n (λ c. not (is_marked marks c)) (λ c lt. not_from_true (is_marked marks c) (each c lt))

-- an unmarked chunk counts
pub unmarked_some : (n : ℕ) (marks : List Bool) (d : ℕ) → d < n → is_marked marks d ≡ false → 1 ≤ unmarked_below n marks
unfolding unmarked_below
unmarked_some n marks d lt without = elim (cases_lt 0 (unmarked_below n marks)) [
  | inl some ↦ omega arith
  | inr none ↦ absurd (both_ways (not (is_marked marks d)) (count_none n (λ c. not (is_marked marks c)) (omega (arith, none)) d lt) (not_from_false (is_marked marks d) without))
]

-- where the search for a chunk without a mark ends without one, each has one
pub all_marked : (marks : List Bool) → position not marks ≡ None → (c : ℕ) → c < length marks → is_marked marks c ≡ true
all_marked marks none c lt = elim (cases_lt (position_or_len not marks) (length marks)) [
  | inl found ↦
      let some : position not marks ≡ Some (position_or_len not marks) = cond-true (ltb (position_or_len not marks) (length marks)) (Some (position_or_len not marks)) None (lt-ltb (position_or_len not marks) (length marks) found) in
      cc
  | inr all ↦ not-false (is_marked marks c) (not-true (not (is_marked marks c)) (prefix_len_passes (λ m. not (not m)) marks c false (omega arith)))
]

-- a mark as a number
pub one_or_none : (b : Bool) → bool_byte b + one_if (not b) ≡ 1
one_or_none true = refl
one_or_none false = refl

-- the count after a mark is set or taken back
pub count_after : (n : ℕ) (marks : List Bool) (d : ℕ) (covered : Bool) → d < n → d < length marks →
    unmarked_below n (set marks d covered) + bool_byte covered ≡ unmarked_below n marks + bool_byte (get_or marks d false)
count_after n marks d covered lt inside =
    let here : one_if (not (is_marked (set marks d covered) d)) ≡ one_if (not covered) = ap (λ (b : Bool). one_if (not b)) (get_or-set_same marks d covered false inside) in
    let others : (c : ℕ) → c ≢ d → is_marked (set marks d covered) c ≡ is_marked marks c = λ c other. get_or-set_other marks d c covered false other in
    omega (arith, here, unmarked_change n marks (set marks d covered) d lt others, one_or_none covered, one_or_none (get_or marks d false))

-- the count that a torn entry of an unmarked chunk leaves
pub count_beside : (n : ℕ) (w u : List ℕ) (marks : List Bool) (d : ℕ) (b : Bool) → Agrees n w u marks → IsTrue b ↔ ((d < n) × (is_marked marks d ≡ false)) →
    left_below n w u (Some d) + bool_byte b ≡ unmarked_below n marks
count_beside n w u marks d true is test = let found = test.0 refl in left_but_one n w u marks d is found.0 found.1
count_beside n w u marks d false is test = add-zero (left_below n w u (Some d)) ∙ left_elsewhere n w u marks d is (λ lt. true_from_ne_false (is_marked marks d) (λ none. both_ways false refl (test.1 (lt, none))))

-- an unmarked chunk is one of those that are counted
pub unmarked_test : (n : ℕ) (marks : List Bool) (d : ℕ) (b : Bool) → IsTrue b ↔ ((d < n) × (is_marked marks d ≡ false)) → bool_byte b ≤ unmarked_below n marks
unmarked_test n marks d true test = let found = test.0 refl in unmarked_some n marks d found.0 found.1
unmarked_test n marks d false test = omega arith

-- where all marks are set, each chunk has one
pub each_marked : (marks : List Bool) → list_all (λ mark. mark) marks ≡ true → (c : ℕ) → c < length marks → is_marked marks c ≡ true
each_marked [] all c lt = absurd (omega arith)
each_marked (m ∷ marks) all zero lt = (and_parts m (list_all (λ mark. mark) marks) all).0
each_marked (m ∷ marks) all (suc c) lt = each_marked marks (and_parts m (list_all (λ mark. mark) marks) all).1 c (omega arith)

-- one chunk more is compared
pub record Compared (w u : List ℕ) (old new : List Bool) (from to : ℕ) : Type 0 where
  pub inside : (c : ℕ) → from ≤ c → c < to → is_marked new c ≡ is_covered w u c
  pub outside : (c : ℕ) → (c < from) ⊎ (to ≤ c) → is_marked new c ≡ is_marked old c

pub compared_more : (w u : List ℕ) (old now new : List Bool) (from i : ℕ) → from ≤ i → Compared w u old now from i → is_marked new i ≡ is_covered w u i → ((c : ℕ) → c ≢ i → is_marked new c ≡ is_marked now c) → Compared w u old new from (i + 1)
compared_more w u old now new from i above before here others = record {
  inside = λ c low high. elim (cases_eq c i) [
    | inl same ↦ ap (is_marked new) same ∙ here ∙ ap (is_covered w u) (sym same)
    | inr other ↦ others c other ∙ before.inside c low (omega arith)
  ];
  outside = λ c out. elim out [
    | inl below ↦ others c (λ same. omega arith) ∙ before.outside c (inl below)
    | inr beyond ↦ others c (λ same. omega arith) ∙ before.outside c (inr (omega arith))
  ];
}

pub outside_of : (w u : List ℕ) (old new : List Bool) (from to i : ℕ) → Compared w u old new from i → i ≤ to → (c : ℕ) → (c < from) ⊎ (to ≤ c) → is_marked new c ≡ is_marked old c
outside_of w u old new from to i compared most c out = elim out [
  | inl below ↦ compared.outside c (inl below)
  | inr beyond ↦ compared.outside c (inr (omega arith))
]

-- the chunk that a search finds is the first one left
pub first_found : (images : Bytes) (marks : List Bool) (c : ℕ) → length marks ≡ 240 → IsComparison images.whole images.upper marks → position not marks ≡ Some c → IsFirstLeft images c
first_found images marks c size is found =
    let here = position-Some not marks c false found in
    let each : (k : ℕ) → k < 240 → is_left images.whole images.upper None k ≡ not (is_marked marks k) = λ k lt. left_by_mark images.whole images.upper marks k (is.each k lt) in
    record {
      below = omega (arith, here.0);
      left = each c (omega (arith, here.0)) ∙ here.1;
      first = λ k lt. each k (omega (arith, here.0)) ∙ here.2 k lt;
    }

pub none_found : (w u : List ℕ) (marks : List Bool) → length marks ≡ 240 → IsComparison w u marks → position not marks ≡ None → left_below 240 w u None ≡ 0
none_found w u marks size is none = left_of_marks 240 w u marks is.each ∙ unmarked_none 240 marks (λ c lt. all_marked marks none c (omega arith))

-- two lists that are one
pub same_compared : (w u : List ℕ) (marks : List Bool) → length w ≡ storage_bytes → w ≡ u → ((c : ℕ) → c < 240 → is_marked marks c ≡ true) → AreCompared w u marks
same_compared w u marks size same each = record {
  whole_size = size;
  upper_size = ap length (sym same) ∙ size;
  same = record { each = λ c lt. each c lt ∙ sym ((bytes_eq-Decides (chunk_at w c) (chunk_at u c)).1 (ap (λ (l : List ℕ). chunk_at l c) same)) };
}

-- bytes put elsewhere leave a chunk
pub put_elsewhere : (new bytes : List ℕ) (at c : ℕ) → at + length new ≤ length bytes → 64 * c + 64 ≤ length bytes → (64 * c + 64 ≤ at) ⊎ (at + length new ≤ 64 * c) → chunk_at (put at new bytes) c ≡ chunk_at bytes c
put_elsewhere new bytes at c fits inside out =
    same_chunk (put at new bytes) bytes c (length_put at new bytes fits) (omega (arith, length_put at new bytes fits))
    (λ k lt. elim out [
      | inl below ↦ put_below at new bytes (64 * c + k) (omega arith) (omega arith)
      | inr above ↦ put_above at new bytes (64 * c + k) (omega arith) (omega arith)
    ])

-- bytes are put into both lists, and the chunks that they touch are compared anew
pub put_compared : (w u : List ℕ) (old new : List Bool) (at : ℕ) (bytes : List ℕ) (from to : ℕ) (w1 u1 : List ℕ) → AreCompared w u old → at + length bytes ≤ storage_bytes → 64 * from ≤ at → at + length bytes ≤ 64 * to →
    w1 ≡ put at bytes w → u1 ≡ put at bytes u → Compared w1 u1 old new from to → AreCompared w1 u1 new
put_compared w u old new at bytes from to w1 u1 were fits low high whole upper is = record {
  whole_size = ap length whole ∙ length_put at bytes w (omega (arith, were.whole_size)) ∙ were.whole_size;
  upper_size = ap length upper ∙ length_put at bytes u (omega (arith, were.upper_size)) ∙ were.upper_size;
  same = record {
    each = λ c lt. elim (cases_lt c from) [
      | inl below ↦ outside c lt (inl below) (inl (omega arith))
      | inr above ↦ elim (cases_lt c to) [
        | inl within ↦ is.inside c above within
        | inr beyond ↦ outside c lt (inr beyond) (inr (omega arith))
      ]
    ];
  };
}
  where
    outside : (c : ℕ) → c < 240 → (c < from) ⊎ (to ≤ c) → (64 * c + 64 ≤ at) ⊎ (at + length bytes ≤ 64 * c) → is_marked new c ≡ is_covered w1 u1 c
    outside c lt out far =
        let kept_w : chunk_at w1 c ≡ chunk_at w c = ap (λ (l : List ℕ). chunk_at l c) whole ∙ put_elsewhere bytes w at c (omega (arith, were.whole_size)) (omega (arith, were.whole_size)) far in
        let kept_u : chunk_at u1 c ≡ chunk_at u c = ap (λ (l : List ℕ). chunk_at l c) upper ∙ put_elsewhere bytes u at c (omega (arith, were.upper_size)) (omega (arith, were.upper_size)) far in
        is.outside c out ∙ were.same.each c lt
        ∙ ap (λ (l : List ℕ). bytes_eq l (chunk_at u c)) (sym kept_w) ∙ ap (λ (l : List ℕ). bytes_eq (chunk_at w1 c) l) (sym kept_u)

-- a chunk of the one list is put into the other
pub cover_compared : (w u : List ℕ) (old new : List Bool) (d : ℕ) (u1 : List ℕ) → AreCompared w u old → d < 240 → u1 ≡ put (64 * d) (chunk_at w d) u → is_marked new d ≡ true → ((c : ℕ) → c ≢ d → is_marked new c ≡ is_marked old c) → AreCompared w u1 new
cover_compared w u old new d u1 were lt upper here others =
    let many : length (chunk_at w d) ≡ 64 = length_chunk w d (omega (arith, were.whole_size)) in
    record {
      whole_size = were.whole_size;
      upper_size = ap length upper ∙ length_put (64 * d) (chunk_at w d) u (omega (arith, were.upper_size)) ∙ were.upper_size;
      same = record {
        each = λ c below. elim (cases_eq c d) [
          | inl same ↦
              let now : chunk_at w d ≡ chunk_at u1 d = sym (ap (λ (l : List ℕ). chunk_at l d) upper ∙ put_chunk_here w u d (were.whole_size ∙ sym were.upper_size) (omega (arith, were.upper_size))) in
              ap (is_marked new) same ∙ here ∙ sym ((bytes_eq-Decides (chunk_at w d) (chunk_at u1 d)).1 now) ∙ ap (is_covered w u1) (sym same)
          | inr other ↦
              let kept : chunk_at u1 c ≡ chunk_at u c = ap (λ (l : List ℕ). chunk_at l c) upper ∙ put_chunk_other (chunk_at w d) u d c many (omega (arith, were.upper_size)) (omega (arith, were.upper_size)) other in
              others c other ∙ were.same.each c below ∙ ap (λ (l : List ℕ). bytes_eq (chunk_at w c) l) (sym kept)
        ];
      };
    }

-- as a vector is written through a slice of all its bytes
pub all_written : (len : ℕ) (new items : List ℕ) → len ≡ length new → take len (new ++ drop (length new) items) ≡ new
all_written len new items size = ap (λ (n : ℕ). take n (new ++ drop (length new) items)) size ∙ take-append_seam new (drop (length new) items)

pub if_found : (images : Bytes) (marks : List Bool) (found : Option ℕ) → length marks ≡ 240 → IsComparison images.whole images.upper marks → found ≡ position not marks → IfSome found (IsFirstLeft images)
if_found images marks (Some c) size is found = first_found images marks c size is (sym found)
if_found images marks None size is found = tt

pub if_not_found : (w u : List ℕ) (marks : List Bool) (found : Option ℕ) → length marks ≡ 240 → IsComparison w u marks → found ≡ position not marks → IfNone found (left_below 240 w u None ≡ 0)
if_not_found w u marks (Some c) size is found = tt
if_not_found w u marks None size is found = none_found w u marks size is (sym found)

pub zeros_compared : (w u : List ℕ) (marks : List Bool) → length w ≡ storage_bytes → length u ≡ storage_bytes → All (λ b. b ≡ 0) w → All (λ b. b ≡ 0) u → ((c : ℕ) → c < 240 → is_marked marks c ≡ true) → AreCompared w u marks
zeros_compared w u marks sw su zw zu each = same_compared w u marks sw (ext_get_or 0 w u (sw ∙ sym su) (λ k lt. zw k 0 lt ∙ sym (zu k 0 (omega arith)))) each
