-- A value that is rewritten in its place.
use Rattle.std.proofs.Common.{◌≡◌, inl, inr, ℕ, ◌+◌, ◌-◌, ◌<◌, ◌≤◌, List, ◌∷◌, ◌++◌, length, get_or, take, drop, sym, ◌∙◌, ap, subst, arith}
use Rattle.std.proofs.lemmas.List.{length-append, length-take, length-drop, get_or-take, get_or-drop, get_or_append_left, get_or-append_right, ext_get_or, take_all}
use Rattle.std.proofs.lemmas.Bool.{cases_lt}
use Rattle.storage_lines.specs.declared.lines.TheConstants.{STORAGE_BYTES}
use Rattle.storage_lines.specs.declared.areas.Area.TheVariants.{Param}
use Rattle.storage_lines.specs.Areas.{logical_of}
use Rattle.storage_lines.specs.Lines.{after}
use Rattle.storage_lines.specs.Pieces.{writes_of_piece}
use Rattle.param_records.specs.declared.records.TheConstants.{PARAM_BYTES}
use Rattle.param_records.specs.Records.{Record, four_bytes, header, spelling, magic, HasRecords}
use Rattle.param_records.specs.Changes.{overwritten}
use Rattle.param_records.proofs.RecordLemmas.{Rewrites, with_value, rewritten_records, spelled_out}
use Rattle.storage_lines.specs.Laws.{HasPut, EndsWithLine}
use Rattle.storage_lines.proofs.PieceLemmas.{ends_with_line}
use Rattle.param_records.proofs.PieceLemmas.{piece_prefix, piece_whole, length-logical}

-- the value's bytes stand in their place
pub value_at : (L : List ℕ) (front back : List Record) (r : Record) (at : ℕ) → HasRecords L (front ++ r ∷ back) at → (i : ℕ) → i < length r.value → get_or L (8 + length (spelling front) + i) 0 ≡ get_or r.value i 0
value_at L front back r at h i l =
    let pre = magic ++ (spelling front ++ four_bytes (header r)) in
    let tail = spelling back ++ h.rest in
    let size : length pre ≡ 8 + length (spelling front) = omega (arith, length-append (spelling front) (four_bytes (header r))) in
    let whole : L ≡ pre ++ (r.value ++ tail) = h.whole ∙ spelled_out front back r h.rest in
    let back' : 8 + length (spelling front) + i - (8 + length (spelling front)) ≡ i = omega arith in
    ap (λ (k : List ℕ). get_or k (8 + length (spelling front) + i) 0) whole
    ∙ get_or-append_right pre (r.value ++ tail) (8 + length (spelling front)) (8 + length (spelling front) + i) 0 size (omega arith)
    ∙ ap (λ (k : ℕ). get_or (r.value ++ tail) k 0) back' ∙ get_or_append_left r.value tail 0 i l

-- the value lies inside the bytes
pub value_fits : (L : List ℕ) (front back : List Record) (r : Record) (at : ℕ) → HasRecords L (front ++ r ∷ back) at → 8 + length (spelling front) + length r.value ≤ length L
value_fits L front back r at h =
    let pre = magic ++ (spelling front ++ four_bytes (header r)) in
    let tail = spelling back ++ h.rest in
    let whole : L ≡ pre ++ (r.value ++ tail) = h.whole ∙ spelled_out front back r h.rest in
    omega (arith, ap (λ (l : List ℕ). length l) whole, length-append pre (r.value ++ tail), length-append r.value tail, length-append (spelling front) (four_bytes (header r)))

-- some first bytes of a piece inside the value
pub rewrite_put : (L now : List ℕ) (front back : List Record) (r : Record) (at k : ℕ) (x : List ℕ) (c : ℕ) → HasRecords L (front ++ r ∷ back) at → k + length x ≤ length r.value → c ≤ length x →
    HasPut (8 + length (spelling front) + k) x c L now → HasRecords now (front ++ with_value r (overwritten k (take c x) r.value) ∷ back) at
rewrite_put L now front back r at k x c h fits few put =
    let p = 8 + length (spelling front) in
    let n = length r.value in
    let inside = value_fits L front back r at h in
    let size = put.size in
    let xs = take c x in
    let xs_size : length xs ≡ c = omega (arith, length-take c x) in
    let value = take n (drop p now) in
    let value_size : length value ≡ n = omega (arith, length-take n (drop p now), length-drop p now) in
    let over_size : length (overwritten k xs r.value) ≡ n = omega (arith, length-append (take k r.value) (xs ++ drop (k + length xs) r.value), length-append xs (drop (k + length xs) r.value), length-take k r.value, length-drop (k + length xs) r.value) in
    let front_size : length (take k r.value) ≡ k = omega (arith, length-take k r.value) in
    let same : value ≡ overwritten k xs r.value = ext_get_or 0 value (overwritten k xs r.value) (value_size ∙ sym over_size) (λ i l.
    let below : i < n = omega arith in
    get_or-take n (drop p now) i 0 below ∙ get_or-drop p now i 0 ∙ elim (cases_lt i k) as (λ z. get_or now (p + i) 0 ≡ get_or (overwritten k xs r.value) i 0) [
      | inl before ↦ put.below (p + i) (omega arith) ∙ value_at L front back r at h i below ∙ sym (get_or-take k r.value i 0 before)
          ∙ sym (get_or_append_left (take k r.value) (xs ++ drop (k + length xs) r.value) 0 i (omega arith))
      | inr over ↦ elim (cases_lt i (k + c)) as (λ z. get_or now (p + i) 0 ≡ get_or (overwritten k xs r.value) i 0) [
        | inl here ↦
            let place : p + k + (i - k) ≡ p + i = omega arith in
            let part : i - k < c = omega arith in
            sym (ap (λ (j : ℕ). get_or now j 0) place) ∙ put.put (i - k) part ∙ sym (get_or-take c x (i - k) 0 part)
            ∙ sym (get_or_append_left xs (drop (k + length xs) r.value) 0 (i - k) (omega arith))
            ∙ sym (get_or-append_right (take k r.value) (xs ++ drop (k + length xs) r.value) k i 0 front_size over)
        | inr past ↦
            let place : k + length xs + (i - k - c) ≡ i = omega arith in
            put.behind (p + i) (omega arith) ∙ value_at L front back r at h i below ∙ sym (ap (λ (j : ℕ). get_or r.value j 0) place)
            ∙ sym (get_or-drop (k + length xs) r.value (i - k - c) 0)
            ∙ sym (get_or-append_right xs (drop (k + length xs) r.value) c (i - k) 0 xs_size (omega arith))
            ∙ sym (get_or-append_right (take k r.value) (xs ++ drop (k + length xs) r.value) k i 0 front_size over)
      ]
    ]) in
    let rewrites : Rewrites front r L now = record {
      size = size;
      before = ext_get_or 0 (take p now) (take p L) (omega (arith, length-take p now, length-take p L)) (λ i l.
          let below : i < p = omega (arith, length-take p now) in get_or-take p now i 0 below ∙ put.below i (omega arith) ∙ sym (get_or-take p L i 0 below));
      behind = ext_get_or 0 (drop (p + n) now) (drop (p + n) L) (omega (arith, length-drop (p + n) now, length-drop (p + n) L)) (λ i l.
          get_or-drop (p + n) now i 0 ∙ put.behind (p + n + i) (omega arith) ∙ sym (get_or-drop (p + n) L i 0));
    } in
    subst (λ (v : List ℕ). HasRecords now (front ++ with_value r v ∷ back) at) same (rewritten_records L now front back r at h rewrites)

-- After each prefix of the writes that replace some of a value's bytes, the value is new up to a line border and old behind it, and all else is as it was.
pub rewrite_prefix : (b : List ℕ) (front back : List Record) (r : Record) (at k : ℕ) (x : List ℕ) (j : ℕ) → length b ≡ STORAGE_BYTES → HasRecords (logical_of Param b) (front ++ r ∷ back) at → k + length x ≤ length r.value →
    j ≤ length (writes_of_piece Param (8 + length (spelling front) + k) x b) →
    (c : ℕ) × (c ≤ length x) × EndsWithLine Param (8 + length (spelling front) + k) (length x) c
    × HasRecords (logical_of Param (after b (take j (writes_of_piece Param (8 + length (spelling front) + k) x b)))) (front ++ with_value r (overwritten k (take c x) r.value) ∷ back) at
rewrite_prefix b front back r at k x j size h fits l =
    let p = 8 + length (spelling front) in
    let inside = value_fits (logical_of Param b) front back r at h in
    let room : p + k + length x ≤ PARAM_BYTES = omega (arith, length-logical b) in
    let found = piece_prefix (p + k) x b j size room l in
    let few = found.2.few in
    let now = logical_of Param (after b (take j (writes_of_piece Param (p + k) x b))) in
    (found.1, few, ends_with_line Param (p + k) (length x) found.0 found.1 found.2, rewrite_put (logical_of Param b) now front back r at k x found.1 h fits few found.3)

pub rewrite_whole : (b : List ℕ) (front back : List Record) (r : Record) (at k : ℕ) (x : List ℕ) → length b ≡ STORAGE_BYTES → HasRecords (logical_of Param b) (front ++ r ∷ back) at → k + length x ≤ length r.value →
    HasRecords (logical_of Param (after b (writes_of_piece Param (8 + length (spelling front) + k) x b))) (front ++ with_value r (overwritten k x r.value) ∷ back) at
rewrite_whole b front back r at k x size h fits =
    let p = 8 + length (spelling front) in
    let inside = value_fits (logical_of Param b) front back r at h in
    let room : p + k + length x ≤ PARAM_BYTES = omega (arith, length-logical b) in
    let all : take (length x) x ≡ x = take_all (length x) x (omega arith) in
    let now = logical_of Param (after b (writes_of_piece Param (p + k) x b)) in
    subst (λ (y : List ℕ). HasRecords now (front ++ with_value r (overwritten k y r.value) ∷ back) at) all
    (rewrite_put (logical_of Param b) now front back r at k x (length x) h fits (omega arith) (piece_whole (p + k) x b size room))
