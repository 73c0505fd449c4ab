-- Records and the figures that they hold.
use Rattle.std.proofs.Common.{◌≡◌, ℕ, suc, ◌+◌, ◌*◌, ◌<◌, ◌≤◌, ◌^◌, Bool, true, false, List, [], ◌∷◌, ◌++◌, length, get_or, take, drop, refl, ap, sym, ◌∙◌, subst, inl, inr, arith, length-append, append_assoc, append-nil}
use Rattle.std.proofs.lemmas.List.{take-append-drop}
use Rattle.std.specs.Prelude.{All, ◌⊎◌, pos, if◌then◌else◌, ◌==◌}
use Rattle.std.specs.List.{flat_map}
use Rattle.std.proofs.Math.Seq.{take-add}
use Rattle.std.proofs.lemmas.Grind.{common_steps, flat_map-append}
use Rattle.std.proofs.lemmas.List.Elements.{All-append, All-cons, All-nil}
use Rattle.std.proofs.lemmas.List.Concat.{flat_map-cons}
use Rattle.storage_lines.specs.Numbers.{number_of, bytes_of_number}
use Rattle.mission_commands.specs.Commands.{IsPatternOfWhole}
use Rattle.storage_lines.proofs.NumberLemmas.{length-bytes_of}
use Rattle.fence_records.specs.declared.items.Point.{Point}
use Rattle.fence_records.specs.Fence.{Figure, Polygon, Round, ReturnPoint, record_of, items_of, IsFigure, IsFenceEnd, point_of, points_from, point_bytes}
use Rattle.fence_records.proofs.Bytes.{IsBytes, take-IsBytes, drop-IsBytes, bytes_of-number_of, number_of-small}
use Rattle.fence_records.proofs.Points.{point_of-bytes, points_from-bytes, length-points_from, drop_twice}

pub length-point_bytes : (p : Point) → length (point_bytes p) ≡ 8
length-point_bytes p = length-append (bytes_of_number 4 _) (bytes_of_number 4 _) ∙ (rw (length-bytes_of 4, length-bytes_of 4) refl)

pub length-all_bytes : (ps : List Point) → length (flat_map point_bytes ps) ≡ 8 * length ps
length-all_bytes [] = refl
length-all_bytes (p ∷ ps) =
    let rest : length (flat_map point_bytes ps) ≡ 8 * length ps = length-all_bytes ps in
    let first : length (point_bytes p) ≡ 8 = length-point_bytes p in
    let both : length (point_bytes p ++ flat_map point_bytes ps) ≡ length (point_bytes p) + length (flat_map point_bytes ps) = length-append (point_bytes p) (flat_map point_bytes ps) in
    let e : flat_map point_bytes (p ∷ ps) ≡ point_bytes p ++ flat_map point_bytes ps = flat_map-cons point_bytes p ps in
    let size : 8 + 8 * length ps ≡ 8 * suc (length ps) = omega arith in
    ap length e ∙ (both ∙ ((rw (first, rest) refl) ∙ size))

-- what a record's first bytes and its length tell
abbrev Tells : Figure → List ℕ → Type 0
Tells (Polygon inside pattern points) bytes = ((get_or bytes 0 0 ≡ 97) ⊎ (get_or bytes 0 0 ≡ 98)) × (2 + 8 * get_or bytes 1 0 ≤ length bytes)
Tells (Round inside radius p) bytes = ((get_or bytes 0 0 ≡ 92) ⊎ (get_or bytes 0 0 ≡ 93)) × (13 ≤ length bytes)
Tells (ReturnPoint p) bytes = (get_or bytes 0 0 ≡ 95) × (9 ≤ length bytes)

one_of : (b : Bool) (x y : ℕ) → ((if b then x else y) ≡ y) ⊎ ((if b then x else y) ≡ x)
one_of true x y = inr refl
one_of false x y = inl refl

round_of : (b : Bool) (n : ℕ) → n ≡ (if b then 92 else 93) → (n ≡ 92) ⊎ (n ≡ 93)
round_of true n e = inl e
round_of false n e = inr e

tells : (f : Figure) (rest : List ℕ) → Tells f (record_of f ++ rest)
tells (Polygon inside pattern points) rest =
    let size : length (flat_map point_bytes points) ≡ 8 * length points = length-all_bytes points in
    let whole : length (flat_map point_bytes points ++ rest) ≡ length (flat_map point_bytes points) + length rest = length-append (flat_map point_bytes points) rest in
    (one_of inside 98 97, omega arith)
tells (Round inside radius p) rest =
    let first : length (point_bytes p) ≡ 8 = length-point_bytes p in
    let last : length (bytes_of_number 4 radius) ≡ 4 = length-bytes_of 4 radius in
    let front : length (point_bytes p ++ bytes_of_number 4 radius) ≡ length (point_bytes p) + length (bytes_of_number 4 radius) = length-append (point_bytes p) (bytes_of_number 4 radius) in
    let whole : length ((point_bytes p ++ bytes_of_number 4 radius) ++ rest) ≡ length (point_bytes p ++ bytes_of_number 4 radius) + length rest = length-append (point_bytes p ++ bytes_of_number 4 radius) rest in
    let all : 13 ≤ suc (length ((point_bytes p ++ bytes_of_number 4 radius) ++ rest)) = omega arith in
    (round_of inside (if inside then 92 else 93) refl, all)
tells (ReturnPoint p) rest =
    let first : length (point_bytes p) ≡ 8 = length-point_bytes p in
    let whole : length (point_bytes p ++ rest) ≡ length (point_bytes p) + length rest = length-append (point_bytes p) rest in
    let all : 9 ≤ suc (length (point_bytes p ++ rest)) = omega arith in
    (refl, all)

-- bytes that are too few for the record that they begin
pub no_record : (bytes : List ℕ)
    → ((get_or bytes 0 0 ≡ 97) ⊎ (get_or bytes 0 0 ≡ 98) → length bytes < 2 + 8 * get_or bytes 1 0)
    → ((get_or bytes 0 0 ≡ 92) ⊎ (get_or bytes 0 0 ≡ 93) → length bytes < 13)
    → (get_or bytes 0 0 ≡ 95 → length bytes < 9) → IsFenceEnd bytes
no_record bytes polygon round home (Polygon inside pattern points) rest right e =
    let t = subst (Tells (Polygon inside pattern points)) (sym e) (tells (Polygon inside pattern points) rest) in
    let few = polygon t.0 in omega arith
no_record bytes polygon round home (Round inside radius p) rest right e =
    let t = subst (Tells (Round inside radius p)) (sym e) (tells (Round inside radius p) rest) in
    let few = round t.0 in omega arith
no_record bytes polygon round home (ReturnPoint p) rest right e =
    let t = subst (Tells (ReturnPoint p)) (sym e) (tells (ReturnPoint p) rest) in
    let few = home t.0 in omega arith

pub home_record : (bytes : List ℕ) → IsBytes bytes → 9 ≤ length bytes → get_or bytes 0 0 ≡ 95 → take 9 bytes ≡ record_of (ReturnPoint (point_of (drop 1 bytes)))
home_record [] h long e = absurd (omega (arith, long))
home_record (b ∷ bs) h long e =
    let few : 8 ≤ length bs = omega (arith, long) in
    let point : point_bytes (point_of bs) ≡ take 8 bs = point_of-bytes bs few (λ i. h (suc i)) in
    ap (λ t. t ∷ take 8 bs) e ∙ ap (λ t. 95 ∷ t) (sym point)

pub round_record : (bytes : List ℕ) (inside : Bool) → IsBytes bytes → 13 ≤ length bytes → get_or bytes 0 0 ≡ (if inside then 92 else 93)
    → take 13 bytes ≡ record_of (Round inside (number_of (take 4 (drop 9 bytes))) (point_of (drop 1 bytes)))
round_record [] inside h long e = absurd (omega (arith, long))
round_record (b ∷ bs) inside h long e =
    let few : 12 ≤ length bs = omega (arith, long) in
    let point : point_bytes (point_of bs) ≡ take 8 bs = point_of-bytes bs (omega arith) (λ i. h (suc i)) in
    let size : length (take 4 (drop 8 bs)) ≡ 4 = grind (arith, common_steps) in
    let radius = subst (λ w. bytes_of_number w (number_of (take 4 (drop 8 bs))) ≡ take 4 (drop 8 bs)) size (bytes_of-number_of (take 4 (drop 8 bs)) (take-IsBytes 4 (drop 8 bs) (drop-IsBytes 8 bs (λ i. h (suc i))))) in
    ap (λ t. t ∷ take 12 bs) e ∙ ap (λ t. (if inside then 92 else 93) ∷ t) (take-add 8 4 bs ∙ (ap (λ t. t ++ take 4 (drop 8 bs)) (sym point) ∙ ap (λ t. point_bytes (point_of bs) ++ t) (sym radius)))

pub polygon_record : (bytes : List ℕ) (inside : Bool) (pattern : ℕ) → IsBytes bytes → 2 + 8 * get_or bytes 1 0 ≤ length bytes → get_or bytes 0 0 ≡ (if inside then 98 else 97)
    → take (2 + 8 * get_or bytes 1 0) bytes ≡ record_of (Polygon inside pattern (points_from (get_or bytes 1 0) (drop 2 bytes)))
polygon_record [] inside pattern h long e = absurd (omega (arith, long))
polygon_record (b ∷ []) inside pattern h long e = absurd (omega (arith, long))
polygon_record (b ∷ n ∷ bs) inside pattern h long e =
    let few : 8 * n ≤ length bs = omega (arith, long) in
    let points : flat_map point_bytes (points_from n bs) ≡ take (8 * n) bs = points_from-bytes n bs few (λ i. h (suc (suc i))) in
    let size : 2 + 8 * n ≡ suc (suc (8 * n)) = omega arith in
    let count : length (points_from n bs) ≡ n = length-points_from n bs in
    ap (λ k. take k (b ∷ n ∷ bs)) size ∙ (ap (λ t. t ∷ n ∷ take (8 * n) bs) e ∙ (ap (λ t. (if inside then 98 else 97) ∷ t ∷ take (8 * n) bs) (sym count) ∙ ap (λ t. (if inside then 98 else 97) ∷ length (points_from n bs) ∷ t) (sym points)))

pub polygon_code : (n : ℕ) → (n ≡ 97) ⊎ (n ≡ 98) → n ≡ (if n == 98 then 98 else 97)
polygon_code n h = elim h [ inl e ↦ rw e refl | inr e ↦ rw e refl ]

pub round_code : (n : ℕ) → (n ≡ 92) ⊎ (n ≡ 93) → n ≡ (if n == 92 then 92 else 93)
round_code n h = elim h [ inl e ↦ rw e refl | inr e ↦ rw e refl ]

pub part-small : (bytes : List ℕ) (a : ℕ) → IsBytes bytes → a + 4 ≤ length bytes → number_of (take 4 (drop a bytes)) < 2 ^ 32
part-small bytes a h long =
    let size : length (take 4 (drop a bytes)) ≡ 4 = grind (arith, common_steps) in
    rw size at (number_of-small (take 4 (drop a bytes)) (take-IsBytes 4 (drop a bytes) (drop-IsBytes a bytes h)))

pub counted : (n pattern : ℕ) (bs : List ℕ) → IsPatternOfWhole (pos n) pattern → IsPatternOfWhole (pos (length (points_from n bs))) pattern
counted n pattern bs h = let e : length (points_from n bs) ≡ n = length-points_from n bs in subst (λ k. IsPatternOfWhole (pos k) pattern) (sym e) h

-- one more figure is read
pub read_on : (fs : List Figure) (f : Figure) (whole bytes : List ℕ) (at n : ℕ) → All IsFigure fs → IsFigure f
    → whole ≡ flat_map record_of fs ++ drop at bytes → take n (drop at bytes) ≡ record_of f
    → (All IsFigure (fs ++ f ∷ [])) × (whole ≡ flat_map record_of (fs ++ f ∷ []) ++ drop (at + n) bytes) × (flat_map items_of (fs ++ f ∷ []) ≡ flat_map items_of fs ++ items_of f)
read_on fs f whole bytes at n right here e g =
    let one : flat_map record_of (f ∷ []) ≡ record_of f = flat_map-cons record_of f [] ∙ append-nil (record_of f) in
    let last : flat_map items_of (f ∷ []) ≡ items_of f = flat_map-cons items_of f [] ∙ append-nil (items_of f) in
    let split : drop at bytes ≡ take n (drop at bytes) ++ drop n (drop at bytes) = sym (take-append-drop n (drop at bytes)) in
    let records : flat_map record_of (fs ++ f ∷ []) ≡ flat_map record_of fs ++ record_of f = flat_map-append record_of fs (f ∷ []) ∙ ap (λ t. flat_map record_of fs ++ t) one in (
      All-append IsFigure fs (f ∷ []) right (All-cons IsFigure f [] here (All-nil IsFigure)),
      e ∙ (ap (λ t. flat_map record_of fs ++ t) split ∙ (ap (λ t. flat_map record_of fs ++ (t ++ drop n (drop at bytes))) g ∙ (sym (append_assoc (flat_map record_of fs) (record_of f) (drop n (drop at bytes))) ∙ (ap (λ t. t ++ drop n (drop at bytes)) (sym records) ∙ ap (λ t. flat_map record_of (fs ++ f ∷ []) ++ t) (drop_twice at n bytes))))),
      flat_map-append items_of fs (f ∷ []) ∙ ap (λ t. flat_map items_of fs ++ t) last,
    )

pub polygon_at : (bytes : List ℕ) (inside : Bool) (pattern n : ℕ) → n ≡ get_or bytes 1 0 → IsBytes bytes → 2 + 8 * n ≤ length bytes → get_or bytes 0 0 ≡ (if inside then 98 else 97)
    → take (2 + 8 * n) bytes ≡ record_of (Polygon inside pattern (points_from n (drop 2 bytes)))
polygon_at bytes inside pattern n e h long code =
    let P : ℕ → Type 0 = λ k. 2 + 8 * k ≤ length bytes → take (2 + 8 * k) bytes ≡ record_of (Polygon inside pattern (points_from k (drop 2 bytes))) in
    subst P (sym e) (λ l. polygon_record bytes inside pattern h l code) long
