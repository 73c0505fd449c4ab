-- The figures that are read back from records, whatever their numbers.
use Rattle.std.proofs.Common.{◌≡◌, ℕ, zero, suc, ◌+◌, ◌*◌, ◌<◌, ◌≤◌, ◌^◌, true, false, List, [], ◌∷◌, ◌++◌, length, take, drop, map, refl, ap, sym, ◌∙◌, arith, length-append, append_assoc, Some, None, le-leb}
use Rattle.std.specs.Prelude.{ℤ, pos, negsuc, FitsSigned, nat_le, slice_index, cond}
use Rattle.std.specs.Option.{option_map_or}
use Rattle.std.specs.Int.{w32}
use Rattle.std.specs.List.{flat_map}
use Rattle.std.proofs.Math.Seq.{drop-append_seam}
use Rattle.std.proofs.lemmas.Int.{ints}
use Rattle.std.proofs.lemmas.List.{length-map}
use Rattle.std.proofs.lemmas.List.Concat.{flat_map-cons}
use Rattle.storage_lines.specs.Numbers.{number_of, bytes_of_number, unsigned, signed_of}
use Rattle.storage_lines.proofs.NumberLemmas.{length-bytes_of, number_of-bytes_of}
use Rattle.mission_commands.proofs.Back.{at_place, signed_part, IsHalf}
use Rattle.fence_records.specs.declared.items.Point.{Point}
use Rattle.fence_records.specs.Fence.{Figure, Polygon, Round, ReturnPoint, record_of, IsPoint, point_of, points_from, point_bytes}
use Rattle.fence_records.specs.Lists.{pattern_of, figure_of, if_whole, first_figure, figures_in}
use Rattle.fence_records.proofs.Figures.{length-point_bytes, length-all_bytes}

-- a point, once it is stored and read
abbrev pub reread_point : Point → Point
reread_point p = record { x = signed_of 4 (number_of (bytes_of_number 4 (unsigned 4 p.x))); y = signed_of 4 (number_of (bytes_of_number 4 (unsigned 4 p.y))) }

-- a figure, once it is stored and read
abbrev pub reread : Figure → Figure
reread (Polygon inside pattern points) = Polygon inside (pattern_of (length points)) (map reread_point points)
reread (Round inside radius p) = Round inside (number_of (bytes_of_number 4 radius)) (reread_point p)
reread (ReturnPoint p) = ReturnPoint (reread_point p)

abbrev two_numbers : ℕ → ℕ → Point
two_numbers a b = record { x = signed_of 4 a; y = signed_of 4 b }

same_point : (a b c d : ℕ) → a ≡ c → b ≡ d → two_numbers a b ≡ two_numbers c d
same_point a b c d e f = rw (e, f) refl

point_back : (p : Point) (rest : List ℕ) → point_of (point_bytes p ++ rest) ≡ reread_point p
point_back p rest =
    let a = bytes_of_number 4 (unsigned 4 p.x) in
    let b = bytes_of_number 4 (unsigned 4 p.y) in
    let e : (a ++ b) ++ rest ≡ a ++ (b ++ rest) = append_assoc a b rest in
    let la : length a ≡ 4 = length-bytes_of 4 (unsigned 4 p.x) in
    let lb : length b ≡ 4 = length-bytes_of 4 (unsigned 4 p.y) in
    let x : take 4 ((a ++ b) ++ rest) ≡ a = at_place [] a (b ++ rest) ((a ++ b) ++ rest) 0 4 e refl la in
    let y : take 4 (drop 4 ((a ++ b) ++ rest)) ≡ b = at_place a b rest ((a ++ b) ++ rest) 4 4 e la lb in
    same_point (number_of (take 4 ((a ++ b) ++ rest))) (number_of (take 4 (drop 4 ((a ++ b) ++ rest)))) (number_of a) (number_of b) (ap number_of x) (ap number_of y)

points_back : (ps : List Point) (rest : List ℕ) → points_from (length ps) (flat_map point_bytes ps ++ rest) ≡ map reread_point ps
unfolding points_from
points_back [] rest = refl
points_back (p ∷ ps) rest =
    let bytes : flat_map point_bytes (p ∷ ps) ++ rest ≡ point_bytes p ++ (flat_map point_bytes ps ++ rest) =
    ap (λ t. t ++ rest) (flat_map-cons point_bytes p ps) ∙ append_assoc (point_bytes p) (flat_map point_bytes ps) rest in
    let first : point_of (flat_map point_bytes (p ∷ ps) ++ rest) ≡ reread_point p = ap point_of bytes ∙ point_back p (flat_map point_bytes ps ++ rest) in
    let further : drop 8 (flat_map point_bytes (p ∷ ps) ++ rest) ≡ flat_map point_bytes ps ++ rest =
    ap (drop 8) bytes ∙ (ap (λ k. drop k (point_bytes p ++ (flat_map point_bytes ps ++ rest))) (sym (length-point_bytes p)) ∙ drop-append_seam (point_bytes p) (flat_map point_bytes ps ++ rest)) in
    ap (λ q. q ∷ points_from (length ps) (drop 8 (flat_map point_bytes (p ∷ ps) ++ rest))) first
    ∙ ap (λ qs. reread_point p ∷ qs) (ap (points_from (length ps)) further ∙ points_back ps rest)

-- how many bytes a record takes
pub length-record : (f : Figure) → length (record_of (reread f)) ≡ length (record_of f)
length-record (Polygon inside pattern points) =
    let a : length (flat_map point_bytes (map reread_point points)) ≡ 8 * length (map reread_point points) = length-all_bytes (map reread_point points) in
    let b : length (flat_map point_bytes points) ≡ 8 * length points = length-all_bytes points in
    let c : length (map reread_point points) ≡ length points = length-map points reread_point in
    ap (λ n. suc (suc n)) (a ∙ (ap (λ n. 8 * n) c ∙ sym b))
length-record (Round inside radius p) =
    let a = length-append (point_bytes (reread_point p)) (bytes_of_number 4 (number_of (bytes_of_number 4 radius))) in
    let b = length-append (point_bytes p) (bytes_of_number 4 radius) in
    let c : length (point_bytes (reread_point p)) ≡ length (point_bytes p) = length-point_bytes (reread_point p) ∙ sym (length-point_bytes p) in
    let d : length (bytes_of_number 4 (number_of (bytes_of_number 4 radius))) ≡ length (bytes_of_number 4 radius) = length-bytes_of 4 (number_of (bytes_of_number 4 radius)) ∙ sym (length-bytes_of 4 radius) in
    ap suc (a ∙ (ap (λ n. n + length (bytes_of_number 4 (number_of (bytes_of_number 4 radius)))) c ∙ (ap (λ n. length (point_bytes p) + n) d ∙ sym b)))
length-record (ReturnPoint p) = ap suc (length-point_bytes (reread_point p) ∙ sym (length-point_bytes p))

radius_back : (radius : ℕ) (p : Point) (rest : List ℕ) → take 4 (drop 8 ((point_bytes p ++ bytes_of_number 4 radius) ++ rest)) ≡ bytes_of_number 4 radius
radius_back radius p rest = at_place (point_bytes p) (bytes_of_number 4 radius) rest ((point_bytes p ++ bytes_of_number 4 radius) ++ rest) 8 4 (append_assoc (point_bytes p) (bytes_of_number 4 radius) rest) (length-point_bytes p) (length-bytes_of 4 radius)

figure_back : (f : Figure) (rest : List ℕ) → figure_of (slice_index (record_of f ++ rest) 0) (record_of f ++ rest) ≡ Some (reread f)
figure_back (Polygon true pattern points) rest = ap (λ ps. Some (Polygon true (pattern_of (length points)) ps)) (points_back points rest)
figure_back (Polygon false pattern points) rest = ap (λ ps. Some (Polygon false (pattern_of (length points)) ps)) (points_back points rest)
figure_back (Round true radius p) rest =
    ap (λ n. Some (Round true (number_of n) (point_of ((point_bytes p ++ bytes_of_number 4 radius) ++ rest)))) (radius_back radius p rest)
    ∙ ap (λ q. Some (Round true (number_of (bytes_of_number 4 radius)) q)) (ap point_of (append_assoc (point_bytes p) (bytes_of_number 4 radius) rest) ∙ point_back p (bytes_of_number 4 radius ++ rest))
figure_back (Round false radius p) rest =
    ap (λ n. Some (Round false (number_of n) (point_of ((point_bytes p ++ bytes_of_number 4 radius) ++ rest)))) (radius_back radius p rest)
    ∙ ap (λ q. Some (Round false (number_of (bytes_of_number 4 radius)) q)) (ap point_of (append_assoc (point_bytes p) (bytes_of_number 4 radius) rest) ∙ point_back p (bytes_of_number 4 radius ++ rest))
figure_back (ReturnPoint p) rest = ap (λ q. Some (ReturnPoint q)) (point_back p rest)

pub first_back : (f : Figure) (rest : List ℕ) → first_figure (record_of f ++ rest) ≡ Some (reread f)
first_back f rest =
    let size : length (record_of f ++ rest) ≡ length (record_of f) + length rest = length-append (record_of f) rest in
    let same : length (record_of (reread f)) ≡ length (record_of f) = length-record f in
    let fits : nat_le (length (record_of (reread f))) (length (record_of f ++ rest)) ≡ true = le-leb (length (record_of (reread f))) (length (record_of f ++ rest)) (omega (arith, size, same)) in
    ap (if_whole (record_of f ++ rest)) (figure_back f rest) ∙ ap (λ b. cond b (Some (reread f)) None) fits

-- records and then no record are these figures, read back
pub figures_back : (n : ℕ) (fs : List Figure) (rest : List ℕ) → length fs ≤ n → first_figure rest ≡ None → figures_in n (flat_map record_of fs ++ rest) ≡ map reread fs
unfolding figures_in
figures_back zero [] rest h e = refl
figures_back (suc n) [] rest h e = ap (λ o. option_map_or (λ f. f ∷ figures_in n (drop (length (record_of f)) rest)) o []) e
figures_back zero (f ∷ fs) rest h e = absurd (omega (arith, h))
figures_back (suc n) (f ∷ fs) rest h e =
    let bytes : flat_map record_of (f ∷ fs) ++ rest ≡ record_of f ++ (flat_map record_of fs ++ rest) =
    ap (λ t. t ++ rest) (flat_map-cons record_of f fs) ∙ append_assoc (record_of f) (flat_map record_of fs) rest in
    let first : first_figure (flat_map record_of (f ∷ fs) ++ rest) ≡ Some (reread f) = ap first_figure bytes ∙ first_back f (flat_map record_of fs ++ rest) in
    let further : drop (length (record_of (reread f))) (flat_map record_of (f ∷ fs) ++ rest) ≡ flat_map record_of fs ++ rest =
    ap (drop (length (record_of (reread f)))) bytes ∙ (ap (λ k. drop k (record_of f ++ (flat_map record_of fs ++ rest))) (length-record f) ∙ drop-append_seam (record_of f) (flat_map record_of fs ++ rest)) in
    ap (λ o. option_map_or (λ g. g ∷ figures_in n (drop (length (record_of g)) (flat_map record_of (f ∷ fs) ++ rest))) o []) first
    ∙ ap (λ t. reread f ∷ t) (ap (figures_in n) further ∙ figures_back n fs rest (omega (arith, h)) e)

pub no_figure : (rest : List ℕ) → first_figure (99 ∷ rest) ≡ None
no_figure rest = refl

-- a figure that is read back as it is
abbrev pub AllPoints : List Point → Type 0
AllPoints [] = Unit {0}
AllPoints (p ∷ ps) = IsPoint p × AllPoints ps

abbrev pub IsKept : Figure → Type 0
IsKept (Polygon inside pattern points) = (pattern ≡ pattern_of (length points)) × AllPoints points
IsKept (Round inside radius p) = (radius < 2 ^ 32) × IsPoint p
IsKept (ReturnPoint p) = IsPoint p

abbrev pub AreKept : List Figure → Type 0
AreKept [] = Unit {0}
AreKept (f ∷ fs) = IsKept f × AreKept fs

half : (x : ℤ) → FitsSigned w32 x → IsHalf (2 ^ 31) x
half (pos k) h = omega (arith, ints, h)
half (negsuc k) h = omega (arith, ints, h)

abbrev a_point : ℤ → ℤ → Point
a_point x y = record { x = x; y = y }

same_ends : (x y u v : ℤ) → x ≡ u → y ≡ v → a_point x y ≡ a_point u v
same_ends x y u v e f = rw (e, f) refl

kept_point : (p : Point) → IsPoint p → reread_point p ≡ p
kept_point p h =
    let x = signed_part 4 (2 ^ 31) p.x (bytes_of_number 4 (unsigned 4 p.x)) refl (half p.x h.0) refl in
    let y = signed_part 4 (2 ^ 31) p.y (bytes_of_number 4 (unsigned 4 p.y)) refl (half p.y h.1) refl in
    same_ends (signed_of 4 (number_of (bytes_of_number 4 (unsigned 4 p.x)))) (signed_of 4 (number_of (bytes_of_number 4 (unsigned 4 p.y)))) p.x p.y x y

kept_points : (ps : List Point) → AllPoints ps → map reread_point ps ≡ ps
kept_points [] h = refl
kept_points (p ∷ ps) h = ap (λ q. q ∷ map reread_point ps) (kept_point p h.0) ∙ ap (λ qs. p ∷ qs) (kept_points ps h.1)

pub kept_figure : (f : Figure) → IsKept f → reread f ≡ f
kept_figure (Polygon inside pattern points) h = ap (λ q. Polygon inside q (map reread_point points)) (sym h.0) ∙ ap (Polygon inside pattern) (kept_points points h.1)
kept_figure (Round inside radius p) h =
    let number : number_of (bytes_of_number 4 radius) ≡ radius = number_of-bytes_of 4 radius h.0 in
    ap (λ q. Round inside q (reread_point p)) number ∙ ap (Round inside radius) (kept_point p h.1)
kept_figure (ReturnPoint p) h = ap ReturnPoint (kept_point p h)

pub kept_figures : (fs : List Figure) → AreKept fs → map reread fs ≡ fs
kept_figures [] h = refl
kept_figures (f ∷ fs) h = ap (λ g. g ∷ map reread fs) (kept_figure f h.0) ∙ ap (λ gs. f ∷ gs) (kept_figures fs h.1)
