-- Points and their bytes.
use Rattle.std.proofs.Common.{◌≡◌, ℕ, zero, suc, ◌+◌, ◌*◌, ◌<◌, ◌≤◌, ◌^◌, List, [], ◌∷◌, ◌++◌, length, take, drop, map, refl, ap, sym, ◌∙◌, arith, append_assoc}
use Rattle.std.specs.Prelude.{All}
use Rattle.std.specs.List.{flat_map}
use Rattle.std.proofs.Math.Seq.{take-add, drop-nil}
use Rattle.std.proofs.lemmas.Grind.{common_steps}
use Rattle.std.proofs.lemmas.List.Elements.{All-cons, All-nil}
use Rattle.std.proofs.lemmas.List.Concat.{flat_map-cons}
use Rattle.storage_lines.specs.Numbers.{number_of, bytes_of_number, unsigned}
use Rattle.fence_records.specs.declared.items.FenceItem.{FenceItem}
use Rattle.fence_records.specs.Fence.{point_of, points_from, point_bytes, IsPoint, item}
use Rattle.fence_records.proofs.Bytes.{IsBytes, take-IsBytes, drop-IsBytes, four_bytes, number_of-small, signed_of-fits}

length_part : (bs : List ℕ) (a n : ℕ) → a + n ≤ length bs → length (take n (drop a bs)) ≡ n
length_part bs a n h = grind (arith, common_steps)

length_first : (bs : List ℕ) (n : ℕ) → n ≤ length bs → length (take n bs) ≡ n
length_first bs n h = grind (arith, common_steps)

pub point_of-bytes : (bs : List ℕ) → 8 ≤ length bs → IsBytes bs → point_bytes (point_of bs) ≡ take 8 bs
point_of-bytes bs h bytes =
    let a = four_bytes (take 4 bs) (length_first bs 4 (omega arith)) (take-IsBytes 4 bs bytes) in
    let b = four_bytes (take 4 (drop 4 bs)) (length_part bs 4 4 (omega arith)) (take-IsBytes 4 (drop 4 bs) (drop-IsBytes 4 bs bytes)) in
    ap (λ t. t ++ bytes_of_number 4 (unsigned 4 (point_of bs).y)) a ∙ (ap (λ t. take 4 bs ++ t) b ∙ sym (take-add 4 4 bs))

pub point_of-fits : (bs : List ℕ) → 8 ≤ length bs → IsBytes bs → IsPoint (point_of bs)
point_of-fits bs h bytes =
    let a : length (take 4 bs) ≡ 4 = length_first bs 4 (omega arith) in
    let b : length (take 4 (drop 4 bs)) ≡ 4 = length_part bs 4 4 (omega arith) in
    let x : number_of (take 4 bs) < 2 ^ 32 = rw a at (number_of-small (take 4 bs) (take-IsBytes 4 bs bytes)) in
    let y : number_of (take 4 (drop 4 bs)) < 2 ^ 32 = rw b at (number_of-small (take 4 (drop 4 bs)) (take-IsBytes 4 (drop 4 bs) (drop-IsBytes 4 bs bytes))) in
    (signed_of-fits (number_of (take 4 bs)) x, signed_of-fits (number_of (take 4 (drop 4 bs))) y)

pub drop_twice : (a b : ℕ) (bs : List ℕ) → drop b (drop a bs) ≡ drop (a + b) bs
drop_twice zero b bs = ap (λ k. drop k bs) (omega arith)
drop_twice (suc a) b [] = drop-nil b ∙ sym (drop-nil (suc a + b))
drop_twice (suc a) b (x ∷ bs) = let e : suc a + b ≡ suc (a + b) = omega arith in drop_twice a b bs ∙ (rw e refl)

pub length-points_from : (n : ℕ) (bs : List ℕ) → length (points_from n bs) ≡ n
unfolding points_from
length-points_from zero bs = refl
length-points_from (suc n) bs = let e = length-points_from n (drop 8 bs) in ap suc e

pub points_from-bytes : (n : ℕ) (bs : List ℕ) → 8 * n ≤ length bs → IsBytes bs → flat_map point_bytes (points_from n bs) ≡ take (8 * n) bs
unfolding points_from
points_from-bytes zero bs h bytes = refl
points_from-bytes (suc n) bs h bytes =
    let long : 8 * n ≤ length (drop 8 bs) = grind (arith, common_steps) in
    let first = point_of-bytes bs (omega arith) bytes in
    let rest = points_from-bytes n (drop 8 bs) long (drop-IsBytes 8 bs bytes) in
    let size : 8 + 8 * n ≡ 8 * suc n = omega arith in
    flat_map-cons point_bytes (point_of bs) (points_from n (drop 8 bs)) ∙ (ap (λ t. t ++ flat_map point_bytes (points_from n (drop 8 bs))) first ∙ (ap (λ t. take 8 bs ++ t) rest ∙ (sym (take-add 8 (8 * n) bs) ∙ ap (λ k. take k bs) size)))

pub points_from-fit : (n : ℕ) (bs : List ℕ) → 8 * n ≤ length bs → IsBytes bs → All IsPoint (points_from n bs)
unfolding points_from
points_from-fit zero bs h bytes = All-nil IsPoint
points_from-fit (suc n) bs h bytes =
    let long : 8 * n ≤ length (drop 8 bs) = grind (arith, common_steps) in
    All-cons IsPoint (point_of bs) (points_from n (drop 8 bs)) (point_of-fits bs (omega arith) bytes) (points_from-fit n (drop 8 bs) long (drop-IsBytes 8 bs bytes))

pub points_from-next : (w k : ℕ) (bs : List ℕ) → w ≡ suc k → points_from w bs ≡ point_of bs ∷ points_from k (drop 8 bs)
unfolding points_from
points_from-next w k bs e = rw e refl

pub points_from-none : (w : ℕ) (bs : List ℕ) → w ≡ 0 → points_from w bs ≡ []
unfolding points_from
points_from-none w bs e = rw e refl

-- one more item is appended
pub points_from-push : (command param1 : ℕ) (xs ys : List FenceItem) (w k : ℕ) (bs : List ℕ) → w ≡ suc k → ys ≡ xs ++ item command param1 (point_of bs) ∷ []
    → ys ++ map (item command param1) (points_from k (drop 8 bs)) ≡ xs ++ map (item command param1) (points_from w bs)
points_from-push command param1 xs ys w k bs e f =
    rw (f, points_from-next w k bs e) (append_assoc xs (item command param1 (point_of bs) ∷ []) (map (item command param1) (points_from k (drop 8 bs))))
