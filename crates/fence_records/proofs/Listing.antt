-- The items that the stored fence has are those of `fence_of`.
use Rattle.std.proofs.Common.{◌≡◌, ℕ, zero, suc, ◌+◌, ◌*◌, ◌<◌, ◌≤◌, Bool, true, false, List, [], ◌∷◌, ◌++◌, length, get_or, take, drop, refl, ap, sym, ◌∙◌, subst, inl, inr, arith, length-append, append_assoc, Option, Some, None, eqb-true, leb-true, if◌then◌else◌}
use Rattle.std.specs.Prelude.{All, ◌⊎◌, ◌==◌, ◌||◌, nat_le, MatchBool, ◌↔◌}
use Rattle.std.specs.List.{flat_map}
use Rattle.std.specs.Str.{bytes_eq}
use Rattle.std.specs.Option.{option_map_or}
use Rattle.std.proofs.Math.Seq.{drop-append_seam}
use Rattle.std.proofs.lemmas.Bool.{or_cases, cases_lt}
use Rattle.std.proofs.lemmas.Option.{none-some}
use Rattle.std.proofs.lemmas.List.{take-append-drop}
use Rattle.std.proofs.lemmas.List.Elements.{All-cons, All-nil}
use Rattle.std.proofs.lemmas.List.Concat.{flat_map-cons}
use Rattle.std.proofs.lemmas.Grind.{common_steps}
use Rattle.fence_records.specs.declared.TheConstants.{FENCE_BYTES}
use Rattle.storage_lines.specs.Numbers.{number_of, bytes_of_number}
use Rattle.storage_lines.proofs.NumberLemmas.{length-bytes_of}
use Rattle.storage_lines.specs.declared.areas.Area.TheVariants.{Fence}
use Rattle.storage_lines.specs.Areas.{place_of}
use Rattle.fence_records.specs.declared.items.FenceItem.{FenceItem}
use Rattle.fence_records.specs.declared.items.Point.{Point}
use Rattle.fence_records.specs.Fence.{Figure, Polygon, Round, ReturnPoint, record_of, items_of, IsFigure, IsFenceEnd, IsPoint, HoldsItems, point_of, points_from, point_bytes, fence_version}
use Rattle.fence_records.specs.Write.{fence_area}
use Rattle.fence_records.specs.Lists.{pattern_of, if_whole, first_figure, figures_in, FenceIsListed}
use Rattle.fence_records.proofs.Bytes.{IsBytes, drop-IsBytes}
use Rattle.fence_records.proofs.Points.{point_of-fits, points_from-fit, length-points_from}
use Rattle.fence_records.proofs.Figures.{home_record, round_record, polygon_at, polygon_code, round_code, part-small, counted, length-all_bytes, length-point_bytes}
use Rattle.fence_records.proofs.Rereads.{reread, first_back, figures_back, IsKept, AreKept, AllPoints, kept_figures}
use Rattle.fence_records.proofs.Cutting.{same_some}
use Rattle.fence_records.proofs.Patterns.{pattern_nearest, pattern_is}
use Rattle.fence_records.proofs.Steps.{length-area, get_or-area}

-- a figure whose record begins the bytes
record IsFirst (f : Figure) (bytes : List ℕ) : Type 0 where
  pub right : IsFigure f
  pub part : take (length (record_of f)) bytes ≡ record_of f
  pub fits : length (record_of f) ≤ length bytes

whole_tells : (f g : Figure) (bytes : List ℕ) (b : Bool) → nat_le (length (record_of f)) (length bytes) ≡ b → (if b then Some f else None) ≡ Some g → (length (record_of f) ≤ length bytes) × (f ≡ g)
whole_tells f g bytes true e h = (leb-true (length (record_of f)) (length bytes) e, same_some f g h)
whole_tells f g bytes false e h = absurd (none-some g h)

polygon_first : (bytes : List ℕ) (f : Figure) → IsBytes bytes → (get_or bytes 0 0 ≡ 97) ⊎ (get_or bytes 0 0 ≡ 98)
    → if_whole bytes (Some (Polygon (get_or bytes 0 0 == 98) (pattern_of (get_or bytes 1 0)) (points_from (get_or bytes 1 0) (drop 2 bytes)))) ≡ Some f → IsFirst f bytes
polygon_first bytes f low code h =
    let n = get_or bytes 1 0 in
    let points = points_from n (drop 2 bytes) in
    let g = Polygon (get_or bytes 0 0 == 98) (pattern_of n) points in
    let t = whole_tells g f bytes (nat_le (length (record_of g)) (length bytes)) refl h in
    let count : length points ≡ n = length-points_from n (drop 2 bytes) in
    let size : length (record_of g) ≡ 2 + 8 * n = ap (λ k. suc (suc k)) (length-all_bytes points ∙ ap (λ k. 8 * k) count) ∙ two (8 * n) in
    let fits : 2 + 8 * n ≤ length bytes = omega (arith, t.0, size) in
    let long : 8 * n ≤ length (drop 2 bytes) = grind (arith, common_steps) in
    let small : n < 256 = low 1 in
    let right : IsFigure g = (omega (arith, count, small), counted n (pattern_of n) (drop 2 bytes) (pattern_nearest n small), points_from-fit n (drop 2 bytes) long (drop-IsBytes 2 bytes low)) in
    let part : take (2 + 8 * n) bytes ≡ record_of g = polygon_at bytes (get_or bytes 0 0 == 98) (pattern_of n) n refl low fits (polygon_code (get_or bytes 0 0) code) in
    subst (λ g. IsFirst g bytes) t.1 (record { right = right; part = ap (λ k. take k bytes) size ∙ part; fits = t.0 })
  where
    two : (k : ℕ) → suc (suc k) ≡ 2 + k
    two k = omega arith

round_size : (inside : Bool) (radius : ℕ) (p : Point) → length (record_of (Round inside radius p)) ≡ 13
round_size inside radius p =
    let a : length (point_bytes p ++ bytes_of_number 4 radius) ≡ length (point_bytes p) + length (bytes_of_number 4 radius) = length-append (point_bytes p) (bytes_of_number 4 radius) in
    let b : length (point_bytes p) ≡ 8 = length-point_bytes p in
    let c : length (bytes_of_number 4 radius) ≡ 4 = length-bytes_of 4 radius in
    let d : length (point_bytes p ++ bytes_of_number 4 radius) ≡ 12 = omega (arith, a, b, c) in
    ap suc d

round_first : (bytes : List ℕ) (f : Figure) → IsBytes bytes → (get_or bytes 0 0 ≡ 92) ⊎ (get_or bytes 0 0 ≡ 93)
    → if_whole bytes (Some (Round (get_or bytes 0 0 == 92) (number_of (take 4 (drop 9 bytes))) (point_of (drop 1 bytes)))) ≡ Some f → IsFirst f bytes
round_first bytes f low code h =
    let radius = number_of (take 4 (drop 9 bytes)) in
    let p = point_of (drop 1 bytes) in
    let g = Round (get_or bytes 0 0 == 92) radius p in
    let t = whole_tells g f bytes (nat_le (length (record_of g)) (length bytes)) refl h in
    let size : length (record_of g) ≡ 13 = round_size (get_or bytes 0 0 == 92) radius p in
    let fits : 13 ≤ length bytes = omega (arith, t.0, size) in
    let long : 8 ≤ length (drop 1 bytes) = grind (arith, common_steps) in
    let right : IsFigure g = (part-small bytes 9 low (omega (arith, fits)), point_of-fits (drop 1 bytes) long (drop-IsBytes 1 bytes low)) in
    let part : take 13 bytes ≡ record_of g = round_record bytes (get_or bytes 0 0 == 92) low fits (round_code (get_or bytes 0 0) code) in
    subst (λ g. IsFirst g bytes) t.1 (record { right = right; part = ap (λ k. take k bytes) size ∙ part; fits = t.0 })

home_first : (bytes : List ℕ) (f : Figure) → IsBytes bytes → get_or bytes 0 0 ≡ 95 → if_whole bytes (Some (ReturnPoint (point_of (drop 1 bytes)))) ≡ Some f → IsFirst f bytes
home_first bytes f low code h =
    let p = point_of (drop 1 bytes) in
    let g = ReturnPoint p in
    let t = whole_tells g f bytes (nat_le (length (record_of g)) (length bytes)) refl h in
    let size : length (record_of g) ≡ 9 = ap suc (length-point_bytes p) in
    let fits : 9 ≤ length bytes = omega (arith, t.0, size) in
    let long : 8 ≤ length (drop 1 bytes) = grind (arith, common_steps) in
    let right : IsFigure g = point_of-fits (drop 1 bytes) long (drop-IsBytes 1 bytes low) in
    let part : take 9 bytes ≡ record_of g = home_record bytes low fits code in
    subst (λ g. IsFirst g bytes) t.1 (record { right = right; part = ap (λ k. take k bytes) size ∙ part; fits = t.0 })

code_of : (n a b : ℕ) (x y : Bool) → (n == a) ≡ x → (n == b) ≡ y → (x || y) ≡ true → (n ≡ b) ⊎ (n ≡ a)
code_of n a b x y e f h = elim (or_cases x y h) [ inl k ↦ inr (eqb-true n a (e ∙ k)) | inr k ↦ inl (eqb-true n b (f ∙ k)) ]

-- by the type byte
home_test : (bytes : List ℕ) (f : Figure) (b : Bool) → IsBytes bytes → (get_or bytes 0 0 == 95) ≡ b → if_whole bytes (if b then Some (ReturnPoint (point_of (drop 1 bytes))) else None) ≡ Some f → IsFirst f bytes
home_test bytes f true low e h = home_first bytes f low (eqb-true (get_or bytes 0 0) 95 e) h
home_test bytes f false low e h = absurd (none-some f h)

round_test : (bytes : List ℕ) (f : Figure) (b : Bool) → IsBytes bytes → ((get_or bytes 0 0 == 92) || (get_or bytes 0 0 == 93)) ≡ b
    → if_whole bytes (if b then Some (Round (get_or bytes 0 0 == 92) (number_of (take 4 (drop 9 bytes))) (point_of (drop 1 bytes))) else (if get_or bytes 0 0 == 95 then Some (ReturnPoint (point_of (drop 1 bytes))) else None)) ≡ Some f → IsFirst f bytes
round_test bytes f true low e h =
    round_first bytes f low (elim (code_of (get_or bytes 0 0) 92 93 (get_or bytes 0 0 == 92) (get_or bytes 0 0 == 93) refl refl e) [ inl k ↦ inr k | inr k ↦ inl k ]) h
round_test bytes f false low e h = home_test bytes f (get_or bytes 0 0 == 95) low refl h

polygon_test : (bytes : List ℕ) (f : Figure) (b : Bool) → IsBytes bytes → ((get_or bytes 0 0 == 98) || (get_or bytes 0 0 == 97)) ≡ b
    → if_whole bytes (if b then Some (Polygon (get_or bytes 0 0 == 98) (pattern_of (get_or bytes 1 0)) (points_from (get_or bytes 1 0) (drop 2 bytes)))
    else (if (get_or bytes 0 0 == 92) || (get_or bytes 0 0 == 93) then Some (Round (get_or bytes 0 0 == 92) (number_of (take 4 (drop 9 bytes))) (point_of (drop 1 bytes))) else (if get_or bytes 0 0 == 95 then Some (ReturnPoint (point_of (drop 1 bytes))) else None))) ≡ Some f
    → IsFirst f bytes
polygon_test bytes f true low e h = polygon_first bytes f low (code_of (get_or bytes 0 0) 98 97 (get_or bytes 0 0 == 98) (get_or bytes 0 0 == 97) refl refl e) h
polygon_test bytes f false low e h = round_test bytes f ((get_or bytes 0 0 == 92) || (get_or bytes 0 0 == 93)) low refl h

first_is : (bytes : List ℕ) (f : Figure) → IsBytes bytes → first_figure bytes ≡ Some f → IsFirst f bytes
first_is bytes f low h = polygon_test bytes f ((get_or bytes 0 0 == 98) || (get_or bytes 0 0 == 97)) low refl h

-- no whole record begins the bytes where there is no figure
end_of : (bytes : List ℕ) → first_figure bytes ≡ None → IsFenceEnd bytes
end_of bytes h f rest right e = none-some (reread f) (sym h ∙ (ap first_figure e ∙ first_back f rest))

none_at : (o : Option Figure) (bytes : List ℕ) → IsBytes bytes → IsFenceEnd bytes → first_figure bytes ≡ o → first_figure bytes ≡ None
none_at None bytes low ends h = h
none_at (Some f) bytes low ends h =
    let first = first_is bytes f low h in
    absurd (ends f (drop (length (record_of f)) bytes) first.right (sym (take-append-drop (length (record_of f)) bytes) ∙ ap (λ t. t ++ drop (length (record_of f)) bytes) first.part))

none_of : (bytes : List ℕ) → IsBytes bytes → IsFenceEnd bytes → first_figure bytes ≡ None
none_of bytes low ends = none_at (first_figure bytes) bytes low ends refl

-- a figure in storage is read back as it is
points_kept : (ps : List Point) → All IsPoint ps → AllPoints ps
points_kept [] h = tt
points_kept (p ∷ ps) h = (h 0 p (omega arith), points_kept ps (λ k d less. h (suc k) d (omega (arith, less))))

figure_kept : (f : Figure) → IsFigure f → IsKept f
figure_kept (Polygon inside pattern points) h = (pattern_is (length points) pattern h.0 h.1, points_kept points h.2)
figure_kept (Round inside radius p) h = h
figure_kept (ReturnPoint p) h = h

figures_kept : (fs : List Figure) → All IsFigure fs → AreKept fs
figures_kept [] h = tt
figures_kept (f ∷ fs) h = (figure_kept f (h 0 f (omega arith)), figures_kept fs (λ k d less. h (suc k) d (omega (arith, less))))

some_record : (f : Figure) → 1 ≤ length (record_of f)
some_record (Polygon inside pattern points) = omega arith
some_record (Round inside radius p) = omega arith
some_record (ReturnPoint p) = omega arith

pub few_records : (fs : List Figure) → length fs ≤ length (flat_map record_of fs)
few_records [] = omega arith
few_records (f ∷ fs) =
    let rest : length fs ≤ length (flat_map record_of fs) = few_records fs in
    let e : length (flat_map record_of (f ∷ fs)) ≡ length (record_of f) + length (flat_map record_of fs) = ap length (flat_map-cons record_of f fs) ∙ length-append (record_of f) (flat_map record_of fs) in
    let one : 1 ≤ length (record_of f) = some_record f in
    let whole : suc (length fs) ≤ length (flat_map record_of (f ∷ fs)) = omega (arith, rest, e, one) in
    whole

-- the items that bytes hold
held_items : (n : ℕ) (bytes : List ℕ) (items : List FenceItem) → IsBytes bytes → length bytes ≤ n → HoldsItems bytes items → items ≡ flat_map items_of (figures_in n bytes)
held_items n bytes items low few h =
    let size : length bytes ≡ length (flat_map record_of h.figures) + length h.rest = ap length h.bytes_are ∙ length-append (flat_map record_of h.figures) h.rest in
    let less : length h.figures ≤ n = omega (arith, few_records h.figures, size, few) in
    let tail : drop (length (flat_map record_of h.figures)) bytes ≡ h.rest = ap (drop (length (flat_map record_of h.figures))) h.bytes_are ∙ drop-append_seam (flat_map record_of h.figures) h.rest in
    let low_rest : IsBytes h.rest = subst IsBytes tail (drop-IsBytes (length (flat_map record_of h.figures)) bytes low) in
    let back : figures_in n bytes ≡ h.figures = ap (figures_in n) h.bytes_are ∙ (figures_back n h.figures h.rest less (none_of h.rest low_rest h.ends) ∙ kept_figures h.figures (figures_kept h.figures h.right)) in
    h.items_are ∙ ap (flat_map items_of) (sym back)

-- bytes hold the items of their figures
holds_at : (o : Option Figure) (n : ℕ) (bytes : List ℕ) → IsBytes bytes → first_figure bytes ≡ o → length bytes ≤ suc n
    → ((f : Figure) → length (drop (length (record_of f)) bytes) ≤ n → HoldsItems (drop (length (record_of f)) bytes) (flat_map items_of (figures_in n (drop (length (record_of f)) bytes))))
    → HoldsItems bytes (flat_map items_of (option_map_or (λ f. f ∷ figures_in n (drop (length (record_of f)) bytes)) o []))
holds_at None n bytes low e few rest = record { figures = []; rest = bytes; right = All-nil IsFigure; bytes_are = refl; ends = end_of bytes e; items_are = refl }
holds_at (Some f) n bytes low e few rest =
    let first = first_is bytes f low e in
    let m = length (record_of f) in
    let some = some_record f in
    let less : length (drop m bytes) ≤ n = shorter m bytes n some few in
    let h = rest f less in
    record {
      figures = f ∷ h.figures;
      rest = h.rest;
      right = All-cons IsFigure f h.figures first.right h.right;
      bytes_are = sym (take-append-drop m bytes) ∙ (ap (λ t. t ++ drop m bytes) first.part ∙ (ap (λ t. record_of f ++ t) h.bytes_are ∙ (sym (append_assoc (record_of f) (flat_map record_of h.figures) h.rest) ∙ ap (λ t. t ++ h.rest) (sym (flat_map-cons record_of f h.figures)))));
      ends = h.ends;
      items_are = flat_map-cons items_of f (figures_in n (drop m bytes)) ∙ (ap (λ t. items_of f ++ t) h.items_are ∙ sym (flat_map-cons items_of f h.figures));
    }
  where
    shorter : (m : ℕ) (bytes : List ℕ) (n : ℕ) → 1 ≤ m → length bytes ≤ suc n → length (drop m bytes) ≤ n
    shorter m bytes n some few = grind (arith, common_steps)

holds_figures : (n : ℕ) (bytes : List ℕ) → IsBytes bytes → length bytes ≤ n → HoldsItems bytes (flat_map items_of (figures_in n bytes))
unfolding figures_in
holds_figures zero [] low few = record { figures = []; rest = []; right = All-nil IsFigure; bytes_are = refl; ends = end_of [] refl; items_are = refl }
holds_figures zero (b ∷ bytes) low few = absurd (omega (arith, few))
holds_figures (suc n) bytes low few =
    holds_at (first_figure bytes) n bytes low refl few (λ f less. holds_figures n (drop (length (record_of f)) bytes) (drop-IsBytes (length (record_of f)) bytes low) less)

listed_at : (area : List ℕ) (items : List FenceItem) (b : Bool) → IsBytes area → length area ≡ FENCE_BYTES
    → MatchBool b (HoldsItems (drop 4 area) items) (items ≡ []) ↔ (items ≡ (if b then flat_map items_of (figures_in FENCE_BYTES (drop 4 area)) else []))
listed_at area items true low size =
    let few : length (drop 4 area) ≤ FENCE_BYTES = grind (arith, common_steps) in (
      λ h. held_items FENCE_BYTES (drop 4 area) items (drop-IsBytes 4 area low) few h,
      λ e. subst (HoldsItems (drop 4 area)) (sym e) (holds_figures FENCE_BYTES (drop 4 area) (drop-IsBytes 4 area low) few),
    )
listed_at area items false low size = (λ h. h, λ h. h)

pub fence_is_listed : FenceIsListed
fence_is_listed bytes items low = listed_at (fence_area bytes) items (bytes_eq (take 4 (fence_area bytes)) fence_version) low (length-area bytes)

pub low_area : (b : List ℕ) → IsBytes b → IsBytes (fence_area b)
low_area b low i = elim (cases_lt i FENCE_BYTES) [
  | inl less ↦ subst (λ n. n < 256) (sym (get_or-area b i less)) (low (place_of Fence i))
  | inr more ↦ beyond (fence_area b) i (omega (arith, more, length-area b))
]
  where
    beyond : (xs : List ℕ) (i : ℕ) → length xs ≤ i → get_or xs i 0 < 256
    beyond [] i h = omega arith
    beyond (x ∷ xs) zero h = absurd (omega (arith, h))
    beyond (x ∷ xs) (suc i) h = beyond xs i (omega (arith, h))
