-- The loop over the odd offsets.
use Rattle.std.proofs.Common.{◌≡◌, ℕ, zero, suc, ◌+◌, ◌<◌, ◌≤◌, List, [], ◌∷◌, ◌++◌, length, take, drop, refl, ap, sym, ◌∙◌, arith}
use Rattle.std.proofs.Math.ListN.{set}
use Rattle.flash_board.specs.Rows.{half_set}

odd_step' : (h : List ℕ) (j : ℕ) → suc j < length h → take (suc (suc j)) (set h (suc j) 65535) ++ half_set (drop (suc (suc j)) (set h (suc j) 65535)) ≡ take j h ++ half_set (drop j h)
odd_step' [] j lt = absurd (omega arith)
odd_step' (x ∷ []) zero lt = absurd (omega arith)
odd_step' (x ∷ y ∷ rest) zero lt = refl
odd_step' (x ∷ t) (suc j) lt = ap (λ (l : List ℕ). x ∷ l) (odd_step' t j (omega arith))

pub odd_step : (h : List ℕ) (j : ℕ) → j + 1 < length h → take (j + 2) (set h (j + 1) 65535) ++ half_set (drop (j + 2) (set h (j + 1) 65535)) ≡ take j h ++ half_set (drop j h)
odd_step h j lt =
    let one : suc j ≡ j + 1 = omega arith in
    let two : suc (suc j) ≡ j + 2 = omega arith in
    ap (λ (n : ℕ). take n (set h (j + 1) 65535) ++ half_set (drop n (set h (j + 1) 65535))) (sym two)
    ∙ ap (λ (n : ℕ). take (suc (suc j)) (set h n 65535) ++ half_set (drop (suc (suc j)) (set h n 65535))) (sym one)
    ∙ odd_step' h j (omega arith)

pub odd_end : (h : List ℕ) (j : ℕ) → length h ≤ j + 1 → take j h ++ half_set (drop j h) ≡ h
odd_end [] zero le = refl
odd_end [] (suc j) le = refl
odd_end (x ∷ []) zero le = refl
odd_end (x ∷ y ∷ rest) zero le = absurd (omega arith)
odd_end (x ∷ t) (suc j) le = ap (λ (l : List ℕ). x ∷ l) (odd_end t j (omega arith))
