-- The first frames that were sent.
use Rattle.std.proofs.Common.{◌≡◌, ℕ, ◌<◌, List, [], ◌∷◌, ◌++◌, length, take, map, refl, sym, ◌∙◌, ap, arith}
use Rattle.std.proofs.lemmas.List.{take_all, length-append, length-map}
use Rattle.std.proofs.Math.Seq.{take-append_seam}
use Rattle.flash_traits.specs.Losses.{SentFrame}
use Rattle.flash_board.specs.Kept.{frame_of}
use Rattle.flash_board.specs.declared.record.Sent.{Sent}

mapped : (xs : List Sent) (s : Sent) → map frame_of (xs ++ s ∷ []) ≡ map frame_of xs ++ frame_of s ∷ []
mapped [] s = refl
mapped (x ∷ xs) s = ap (λ (l : List SentFrame). frame_of x ∷ l) (mapped xs s)

pub kept-more : (n : ℕ) (xs : List Sent) (s : Sent) → length xs < n → map frame_of (xs ++ s ∷ []) ≡ take n (map frame_of xs ++ frame_of s ∷ [])
kept-more n xs s lt =
    let all = map frame_of xs ++ frame_of s ∷ [] in
    mapped xs s ∙ sym (take_all n all (omega (arith, length-append (map frame_of xs) (frame_of s ∷ []), length-map xs frame_of)))

pub kept-all : (n : ℕ) (xs : List Sent) (f : SentFrame) → n ≡ length xs → map frame_of xs ≡ take n (map frame_of xs ++ f ∷ [])
kept-all n xs f is =
    sym (take-append_seam (map frame_of xs) (f ∷ [])) ∙ ap (λ (k : ℕ). take k (map frame_of xs ++ f ∷ [])) (length-map xs frame_of ∙ sym is)
