-- The frames that were printed since a call of a node began, read from the back.
use Rattle.std.proofs.Common.{◌≡◌, ◌⊎◌, inl, inr, ℕ, zero, suc, ◌≤◌, ◌<◌, List, [], ◌∷◌, ◌++◌, length, take, slice_index, refl, sym, ◌∙◌, ap, subst, arith, append_assoc, append-nil, length-append}
use Rattle.std.proofs.lemmas.List.{length-take}
use Rattle.flash_traits.specs.Losses.{SentFrame}
use Rattle.script_board.specs.Printing.{frame_line, frame_lines}
use Rattle.script_board.proofs.FrameLines.{frame_line-last, frame_line-some}
use Rattle.script_board.proofs.Listed.{frame_lines-append}
use Rattle.script_replay.specs.Calls.{AreBytes, AreFrames, ArePrinted}

are_below : (bytes : List ℕ) → AreBytes bytes → (k : ℕ) → slice_index bytes k < 256
are_below [] are k = omega arith
are_below (byte ∷ bytes) are zero = are.0
are_below (byte ∷ bytes) are (suc k) = are_below bytes are.1 k

pub are_bytes : (bytes : List ℕ) → ((k : ℕ) → slice_index bytes k < 256) → AreBytes bytes
are_bytes [] below = tt
are_bytes (byte ∷ bytes) below = (below 0, are_bytes bytes (λ k. below (suc k)))

frames-append : (first : List SentFrame) (last : SentFrame) → AreFrames first → last.peer < 256 → AreBytes last.bytes → AreFrames (first ++ last ∷ [])
frames-append [] last are peer bytes = (peer, bytes, tt)
frames-append (f ∷ first) last are peer bytes = (are.0, are.1, frames-append first last are.2 peer bytes)

frames_apart : (first : List SentFrame) (last : SentFrame) → AreFrames (first ++ last ∷ []) → AreFrames first × (last.peer < 256) × AreBytes last.bytes
frames_apart [] last are = (tt, are.0, are.1)
frames_apart (f ∷ first) last are = let rest = frames_apart first last are.2 in ((are.0, are.1, rest.0), rest.1, rest.2)

one_more : (first : List SentFrame) (last : SentFrame) → frame_lines (first ++ last ∷ []) ≡ frame_lines first ++ frame_line last
one_more first last = frame_lines-append first (last ∷ []) ∙ ap (λ (l : List ℕ). frame_lines first ++ l) (append-nil (frame_line last))

-- what begins with other bytes is no shorter
pub front_fits : (before now : List ℕ) → take (length before) now ≡ before → length before ≤ length now
front_fits before now is = omega (arith, ap length is, length-take (length before) now)

-- one frame more was printed
pub printed_more : (before was now : List ℕ) (frames : List SentFrame) (x : SentFrame) → x.peer < 256 → AreBytes x.bytes → now ≡ was ++ frame_line x → ArePrinted before was frames
    → ArePrinted before now (frames ++ x ∷ [])
printed_more before was now frames x peer bytes is (same, are) = (
  is ∙ ap (λ (l : List ℕ). l ++ frame_line x) same ∙ append_assoc before (frame_lines frames) (frame_line x) ∙ ap (λ (l : List ℕ). before ++ l) (sym (one_more frames x)),
  frames-append frames x are peer bytes,
)

from_back : (frames : List SentFrame) → (frames ≡ []) ⊎ ((first : List SentFrame) × (last : SentFrame) × (frames ≡ first ++ last ∷ []))
from_back [] = inl refl
from_back (f ∷ frames) = inr (by_rest (from_back frames))
  where
    by_rest : (frames ≡ []) ⊎ ((first : List SentFrame) × (last : SentFrame) × (frames ≡ first ++ last ∷ [])) → (first : List SentFrame) × (last : SentFrame) × (f ∷ frames ≡ first ++ last ∷ [])
    by_rest (inl none) = ([], f, ap (λ (l : List SentFrame). f ∷ l) none)
    by_rest (inr (first, last, is)) = (f ∷ first, last, ap (λ (l : List SentFrame). f ∷ l) is)

-- the frames before the last one are those that were printed before it
pub printed_last : (before was now : List ℕ) (frames : List SentFrame) (x : SentFrame) → length before ≤ length was → x.peer < 256 → AreBytes x.bytes → now ≡ was ++ frame_line x → ArePrinted before now frames
    → (first : List SentFrame) × (frames ≡ first ++ x ∷ []) × ArePrinted before was first
printed_last before was now frames x grown peer bytes is printed = by_back (from_back frames)
  where
    by_back : (frames ≡ []) ⊎ ((first : List SentFrame) × (last : SentFrame) × (frames ≡ first ++ last ∷ [])) → (first : List SentFrame) × (frames ≡ first ++ x ∷ []) × ArePrinted before was first
    by_back (inl none) =
        let same : was ++ frame_line x ≡ before ++ [] = sym is ∙ printed.0 ∙ ap (λ (l : List SentFrame). before ++ frame_lines l) none in
        absurd (omega (arith, grown, ap length same, length-append was (frame_line x), length-append before (let nil : List ℕ = [] in nil), frame_line-some x))
    by_back (inr (first, last, ends)) =
        let apart = frames_apart first last (subst AreFrames ends printed.1) in
        let text : before ++ frame_lines frames ≡ (before ++ frame_lines first) ++ frame_line last =
        ap (λ (l : List SentFrame). before ++ frame_lines l) ends ∙ ap (λ (l : List ℕ). before ++ l) (one_more first last) ∙ sym (append_assoc before (frame_lines first) (frame_line last)) in
        let both = frame_line-last was (before ++ frame_lines first) x last peer apart.1 (are_below x.bytes bytes) (are_below last.bytes apart.2) (sym is ∙ printed.0 ∙ text) in
        (first, ends ∙ ap (λ (f : SentFrame). first ++ f ∷ []) (sym both.1), (both.0, apart.0))
