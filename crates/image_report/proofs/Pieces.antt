-- The pieces of a dump.
use Rattle.std.proofs.Common.{◌≡◌, ℕ, List, ◌++◌, ◌∙◌, sym, ap, append_assoc}
use Rattle.std.specs.Prelude.{Result, Ok, Err, IsErrAnd}
use Rattle.flash_traits.specs.declared.stream.Sink.{Ghosts}
use Rattle.sector_image.specs.declared.kept.Shape.{Shape}
use Rattle.image_report.specs.Dumps.{head_line, stored_text, digest_line, dump_text}
use Rattle.image_report.specs.Steps.Writes.{Writes}
use Rattle.image_report.proofs.Writing.{writes_then, writes_cut, retext}

-- the text in its three pieces
pub in_pieces : (size count : ℕ) (shape : Shape) (bytes : List ℕ) → head_line size count shape ++ (stored_text bytes ++ digest_line bytes) ≡ dump_text size count shape bytes
unfolding dump_text
in_pieces size count shape bytes = sym (append_assoc (head_line size count shape) (stored_text bytes) (digest_line bytes))

module _ {K : Type 0} (g : Ghosts K) where
  -- the first piece is cut off
  pub cut_first : {S F T E : Type 0} (old new : K) (e : F) (r : Result T E) (P : E → Type 0) (piece a b c text : List ℕ) → IsErrAnd r P → piece ≡ a → a ++ (b ++ c) ≡ text
      → Writes {T = S} {E = F} g old new (Err e) piece → Writes g old new r text
  cut_first old new e r P piece a b c text failed is whole part =
      retext g old new r (piece ++ (b ++ c)) text (ap (λ (l : List ℕ). l ++ (b ++ c)) is ∙ whole) (writes_cut g old new e r P piece (b ++ c) failed part)

  -- the second one is
  pub cut_second : {S F T E V W : Type 0} (old mid new : K) (x : V) (e : F) (r : Result T E) (P : E → Type 0) (piece a b c text : List ℕ) → IsErrAnd r P → piece ≡ a → a ++ (b ++ c) ≡ text
      → Writes {T = V} {E = W} g old mid (Ok x) piece → Writes {T = S} {E = F} g mid new (Err e) b → Writes g old new r text
  cut_second old mid new x e r P piece a b c text failed is whole first part =
      retext g old new r (piece ++ (b ++ c)) text (ap (λ (l : List ℕ). l ++ (b ++ c)) is ∙ whole) (writes_then g old mid new x r piece (b ++ c) first (writes_cut g mid new e r P b c failed part))

  -- or the third, or none
  pub all_three : {S F T E V W : Type 0} (old mid later new : K) (x : V) (y : S) (r : Result T E) (piece last a b c text : List ℕ) → piece ≡ a → last ≡ c → a ++ (b ++ c) ≡ text
      → Writes {T = V} {E = W} g old mid (Ok x) piece → Writes {T = S} {E = F} g mid later (Ok y) b → Writes g later new r last → Writes g old new r text
  all_three old mid later new x y r piece last a b c text is is_last whole first second third =
      retext g old new r (piece ++ (b ++ last)) text (ap (λ (l : List ℕ). l ++ (b ++ last)) is ∙ ap (λ (l : List ℕ). a ++ (b ++ l)) is_last ∙ whole)
      (writes_then g old mid new x r piece (b ++ last) first (writes_then g mid later new y r b last second third))
