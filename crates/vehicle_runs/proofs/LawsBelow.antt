-- The laws of the crates below, as they are proved there.
use Rattle.std.proofs.Common.{◌≡◌, ℕ, List, ◌++◌, sym, ◌∙◌}
use Rattle.mav_frames.specs.Cut.{StreamPiece, Cut}
use Rattle.mav_frames.proofs.CutLemmas as cutting

pub cut_any : (stream : List ℕ) → (pieces : List StreamPiece) × (rest : List ℕ) × Cut stream pieces rest
cut_any stream = cutting.a_cut stream

pub cut_once : (stream : List ℕ) (ps qs : List StreamPiece) (x y : List ℕ) → Cut stream ps x → Cut stream qs y → (ps ≡ qs) × (x ≡ y)
cut_once stream ps qs x y a b = cutting.one_cut ps qs x y a.each b.each a.last b.last (sym a.whole ∙ b.whole)

pub cut_more : (stream more rest last : List ℕ) (ps qs : List StreamPiece) → Cut stream ps rest → Cut (rest ++ more) qs last → Cut (stream ++ more) (ps ++ qs) last
cut_more stream more rest last ps qs a b = cutting.cut_more stream more rest last ps qs a b
