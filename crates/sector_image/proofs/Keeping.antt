-- Calls one after another that keep the bytes.
use Rattle.std.proofs.Common.{◌≡◌, ℕ, ◌+◌, ◌≤◌, arith}
use Rattle.std.specs.Prelude.{Result, Ok, Err, IsErr}
use Rattle.flash_traits.specs.Words.{Words}
use Rattle.flash_traits.specs.Losses.{Outcome, ByResult}
use Rattle.flash_traits.specs.declared.board.Board.{Ghosts}
use Rattle.flash_traits.specs.Calls.{Changes}
use Rattle.flash_traits.proofs.Moments.{first_words, started_words, chained_words}
use Rattle.sector_image.specs.Losses.{KeepsBytes}
use Rattle.sector_image.proofs.Standing.{keeps_all, keeps_then, keeps_more}

-- a call that ends with an error
pub at_err : {B T E : Type 0} (g : Ghosts B) {a b : B} (r : Result T E) {lost : Words → Words → Type 0} (done : Words → Words → Type 0) → IsErr r → Changes g a b lost lost → Changes g a b lost (ByResult r done lost)
at_err g (Ok v) done err changes = absurd (cc)
at_err g (Err e) done err changes = changes

-- no call at all
pub still_keeps : {B : Type 0} (g : Ghosts B) (reads : (b : B) (o : Outcome) → g.now b o → g.tells b × (o.words ≡ g.words b)) (a : B) (most : ℕ) → Changes g a a (KeepsBytes most) (KeepsBytes most)
still_keeps g reads a most = started_words g reads a (KeepsBytes most) (KeepsBytes most) (λ t. keeps_all most (g.words a))

-- one call after another
pub then_keeps : {B : Type 0} (g : Ghosts B) (reads : (b : B) (o : Outcome) → g.now b o → g.tells b × (o.words ≡ g.words b)) {a b c : B} (m n : ℕ)
    → Changes g a b (KeepsBytes m) (KeepsBytes m) → Changes g b c (KeepsBytes n) (KeepsBytes n) → Changes g a c (KeepsBytes (m + n)) (KeepsBytes (m + n))
then_keeps g reads {a} {b} {c} m n first second = chained_words g reads (KeepsBytes (m + n)) (KeepsBytes (m + n)) first second
    (λ t o is. keeps_more m (m + n) (g.words a) o (omega arith) is)
    (λ t u o was is. keeps_then m n (g.words a) u o was is) (λ t u o was is. keeps_then m n (g.words a) u o was is)

pub more_keeps : {B : Type 0} (g : Ghosts B) (reads : (b : B) (o : Outcome) → g.now b o → g.tells b × (o.words ≡ g.words b)) {a b : B} (m n : ℕ) → m ≤ n
    → Changes g a b (KeepsBytes m) (KeepsBytes m) → Changes g a b (KeepsBytes n) (KeepsBytes n)
more_keeps g reads {a} m n le changes = first_words g reads (KeepsBytes n) (KeepsBytes n) changes (λ t o is. keeps_more m n (g.words a) o le is) (λ t o is. keeps_more m n (g.words a) o le is)
