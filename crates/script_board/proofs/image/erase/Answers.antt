use Rattle.std.proofs.Common.{◌≡◌, ◌⊎◌, ℕ, ◌+◌, ◌*◌, ◌≤◌, ◌<◌, slice_index, sym, subst, arith}
use Rattle.flash_traits.specs.Words.{region_length}
use Rattle.script_board.specs.Image.{start_of}
use Rattle.script_board.proofs.Halfwords.{erases}
use Rattle.script_board.proofs.image.erase.Goals as goal

pub returns : goal.returns
returns c =
    let n = c.args.sector_bytes in
    let r = c.args.region in
    let place : c.start_of-start.result ≡ start_of n r = c.start_of-start.ensures in
    let last : c.start_of-start.result + 2 * c.halfwords_of.result ≡ start_of n r + 2 * region_length n r = omega (arith, c.start_of-start.ensures, c.halfwords_of.ensures) in
    let others : (j : ℕ) → (j < start_of n r) ⊎ (start_of n r + 2 * region_length n r ≤ j) → slice_index c.fill.new.bytes j ≡ slice_index c.args.image.now j =
    λ j out. c.fill.ensures.others j (subst (λ (e : ℕ). (j < c.start_of-start.result) ⊎ (e ≤ j)) (sym last) (subst (λ (s : ℕ). (j < s) ⊎ (start_of n r + 2 * region_length n r ≤ j)) (sym place) out)) in
    record {
      words = erases n c.requires.known c.fill.new.bytes c.args.image.now r
          (λ j from to. c.fill.ensures.filled j (omega (arith, from, place)) (omega (arith, to, last))) others;
    }
