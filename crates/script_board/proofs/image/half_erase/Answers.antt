use Rattle.std.proofs.Common.{◌≡◌, ℕ, ◌+◌, ◌*◌, refl, sym, subst, arith}
use Rattle.flash_traits.specs.Words.{region_length}
use Rattle.script_board.specs.Image.{start_of}
use Rattle.script_board.proofs.Odd.{OddErased, begun, more, finished}
use Rattle.script_board.proofs.image.half_erase.Goals as goal

pub loop-at-init : goal.loop-at-init
loop-at-init c =
    let n = c.args.sector_bytes in
    let r = c.args.region in
    let place : start_of n r ≡ c.start_of-start.result = sym c.start_of-start.ensures in
    let last : start_of n r + 2 * region_length n r ≡ c.start_of-start.result + 2 * c.halfwords_of.result = omega (arith, c.start_of-start.ensures, c.halfwords_of.ensures) in
    record {
      size = refl;
      odd = subst (λ (e : ℕ). OddErased c.args.image.now c.args.image.now c.start_of-start.result c.start_of-start.result e) last
          (subst (λ (s : ℕ). OddErased c.args.image.now c.args.image.now s s (start_of n r + 2 * region_length n r)) place (begun n r c.args.image.now c.requires.known));
    }

pub loop-at-preserved : goal.loop-at-preserved
loop-at-preserved c = record {
  size = omega (arith, c.loop-at.invariant.size);
  odd = more c.args.image.now c.loop-at.image c.put.new.bytes c.start_of-start.result c.loop-at.at _ c.loop-at.invariant.odd (omega arith)
      c.put.ensures.low c.put.ensures.high c.put.ensures.others;
}

pub returns : goal.returns
returns c =
    let n = c.args.sector_bytes in
    let r = c.args.region in
    let place : c.start_of-start.result ≡ start_of n r = c.start_of-start.ensures in
    let last : c.start_of-start.result + 2 * c.halfwords_of.result ≡ start_of n r + 2 * region_length n r = omega (arith, c.start_of-start.ensures, c.halfwords_of.ensures) in
    record {
      words = finished n r c.args.image.now c.loop-at.image c.loop-at.at c.requires.known
          (subst (λ (e : ℕ). OddErased c.args.image.now c.loop-at.image (start_of n r) c.loop-at.at e) last
          (subst (λ (s : ℕ). OddErased c.args.image.now c.loop-at.image s c.loop-at.at (c.start_of-start.result + 2 * c.halfwords_of.result)) place c.loop-at.invariant.odd))
          (omega (arith, last));
    }
