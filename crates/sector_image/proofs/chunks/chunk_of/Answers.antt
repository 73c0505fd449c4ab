use Rattle.std.proofs.Common.{ℕ, ◌<◌, List, sym, subst, arith, get_or}
use Rattle.sector_image.proofs.ChunkLemmas.{chunk_slice, chunk_small}
use Rattle.sector_image.proofs.chunks.chunk_of.Goals as goal

pub returns-clause-chunk : goal.returns-clause-chunk
returns-clause-chunk c = chunk_slice c.args.chunk c.args.bytes.now

pub returns-clause-small : goal.returns-clause-small
returns-clause-small c = λ k. subst (λ (l : List ℕ). get_or l k 0 < 256) (sym (chunk_slice c.args.chunk c.args.bytes.now))
    (chunk_small c.args.bytes.now c.args.chunk k (λ j. omega (arith, c.type_inv.bytes j)))
