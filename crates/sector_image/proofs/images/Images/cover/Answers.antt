use Rattle.std.proofs.Common.{ℕ, ◌*◌, List, ◌∙◌, ap, arith}
use Rattle.flash_traits.specs.Values.{put}
use Rattle.sector_image.specs.Room.{chunk_at}
use Rattle.sector_image.proofs.CoverageLemmas.{all_written, cover_compared}
use Rattle.sector_image.proofs.images.Images.cover.Goals as goal

pub invariant_of-self : goal.invariant_of-self
invariant_of-self c =
    cover_compared c.self.inside.whole.items c.self.inside.upper.items c.self.inside.coverage c.mark.new.self c.args.chunk _ c.self.invariant c.requires
    (all_written c.self.inside.upper.len c.cover.new.upper c.self.inside.upper.items (omega arith) ∙ c.cover.ensures
    ∙ ap (λ (w : List ℕ). put (64 * c.args.chunk) (chunk_at w c.args.chunk) c.deref_mut.result.now) c.deref.ensures.value
    ∙ ap (λ (u : List ℕ). put (64 * c.args.chunk) (chunk_at c.self.inside.whole.items c.args.chunk) u) c.deref_mut.ensures.value)
    c.mark.ensures.here c.mark.ensures.others
