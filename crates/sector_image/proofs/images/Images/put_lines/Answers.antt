use Rattle.std.proofs.Common.{ℕ, ◌*◌, List, ◌∙◌, ap, arith}
use Rattle.flash_traits.specs.Values.{put}
use Rattle.sector_image.proofs.CoverageLemmas.{all_written, put_compared}
use Rattle.sector_image.proofs.images.Images.put_lines.Goals as goal

pub invariant_of-self : goal.invariant_of-self
invariant_of-self c =
    put_compared c.self.inside.whole.items c.self.inside.upper.items c.self.inside.coverage c.compare.new.self (8 * c.args.first) c.args.bytes.now _ _ _ _ c.self.invariant c.requires (omega arith) (omega arith)
    (all_written c.self.inside.whole.len c.put_lines.new.into c.self.inside.whole.items (omega arith) ∙ c.put_lines.ensures
    ∙ ap (λ (w : List ℕ). put (8 * c.args.first) c.args.bytes.now w) c.deref_mut.ensures.value)
    (all_written c.self.inside.upper.len c.put_lines-2.new.into c.self.inside.upper.items (omega arith) ∙ c.put_lines-2.ensures
    ∙ ap (λ (u : List ℕ). put (8 * c.args.first) c.args.bytes.now u) c.deref_mut-2.ensures.value)
    (record {
      inside = rw (← c.deref.ensures.value, ← c.deref-2.ensures.value) c.compare.ensures.inside;
      outside = c.compare.ensures.outside;
    })
