use Rattle.std.proofs.Common.{◌+◌, [], ◌∷◌, ◌++◌, ℕ, drop, arith, sym, subst}
use Rattle.std.proofs.lemmas.List.{length-drop}
use Rattle.storage_lines.specs.Areas.{logical_of}
use Rattle.storage_lines.specs.declared.areas.Area.TheVariants.{Param}
use Rattle.param_records.specs.Records.{read_as}
use Rattle.param_records.proofs.RecordLemmas.{end_is}
use Rattle.param_records.proofs.PieceLemmas.{length-logical}
use Rattle.storage_lines.specs.Bytes.{IsBytes}
use Rattle.param_records.proofs.WalkLemmas.{Walk, logical_bytes, walk_more, walk_end}
use Rattle.param_records.proofs.records.end_place.Goals as goal

pub loop-header-smaller : goal.loop-header-smaller
loop-header-smaller c =
    let L = logical_of Param c.args.current.now in
    let fits = c.in-Some.ensures.fits in
    omega (arith, length-drop c.loop-header.at L, length-logical c.args.current.now)

pub loop-header-preserved : goal.loop-header-preserved
loop-header-preserved c =
    let L = logical_of Param c.args.current.now in
    let fits = c.in-Some.ensures.fits in
    let bytes : IsBytes L = logical_bytes c.args.current.now (λ i. omega (arith, c.type_inv.current i)) in
    let w = c.loop-header.invariant.walk in
    let size = c.size_of.ensures.size in
    record {
      inside = omega (arith, length-drop c.loop-header.at L, length-logical c.args.current.now);
      walk = (
        w.0 ++ read_as c.in-Some.header.kind (drop c.loop-header.at L) ∷ [],
        subst (λ (n : ℕ). Walk L (w.0 ++ read_as c.in-Some.header.kind (drop c.loop-header.at L) ∷ []) (c.loop-header.at + (4 + n))) (sym size)
            (walk_more L w.0 c.loop-header.at c.in-Some.header.key c.in-Some.header.element c.in-Some.header.kind bytes w.1 c.in-Some.ensures),
      );
    }

pub returns : goal.returns
returns c =
    let L = logical_of Param c.args.current.now in
    let w = c.loop-header.invariant.walk in
    sym (end_is L w.0 c.loop-header.at (walk_end L w.0 c.loop-header.at w.1 c.in_default.ensures))
