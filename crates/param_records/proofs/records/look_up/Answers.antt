use Rattle.std.proofs.Common.{◌+◌, [], ◌∷◌, ◌++◌, ℕ, List, drop, arith, sym, ◌∙◌, ap, subst}
use Rattle.std.proofs.lemmas.List.{length-drop}
use Rattle.storage_lines.specs.Areas.{logical_of}
use Rattle.storage_lines.specs.declared.areas.Area.TheVariants.{Param}
use Rattle.param_records.specs.Records.{Record, read_as, place_from}
use Rattle.param_records.proofs.RecordLemmas.{records_are, end_is}
use Rattle.param_records.proofs.PieceLemmas.{length-logical}
use Rattle.storage_lines.specs.Bytes.{IsBytes}
use Rattle.param_records.proofs.WalkLemmas.{Walk, place_found, place_over, logical_bytes, walk_more, walk_end}
use Rattle.param_records.proofs.records.look_up.Goals as goal

pub loop-header-smaller : goal.loop-header-smaller
loop-header-smaller c =
    let L = logical_of Param c.args.current.now in
    let fits = c.in-Some.ensures.fits in
    omega (arith, length-drop c.loop-header.at L, length-logical c.args.current.now)

pub loop-header-preserved : goal.loop-header-preserved
loop-header-preserved c =
    let L = logical_of Param c.args.current.now in
    let fits = c.in-Some.ensures.fits in
    let bytes : IsBytes L = logical_bytes c.args.current.now (λ i. omega (arith, c.type_inv.current i)) in
    let w = c.loop-header.invariant.walk in
    let size = c.size_of.ensures.size in
    let more = w.0 ++ read_as c.in-Some.header.kind (drop c.loop-header.at L) ∷ [] in
    record {
      inside = omega (arith, length-drop c.loop-header.at L, length-logical c.args.current.now);
      walk = (
        more,
        subst (λ (n : ℕ). Walk L more (c.loop-header.at + (4 + n))) (sym size)
            (walk_more L w.0 c.loop-header.at c.in-Some.header.key c.in-Some.header.element c.in-Some.header.kind bytes w.1 c.in-Some.ensures),
        place_over L w.0 c.loop-header.at c.in-Some.header.key c.in-Some.header.element c.args.key c.args.element c.in-Some.header.kind c.args.kind c.in-Some.ensures w.2 (sym c.is_match.ensures ∙ c.if-is_match.false),
      );
    }

pub returns : goal.returns
returns c =
    let L = logical_of Param c.args.current.now in
    let w = c.loop-header.invariant.walk in
    let has = walk_end L w.0 c.loop-header.at w.1 c.in_default.ensures in
    let all = records_are L w.0 c.loop-header.at has in
    (ap (λ (x : List Record). place_from 4 c.args.key c.args.element c.args.kind x) all ∙ w.2, sym (end_is L w.0 c.loop-header.at has))

pub returns-then-is_match : goal.returns-then-is_match
returns-then-is_match c =
    let L = logical_of Param c.args.current.now in
    let w = c.loop-header.invariant.walk in
    let bytes : IsBytes L = logical_bytes c.args.current.now (λ i. omega (arith, c.type_inv.current i)) in
    sym (place_found L w.0 c.loop-header.at c.in-Some.header.key c.in-Some.header.element c.args.key c.args.element c.in-Some.header.kind c.args.kind bytes w.1 c.in-Some.ensures w.2 (sym c.is_match.ensures ∙ c.if-is_match.true))
