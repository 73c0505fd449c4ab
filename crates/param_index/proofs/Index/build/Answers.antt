use Rattle.std.proofs.Common.{◌≡◌, ◌+◌, [], ◌∷◌, ◌++◌, ℕ, drop, ap, subst, sym, refl, arith}
use Rattle.std.proofs.lemmas.List.{length-drop, get_or-drop}
use Rattle.storage_lines.specs.Areas.{logical_of}
use Rattle.storage_lines.specs.declared.areas.Area.TheVariants.{Param}
use Rattle.storage_lines.specs.Bytes.{IsBytes}
use Rattle.param_records.specs.Records.{size_of, read_as, Begins, IsEnd}
use Rattle.param_records.proofs.PieceLemmas.{length-logical}
use Rattle.param_records.proofs.RecordLemmas.{records_are}
use Rattle.param_records.proofs.WalkLemmas.{Walk, logical_bytes, begins_back, walk_more, walk_end}
use Rattle.param_index.specs.Places.{Places}
use Rattle.param_index.specs.Inside.{HasHeader}
use Rattle.param_index.proofs.SetLemmas.{of_bytes}
use Rattle.param_index.proofs.Index.build.Goals as goal

pub add-requires : goal.add-requires
add-requires g c =
    let L = logical_of Param c.args.current.now in
    let few = c.rules.ensures.rules.few in
    let len = c.rules.ensures.len in
    let fits = c.in-Some.ensures.fits in
    let end = ap (λ (p : Places). p.end) c.index.view_is in
    (omega arith, (omega arith, omega (arith, end, length-drop c.index.inside.end L, length-logical c.args.current.now)))

pub loop-header-smaller : goal.loop-header-smaller
loop-header-smaller g c =
    let L = logical_of Param c.args.current.now in
    let fits = c.in-Some.ensures.fits in
    let end = ap (λ (p : Places). p.end) c.index.view_is in
    omega (arith, end, c.add.ensures.end, length-drop c.index.inside.end L, length-logical c.args.current.now)

pub loop-header-preserved : goal.loop-header-preserved
loop-header-preserved g c =
    let L = logical_of Param c.args.current.now in
    let at = c.loop-header.index.end in
    let header = c.in-Some.header in
    let end = ap (λ (p : Places). p.end) c.index.view_is in
    let begins : Begins header.key header.element header.kind (drop at L) = subst (λ (n : ℕ). Begins header.key header.element header.kind (drop n L)) end c.in-Some.ensures in
    let fits = begins.fits in
    let bytes : IsBytes L = logical_bytes c.args.current.now (λ i. omega (arith, c.type_inv.current i)) in
    let w = c.loop-header.invariant.walk in
    let r = read_as header.kind (drop at L) in
    let one = (begins_back header.kind (drop at L) (λ i. omega (arith, get_or-drop at L i 0, bytes (at + i))) begins.type begins.fits).0 in
    let has : HasHeader header r = record { key = sym begins.key; element = sym begins.element; kind = refl; value = one.value } in
    let next : at + (4 + size_of header.kind) ≡ c.add.new.self.end = omega (arith, c.add.ensures.end) in
    record {
      inside = omega (arith, c.add.ensures.end, length-drop at L, length-logical c.args.current.now);
      walk = (
        w.0 ++ r ∷ [],
        subst (λ (n : ℕ). Walk L (w.0 ++ r ∷ []) n) next (walk_more L w.0 at header.key header.element header.kind bytes w.1 begins),
        c.add.ensures.index w.0 r w.2 has,
      );
    }

pub returns-in_default : goal.returns-in_default
returns-in_default g c =
    let L = logical_of Param c.args.current.now in
    let w = c.loop-header.invariant.walk in
    let end = ap (λ (p : Places). p.end) c.index.view_is in
    let has = walk_end L w.0 c.loop-header.index.end w.1 (subst (λ (n : ℕ). IsEnd (drop n L)) end c.in_default.ensures) in
    of_bytes c.args.table.now c.args.current.now w.0 c.loop-header.index (records_are L w.0 c.loop-header.index.end has) w.2
