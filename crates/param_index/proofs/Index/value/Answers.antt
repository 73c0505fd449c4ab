use Rattle.std.proofs.Common.{[], ◌∷◌, ◌≡◌, ◌<◌, ℕ, List, length, get_or, take, drop, arith, sym, ◌∙◌, ap, Option, Some, None}
use Rattle.param_index.proofs.PlaceLemmas.{kept_place}
use Rattle.std.specs.Option.{option_map_or}
use Rattle.std.proofs.lemmas.List.{length-take, get_or_append_left, get_or-take, get_or-drop}
use Rattle.storage_lines.specs.Areas.{logical_of}
use Rattle.storage_lines.specs.declared.areas.Area.TheVariants.{Param}
use Rattle.param_records.specs.Records.{records_of}
use Rattle.param_records.specs.Values.{value_from, value_of_number}
use Rattle.param_records.proofs.PieceLemmas.{length-logical}
use Rattle.storage_lines.specs.Bytes.{IsBytes}
use Rattle.param_records.proofs.WalkLemmas.{logical_bytes}
use Rattle.param_records.proofs.ValueLemmas.{found_at, found_byte, value_none, same_value, part_few}
use Rattle.param_index.proofs.Index.value.Goals as goal

pub read-requires-clause-inside : goal.read-requires-clause-inside
read-requires-clause-inside g c =
    let L = logical_of Param c.args.current.now in
    let bytes : IsBytes L = logical_bytes c.args.current.now (λ i. omega (arith, c.type_inv.current i)) in
    let f = found_at L c.row-row.result.key c.row-row.result.element c.row-row.result.kind c.in-Some.at bytes (kept_place c.args.table.now c.args.var c.row-row.result c.args.current.now c.args.self.now (Some c.in-Some.at) c.requires.index c.row-row.ensures.row c.in-Some.ensures) in
    let size = c.size_of-size.ensures.size in
    let few = c.size_of-size.ensures.most in
    omega (arith, f.fits, length-logical c.args.current.now, length-take {A = ℕ} c.size_of-size.result (0 ∷ 0 ∷ 0 ∷ 0 ∷ 0 ∷ 0 ∷ 0 ∷ 0 ∷ 0 ∷ 0 ∷ 0 ∷ 0 ∷ []))

pub returns-in-None : goal.returns-in-None
returns-in-None g c =
    let rs = records_of (logical_of Param c.args.current.now) in
    let row = c.row-row.result in
    rw c.row-row.ensures.row (c.default_value.ensures ∙ sym (ap (λ (o : Option (List ℕ)). option_map_or (value_from row.kind row.part) o (value_of_number row.kind row.default)) (value_none 4 row.key row.element row.kind rs (kept_place c.args.table.now c.args.var c.row-row.result c.args.current.now c.args.self.now None c.requires.index c.row-row.ensures.row c.in-None.ensures))))

pub returns-in-Some : goal.returns-in-Some
returns-in-Some g c =
    let L = logical_of Param c.args.current.now in
    let rs = records_of L in
    let row = c.row-row.result in
    let bytes : IsBytes L = logical_bytes c.args.current.now (λ i. omega (arith, c.type_inv.current i)) in
    let f = found_at L row.key row.element row.kind c.in-Some.at bytes (kept_place c.args.table.now c.args.var c.row-row.result c.args.current.now c.args.self.now (Some c.in-Some.at) c.requires.index c.row-row.ensures.row c.in-Some.ensures) in
    let few : row.part < 3 = part_few row c.row-row.ensures.fits in
    let same = ap (λ (o : Option (List ℕ)). option_map_or (value_from row.kind row.part) o (value_of_number row.kind row.default)) f.value in
    rw c.row-row.ensures.row (c.value_of.ensures ∙ same_value row.kind row.part _ f.first.one.value few (λ i h.
    let size = c.size_of-size.ensures.size in
    let most = c.size_of-size.ensures.most in
    let long : length c.read.new.into ≡ c.size_of-size.result = omega (arith, length-take {A = ℕ} c.size_of-size.result (0 ∷ 0 ∷ 0 ∷ 0 ∷ 0 ∷ 0 ∷ 0 ∷ 0 ∷ 0 ∷ 0 ∷ 0 ∷ 0 ∷ [])) in
    get_or_append_left c.read.new.into (drop {A = ℕ} c.size_of-size.result (0 ∷ 0 ∷ 0 ∷ 0 ∷ 0 ∷ 0 ∷ 0 ∷ 0 ∷ 0 ∷ 0 ∷ 0 ∷ 0 ∷ [])) 0 i (omega arith)
    ∙ ap (λ (l : List ℕ). get_or l i 0) c.read.ensures
    ∙ get_or-take (length (take {A = ℕ} c.size_of-size.result (0 ∷ 0 ∷ 0 ∷ 0 ∷ 0 ∷ 0 ∷ 0 ∷ 0 ∷ 0 ∷ 0 ∷ 0 ∷ 0 ∷ []))) (drop c.in-Some.at L) i 0 (omega (arith, length-take {A = ℕ} c.size_of-size.result (0 ∷ 0 ∷ 0 ∷ 0 ∷ 0 ∷ 0 ∷ 0 ∷ 0 ∷ 0 ∷ 0 ∷ 0 ∷ 0 ∷ [])))
    ∙ get_or-drop c.in-Some.at L i 0
    ∙ found_byte L row.key row.element row.kind c.in-Some.at f i h) ∙ sym same)
