use Rattle.std.proofs.Common.{◌≡◌, ◌+◌, ◌*◌, ◌++◌, ℕ, List, length, take, true, false, refl, sym, ◌∙◌, ap, arith, Some, None}
use Rattle.std.proofs.lemmas.List.{length-take, append-nil}
use Rattle.storage_lines.specs.declared.areas.Area.TheVariants.{Param}
use Rattle.storage_lines.specs.declared.lines.LineWrite.{LineWrite}
use Rattle.storage_lines.specs.Areas.{logical_of}
use Rattle.storage_lines.specs.Lines.{after}
use Rattle.storage_lines.specs.Pieces.{writes_of_piece, Piece, writes_of}
use Rattle.param_records.specs.Records.{Record, spelling, records_of}
use Rattle.param_records.specs.Changes.{part_size, piece, appending, part_bytes, fresh, fresh_bytes}
use Rattle.param_records.proofs.PieceLemmas.{length-logical}
use Rattle.param_records.proofs.AppendLemmas.{no_more}
use Rattle.storage_lines.specs.Bytes.{IsBytes}
use Rattle.param_records.proofs.WalkLemmas.{logical_bytes}
use Rattle.param_records.proofs.ValueLemmas.{found_at}
use Rattle.param_records.proofs.StoreLemmas.{row_is, stands, set_at, set_default, set_fresh, full_from, full_parts, place_found, none_found}
use Rattle.param_records.proofs.setting.write.Goals as goal

clash : false ≡ true → ⊥
clash e = cc

other : (n : ℕ) → Some n ≡ None → ⊥
other n e = cc

pub put-requires-clause-inside : goal.put-requires-clause-inside
put-requires-clause-inside g c =
    let L = logical_of Param c.args.current.now in
    let row = c.row-row.result in
    let bytes : IsBytes L = logical_bytes c.args.current.now (λ i. omega (arith, c.type_inv.current i)) in
    let f = found_at L row.key row.element row.kind c.in-At.at bytes ((place_found c.args.current.now c.args.table.now c.args.var c.row-row.result c.args.lookup c.in-At.at c.row-row.ensures.row c.requires.lookup c.in-At.is)) in
    let fits = row_is row c.row-row.ensures.fits in
    let part = fits.part in
    let size = c.part_size.ensures.size in
    omega (arith, f.fits, length-logical c.args.current.now, length-take {A = ℕ} c.part_size.result c.four_bytes-bytes.result)

pub returns-then-number-row-clause-ok : goal.returns-then-number-row-clause-ok
returns-then-number-row-clause-ok g c =
    let B = after c.args.current.now c.args.batch.now.items in
    let row = c.row-row.result in
    let none = stands c.args.table.now c.args.current.now B c.args.var row c.requires.stand c.row-row.ensures.row ∙ (none_found c.args.current.now c.args.table.now c.args.var c.row-row.result c.args.lookup c.in-End.end c.row-row.ensures.row c.requires.lookup c.in-End.is).0 in
    rw c.row-row.ensures.row (sym (ap (λ (q : List Piece). c.args.batch.now.items ++ writes_of B q) (set_default c.args.table.now (records_of (logical_of Param B)) row c.args.number none c.if-number-row.true) ∙ append-nil c.args.batch.now.items))

pub returns-then-end-size-gt-PARAM_BYTES-clause-full : goal.returns-then-end-size-gt-PARAM_BYTES-clause-full
returns-then-end-size-gt-PARAM_BYTES-clause-full g c =
    let B = after c.args.current.now c.args.batch.now.items in
    let row = c.row-row.result in
    let none = stands c.args.table.now c.args.current.now B c.args.var row c.requires.stand c.row-row.ensures.row ∙ (none_found c.args.current.now c.args.table.now c.args.var c.row-row.result c.args.lookup c.in-End.end c.row-row.ensures.row c.requires.lookup c.in-End.is).0 in
    let size = c.size_of-size.ensures.size in
    let end = (none_found c.args.current.now c.args.table.now c.args.var c.row-row.result c.args.lookup c.in-End.end c.row-row.ensures.row c.requires.lookup c.in-End.is).1 in
    let same = c.requires.stand.end in
    rw c.row-row.ensures.row (λ e. full_from (records_of (logical_of Param B)) row c.args.number none c.if-number-row.false (omega arith), λ f. refl)

pub returns-in-At-clause-ok : goal.returns-in-At-clause-ok
returns-in-At-clause-ok g c =
    let B = after c.args.current.now c.args.batch.now.items in
    let row = c.row-row.result in
    let at = stands c.args.table.now c.args.current.now B c.args.var row c.requires.stand c.row-row.ensures.row ∙ (place_found c.args.current.now c.args.table.now c.args.var c.row-row.result c.args.lookup c.in-At.at c.row-row.ensures.row c.requires.lookup c.in-At.is) in
    let bytes : take c.part_size.result c.four_bytes-bytes.result ≡ part_bytes row.kind c.args.number =
    ap (λ (n : ℕ). take n c.four_bytes-bytes.result) c.part_size.ensures.size ∙ ap (λ (l : List ℕ). take (part_size row.kind) l) c.four_bytes-bytes.ensures in
    rw c.row-row.ensures.row (c.put.ensures.items
    ∙ ap (λ (l : List ℕ). c.args.batch.now.items ++ writes_of_piece Param (c.in-At.at + 4 * row.part) l B) bytes
    ∙ ap (λ (l : List LineWrite). c.args.batch.now.items ++ l) (sym (no_more B (piece (c.in-At.at + 4 * row.part) (part_bytes row.kind c.args.number))))
    ∙ ap (λ (q : List Piece). c.args.batch.now.items ++ writes_of B q) (sym (set_at c.args.table.now (records_of (logical_of Param B)) row c.args.number c.in-At.at at)))

pub returns-in-At-clause-full : goal.returns-in-At-clause-full
returns-in-At-clause-full g c =
    let B = after c.args.current.now c.args.batch.now.items in
    let row = c.row-row.result in
    let at = stands c.args.table.now c.args.current.now B c.args.var row c.requires.stand c.row-row.ensures.row ∙ (place_found c.args.current.now c.args.table.now c.args.var c.row-row.result c.args.lookup c.in-At.at c.row-row.ensures.row c.requires.lookup c.in-At.is) in
    rw c.row-row.ensures.row (λ e. absurd (clash e), λ f. absurd (other c.in-At.at (sym at ∙ (full_parts (records_of (logical_of Param B)) row c.args.number f).none)))

pub returns-else-end-size-gt-PARAM_BYTES-clause-ok : goal.returns-else-end-size-gt-PARAM_BYTES-clause-ok
returns-else-end-size-gt-PARAM_BYTES-clause-ok g c =
    let B = after c.args.current.now c.args.batch.now.items in
    let R = records_of (logical_of Param B) in
    let row = c.row-row.result in
    let none = stands c.args.table.now c.args.current.now B c.args.var row c.requires.stand c.row-row.ensures.row ∙ (none_found c.args.current.now c.args.table.now c.args.var c.row-row.result c.args.lookup c.in-End.end c.row-row.ensures.row c.requires.lookup c.in-End.is).0 in
    let end : c.in-End.end ≡ 4 + length (spelling R) = (none_found c.args.current.now c.args.table.now c.args.var c.row-row.result c.args.lookup c.in-End.end c.row-row.ensures.row c.requires.lookup c.in-End.is).1 ∙ sym c.requires.stand.end in
    let value : take c.size_of-size.result c.fresh_value-value.result ≡ fresh_bytes row.kind c.args.table.now row c.args.number = ap (λ (n : ℕ). take n c.fresh_value-value.result) c.size_of-size.ensures.size ∙ c.fresh_value-value.ensures in
    let with : List ℕ → Record = λ v. record { key = row.key; element = row.element; kind = row.kind; value = v } in
    rw c.row-row.ensures.row (c.append.ensures.items
    ∙ ap (λ (v : List ℕ). c.args.batch.now.items ++ writes_of B (appending c.in-End.end (with v))) value
    ∙ ap (λ (n : ℕ). c.args.batch.now.items ++ writes_of B (appending n (fresh c.args.table.now row c.args.number))) end
    ∙ ap (λ (q : List Piece). c.args.batch.now.items ++ writes_of B q) (sym (set_fresh c.args.table.now R row c.args.number none c.if-number-row.false)))

pub returns-else-end-size-gt-PARAM_BYTES-clause-full : goal.returns-else-end-size-gt-PARAM_BYTES-clause-full
returns-else-end-size-gt-PARAM_BYTES-clause-full g c =
    let B = after c.args.current.now c.args.batch.now.items in
    let row = c.row-row.result in
    let size = c.size_of-size.ensures.size in
    let end = (none_found c.args.current.now c.args.table.now c.args.var row c.args.lookup c.in-End.end c.row-row.ensures.row c.requires.lookup c.in-End.is).1 in
    let same = c.requires.stand.end in
    rw c.row-row.ensures.row (λ e. absurd (clash e), λ f. absurd (let beyond = (full_parts (records_of (logical_of Param B)) row c.args.number f).beyond in omega arith))
