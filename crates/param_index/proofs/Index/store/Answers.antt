use Rattle.std.proofs.Common.{◌≡◌, ℕ, List, length, drop, true, false, subst, sym, refl, arith}
use Rattle.std.specs.Prelude.{IsTrue, ◌↔◌, slice_get}
use Rattle.storage_lines.specs.declared.lines.LineWrite.{LineWrite}
use Rattle.storage_lines.specs.declared.areas.Area.TheVariants.{Param}
use Rattle.storage_lines.specs.Bytes.{IsBytes}
use Rattle.storage_lines.specs.Lines.{after}
use Rattle.storage_lines.proofs.ByteLemmas.{bytes_in_area}
use Rattle.param_records.specs.declared.records.Header.{Header}
use Rattle.param_records.specs.Steps.{HasMagic, place_of_row}
use Rattle.param_records.proofs.SetLemmas.{is_some}
use Rattle.param_index.specs.Places.{IsIndexOf}
use Rattle.param_index.proofs.SetLemmas.{still, after_writes, last_lines, appended, kept_by, fits, new_is}
use Rattle.param_index.proofs.Index.store.Goals as goal

pub add-requires : goal.add-requires
add-requires g c =
    let rows = c.args.table.now in
    let current = c.args.current.now in
    let row = c.row-row.result in
    let is = c.row-row.ensures.row in
    let B = after current c.args.batch.now.items in
    let magic = subst (λ (l : List LineWrite). IsTrue c.has_magic_after-magic.result ↔ HasMagic (after current l)) c.as_slice.ensures.value c.has_magic_after-magic.ensures.magic in
    let new = (new_is rows c.args.var c.args.number row current B c.args.self.now c.has_magic_after-magic.result c.is_new-is_new.result is c.requires.index c.requires.stand magic c.is_new-is_new.ensures).0 c.if-is_new.true in
    let few = c.rules.ensures.rules.few in
    let len = c.rules.ensures.len in
    let room = fits rows c.args.var c.args.number row B _ (λ e. cc) is c.in_ok-store.ensures.full new.1 new.2 in
    (omega arith, (omega arith, omega (arith, room, c.requires.index.end, c.requires.stand.end)))

pub returns-then-is_new-clause-index : goal.returns-then-is_new-clause-index
returns-then-is_new-clause-index g c =
    let rows = c.args.table.now in
    let current = c.args.current.now in
    let row = c.row-row.result in
    let is = c.row-row.ensures.row in
    let old = c.args.batch.now.items in
    let all = c.store.new.batch.items in
    let B = after current old in
    let magic = subst (λ (l : List LineWrite). IsTrue c.has_magic_after-magic.result ↔ HasMagic (after current l)) c.as_slice.ensures.value c.has_magic_after-magic.ensures.magic in
    let bytes : IsBytes B = subst (λ (l : List LineWrite). IsBytes (after current l)) c.as_slice.ensures.value c.has_magic_after-magic.ensures.bytes in
    let new = (new_is rows c.args.var c.args.number row current B c.args.self.now c.has_magic_after-magic.result c.is_new-is_new.result is c.requires.index c.requires.stand magic c.is_new-is_new.ensures).0 c.if-is_new.true in
    let lines = is_some (slice_get rows c.args.var) _ row is c.in_ok-store.ensures.ok in
    let sets = is_some (slice_get rows c.args.var) _ row is (c.in_ok-store.ensures.steps (bytes_in_area Param B bytes)) (is_some (slice_get rows c.args.var) _ row is c.requires.kept) in
    let header : Header = record { key = row.key; element = row.element; kind = row.kind } in
    subst (λ (b : List ℕ). IsIndexOf rows b c.add.new.self) (sym (after_writes current old all _ lines))
    (appended rows c.args.var c.args.number row B (drop (length old) all) header c.args.self.now c.add.new.self sets new.0 new.1 new.2 refl refl refl c.add.ensures.index (still rows current B c.args.self.now c.requires.stand c.requires.index))

pub returns-else-is_new-clause-index : goal.returns-else-is_new-clause-index
returns-else-is_new-clause-index g c =
    let rows = c.args.table.now in
    let current = c.args.current.now in
    let row = c.row-row.result in
    let is = c.row-row.ensures.row in
    let old = c.args.batch.now.items in
    let all = c.store.new.batch.items in
    let B = after current old in
    let magic = subst (λ (l : List LineWrite). IsTrue c.has_magic_after-magic.result ↔ HasMagic (after current l)) c.as_slice.ensures.value c.has_magic_after-magic.ensures.magic in
    let bytes : IsBytes B = subst (λ (l : List LineWrite). IsBytes (after current l)) c.as_slice.ensures.value c.has_magic_after-magic.ensures.bytes in
    let new = (new_is rows c.args.var c.args.number row current B c.args.self.now c.has_magic_after-magic.result c.is_new-is_new.result is c.requires.index c.requires.stand magic c.is_new-is_new.ensures).1 in
    let lines = is_some (slice_get rows c.args.var) _ row is c.in_ok-store.ensures.ok in
    let sets = is_some (slice_get rows c.args.var) _ row is (c.in_ok-store.ensures.steps (bytes_in_area Param B bytes)) (is_some (slice_get rows c.args.var) _ row is c.requires.kept) in
    subst (λ (b : List ℕ). IsIndexOf rows b c.args.self.now) (sym (after_writes current old all _ lines))
    (kept_by rows c.args.var c.args.number row B (drop (length old) all) c.args.self.now (place_of_row B row) refl sets (last_lines B old all _ lines)
    (λ n. let is-new : c.is_new-is_new.result ≡ true = new n in let not-new : c.is_new-is_new.result ≡ false = c.if-is_new.false in cc)
    (still rows current B c.args.self.now c.requires.stand c.requires.index))
