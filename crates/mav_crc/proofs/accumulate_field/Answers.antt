use Rattle.std.proofs.Common.{ℕ, List, [], ◌∷◌, ◌==◌, cond, ◌∙◌, sym, ap, ne_eqb, arith}
use Rattle.mav_crc.specs.Register.{register_after, crc_of}
use Rattle.mav_crc.proofs.Pieces.{field_step, crc_of-nil, crc_of-cons}
use Rattle.mav_crc.proofs.ByteLists.{all_field}
use Rattle.mav_crc.proofs.accumulate_field.Goals as goal

pub returns-then-field-eq0-clause-after : goal.returns-then-field-eq0-clause-after
returns-then-field-eq0-clause-after c =
    let f = c.args.field.now in
    let r = c.accumulate_text-name.result in
    let last : List ℕ = cond (f.array == 0) [] (f.array ∷ []) in
    let none = ap (λ a. let l : List ℕ = cond (a == 0) [] (a ∷ []) in l) c.if-field-eq0.true in
    sym (field_step c.args.register c.accumulate_text-kind.result r f.kind.now f.name.now last c.accumulate_text-kind.ensures.after c.accumulate_text-name.ensures.after ∙ ap (crc_of r) none ∙ crc_of-nil r)

pub returns-then-field-eq0-clause-bytes : goal.returns-then-field-eq0-clause-bytes
returns-then-field-eq0-clause-bytes c =
    let f = c.args.field.now in
    all_field f.kind.now f.name.now f.array c.accumulate_text-kind.ensures.bytes c.accumulate_text-name.ensures.bytes (let z = c.if-field-eq0.true in omega arith)

pub returns-else-field-eq0-clause-after : goal.returns-else-field-eq0-clause-after
returns-else-field-eq0-clause-after c =
    let f = c.args.field.now in
    let r = c.accumulate_text-name.result in
    let last : List ℕ = cond (f.array == 0) [] (f.array ∷ []) in
    let some = ap (λ b. let l : List ℕ = cond b [] (f.array ∷ []) in l) (ne_eqb f.array 0 c.if-field-eq0.false) in
    sym (field_step c.args.register c.accumulate_text-kind.result r f.kind.now f.name.now last c.accumulate_text-kind.ensures.after c.accumulate_text-name.ensures.after ∙ ap (crc_of r) some ∙ crc_of-cons r f.array [] ∙ crc_of-nil (register_after r f.array) ∙ sym c.accumulate.ensures)

pub returns-else-field-eq0-clause-bytes : goal.returns-else-field-eq0-clause-bytes
returns-else-field-eq0-clause-bytes c =
    let f = c.args.field.now in
    all_field f.kind.now f.name.now f.array c.accumulate_text-kind.ensures.bytes c.accumulate_text-name.ensures.bytes (omega arith)
