use Rattle.std.proofs.Common.{ℕ, [], ◌∙◌, sym, ap, subst, arith, All}
use Rattle.std.proofs.lemmas.List.{take_all}
use Rattle.std.proofs.lemmas.List.Elements.{All-nil}
use Rattle.mav_crc.specs.declared.Field.{Field}
use Rattle.mav_crc.specs.Register.{register_after, crc_of}
use Rattle.mav_crc.specs.Extra.{fields_bytes}
use Rattle.mav_crc.proofs.Pieces.{crc_of-nil, crc_of-piece, one_more}
use Rattle.mav_crc.proofs.ByteLists.{IsByte, text_bytes, all_more}
use Rattle.mav_crc.proofs.description_crc.Goals as goal

-- stands past the fields' end
abbrev none : Field
none = record { kind = record { ref_ptr = (0, 0); now = [] }; name = record { ref_ptr = (0, 0); now = [] }; array = 0 }

pub loop-field-init : goal.loop-field-init
loop-field-init c = record {
  after = c.accumulate_text-register.ensures.after ∙ sym (crc_of-nil (register_after (crc_of 65535 c.args.description.now.name.now) 32));
  bytes = All-nil IsByte;
}

pub loop-field-preserved : goal.loop-field-preserved
loop-field-preserved c = record {
  after = one_more (register_after (crc_of 65535 c.args.description.now.name.now) 32) c.loop-field.register c.accumulate_field-register.result c.loop-field.field-index c.args.description.now.fields.now none
      c.loop-field-test.true c.loop-field.invariant.after c.accumulate_field-register.ensures.after;
  bytes = all_more c.loop-field.field-index c.args.description.now.fields.now none c.loop-field-test.true c.loop-field.invariant.bytes c.accumulate_field-register.ensures.bytes;
}

pub returns-clause-after : goal.returns-clause-after
returns-clause-after c =
    let d = c.args.description.now in
    let r : ℕ = register_after (crc_of 65535 d.name.now) 32 in
    c.loop-field.invariant.after
    ∙ ap (λ fs. crc_of r (fields_bytes fs)) (take_all c.loop-field.field-index d.fields.now (omega arith))
    ∙ sym (crc_of-piece 65535 32 d.name.now (fields_bytes d.fields.now))

pub returns-clause-bytes : goal.returns-clause-bytes
returns-clause-bytes c =
    let d = c.args.description.now in
    text_bytes d.name.now (fields_bytes d.fields.now) c.accumulate_text-register.ensures.bytes
    (subst (λ fs. All IsByte (fields_bytes fs)) (take_all c.loop-field.field-index d.fields.now (omega arith)) c.loop-field.invariant.bytes)
