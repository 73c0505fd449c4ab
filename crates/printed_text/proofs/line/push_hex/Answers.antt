use Rattle.std.proofs.Common.{◌≡◌, length, sym, arith}
use Rattle.std.proofs.lemmas.List.{append-nil}
use Rattle.hex.specs.Hex.{encode_with}
use Rattle.printed_text.proofs.Upper.{pushed_byte, pushed_length}
use Rattle.printed_text.proofs.line.push_hex.Goals as goal

pub loop-byte-init : goal.loop-byte-init
unfolding encode_with
loop-byte-init c = sym (append-nil c.args.line.now.items)

pub push-requires : goal.push-requires
push-requires c =
    omega (arith, pushed_length c.args.line.now.items c.loop-byte.line.items c.args.bytes.now c.loop-byte.byte-index (omega arith) c.loop-byte.invariant)

pub loop-byte-preserved : goal.loop-byte-preserved
loop-byte-preserved c =
    pushed_byte c.args.line.now.items c.loop-byte.line.items c.push.new.line.items c.args.bytes.now c.encode_to_slice.new.output c.loop-byte.byte-index _ _
    c.loop-byte-test.true (c.type_inv.bytes c.loop-byte.byte-index).fits c.loop-byte.invariant c.in-Ok.ensures.written
    c.to_ascii_uppercase.ensures.value c.to_ascii_uppercase-in-loop-byte.ensures.value c.push.ensures

pub returns-clause-len : goal.returns-clause-len
returns-clause-len c =
    let all : c.loop-byte.byte-index ≡ length c.args.bytes.now = omega arith in
    omega (arith, all, pushed_length c.args.line.now.items c.loop-byte.line.items c.args.bytes.now c.loop-byte.byte-index c.loop-byte.auto.byte-index-end c.loop-byte.invariant)
