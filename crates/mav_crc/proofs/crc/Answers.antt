use Rattle.std.proofs.Common.{ℕ, List, ◌≡◌, ◌<◌, ◌+◌, ◌-◌, ◌*◌, ◌^◌, ◌∙◌, sym, ap, subst, arith, length, get_or}
use Rattle.std.proofs.lemmas.List.{take_all}
use Rattle.mav_crc.specs.Division.{IsCrc}
use Rattle.mav_crc.specs.Register.{register_after, crc_of}
use Rattle.mav_crc.proofs.Bytes.{crc_divides}
use Rattle.mav_crc.proofs.ByteLists.{bytes_of}
use Rattle.mav_crc.proofs.Pieces.{byte_more, pair_more, crc_of-nil}
use Rattle.mav_crc.proofs.crc.Goals as goal

-- the register after all bytes divides them
divides : (start r : ℕ) (bytes : List ℕ) → start < 2 ^ 16 → ((k : ℕ) → get_or bytes k 0 < 256) → r ≡ crc_of start bytes → IsCrc start bytes r
divides start r bytes h f e = subst (IsCrc start bytes) (sym e) (crc_divides start bytes h (bytes_of bytes f))

pub loop-i-init : goal.loop-i-init
loop-i-init c = sym (crc_of-nil c.args.start)

pub loop-i-preserved : goal.loop-i-preserved
loop-i-preserved c =
    c.accumulate_pair-register.ensures
    ∙ pair_more c.args.start c.loop-i.register c.loop-i.i c.args.bytes.now
    (let less = c.loop-i-test.true in omega arith) c.loop-i.invariant

-- where a last byte is left over
pub returns-then-bytes-eq1-clause-chained : goal.returns-then-bytes-eq1-clause-chained
returns-then-bytes-eq1-clause-chained c =
    let bs = c.args.bytes.now in
    let i = c.loop-i.i in
    let done = c.loop-i-test.false in
    let within = c.loop-i.auto.i-end in
    let odd = c.if-bytes-eq1.true in
    let last : length bs - 1 ≡ 2 * i = omega arith in
    c.accumulate.ensures
    ∙ ap (λ k. register_after c.loop-i.register (get_or bs k 0)) last
    ∙ ap (λ v. register_after v (get_or bs (2 * i) 0)) c.loop-i.invariant
    ∙ sym (byte_more c.args.start (2 * i) bs (omega arith))
    ∙ ap (crc_of c.args.start) (take_all (2 * i + 1) bs (omega arith))

pub returns-else-bytes-eq1-clause-chained : goal.returns-else-bytes-eq1-clause-chained
returns-else-bytes-eq1-clause-chained c =
    let done = c.loop-i-test.false in
    let odd = c.if-bytes-eq1.false in
    c.loop-i.invariant ∙ ap (crc_of c.args.start) (take_all (2 * c.loop-i.i) c.args.bytes.now (omega arith))

pub returns-then-bytes-eq1-clause-divided : goal.returns-then-bytes-eq1-clause-divided
returns-then-bytes-eq1-clause-divided c =
    divides c.args.start c.accumulate.result c.args.bytes.now c.ranges.start.fits
    (λ k. let f = c.type_inv.bytes k in omega arith) (returns-then-bytes-eq1-clause-chained c)

pub returns-else-bytes-eq1-clause-divided : goal.returns-else-bytes-eq1-clause-divided
returns-else-bytes-eq1-clause-divided c =
    divides c.args.start c.loop-i.register c.args.bytes.now c.ranges.start.fits
    (λ k. let f = c.type_inv.bytes k in omega arith) (returns-else-bytes-eq1-clause-chained c)
