use Rattle.std.proofs.Common.{ℕ, ◌≡◌, ◌%◌, ◌^◌, ◌<◌, arith, ◌∙◌, sym, subst, ℤ, bit_and, rules, FitsSigned, w32, to_z, of_z}
use Rattle.std.proofs.lemmas.Nat.{and_mask}
use Rattle.std.proofs.lemmas.Int.{ints, to_z-of_z}
use Rattle.word_bits.specs.Pattern.{signed, is_negative, IsNearest, IsCentimetres}
use Rattle.word_bits.specs.Rounding.{IsNearCount}
use Rattle.word_bits.proofs.Count.{count_of, zero_is_nearest, is_candidate, is_only}
use Rattle.word_bits.proofs.Options.{IfNone-from}
use Rattle.word_bits.proofs.centimetres_of.Goals as goal

pub returns-then-magnitude-eq0-clause-count : goal.returns-then-magnitude-eq0-clause-count
returns-then-magnitude-eq0-clause-count c =
    let e : bit_and c.args.bits 0x7FFF_FFFF ≡ c.args.bits % 2 ^ 31 = and_mask c.args.bits 31 in
    ((omega (arith, ints), omega (arith, ints)), zero_is_nearest c.args.bits (omega arith) (sym e ∙ c.if-magnitude-eq0.true))

pub returns-in_err-count-clause-none : goal.returns-in_err-count-clause-none
returns-in_err-count-clause-none c =
    let e : bit_and c.args.bits 0x7FFF_FFFF ≡ c.args.bits % 2 ^ 31 = and_mask c.args.bits 31 in
    IfNone-from ((k : ℤ) → IsCentimetres k → ¬ IsNearest c.args.bits k 100) c.from_residual.result (λ k fits near.
    let h = count_of c.args.bits k (omega (arith, e)) fits near in
    let P : ℕ → Type 0 = λ m. IsNearCount m h.count in
    c.in_err-count.ensures.none h.count h.fits (subst P (sym e) h.near))

pub returns-then-k-lt-FEWEST_CENTIMETRES-clause-none : goal.returns-then-k-lt-FEWEST_CENTIMETRES-clause-none
returns-then-k-lt-FEWEST_CENTIMETRES-clause-none c = λ k fits near.
    let e : bit_and c.args.bits 0x7FFF_FFFF ≡ c.args.bits % 2 ^ 31 = and_mask c.args.bits 31 in
    let h = count_of c.args.bits k (omega (arith, e)) fits near in
    let only : (a : ℕ) → IsNearCount (c.args.bits % 2 ^ 31) a → a ≡ c.in_ok-count.count = λ a n. (let P : ℕ → Type 0 = λ m. IsNearCount m a in c.in_ok-count.ensures.only a (subst P (sym e) n)) in
    let is : k ≡ c.with_sign-k.result = is_candidate c.args.bits c.in_ok-count.count k only h ∙ sym c.with_sign-k.ensures in
    grind (arith, ints, is, fits)

pub returns-else-bits_of_centimetres-bits-clause-none : goal.returns-else-bits_of_centimetres-bits-clause-none
returns-else-bits_of_centimetres-bits-clause-none c = λ k fits near.
    let e : bit_and c.args.bits 0x7FFF_FFFF ≡ c.args.bits % 2 ^ 31 = and_mask c.args.bits 31 in
    let some : 0 < c.args.bits % 2 ^ 31 = omega (arith, e) in
    let h = count_of c.args.bits k some fits near in
    let only : (a : ℕ) → IsNearCount (c.args.bits % 2 ^ 31) a → a ≡ c.in_ok-count.count = λ a n. (let P : ℕ → Type 0 = λ m. IsNearCount m a in c.in_ok-count.ensures.only a (subst P (sym e) n)) in
    let is = is_candidate c.args.bits c.in_ok-count.count k only h in
    let f : FitsSigned w32 c.with_sign-k.result = search rules in
    let z : to_z w32 (of_z w32 c.with_sign-k.result) ≡ signed (is_negative c.args.bits) c.in_ok-count.count = to_z-of_z w32 c.with_sign-k.result f ∙ c.with_sign-k.ensures in
    let Q : ℤ → Type 0 = λ z. IsNearest c.bits_of_centimetres.result z 100 in
    c.if-bits_of_centimetres-bits.false (is_only c.args.bits c.bits_of_centimetres.result c.in_ok-count.count k some is near (subst Q z c.bits_of_centimetres.ensures.nearest))
