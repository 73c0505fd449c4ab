-- What the row reads after all writes.
use Rattle.std.proofs.Common.{◌≡◌, ℕ, ◌+◌, ◌*◌, ◌/◌, ◌%◌, ◌^◌, ◌<◌, ◌≤◌, List, length, get_or, drop, refl, sym, ◌∙◌, ap, arith}
use Rattle.std.specs.Prelude.{ℤ, pos, negsuc, ◌≤ℤ◌}
use Rattle.std.specs.Int.{cast_signed, cast_unsigned, w8, w16, w32}
use Rattle.std.proofs.lemmas.Int.{ints}
use Rattle.std.proofs.lemmas.List.{get_or_append_left}
use Rattle.std.proofs.lemmas.Bool.Decides.{nat_tests}
use Rattle.param_tree.specs.declared.Kind.{Kind}
use Rattle.param_tree.specs.declared.Kind.TheVariants.{I8, I16, I32, F32, Vec3}
use Rattle.param_tree.specs.Rules.{parts_of}
use Rattle.param_records.specs.declared.values.Value.TheVariants.{Whole, Bits}
use Rattle.param_records.specs.Records.{size_of}
use Rattle.param_records.specs.Values.{number_of_four_bytes, value_from}
use Rattle.param_records.specs.Changes.{part_bytes, overwritten}
use Rattle.param_records.specs.Patterns.{IsInRangeOf, number_of_whole}
use Rattle.param_records.proofs.ValueLemmas.{same_value}
use Rattle.param_records.proofs.OtherLemmas.{over_here, four_number}

signed_eight : (z : ℤ) → negsuc 127 ≤ℤ z → z ≤ℤ pos 127 → cast_signed w8 (cast_unsigned w32 z % 256) ≡ z
signed_eight (pos n) a b = grind (arith, nat_tests, ints)
signed_eight (negsuc n) a b = grind (arith, nat_tests, ints)

signed_sixteen : (z : ℤ) → negsuc 32767 ≤ℤ z → z ≤ℤ pos 32767 → cast_signed w16 (cast_unsigned w32 z % 256 + 256 * (cast_unsigned w32 z / 256 % 256)) ≡ z
signed_sixteen (pos n) a b = grind (arith, nat_tests, ints)
signed_sixteen (negsuc n) a b = grind (arith, nat_tests, ints)

pub signed_whole : (z : ℤ) → negsuc 2147483647 ≤ℤ z → z ≤ℤ pos 2147483647 → cast_signed w32 (cast_unsigned w32 z) ≡ z
signed_whole (pos n) a b = grind (arith, nat_tests, ints)
signed_whole (negsuc n) a b = grind (arith, nat_tests, ints)

pub unsigned_low : (z : ℤ) → negsuc 2147483647 ≤ℤ z → z ≤ℤ pos 2147483647 → cast_unsigned w32 z < 2 ^ 32
unsigned_low (pos n) a b = grind (arith, nat_tests, ints)
unsigned_low (negsuc n) a b = grind (arith, nat_tests, ints)

-- a whole number of a kind is read back
pub whole_back : (kind : Kind) (z : ℤ) → IsInRangeOf kind z → value_from kind 0 (part_bytes kind (number_of_whole z)) ≡ Whole z
whole_back I8 z h = ap (λ (x : ℤ). Whole x) (signed_eight z h.0 h.1)
whole_back I16 z h = ap (λ (x : ℤ). Whole x) (signed_sixteen z h.0 h.1)
whole_back I32 z h = ap (λ (n : ℕ). Whole (cast_signed w32 n)) (four_number (number_of_whole z) (unsigned_low z h.0 h.1)) ∙ ap (λ (x : ℤ). Whole x) (signed_whole z h.0 h.1)
whole_back F32 z h = absurd h
whole_back Vec3 z h = absurd h

-- the bytes of a part that is overwritten whole
number_over : (at : ℕ) (xs v : List ℕ) → length xs ≡ 4 → at ≤ length v → number_of_four_bytes at (overwritten at xs v) ≡ number_of_four_bytes 0 xs
number_over at xs v four fits =
    let a0 : at + 0 ≡ at = omega arith in
    let e0 : get_or (overwritten at xs v) at 0 ≡ get_or xs 0 0 = ap (λ (n : ℕ). get_or (overwritten at xs v) n 0) (sym a0) ∙ over_here at xs v 0 fits (omega arith) in
    omega (arith, e0, over_here at xs v 1 fits (omega arith), over_here at xs v 2 fits (omega arith), over_here at xs v 3 fits (omega arith))

over_zero : (xs v : List ℕ) (i : ℕ) → i < length xs → get_or (overwritten 0 xs v) i 0 ≡ get_or xs i 0
over_zero xs v i h = get_or_append_left xs (drop (0 + length xs) v) 0 i h

pub own_over : (kind : Kind) (part number : ℕ) (v : List ℕ) → part < parts_of kind → length v ≡ size_of kind → value_from kind part (overwritten (4 * part) (part_bytes kind number) v) ≡ value_from kind 0 (part_bytes kind number)
own_over I8 part number v a size = let p : part ≡ 0 = omega arith in ap (λ (n : ℕ). value_from I8 0 (overwritten (4 * n) (part_bytes I8 number) v)) p ∙ same_value I8 0 (overwritten 0 (part_bytes I8 number) v) (part_bytes I8 number) (omega arith) (λ i h. over_zero (part_bytes I8 number) v i h)
own_over I16 part number v a size = let p : part ≡ 0 = omega arith in ap (λ (n : ℕ). value_from I16 0 (overwritten (4 * n) (part_bytes I16 number) v)) p ∙ same_value I16 0 (overwritten 0 (part_bytes I16 number) v) (part_bytes I16 number) (omega arith) (λ i h. over_zero (part_bytes I16 number) v i h)
own_over I32 part number v a size = let p : part ≡ 0 = omega arith in ap (λ (n : ℕ). value_from I32 0 (overwritten (4 * n) (part_bytes I32 number) v)) p ∙ same_value I32 0 (overwritten 0 (part_bytes I32 number) v) (part_bytes I32 number) (omega arith) (λ i h. over_zero (part_bytes I32 number) v i h)
own_over F32 part number v a size = let p : part ≡ 0 = omega arith in ap (λ (n : ℕ). value_from F32 0 (overwritten (4 * n) (part_bytes F32 number) v)) p ∙ same_value F32 0 (overwritten 0 (part_bytes F32 number) v) (part_bytes F32 number) (omega arith) (λ i h. over_zero (part_bytes F32 number) v i h)
own_over Vec3 part number v a size = ap (λ (n : ℕ). Bits n) (number_over (4 * part) (part_bytes Vec3 number) v refl (omega arith))
