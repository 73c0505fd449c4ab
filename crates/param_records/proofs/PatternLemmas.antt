-- A pattern is one number of a kind, at most.
use Rattle.std.proofs.Common.{◌≡◌, ℕ, ◌^◌, refl, sym, ◌∙◌, ap, arith}
use Rattle.std.specs.Prelude.{ℤ, pos, ◌*ℤ◌, Result, Ok, Err, IsErr, IfErr}
use Rattle.std.proofs.lemmas.Int.{ints}
use Rattle.param_tree.specs.declared.Kind.{Kind}
use Rattle.param_tree.specs.declared.Kind.TheVariants.{I8, I16, I32, F32, Vec3}
use Rattle.param_records.specs.declared.setting.SetError.{SetError}
use Rattle.param_records.specs.Patterns.{IsWholeOf, IsNumberOf, number_of_whole}

one_product : (z w : ℤ) → z *ℤ pos (2 ^ 149) ≡ w *ℤ pos (2 ^ 149) → z ≡ w
one_product z w e = omega (arith, ints)

one_whole : (kind : Kind) (bits n m : ℕ) → IsWholeOf kind bits n → IsWholeOf kind bits m → n ≡ m
one_whole kind bits n m a b = a.3 ∙ ap number_of_whole (one_product a.0 b.0 (sym a.2.equal ∙ b.2.equal)) ∙ sym b.3

pub one_number : (kind : Kind) (bits n m : ℕ) → IsNumberOf kind bits n → IsNumberOf kind bits m → n ≡ m
one_number I8 bits n m a b = one_whole I8 bits n m a b
one_number I16 bits n m a b = one_whole I16 bits n m a b
one_number I32 bits n m a b = one_whole I32 bits n m a b
one_number F32 bits n m a b = a.1 ∙ sym b.1
one_number Vec3 bits n m a b = a.1 ∙ sym b.1

pub err_is : (r : Result (Unit {0}) SetError) (x : SetError) → IsErr r → IfErr r (λ e. e ≡ x) → r ≡ Err x
err_is (Ok u) x h g = cc
err_is (Err e) x h g = ap (λ (y : SetError). Err y) g

pub is_err_of : (r : Result (Unit {0}) SetError) (x : SetError) → r ≡ Err x → IsErr r
is_err_of (Ok u) x h = cc
is_err_of (Err e) x h = refl
