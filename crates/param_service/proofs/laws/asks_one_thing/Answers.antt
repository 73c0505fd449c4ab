-- What a message asks for is written out in `Asks`, but for the number that a row is set to.
use Rattle.std.proofs.Common.{◌≡◌, ◌⊎◌, inl, inr, ℕ, ◌<◌, Bool, true, false, cond, List, length, Option, Some, None, refl, sym, ◌∙◌, ap, arith}
use Rattle.std.specs.Prelude.{IfSome, slice_get, nat_lt, ◌==◌}
use Rattle.std.specs.List.{before_first, position_or_len}
use Rattle.std.proofs.lemmas.Option.{slice_get_cases}
use Rattle.std.proofs.lemmas.Bool.Decides.{nat_tests}
use Rattle.param_tree.specs.declared.Kind.{Kind}
use Rattle.param_tree.specs.declared.Var.{Var}
use Rattle.param_tree.specs.Rules.{has_name}
use Rattle.param_tree.specs.Rows.{vehicle_rows}
use Rattle.param_records.specs.Patterns.{IsNumberOf}
use Rattle.mav_messages.specs.declared.messages.Message.{Message}
use Rattle.mav_messages.specs.declared.messages.Message.TheVariants.{ParamRequestRead, ParamRequestList, ParamSet}
use Rattle.param_service.specs.Requests.{Request, Set, IsNumberFor, IsSetting, Asks, is_for, row_named}
use Rattle.param_service.proofs.laws.asks_one_thing.Goals as goal

-- a pattern is a number of a kind, or none; and one, at most
abbrev OneOrNone : Type 0
OneOrNone = (kind : Kind) (bits : ℕ) → ((n : ℕ) × IsNumberOf kind bits n) ⊎ ((n : ℕ) → IsNumberOf kind bits n → ⊥)

abbrev One : Type 0
One = (kind : Kind) (bits m n : ℕ) → IsNumberOf kind bits m → IsNumberOf kind bits n → m ≡ n

number_for : OneOrNone → (row : Var) (bits : ℕ) → (number : Option ℕ) × IsNumberFor row bits number
number_for decide row bits = elim (decide row.kind bits) [ inl some ↦ (Some some.0, some.1) | inr none ↦ (None, none) ]

number_at : OneOrNone → (row : Option Var) (bits : ℕ) → (number : Option ℕ) × IfSome row (λ row. IsNumberFor row bits number)
number_at decide None bits = (None, tt)
number_at decide (Some row) bits = number_for decide row bits

setting : OneOrNone → (index : Option ℕ) (bits : ℕ) → (asked : Option Request) × IsSetting index bits asked
setting decide None bits = (None, refl)
setting decide (Some index) bits = let n = number_at decide (slice_get vehicle_rows index) bits in (Some (Set index n.0), (n.0, n.1, refl))

asks : OneOrNone → (message : Message) → (asked : Option Request) × Asks message asked
asks decide (ParamRequestRead index system component name) = (_, refl)
asks decide (ParamRequestList system component) = (_, refl)
asks decide (ParamSet bits system component name kind) = setting decide (cond (is_for system component) (row_named name) None) bits
asks decide _ = (None, refl)

one_number_for : One → (row : Var) (bits : ℕ) (m n : Option ℕ) → IsNumberFor row bits m → IsNumberFor row bits n → m ≡ n
one_number_for one row bits None None a b = refl
one_number_for one row bits None (Some n) a b = absurd (a n b)
one_number_for one row bits (Some m) None a b = absurd (b m a)
one_number_for one row bits (Some m) (Some n) a b = ap Some (one row.kind bits m n a b)

one_number_at : One → (row : Option Var) (r : Var) (bits : ℕ) (m n : Option ℕ) → row ≡ Some r → IfSome row (λ row. IsNumberFor row bits m) → IfSome row (λ row. IsNumberFor row bits n) → m ≡ n
one_number_at one None r bits m n e a b = cc
one_number_at one (Some row) r bits m n e a b = one_number_for one row bits m n a b

IsRow : Option ℕ → Type 0
IsRow None = Unit {0}
IsRow (Some index) = (row : Var) × (slice_get vehicle_rows index ≡ Some row)

one_setting : One → (index : Option ℕ) (bits : ℕ) (a b : Option Request) → IsRow index → IsSetting index bits a → IsSetting index bits b → a ≡ b
unfolding IsRow
one_setting one None bits a b there p q = p ∙ sym q
one_setting one (Some index) bits a b there p q = p.2 ∙ ap (λ (n : Option ℕ). Some (Set index n)) (one_number_at one (slice_get vehicle_rows index) there.0 bits p.0 q.0 there.1 p.1 q.1) ∙ sym q.2

below : (k n i : ℕ) → cond (nat_lt k n) (Some k) None ≡ Some i → i < n
below k n i e = grind (arith, nat_tests)

is_row : (index : Option ℕ) → ((i : ℕ) → index ≡ Some i → i < length vehicle_rows) → IsRow index
unfolding IsRow
is_row None inside = tt
is_row (Some i) inside =
    elim ((slice_get_cases vehicle_rows i).1) [
      | inl some ↦ (some.0, some.2)
      | inr past ↦ let less = inside i refl in absurd (omega arith)
    ]

named : (b : Bool) (name : List ℕ) → IsRow (cond b (row_named name) None)
unfolding IsRow
named true name = is_row (row_named name) (λ i e. below (position_or_len (has_name (before_first (λ b. b == 0) name)) vehicle_rows) (length vehicle_rows) i e)
named false name = tt

one_thing : One → (message : Message) (a b : Option Request) → Asks message a → Asks message b → a ≡ b
one_thing one (ParamRequestRead index system component name) a b p q = p ∙ sym q
one_thing one (ParamRequestList system component) a b p q = p ∙ sym q
one_thing one (ParamSet bits system component name kind) a b p q = one_setting one (cond (is_for system component) (row_named name) None) bits a b (named (is_for system component) name) p q
one_thing one _ a b p q = p ∙ sym q

pub returns-clause-asks : goal.returns-clause-asks
returns-clause-asks c = λ message. asks c.a_number_or_none.ensures message

pub returns-clause-one : goal.returns-clause-one
returns-clause-one c = λ message a b p q. one_thing c.one_number.ensures message a b p q
