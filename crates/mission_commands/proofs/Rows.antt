-- The row of a command.
use Rattle.std.proofs.Common.{◌≡◌, ℕ, ◌∙◌, ap, sym, subst, Option, List, [], ◌∷◌, Bool, true, false, refl, ◌&&◌, ◌||◌, not, ◌<◌, ◌+◌, ◌*◌, ◌^◌, nat_lt, ltb-true, arith}
use Rattle.std.specs.Option.{unwrap_or}
use Rattle.std.specs.List.{find, list_all}
use Rattle.std.specs.Prelude.{◌==◌, pos, negsuc, ℤ}
use Rattle.std.proofs.lemmas.Bool.{and_parts}
use Rattle.mission_commands.specs.declared.table.Row.{Row}
use Rattle.mission_commands.specs.declared.table.Use.{Use}
use Rattle.mission_commands.specs.declared.table.Use.TheVariants.{Unused, Whole, Signed, Pattern}
use Rattle.mission_commands.specs.Commands.{has_location}
use Rattle.mission_commands.specs.Table.{rows, row_of, unlisted}
use Rattle.mission_commands.specs.Rows.{IsUse, IsRange, IsRow, stored_width, parameter_room}

pub found_row : (id : ℕ) (rs : List Row) (found : Option Row) → rs ≡ rows → found ≡ find (λ r. r.id == id) rs → unwrap_or found unlisted ≡ row_of id
unfolding row_of
found_row id rs found e f = ap (λ o. unwrap_or o unlisted) (f ∙ ap (find (λ r. r.id == id)) e)

-- what every element passes, the one that is found passes
pub find-passes : (p q : Row → Bool) (d : Row) (xs : List Row) → list_all q xs ≡ true → q d ≡ true → q (unwrap_or (find p xs) d) ≡ true
find-passes p q d [] h k = k
find-passes p q d (x ∷ xs) h k =
    let both = and_parts (q x) (list_all q xs) h in
    elim (p x) as (λ b. p x ≡ b → q (unwrap_or (find p (x ∷ xs)) d) ≡ true) [ true ↦ λ e. rw e both.0 | false ↦ λ e. rw e (find-passes p q d xs both.1 k) ] refl

-- the tests that the table passes
abbrev is_range : ℤ → ℤ → ℕ → Bool
is_range (pos low) (pos high) width = nat_lt high (256 ^ width)
is_range (negsuc low) (pos high) width = nat_lt (2 * low) (256 ^ width) && nat_lt (2 * high) (256 ^ width)
is_range low (negsuc high) width = false

abbrev is_use : Use → Bool
is_use Unused = true
is_use (Whole low high width) = (nat_lt 0 width && nat_lt width 3) && is_range low high width
is_use (Signed high width) = (nat_lt 0 width && nat_lt width 3) && is_range (pos 0) high width
is_use Pattern = true

abbrev has_room : Row → Bool
has_room row = nat_lt (stored_width row.param1 + stored_width row.param2 + stored_width row.param3 + stored_width row.param4) (parameter_room row.shape + 1)

unfoldable is_row : Row → Bool
is_row row = ((is_use row.param1 && is_use row.param2) && (is_use row.param3 && is_use row.param4)) && has_room row

range_tells : (low high : ℤ) (width : ℕ) → is_range low high width ≡ true → IsRange low high width
range_tells (pos low) (pos high) width h = ltb-true high (256 ^ width) h
range_tells (negsuc low) (pos high) width h =
    let both = and_parts (nat_lt (2 * low) (256 ^ width)) (nat_lt (2 * high) (256 ^ width)) h in
    (ltb-true (2 * low) (256 ^ width) both.0, ltb-true (2 * high) (256 ^ width) both.1)
range_tells (pos low) (negsuc high) width h = cc
range_tells (negsuc low) (negsuc high) width h = cc

use_tells : (u : Use) → is_use u ≡ true → IsUse u
use_tells Unused h = tt
use_tells (Whole low high width) h =
    let both = and_parts (nat_lt 0 width && nat_lt width 3) (is_range low high width) h in
    let ends = and_parts (nat_lt 0 width) (nat_lt width 3) both.0 in
    let low_end : 0 < width = ltb-true 0 width ends.0 in
    let high_end : width < 3 = ltb-true width 3 ends.1 in
    (omega arith, omega arith, range_tells low high width both.1)
use_tells (Signed high width) h =
    let both = and_parts (nat_lt 0 width && nat_lt width 3) (is_range (pos 0) high width) h in
    let ends = and_parts (nat_lt 0 width) (nat_lt width 3) both.0 in
    let low_end : 0 < width = ltb-true 0 width ends.0 in
    let high_end : width < 3 = ltb-true width 3 ends.1 in
    (omega arith, omega arith, range_tells (pos 0) high width both.1)
use_tells Pattern h = tt

row_tells : (row : Row) → is_row row ≡ true → IsRow row
unfolding is_row
row_tells row h =
    let whole = and_parts ((is_use row.param1 && is_use row.param2) && (is_use row.param3 && is_use row.param4)) (has_room row) h in
    let halves = and_parts (is_use row.param1 && is_use row.param2) (is_use row.param3 && is_use row.param4) whole.0 in
    let front = and_parts (is_use row.param1) (is_use row.param2) halves.0 in
    let back = and_parts (is_use row.param3) (is_use row.param4) halves.1 in
    let small = ltb-true (stored_width row.param1 + stored_width row.param2 + stored_width row.param3 + stored_width row.param4) (parameter_room row.shape + 1) whole.1 in
    record {
      use1 = use_tells row.param1 front.0;
      use2 = use_tells row.param2 front.1;
      use3 = use_tells row.param3 back.0;
      use4 = use_tells row.param4 back.1;
      room = omega arith;
    }

table_passes : list_all is_row rows ≡ true
unfolding rows is_row
table_passes = refl

unlisted_passes : is_row unlisted ≡ true
unfolding is_row
unlisted_passes = refl

pub row_of-IsRow : (id : ℕ) → IsRow (row_of id)
unfolding row_of
row_of-IsRow id = row_tells (row_of id) (find-passes (λ r. r.id == id) is_row unlisted rows table_passes unlisted_passes)

pub found-IsRow : (row : Row) (id : ℕ) → row ≡ row_of id → IsRow row
found-IsRow row id e = subst IsRow (sym e) (row_of-IsRow id)

-- only the third parameter of a command with a location has its sign in the flags
abbrev pub is_signed : Use → Bool
is_signed Unused = false
is_signed (Whole low high width) = false
is_signed (Signed high width) = true
is_signed Pattern = false

unfoldable signs_pass : Row → Bool
signs_pass row = ((not (is_signed row.param1) && not (is_signed row.param2)) && not (is_signed row.param4)) && (has_location row.shape || not (is_signed row.param3))

pub record HasSigns (row : Row) : Type 0 where
  pub none1 : is_signed row.param1 ≡ false
  pub none2 : is_signed row.param2 ≡ false
  pub none4 : is_signed row.param4 ≡ false
  pub none3 : has_location row.shape ≡ false → is_signed row.param3 ≡ false

not_true : (b : Bool) → not b ≡ true → b ≡ false
not_true true h = cc
not_true false h = refl

or_false : (a b : Bool) → (a || not b) ≡ true → a ≡ false → b ≡ false
or_false true b h e = cc
or_false false b h e = not_true b h

signs_tell : (row : Row) → signs_pass row ≡ true → HasSigns row
unfolding signs_pass
signs_tell row h =
    let a = and_parts ((not (is_signed row.param1) && not (is_signed row.param2)) && not (is_signed row.param4)) (has_location row.shape || not (is_signed row.param3)) h in
    let b = and_parts (not (is_signed row.param1) && not (is_signed row.param2)) (not (is_signed row.param4)) a.0 in
    let c = and_parts (not (is_signed row.param1)) (not (is_signed row.param2)) b.0 in
    record { none1 = not_true (is_signed row.param1) c.0; none2 = not_true (is_signed row.param2) c.1; none4 = not_true (is_signed row.param4) b.1; none3 = or_false (has_location row.shape) (is_signed row.param3) a.1 }

table_signs : list_all signs_pass rows ≡ true
unfolding rows signs_pass
table_signs = refl

unlisted_signs : signs_pass unlisted ≡ true
unfolding signs_pass
unlisted_signs = refl

pub row_of-HasSigns : (id : ℕ) → HasSigns (row_of id)
unfolding row_of
row_of-HasSigns id = signs_tell (row_of id) (find-passes (λ r. r.id == id) signs_pass unlisted rows table_signs unlisted_signs)
