-- What is read of the mission.
use Rattle.std.proofs.Common.{◌≢◌, ◌/◌, ◌%◌, ◌≡◌, inl, inr, ℕ, zero, suc, ◌+◌, ◌-◌, ◌*◌, ◌<◌, ◌≤◌, min, Bool, false, cond, List, [], ◌∷◌, ◌++◌, length, get_or, take, drop, refl, sym, ◌∙◌, ap, subst, arith, Some, None}
use Rattle.std.specs.Prelude.{not, ◌==◌, ◌↔◌, IsTrue, slice_get}
use Rattle.std.specs.Str.{bytes_eq}
use Rattle.std.proofs.lemmas.List.{length-take, length-drop, get_or-take, get_or-drop, ext_get_or}
use Rattle.std.proofs.lemmas.Bool.{cases_lt, cases_Bool, lt-ltb, le-ltb, ne_eqb, eqb-false, not-true, not_from_false}
use Rattle.std.proofs.lemmas.Slice.Eq.{bytes_eq-Decides}
use Rattle.storage_lines.specs.declared.areas.Area.TheVariants.{Param}
use Rattle.storage_lines.specs.Areas.{listed, place_of, logical_of}
use Rattle.storage_lines.specs.Bytes.{IsBytes}
use Rattle.storage_lines.proofs.ByteLemmas.{bytes_in_area}
use Rattle.storage_lines.proofs.PieceLemmas.{length-area}
use Rattle.param_tree.specs.declared.Kind.TheVariants.{I16}
use Rattle.param_records.specs.declared.records.TheConstants.{PARAM_BYTES}
use Rattle.param_records.specs.Steps.{IsInOneLine, place_of_row}
use Rattle.param_records.proofs.PieceLemmas.{param_line}
use Rattle.param_records.proofs.ValueLemmas.{found_at}
use Rattle.storage_lines.proofs.Listed.{length-listed, get_or-listed}
use Rattle.param_records.specs.Values.{params_of}
use Rattle.mission_commands.specs.declared.commands.Command.{Command}
use Rattle.mission_records.specs.Mission.{version, total_row, mission_area, count_of, total_of, bytes_at, command_of, commands_in}
use Rattle.mission_records.specs.declared.reading.TheConstants.{CAPACITY}
use Rattle.mission_records.specs.Steps.{HasVersion, IsTotalInOneLine}
use Rattle.mission_records.proofs.Commands.{length-commands_in}

-- a part of a list by its elements
pub part_listed : (n at : ℕ) (L : List ℕ) → at + n ≤ length L → take n (drop at L) ≡ listed n (λ k. get_or L (at + k) 0)
part_listed n at L h =
    let f : ℕ → ℕ = λ k. get_or L (at + k) 0 in
    ext_get_or 0 (take n (drop at L)) (listed n f) (omega (arith, length-take n (drop at L), length-drop at L, length-listed n f))
    (λ i l. let few : i < n = omega (arith, length-take n (drop at L)) in get_or-take n (drop at L) i 0 few ∙ get_or-drop at L i 0 ∙ sym (get_or-listed n f i 0 few))

-- without the version there is none
pub total_none : (b : List ℕ) → (HasVersion b → ⊥) → 0 ≡ total_of b
total_none b h = elim (cases_Bool (bytes_eq (take 4 (mission_area b)) version)) [
  | inl same ↦ absurd (h ((bytes_eq-Decides (take 4 (mission_area b)) version).0 same))
  | inr other ↦ sym (ap (λ (t : Bool). cond t (min CAPACITY (count_of (params_of b total_row))) 0) other)
]

-- the command at an index
get_pushed : (cs : List Command) (c : Command) (i : ℕ) → i < length cs → slice_get (cs ++ c ∷ []) i ≡ slice_get cs i
get_pushed [] c i h = absurd (omega arith)
get_pushed (x ∷ cs) c zero h = refl
get_pushed (x ∷ cs) c (suc i) h = get_pushed cs c i (omega arith)

get_last : (cs : List Command) (c : Command) (i : ℕ) → i ≡ length cs → slice_get (cs ++ c ∷ []) i ≡ Some c
get_last [] c zero h = refl
get_last [] c (suc i) h = absurd (omega arith)
get_last (x ∷ cs) c zero h = absurd (omega arith)
get_last (x ∷ cs) c (suc i) h = get_last cs c i (omega arith)

get_past : (cs : List Command) (i : ℕ) → length cs ≤ i → slice_get cs i ≡ None
get_past [] i h = refl
get_past (x ∷ cs) zero h = absurd (omega arith)
get_past (x ∷ cs) (suc i) h = get_past cs i (omega arith)

pub command_there : (n i : ℕ) (L : List ℕ) → i < n → Some (command_of (bytes_at i L)) ≡ slice_get (commands_in n L) i
unfolding commands_in
command_there zero i L h = absurd (omega arith)
command_there (suc n) i L h = elim (cases_lt i n) [
  | inl less ↦ command_there n i L less ∙ sym (get_pushed (commands_in n L) (command_of (bytes_at n L)) i (omega (arith, length-commands_in n L)))
  | inr last ↦ let same : i ≡ n = omega arith in ap (λ (k : ℕ). Some (command_of (bytes_at k L))) same ∙ sym (get_last (commands_in n L) (command_of (bytes_at n L)) i (omega (arith, length-commands_in n L)))
]

pub no_command : (n i : ℕ) (L : List ℕ) → n ≤ i → None ≡ slice_get (commands_in n L) i
no_command n i L h = sym (get_past (commands_in n L) i (omega (arith, length-commands_in n L)))

-- the last byte of a line is in another line than the one after it
pub last_of_line : (at : ℕ) → at + 2 ≤ PARAM_BYTES → at % 8 ≡ 7 → place_of Param at / 8 ≢ place_of Param (at + 1) / 8
last_of_line at fits last e = elim (cases_lt (at + 1) 1280) [
  | inl first ↦
      let a : place_of Param at ≡ 0 + at = rw (lt-ltb at 1280 (omega arith)) refl in
      let b : place_of Param (at + 1) ≡ 0 + (at + 1) = rw (lt-ltb (at + 1) 1280 first) refl in
      omega arith
  | inr past ↦ elim (cases_lt (at + 1) 2560) [
    | inl second ↦
        let b : place_of Param (at + 1) ≡ 4096 + (at + 1 - 1280) = rw (le-ltb (at + 1) 1280 past, lt-ltb (at + 1) 2560 second) refl in
        elim (cases_lt at 1280) [
          | inl border ↦ let a : place_of Param at ≡ 0 + at = rw (lt-ltb at 1280 border) refl in omega arith
          | inr inside ↦ let a : place_of Param at ≡ 4096 + (at - 1280) = rw (le-ltb at 1280 inside, lt-ltb at 2560 (omega arith)) refl in omega arith
        ]
    | inr third ↦
        let b : place_of Param (at + 1) ≡ 8192 + (at + 1 - 1280 - 1280) = rw (le-ltb (at + 1) 1280 past, le-ltb (at + 1) 2560 third) refl in
        elim (cases_lt at 2560) [
          | inl border ↦ let a : place_of Param at ≡ 4096 + (at - 1280) = rw (le-ltb at 1280 (omega arith), lt-ltb at 2560 border) refl in omega arith
          | inr inside ↦ let a : place_of Param at ≡ 8192 + (at - 1280 - 1280) = rw (le-ltb at 1280 (omega arith), le-ltb at 2560 inside) refl in omega arith
        ]
  ]
]

-- both bytes of MIS_TOTAL lie in one line exactly where the first isn't a line's last
pub one_line_test : (b : List ℕ) (at : ℕ) → IsBytes b → place_of_row b total_row ≡ Some at → IsTrue (not (at % 8 == 7)) ↔ IsTotalInOneLine b
one_line_test b at bytes there =
    let L = logical_of Param b in
    let found = found_at L 20 1 I16 at (bytes_in_area Param b bytes) there in
    let fits : at + 2 ≤ PARAM_BYTES = omega (arith, found.fits, length-area Param b) in
    let first : at + 4 * 0 ≡ at = omega arith in
    let second : at + 4 * 0 + 2 - 1 ≡ at + 1 = omega arith in
    let line : ℕ → ℕ = λ k. place_of Param k / 8 in (
      λ t. record { at = at; there = there; one_line = ap line first ∙ param_line at (at + 1) (omega arith) (omega arith) (let other : at % 8 ≢ 7 = eqb-false (at % 8) 7 (not-true (at % 8 == 7) t) in omega arith) ∙ sym (ap line second) },
      λ one. let same : one.at ≡ at = let both : Some one.at ≡ Some at = sym one.there ∙ there in cc in
          not_from_false (at % 8 == 7) (ne_eqb (at % 8) 7 (λ e. last_of_line at fits e (sym (ap line first) ∙ subst (IsInOneLine total_row) same one.one_line ∙ ap line second))),
    )

pub no_total : (b : List ℕ) → place_of_row b total_row ≡ None → IsTrue false ↔ IsTotalInOneLine b
no_total b none = (λ t. cc, λ one. let both : Some one.at ≡ None = sym one.there ∙ none in cc)
