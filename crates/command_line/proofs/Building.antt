-- What building makes of a command with these options.
use Rattle.std.proofs.Common.{◌≡◌, ◌∙◌, ◌&&◌, ◌||◌, ℕ, List, [], ◌∷◌, refl, sym, ap, ap₂, subst, Bool, true, false, not, cond, codes, Some, None, fold, map, is_some, drop, true≢false}
use Rattle.std.specs.Prelude.{find, count_by}
use Rattle.std.specs.Str.{bytes_eq}
use Rattle.std.specs.List.{list_all, list_any}
use Rattle.std.specs.List.{All}
use Rattle.std.proofs.lemmas.Slice.Eq.{bytes_eq-Decides}
use Rattle.clap.specs.Walk.{Held, Row, Rule, Walk, has_long, has_short, arg_by_id, has_row, is_early_multiple, finished, nothing_held, settled, walk, walk_from, with_default}
use Rattle.clap.specs.Simple.{Shape, built, filled_from, is_simple, is_in_order, has_simple_rules, is_buildable, is_ready}
use Rattle.clap.specs.Kinds.{Kinds, or_else}
use Rattle.clap.specs.Faults.{check_fault, defaults_fault, fault_of, has_free_rules, is_simple_and_free, level_fault, settle_fault, walk_fault}
use Rattle.clap.specs.Takes.{is_given}
use Rattle.clap.specs.Words.{matches_of}
use Rattle.clap.proofs.FaultLemmas.{leaf_fault}
use Rattle.command_line.proofs.Walks.{HasFirst, both, fault_from, rows_from}
use Rattle.command_line.specs.Arguments.{Text, is_named, arguments}
use Rattle.command_line.specs.App.{app_of_rules, app_with, option_arg}
use Rattle.command_line.proofs.Classes.{Agrees, Knows, image_rule, option_rule}

abbrev pub options_of : List Text → List Rule
options_of names = map option_rule names

abbrev pub rules_with : List Text → List Rule
rules_with names = image_rule ∷ options_of names

pub filled_options : (i : ℕ) (names : List Text) → filled_from i (map option_arg names) ≡ options_of names
filled_options i [] = refl
filled_options i (n ∷ ns) = ap (λ (rs : List Rule). option_rule n ∷ rs) (filled_options i ns)

abbrev pub shape_of_rules : List Rule → Shape
shape_of_rules rules = record (built (app_of_rules [])).top { rules = rules }

pub built_rules : (names : List Text) → (built (app_with names)).top ≡ shape_of_rules (rules_with names)
unfolding app_with
built_rules names = ap (λ (rs : List Rule). shape_of_rules (image_rule ∷ rs)) (filled_options 2 names)

all_args : (p : Rule → Bool) → ((n : Text) → p (option_arg n) ≡ true) → (names : List Text)
    → list_all p (map option_arg names) ≡ true
all_args p h [] = refl
all_args p h (n ∷ ns) = rw (h n, all_args p h ns) refl

all_options : (p : Rule → Bool) → ((n : Text) → p (option_rule n) ≡ true) → (names : List Text)
    → list_all p (options_of names) ≡ true
all_options p h [] = refl
all_options p h (n ∷ ns) = rw (h n, all_options p h ns) refl

no_options : (p : Rule → Bool) → ((n : Text) → p (option_rule n) ≡ false) → (names : List Text)
    → list_any p (options_of names) ≡ false
no_options p h [] = refl
no_options p h (n ∷ ns) = rw (h n, no_options p h ns) refl

none_found : (p : Rule → Bool) → ((n : Text) → p (option_rule n) ≡ false) → (names : List Text)
    → find p (options_of names) ≡ None
none_found p h [] = refl
none_found p h (n ∷ ns) = rw (h n, none_found p h ns) refl

one_indexed : (names : List Text) → count_by (λ a. is_some a.index) (rules_with names) ≡ 1
one_indexed [] = refl
one_indexed (n ∷ ns) = one_indexed ns

pub in_order : (names : List Text) → is_in_order (rules_with names) ≡ true
in_order names =
    ap (λ (k : ℕ). not (list_any (is_early_multiple k) (rules_with names))) (one_indexed names)
    ∙ ap not (no_options (is_early_multiple 1) (λ n. refl) names)

pub ready : (names : List Text) → is_simple (app_with names) ≡ true
unfolding app_with
ready names =
    let raw : is_buildable (app_with names) ≡ true = rw (all_args (λ a. a.is_simple) (λ n. refl) names) refl in
    let simple : has_simple_rules (shape_of_rules (rules_with names)) ≡ true = all_options (λ a. a.is_simple) (λ n. refl) names in
    let top : is_ready (built (app_with names)).top ≡ true = ap is_ready (built_rules names)
    ∙ ap₂ (λ (a b : Bool). a && b) simple (in_order names) in
    ap₂ (λ (a b : Bool). a && (b && true)) raw top

pub free : (names : List Text) → is_simple_and_free (app_with names) ≡ true
unfolding app_with
free names =
    let top : has_free_rules (built (app_with names)).top ≡ true = ap has_free_rules (built_rules names)
    ∙ all_options (λ a. a.is_free) (λ n. refl) names in
    ap₂ (λ (a b : Bool). a && (b && true)) (ready names) top

-- ---- lookups

found_by : (name : Text) (p : Rule → Bool) → ((n : Text) → p (option_rule n) ≡ bytes_eq n name)
    → (names : List Text) → is_named names name ≡ true
    → find p (options_of names) ≡ Some (option_rule name)
found_by name p same [] h = absurd (true≢false (sym h))
found_by name p same (n ∷ ns) h = go (bytes_eq n name) refl (found_by name p same ns)
  where
    go : (b : Bool) → bytes_eq n name ≡ b
        → (is_named ns name ≡ true → find p (options_of ns) ≡ Some (option_rule name))
        → find p (options_of (n ∷ ns)) ≡ Some (option_rule name)
    go true e more = rw (same n, e) (ap (λ (t : Text). Some (option_rule t)) ((bytes_eq-Decides n name).0 e))
    go false e more = rw (same n, e) (more (rw e at h))

not_found : (name : Text) (p : Rule → Bool) → ((n : Text) → p (option_rule n) ≡ bytes_eq n name)
    → (names : List Text) → is_named names name ≡ false
    → find p (options_of names) ≡ None
not_found name p same [] h = refl
not_found name p same (n ∷ ns) h = go (bytes_eq n name) refl (not_found name p same ns)
  where
    go : (b : Bool) → bytes_eq n name ≡ b → (is_named ns name ≡ false → find p (options_of ns) ≡ None)
        → find p (options_of (n ∷ ns)) ≡ None
    go true e more = absurd (true≢false (rw e at h))
    go false e more = rw (same n, e) (more (rw e at h))

or_no : (b : Bool) → (b || false) ≡ b
or_no true = refl
or_no false = refl

abbrev pub image_id : Text
image_id = codes "IMAGE"

pub knows : (names : List Text) → is_named names image_id ≡ false → Knows names (rules_with names)
knows names apart = record {
  by_index = refl;
  by_short = λ x. none_found (λ a. not (is_some a.index) && has_short a x) (λ n. refl) names;
  by_long = λ name h. found_by name (λ a. not (is_some a.index) && has_long a name) (λ n. or_no (bytes_eq n name)) names h;
  by_no_long = λ name h. not_found name (λ a. not (is_some a.index) && has_long a name)
      (λ n. or_no (bytes_eq n name)) names h;
  by_image = refl;
  by_name = λ name h. go name (bytes_eq image_id name) refl h;
}
  where
    go : (name : Text) (b : Bool) → bytes_eq image_id name ≡ b → is_named names name ≡ true
        → arg_by_id (rules_with names) name ≡ Some (option_rule name)
    go name true e h =
        let same : image_id ≡ name = (bytes_eq-Decides image_id name).0 e in
        absurd (true≢false (sym h ∙ ap (is_named names) (sym same) ∙ apart))
    go name false e h = rw e (found_by name (λ a. bytes_eq a.id name) (λ n. refl) names h)

-- ---- after the walk

or_true : (b : Bool) (k : Kinds) → cond (b || true) [] k ≡ []
or_true true k = refl
or_true false k = refl

same_rows : (b : Bool) (rows : List Row) → cond b rows rows ≡ rows
same_rows true rows = refl
same_rows false rows = refl

defaults_pass : (rows : List Row) (names : List Text) → defaults_fault rows (options_of names) ≡ []
unfolding defaults_fault
defaults_pass rows [] = refl
defaults_pass rows (n ∷ ns) =
    rw (or_true (has_row n rows), same_rows (has_row n rows) rows) (defaults_pass rows ns)

all_defaults : (rows : List Row) (names : List Text) → defaults_fault rows (rules_with names) ≡ []
unfolding defaults_fault
all_defaults rows names =
    rw (or_true (has_row image_id rows), same_rows (has_row image_id rows) rows) (defaults_pass rows names)

options_finish : (rows : List Row) (names : List Text) → fold with_default rows (options_of names) ≡ rows
options_finish rows [] = refl
options_finish rows (n ∷ ns) =
    ap (λ (r : List Row). fold with_default r (options_of ns)) (same_rows (has_row n rows) rows)
    ∙ options_finish rows ns

pub finish : (h : Held) (names : List Text)
    → finished (rules_with names) h ≡ (settled (rules_with names) h).rows
finish h names =
    let rows = (settled (rules_with names) h).rows in
    ap (λ (r : List Row). fold with_default r (options_of names)) (same_rows (has_row image_id rows) rows)
    ∙ options_finish rows names

pub checks : (rows : List Row) (names : List Text)
    → check_fault (shape_of_rules (rules_with names)) rows false ≡ []
checks rows names = rw (no_options (λ a. a.required && not (is_given a.id rows)) (λ n. refl) names) refl

or_none : (k : Kinds) → or_else k [] ≡ k
or_none [] = refl
or_none (x ∷ xs) = refl

-- ---- the command on any words

pub follows : (names : List Text) → is_named names image_id ≡ false → (words : List Text)
    → All HasFirst (drop 1 words)
    → Agrees (arguments names None (drop 1 words)) (fault_of (app_with names) words) [] (matches_of (app_with names) words)
unfolding app_with
follows names apart words first =
    let s : Shape = shape_of_rules (rules_with names) in
    let top_is : (built (app_with names)).top ≡ s = built_rules names in
    let k : Knows names s.rules = knows names apart in
    let start : Walk = walk_from nothing_held in
    let end : Held = (walk s.rules [] nothing_held (drop 1 words)).held in
    let core : Agrees (arguments names None (drop 1 words)) (fault_from names s k start (drop 1 words)) [] (rows_from names s k start (drop 1 words)) =
    (both names s k (drop 1 words) first).0 [] None false refl in
    let fault_is : fault_of (app_with names) words ≡ fault_from names s k start (drop 1 words) =
    leaf_fault (built (app_with names)) nothing_held (drop 1 words) refl
    ∙ ap (λ (t : Shape). level_fault t [] nothing_held (drop 1 words) false []) top_is
    ∙ ap₂ (λ (a b : Kinds). or_else (walk_fault s [] start (drop 1 words)) (or_else (settle_fault s.rules false end) (or_else a b))) (all_defaults (settled s.rules end).rows names) (checks (finished s.rules end) names)
    ∙ ap (or_else (walk_fault s [] start (drop 1 words))) (or_none (settle_fault s.rules false end)) in
    let rows_is : matches_of (app_with names) words ≡ rows_from names s k start (drop 1 words) =
    ap (λ (t : Shape). finished t.rules (walk t.rules [] nothing_held (drop 1 words)).held) top_is
    ∙ finish end names in
    subst (λ (r : List Row). Agrees (arguments names None (drop 1 words)) (fault_of (app_with names) words) [] r)
    (sym rows_is)
    (subst (λ (f : Kinds). Agrees (arguments names None (drop 1 words)) f [] (rows_from names s k start (drop 1 words))) (sym fault_is) core)
