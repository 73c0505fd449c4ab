-- clap's walk over words, followed by the pieces.
use Rattle.std.proofs.Common.{◌≡◌, ◌&&◌, ℕ, List, [], ◌∷◌, refl, ap, Bool, true, false, cond, codes, Option, Some, None, fold, eqb-true}
use Rattle.std.specs.Prelude.{◌==◌}
use Rattle.std.specs.Str.{bytes_eq}
use Rattle.clap.specs.Lexer.{long_of, short_of}
use Rattle.clap.specs.Walk.{Held, Row, Rule, Waiting, Walk, idle, positional, arg_by_id, arg_by_index, arg_by_long, arg_by_short, is_empty, is_pending, positional_held, pushed, settled, used}
use Rattle.clap.specs.Simple.{new_rule}
use Rattle.clap.specs.Kinds.{Kinds}
use Rattle.clap.specs.Faults.{positional_fault, settle_fault}
use Rattle.clap.specs.declared.builder.action.ArgAction.TheVariants.{Append}
use Rattle.clap.specs.declared.builder.value_parser.ValueParser.TheVariants as vp
use Rattle.command_line.specs.Arguments.{Argument, Text, stands_alone, ends_options, refused, operand, option_value, role_of, role_if_named, is_named, name_in, value_after_equals}

abbrev pub image_rule : Rule
image_rule = record (new_rule (codes "IMAGE")) {
  index = Some 1;
  action = Some Append;
  range = Some (record { start_inclusive = 1; end_inclusive = 1 });
  parser = Some vp.String;
}

abbrev pub option_rule : Text → Rule
option_rule name = record (new_rule name) {
  long = Some name;
  action = Some Append;
  range = Some (record { start_inclusive = 1; end_inclusive = 1 });
  parser = Some vp.String;
}

-- what the walk reads of a command with these options
pub record Knows (names : List Text) (c : List Rule) : Type 0 where
  pub by_index : arg_by_index c 1 ≡ Some image_rule
  pub by_short : (x : ℕ) → arg_by_short c x ≡ None
  pub by_long : (name : Text) → is_named names name ≡ true → arg_by_long c name ≡ Some (option_rule name)
  pub by_no_long : (name : Text) → is_named names name ≡ false → arg_by_long c name ≡ None
  pub by_image : arg_by_id c (codes "IMAGE") ≡ Some image_rule
  pub by_name : (name : Text) → is_named names name ≡ true → arg_by_id c name ≡ Some (option_rule name)

abbrev pub with_row : List Row → Argument → List Row
with_row rows (operand word) = used image_rule (word ∷ []) rows
with_row rows (option_value name value) = used (option_rule name) (value ∷ []) rows

abbrev pub put : List Row → List Argument → List Row
put rows ps = fold with_row rows ps

abbrev pub Agrees : Option (List Argument) → Kinds → List Row → List Row → Type 0
Agrees None fault start end = is_empty fault ≡ false
Agrees (Some ps) fault start end = (fault ≡ []) × (end ≡ put start ps)

abbrev pub holding : List Row → Option (Text × List Text) → Held
holding rows pending = record { rows = rows; pending = pending; skip = 0 }

abbrev pub waits_by : Bool → Waiting
waits_by true = positional
waits_by false = idle

abbrev pub at : Held → Waiting → Bool → Walk
at h waiting trailing =
    record { held = h; waiting = waiting; position = 1; is_trailing = trailing; stopped = None }

-- what kind of word it is, for clap and for us
pub data Class (names : List Text) (word : Text) : Type 0 where
  is_operand : bytes_eq word (45 ∷ 45 ∷ []) ≡ false → long_of word ≡ None → short_of word ≡ None
      → role_of names word ≡ stands_alone → Class names word
  is_end : bytes_eq word (45 ∷ 45 ∷ []) ≡ true → role_of names word ≡ ends_options → Class names word
  is_long : (name : Text) (value : Option Text) → bytes_eq word (45 ∷ 45 ∷ []) ≡ false
      → long_of word ≡ Some (name, value) → role_of names word ≡ role_if_named names name value
      → Class names word
  is_short : (x : ℕ) (xs : Text) → bytes_eq word (45 ∷ 45 ∷ []) ≡ false → long_of word ≡ None
      → short_of word ≡ Some (x ∷ xs) → word ≡ 45 ∷ x ∷ xs → role_of names word ≡ refused → Class names word

pub class_of : (names : List Text) (word : Text) → Class names word
class_of names [] = is_operand refl refl refl refl
class_of names (x ∷ []) = one (x == 45) refl
  where
    one : (b : Bool) → (x == 45) ≡ b → Class names (x ∷ [])
    one true e = is_operand (rw e refl) (rw e refl) (rw e refl) refl
    one false e = is_operand (rw e refl) (rw e refl) (rw e refl) refl
class_of names (x ∷ y ∷ rest) = two (x == 45) refl (y == 45) refl rest
  where
    two : (b : Bool) → (x == 45) ≡ b → (d : Bool) → (y == 45) ≡ d → (r : Text) → Class names (x ∷ y ∷ r)
    two false e d f r = is_operand (rw e refl) (rw e refl) (rw e refl) (rw e refl)
    two true e false f r =
        is_short y r (rw (e, f) refl) (rw (e, f) refl) (rw (e, f) refl) (ap (λ z. z ∷ y ∷ r) (eqb-true x 45 e))
        (rw (e, f) refl)
    two true e true f [] = is_end (rw (e, f) refl) (rw (e, f) refl)
    two true e true f (z ∷ zs) =
        is_long (name_in (z ∷ zs)) (value_after_equals (z ∷ zs)) (rw (e, f) refl) (rw (e, f) refl) (rw (e, f) refl)

-- ---- the positional takes one value a use, and any number of uses

and_no : (p : Bool) (k : Kinds) → cond (p && false) [] k ≡ k
and_no true k = refl
and_no false k = refl

and_no_held : (p : Bool) (h k : Held) → cond (p && false) h k ≡ k
and_no_held true h k = refl
and_no_held false h k = refl

pub image_fault : (c : List Rule) (again : Bool) (h : Held)
    → positional_fault c again image_rule h ≡ settle_fault c again h
image_fault c again h = and_no (is_pending image_rule h.pending) _

pub image_held : (c : List Rule) (word : Text) (h : Held)
    → positional_held c image_rule word h ≡ pushed (codes "IMAGE") word (settled c h)
image_held c word h =
    ap (pushed (codes "IMAGE") word) (and_no_held (is_pending image_rule h.pending) h (settled c h))
