-- The values in the rows that the pieces make.
use Rattle.std.proofs.Common.{◌≡◌, ◌∙◌, ◌++◌, List, [], ◌∷◌, refl, sym, ap, Bool, true, false, cond, Option, Some, None, map, append_assoc, append-nil, IfSome, true≢false, nat_eq}
use Rattle.std.specs.Prelude.{unwrap_or}
use Rattle.std.specs.Str.{bytes_eq}
use Rattle.std.proofs.lemmas.Slice.Eq.{bytes_eq-Decides}
use Rattle.clap.specs.Walk.{Row, all_of, with_values}
use Rattle.clap.specs.declared.builder.value_parser.Reading.{Reading}
use Rattle.clap.specs.declared.parser.matches.ValueSource.{ValueSource}
use Rattle.command_line.specs.Arguments.{Argument, Text, Role, stands_alone, ends_options, opens, gives, refused, operand, option_value, arguments, arguments_from, arguments_waited, with_argument, role_of, is_named, option_role, name_in, value_after_equals, role_after_dashes, operands, values_of}
use Rattle.command_line.proofs.Classes.{put}
use Rattle.command_line.proofs.Building.{image_id}

abbrev pub vals : Text → List Row → List Text
vals id rows = unwrap_or (all_of id rows) []

put_same : (id : Text) (how : Reading) (s : ValueSource) (vs : List Text) (rows : List Row)
    → vals id (with_values id how s vs rows) ≡ vals id rows ++ vs
put_same id how s vs [] = rw ((bytes_eq-Decides id id).1 refl) refl
put_same id how s vs (r ∷ rs) = go (bytes_eq r.id id) refl (put_same id how s vs rs)
  where
    go : (b : Bool) → bytes_eq r.id id ≡ b → vals id (with_values id how s vs rs) ≡ vals id rs ++ vs
        → vals id (with_values id how s vs (r ∷ rs)) ≡ vals id (r ∷ rs) ++ vs
    go true e more = rw (e, e) refl
    go false e more = rw (e, e) more

put_other : (id other : Text) (how : Reading) (s : ValueSource) (vs : List Text) (rows : List Row)
    → bytes_eq other id ≡ false → vals id (with_values other how s vs rows) ≡ vals id rows
put_other id other how s vs [] apart = rw apart refl
put_other id other how s vs (r ∷ rs) apart =
    go (bytes_eq r.id other) refl (bytes_eq r.id id) refl (put_other id other how s vs rs apart)
  where
    go : (b : Bool) → bytes_eq r.id other ≡ b → (d : Bool) → bytes_eq r.id id ≡ d
        → vals id (with_values other how s vs rs) ≡ vals id rs
        → vals id (with_values other how s vs (r ∷ rs)) ≡ vals id (r ∷ rs)
    go true e true f more =
        let same : r.id ≡ other = (bytes_eq-Decides r.id other).0 e in
        absurd (true≢false (sym f ∙ ap (λ (t : Text). bytes_eq t id) same ∙ apart))
    go true e false f more = rw (e, f) refl
    go false e true f more = rw (e, f) refl
    go false e false f more = rw (e, f) more

-- each option of the pieces has one of the names
abbrev pub Named : List Text → List Argument → Type 0
Named names [] = Unit {0}
Named names (operand word ∷ ps) = Named names ps
Named names (option_value n value ∷ ps) = (is_named names n ≡ true) × Named names ps

pub operands_put : (names : List Text) (ps : List Argument) (rows : List Row) → is_named names image_id ≡ false
    → Named names ps → vals image_id (put rows ps) ≡ vals image_id rows ++ operands ps
operands_put names [] rows apart h = sym (append-nil (vals image_id rows))
operands_put names (operand word ∷ ps) rows apart h =
    operands_put names ps _ apart h
    ∙ ap (λ (vs : List Text). vs ++ operands ps) (put_same image_id _ _ (word ∷ []) rows)
    ∙ append_assoc (vals image_id rows) (word ∷ []) (operands ps)
operands_put names (option_value n value ∷ ps) rows apart h =
    operands_put names ps _ apart h.1
    ∙ ap (λ (vs : List Text). vs ++ operands ps) (go (bytes_eq n image_id) refl)
  where
    go : (b : Bool) → bytes_eq n image_id ≡ b
        → vals image_id (put rows (option_value n value ∷ [])) ≡ vals image_id rows
    go true e = absurd (true≢false (sym h.0 ∙ ap (is_named names) ((bytes_eq-Decides n image_id).0 e) ∙ apart))
    go false e = put_other image_id n _ _ (value ∷ []) rows e

pub values_put : (name : Text) (ps : List Argument) (rows : List Row) → bytes_eq image_id name ≡ false
    → vals name (put rows ps) ≡ vals name rows ++ values_of name ps
values_put name [] rows apart = sym (append-nil (vals name rows))
values_put name (operand word ∷ ps) rows apart =
    values_put name ps _ apart
    ∙ ap (λ (vs : List Text). vs ++ values_of name ps) (put_other name image_id _ _ (word ∷ []) rows apart)
values_put name (option_value n value ∷ ps) rows apart =
    values_put name ps (put rows (option_value n value ∷ [])) apart ∙ go (bytes_eq n name) refl
  where
    go : (b : Bool) → bytes_eq n name ≡ b
        → vals name (put rows (option_value n value ∷ [])) ++ values_of name ps ≡ vals name rows ++ values_of name (option_value n value ∷ ps)
    go true e =
        let same : n ≡ name = (bytes_eq-Decides n name).0 e in
        rw (e, same) (ap (λ (vs : List Text). vs ++ values_of name ps) (put_same name _ _ (value ∷ []) rows) ∙ append_assoc (vals name rows) (value ∷ []) (values_of name ps))
    go false e =
        rw e (ap (λ (vs : List Text). vs ++ values_of name ps) (put_other name n _ _ (value ∷ []) rows e))

-- ---- the pieces' options are named

abbrev IsNamedWord : List Text → Role → Type 0
IsNamedWord names (opens name) = is_named names name ≡ true
IsNamedWord names (gives name value) = is_named names name ≡ true
IsNamedWord names _ = Unit {0}

named_word : (names : List Text) (name : Text) (value : Option Text) (b : Bool) → is_named names name ≡ b
    → IsNamedWord names (cond b (option_role name value) refused)
named_word names name value false e = tt
named_word names name None true e = e
named_word names name (Some v) true e = e

after_named : (names : List Text) (rest : Text) → IsNamedWord names (role_after_dashes names rest)
after_named names [] = tt
after_named names (x ∷ xs) =
    named_word names (name_in (x ∷ xs)) (value_after_equals (x ∷ xs)) (is_named names (name_in (x ∷ xs))) refl

word_named : (names : List Text) (word : Text) → IsNamedWord names (role_of names word)
word_named names [] = tt
word_named names (x ∷ []) = tt
word_named names (x ∷ y ∷ rest) = go (nat_eq x 45) (nat_eq y 45)
  where
    go : (b d : Bool) → IsNamedWord names (cond b (cond d (role_after_dashes names rest) refused) stands_alone)
    go true true = after_named names rest
    go true false = tt
    go false d = tt

abbrev IsNamedWait : List Text → Option Text → Type 0
IsNamedWait names None = Unit {0}
IsNamedWait names (Some name) = is_named names name ≡ true

abbrev AllNamed : List Text → Option (List Argument) → Type 0
AllNamed names r = IfSome r (Named names)

added : (names : List Text) (p : Argument) (r : Option (List Argument))
    → ((ps : List Argument) → Named names ps → Named names (p ∷ ps)) → AllNamed names r
    → AllNamed names (with_argument p r)
added names p None h more = tt
added names p (Some ps) h more = h ps more

all_operands : (names : List Text) (words : List Text) → Named names (map (λ t. operand t) words)
all_operands names [] = tt
all_operands names (w ∷ ws) = all_operands names ws

from_named : (names : List Text) (x : Role) (word : Text) (rest : List Text) (next : Option Text → Option (List Argument))
    → IsNamedWord names x → ((w : Option Text) → IsNamedWait names w → AllNamed names (next w))
    → AllNamed names (arguments_from x word rest next)
from_named names stands_alone word rest next n more =
    added names (operand word) (next None) (λ ps h. h) (more None tt)
from_named names ends_options word rest next n more = all_operands names rest
from_named names (opens name) word rest next n more = more (Some name) n
from_named names (gives name value) word rest next n more =
    added names (option_value name value) (next None) (λ ps h. (n, h)) (more None tt)
from_named names refused word rest next n more = tt

waited_named : (names : List Text) (name : Text) (x : Role) (word : Text) (next : Option (List Argument))
    → is_named names name ≡ true → AllNamed names next → AllNamed names (arguments_waited name x word next)
waited_named names name stands_alone word next n more =
    added names (option_value name word) next (λ ps h. (n, h)) more
waited_named names name ends_options word next n more = tt
waited_named names name (opens other) word next n more = tt
waited_named names name (gives other value) word next n more = tt
waited_named names name refused word next n more = tt

pub arguments_named : (names : List Text) (words : List Text) (waiting : Option Text)
    → IsNamedWait names waiting → AllNamed names (arguments names waiting words)
unfolding arguments
arguments_named names [] None w = tt
arguments_named names [] (Some name) w = tt
arguments_named names (word ∷ rest) None w =
    from_named names (role_of names word) word rest (λ waiting. arguments names waiting rest) (word_named names word)
    (λ waiting n. arguments_named names rest waiting n)
arguments_named names (word ∷ rest) (Some name) w =
    waited_named names name (role_of names word) word (arguments names None rest) w (arguments_named names rest None tt)
