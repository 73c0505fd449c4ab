-- What the words after the first say, apart from any program that reads them.
--
-- A word that begins with `-`, and is not the single `-`, is an option; every other word is an
-- operand, and after the word `--` every word is one. An option is `--name value` in two words or
-- `--name=value` in one, with a name that the command has; each other option is refused.
use Rattle.std.specs.Prelude.{◌==◌, ℕ, Bool, List, [], ◌∷◌, map, Option, Some, None}
use Rattle.std.specs.Prelude.{if◌then◌else◌, option_map}
use Rattle.std.specs.List.{after_first, before_first, list_any}
use Rattle.std.specs.Str.{bytes_eq}

-- the bytes of a word
abbrev pub Text : Type 0
Text = List ℕ

-- What a word is, where it can be an option: an operand or the value of the option before it; the
-- word `--`; an option whose value is the next word; an option with its value; or no word of the
-- command.
pub data Role : Type 0 where
  stands_alone : Role
  ends_options : Role
  opens : Text → Role
  gives : Text → Text → Role
  refused : Role

-- the role of an option of the command, with the value that stands in the same word, if one does
abbrev pub option_role : Text → Option Text → Role
option_role name None = opens name
option_role name (Some value) = gives name value

-- the name is one of the command's options
abbrev pub is_named : List Text → Text → Bool
is_named names name = list_any (λ n. bytes_eq n name) names

-- the role of an option by whether the command has it
abbrev pub role_if_named : List Text → Text → Option Text → Role
role_if_named names name value = if is_named names name then option_role name value else refused

-- what stands before the first `=` (0x3D), and what stands after it if there is one
abbrev pub name_in : Text → Text
name_in text = before_first (λ b. b == 0x3D) text

abbrev pub value_after_equals : Text → Option Text
value_after_equals text =
    if list_any (λ b. b == 0x3D) text then Some (after_first (λ b. b == 0x3D) text) else None

-- the role of the word that is `--` and then this text
abbrev pub role_after_dashes : List Text → Text → Role
role_after_dashes names [] = ends_options
role_after_dashes names (x ∷ xs) =
    role_if_named names (name_in (x ∷ xs)) (value_after_equals (x ∷ xs))

-- the role of a word, for a command with options of these names; 0x2D is `-`
abbrev pub role_of : List Text → Text → Role
role_of names [] = stands_alone
role_of names (x ∷ []) = stands_alone
role_of names (x ∷ y ∷ rest) =
    if x == 0x2D then (if y == 0x2D then role_after_dashes names rest else refused)
    else stands_alone

-- an operand, as IMAGE, or an option by its name with its value
pub data Argument : Type 0 where
  operand : Text → Argument
  option_value : Text → Text → Argument

abbrev pub with_argument : Argument → Option (List Argument) → Option (List Argument)
with_argument a = option_map (λ rest. a ∷ rest)

-- The arguments from a word of this role on, where no option waits for its value; `next` has those
-- of the words after it.
abbrev pub arguments_from : Role → Text → List Text → (Option Text → Option (List Argument))
    → Option (List Argument)
arguments_from stands_alone word rest next = with_argument (operand word) (next None)
arguments_from ends_options word rest next = Some (map operand rest)
arguments_from (opens name) word rest next = next (Some name)
arguments_from (gives name value) word rest next =
    with_argument (option_value name value) (next None)
arguments_from refused word rest next = None

-- The arguments from a word of this role on, where the option `name` waits for its value: the word
-- is that value, unless it would be an option.
abbrev pub arguments_waited : Text → Role → Text → Option (List Argument) → Option (List Argument)
arguments_waited name stands_alone word next = with_argument (option_value name word) next
arguments_waited name _ word next = None

-- The arguments of the words in their order, for a command with options of these names, or none
-- where the words are not of its form. The option, if one is given, waits for its value.
unfoldable pub arguments : List Text → Option Text → List Text → Option (List Argument)
arguments names None [] = Some []
arguments names (Some name) [] = None
arguments names None (word ∷ rest) =
    arguments_from (role_of names word) word rest (λ waiting. arguments names waiting rest)
arguments names (Some name) (word ∷ rest) =
    arguments_waited name (role_of names word) word (arguments names None rest)

-- the operands, in order
abbrev pub operands : List Argument → List Text
operands [] = []
operands (operand word ∷ rest) = word ∷ operands rest
operands (option_value name value ∷ rest) = operands rest

-- the values that the option was given, in order
abbrev pub values_of : Text → List Argument → List Text
values_of name [] = []
values_of name (operand word ∷ rest) = values_of name rest
values_of name (option_value n value ∷ rest) =
    if bytes_eq n name then value ∷ values_of name rest else values_of name rest
