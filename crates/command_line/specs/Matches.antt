-- What `clap`'s matches say, as the arguments among the words.
use Rattle.std.specs.Prelude.{◌≡◌, true, codes, List, [], ◌∷◌, Option, Some, None, option_map}
use Rattle.std.specs.Prelude.{unwrap_or}
use Rattle.std.specs.Str.{IsUtf8}
use Rattle.clap.specs.Words.{found_of, matched_of, raw_values}
use Rattle.clap.specs.declared.parser.matches.ArgMatches.{ArgMatches}
use Rattle.command_line.specs.Arguments.{Argument, Text, is_named, operands, values_of}

-- each of the words is UTF-8
abbrev pub AreTexts : List Text → Type 0
AreTexts [] = Unit {0}
AreTexts (w ∷ ws) = IsUtf8 w × AreTexts ws

-- the values that the matches hold for IMAGE or an option, of all its uses
abbrev pub texts_of : ArgMatches → Text → List Text
texts_of m id = unwrap_or (option_map raw_values (matched_of (found_of m) id)) []

-- the matches hold the operands and each option's values
pub record HoldsArguments (names : List Text) (args : List Argument) (m : ArgMatches) : Type 0 where
  pub operands_are : texts_of m (codes "IMAGE") ≡ operands args
  pub values_are : (name : Text) → is_named names name ≡ true
      → texts_of m name ≡ values_of name args

-- there are matches exactly where there are arguments, and they say the same
abbrev pub ReadsWords : List Text → Option (List Argument) → Option ArgMatches → Type 0
ReadsWords names None None = Unit {0}
ReadsWords names (Some args) (Some m) = HoldsArguments names args m
ReadsWords names _ _ = ⊥
