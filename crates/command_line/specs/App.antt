-- The command that `clap` reads, with options of these names: IMAGE and each option may come any
-- number of times, none is required, and there is no help flag.
use Rattle.std.specs.Prelude.{true, codes, List, ◌∷◌, Some, map}
use Rattle.clap.specs.Words.{App, Rule, new_app, new_rule}
use Rattle.clap.specs.Simple.{on_top}
use Rattle.clap.specs.declared.builder.action.ArgAction.TheVariants.{Append}
use Rattle.command_line.specs.Arguments.{Text}

abbrev pub image_arg : Rule
image_arg = record (new_rule (codes "IMAGE")) { action = Some Append }

abbrev pub option_arg : Text → Rule
option_arg name = record (new_rule name) { long = Some name; action = Some Append }

abbrev pub app_of_rules : List Rule → App
app_of_rules rules =
    on_top (λ s. record s { disable_help_flag = true; rules = rules }) (new_app (codes "command"))

unfoldable pub app_with : List Text → App
app_with names = app_of_rules (image_arg ∷ map option_arg names)
