-- The command that a list of words is, or none. The first word picks the command; the rest are its
-- arguments: one operand, IMAGE or the N of `gen`, and each option at most once, before or after
-- it.
--
-- A command is added by: a constructor of `CommandLine`; the names of its options
-- (`serve_options`); what its operands and values say (`serve_says`, `serve_from`); its first word
-- in `line_of_command`; its variant in Commands.antt. In src/ come the variant of `Command`, the
-- names again, a function beside `serve_said` and `serve`, and the first word in `command_of`. The
-- lemmas and the reading of the words by `clap` hold for options of any names.
use Rattle.std.specs.Prelude.{ℕ, List, [], ◌∷◌, Option, Some, None, codes, drop, if◌then◌else◌}
use Rattle.std.specs.Prelude.{option_and_then, option_map, slice_get}
use Rattle.std.specs.Str.{bytes_eq}
use Rattle.flash_traits.specs.Words.{is_size}
use Rattle.command_line.specs.Arguments.{Argument, Text, arguments, operands, values_of}
use Rattle.command_line.specs.Numbers.{number_given, number_in, only_text}

pub data CommandLine : Type 0 where
  -- IMAGE, the UDP port and the number of turns
  serve : Text → ℕ → ℕ → CommandLine
  -- IMAGE
  replay : Text → CommandLine
  -- IMAGE and the bytes of a sector
  format : Text → ℕ → CommandLine
  -- IMAGE
  dump : Text → CommandLine
  report : Text → CommandLine
  -- the number of rounds
  gen : ℕ → CommandLine

-- `serve IMAGE [--port P] [--turns N]`
abbrev pub serve_with : Option Text → Option ℕ → Option ℕ → Option CommandLine
serve_with (Some image) (Some port) (Some turns) = Some (serve image port turns)
serve_with _ _ _ = None

abbrev pub serve_options : List Text
serve_options = codes "port" ∷ codes "turns" ∷ []

-- P is from 1 to 65535, and 14550 where it is not given; N is from 1 to 4294967295, and that where
-- it is not given.
abbrev pub serve_says : List Text → List Text → List Text → Option CommandLine
serve_says images ports turns = serve_with (only_text images) (number_given 1 65535 14550 ports)
    (number_given 1 4294967295 4294967295 turns)

abbrev pub serve_from : Option (List Argument) → Option CommandLine
serve_from None = None
serve_from (Some args) =
    serve_says (operands args) (values_of (codes "port") args) (values_of (codes "turns") args)

-- `format IMAGE [--sector S]`
abbrev pub format_with : Option Text → Option ℕ → Option CommandLine
format_with (Some image) (Some sector) = Some (format image sector)
format_with _ _ = None

abbrev pub format_options : List Text
format_options = codes "sector" ∷ []

-- the number, where it is a size with which an image is made
abbrev pub format_size_in : ℕ → Option ℕ
format_size_in n = if is_size n then Some n else None

-- S is one of these sizes, and 131072 where it is not given.
abbrev pub format_says : List Text → List Text → Option CommandLine
format_says images sectors =
    format_with (only_text images)
    (option_and_then format_size_in (number_given 16384 131072 131072 sectors))

abbrev pub format_from : Option (List Argument) → Option CommandLine
format_from None = None
format_from (Some args) = format_says (operands args) (values_of (codes "sector") args)

-- `replay IMAGE`, `dump IMAGE` and `report IMAGE`
abbrev pub no_options : List Text
no_options = []

abbrev pub replay_says : List Text → Option CommandLine
replay_says images = option_map replay (only_text images)

abbrev pub replay_from : Option (List Argument) → Option CommandLine
replay_from None = None
replay_from (Some args) = replay_says (operands args)

abbrev pub dump_says : List Text → Option CommandLine
dump_says images = option_map dump (only_text images)

abbrev pub dump_from : Option (List Argument) → Option CommandLine
dump_from None = None
dump_from (Some args) = dump_says (operands args)

abbrev pub report_says : List Text → Option CommandLine
report_says images = option_map report (only_text images)

abbrev pub report_from : Option (List Argument) → Option CommandLine
report_from None = None
report_from (Some args) = report_says (operands args)

-- `gen N`: N is from 1 to 1000
abbrev pub gen_says : List Text → Option CommandLine
gen_says numbers = option_map gen (option_and_then (number_in 1 1000) (only_text numbers))

abbrev pub gen_from : Option (List Argument) → Option CommandLine
gen_from None = None
gen_from (Some args) = gen_says (operands args)

-- the command with this first word and these words after it
abbrev pub line_of_command : Text → List Text → Option CommandLine
line_of_command first rest =
    if bytes_eq first (codes "serve") then serve_from (arguments serve_options None rest)
    else (if bytes_eq first (codes "replay") then replay_from (arguments no_options None rest)
    else (if bytes_eq first (codes "format") then format_from (arguments format_options None rest)
    else (if bytes_eq first (codes "dump") then dump_from (arguments no_options None rest)
    else (if bytes_eq first (codes "report") then report_from (arguments no_options None rest)
    else (if bytes_eq first (codes "gen") then gen_from (arguments no_options None rest)
    else None)))))

abbrev pub line_from : Option Text → List Text → Option CommandLine
line_from None rest = None
line_from (Some first) rest = line_of_command first rest

-- the command of the words, without the program's name; none where they are no command line
abbrev pub line_of_words : List Text → Option CommandLine
line_of_words words = line_from (slice_get words 0) (drop 1 words)
