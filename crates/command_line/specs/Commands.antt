-- A command as the words say it, and the ranges that its numbers keep.
use Rattle.std.specs.Prelude.{◌≤◌, ℕ}
use Rattle.flash_traits.specs.Words.{IsSectorSize}
use Rattle.command_line.specs.Lines.{CommandLine, serve, replay, format, dump, report, gen}
use Rattle.command_line.specs.declared.Command.{Command}
use Rattle.command_line.specs.declared.Command.TheVariants as command

abbrev pub command_line_of : Command → CommandLine
command_line_of (command.Serve image port turns) = serve image.now port turns
command_line_of (command.Replay image) = replay image.now
command_line_of (command.Format image sector) = format image.now sector
command_line_of (command.Dump image) = dump image.now
command_line_of (command.Report image) = report image.now
command_line_of (command.Gen rounds) = gen rounds

-- a size of a sector, in bytes, with which an image is made: each that a board has
abbrev pub IsFormatSize : ℕ → Type 0
IsFormatSize n = IsSectorSize n

-- a port and a number of turns are at least 1, a sector has a size with which an image is made, and
-- there are 1 to 1,000 rounds
abbrev pub HasNumbersInRange : Command → Type 0
HasNumbersInRange (command.Serve image port turns) = (1 ≤ port) × (1 ≤ turns)
HasNumbersInRange (command.Replay image) = Unit {0}
HasNumbersInRange (command.Format image sector) = IsFormatSize sector
HasNumbersInRange (command.Dump image) = Unit {0}
HasNumbersInRange (command.Report image) = Unit {0}
HasNumbersInRange (command.Gen rounds) = (1 ≤ rounds) × (rounds ≤ 1000)
