-- Each stop has one of the lines.
use Rattle.storage_cli.specs.declared.stop.Stop.{Stop}
use Rattle.storage_cli.specs.declared.stop.Stop.TheVariants as stop
use Rattle.storage_cli.specs.Texts as texts
use Rattle.storage_cli.specs.Texts.{PrintedLine}
use Rattle.storage_cli.specs.Steps.Stops.{line_of_stop}

pub line_is : (why : Stop) → PrintedLine (line_of_stop why)
line_is stop.Words = texts.Words
line_is stop.Memory = texts.Memory
line_is (stop.Foreign found) = texts.Foreign found.region found.offset found.word
line_is stop.Read = texts.Read
line_is stop.Flash = texts.Flash
line_is stop.Link = texts.Link
line_is stop.Worn = texts.Worn
line_is (stop.Turns n) = texts.Turns n
line_is stop.Attach = texts.Attach
line_is stop.Input = texts.Input
line_is (stop.Script line) = texts.Script line
