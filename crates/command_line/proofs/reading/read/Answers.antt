use Rattle.std.proofs.Common.{rules, map}
use Rattle.clap.specs.Words.{fault_of}
use Rattle.command_line.specs.App.{app_with}
use Rattle.command_line.proofs.Matches.{reads_none, reads_some, refused_by, rest_first}
use Rattle.command_line.proofs.reading.read.Goals as goal

pub returns-in-Ok : goal.returns-in-Ok
returns-in-Ok c =
    reads_some (map (λ n. n.now) c.args.names.now) (map (λ s. s.now) c.args.words.now) c.in-Ok.matches c.requires.apart
    (rest_first (map (λ s. s.now) c.args.words.now) c.are_texts.ensures) c.in-Ok.ensures.kinds c.in-Ok.ensures.matches

pub returns : goal.returns
returns c = reads_none (map (λ n. n.now) c.args.names.now) (map (λ s. s.now) c.args.words.now) c.requires.apart
    (rest_first (map (λ s. s.now) c.args.words.now) c.are_texts.ensures)
    (refused_by (fault_of (app_with (map (λ n. n.now) c.args.names.now)) (map (λ s. s.now) c.args.words.now)) c.in-Err.error c.in-Err.ensures.kinds (search rules))
