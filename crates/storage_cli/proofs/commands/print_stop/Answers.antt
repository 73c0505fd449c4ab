use Rattle.std.proofs.Common.{◌∙◌, sym, subst, ℕ, List}
use Rattle.storage_cli.specs.Texts.{PrintedLine}
use Rattle.storage_cli.proofs.Lines.{line_is}
use Rattle.storage_cli.proofs.commands.print_stop.Goals as goal

pub returns-clause-cut : goal.returns-clause-cut
returns-clause-cut g c = λ failed told.
    let part = c.print.ensures.cut failed told in record {
      text = c.as_slice.result.now;
      is_text = subst (λ (l : List ℕ). PrintedLine l) (sym (c.as_slice.ensures.value ∙ c.line_of_stop-line.ensures)) (line_is c.args.stop);
      count = part.0;
      written = part.1;
    }
