use Rattle.std.proofs.Common.{◌∙◌, ap, sym, subst, arith, ℕ, List, ◌++◌}
use Rattle.storage_cli.specs.Texts.{PrintedLine}
use Rattle.storage_cli.specs.Texts as texts
use Rattle.storage_cli.proofs.Outcomes.{gen_done, gen_others, gen_stopped, not_done, prints_none, prints_stopped, worn_told}
use Rattle.storage_cli.proofs.TextEndings.{never_0}
use Rattle.storage_cli.proofs.Sessions.{one_line, summary_line}
use Rattle.storage_cli.proofs.commands.run_gen.Goals as goal

pub returns-in-Ok-clause-known : goal.returns-in-Ok-clause-known
returns-in-Ok-clause-known g c = gen_done c.print.result.0 c.print.ensures.status

pub returns-in-Ok-clause-no_others : goal.returns-in-Ok-clause-no_others
returns-in-Ok-clause-no_others g c = gen_others c.print.result.0 (returns-in-Ok-clause-known g c)

pub returns-in-Ok-clause-lines : goal.returns-in-Ok-clause-lines
returns-in-Ok-clause-lines g c = prints_none c.print.result.0 _ c.print.ensures.status

pub returns-in-Ok-clause-cut_short : goal.returns-in-Ok-clause-cut_short
returns-in-Ok-clause-cut_short g c = λ failed told.
    let part = c.print.ensures.cut failed told in
    let s = c.in-Ok.summary in
    record {
      text = c.as_slice.result.now;
      is_text = subst (λ (l : List ℕ). PrintedLine l) (sym (c.as_slice.ensures.value ∙ c.session_line-line.ensures)) (texts.Session s.rounds s.events s.frames s.lines s.digest);
      count = part.0;
      written = part.1;
    }

pub returns-in-Ok-clause-generated : goal.returns-in-Ok-clause-generated
returns-in-Ok-clause-generated g c = λ done.
    let is = c.in-Ok.ensures.summary in
    record {
      session = is.session;
      printed = λ s told. c.print.ensures.line (λ z. omega (arith, z, done)) told
          ∙ ap (λ (l : List ℕ). g.K.Sink.written c.args.out.now ++ l) (c.as_slice.ensures.value ∙ c.session_line-line.ensures ∙ summary_line c.args.rounds c.in-Ok.summary is
          ∙ one_line c.one_session.ensures c.events_are_read_once.ensures c.args.rounds is.session s);
    }

pub returns-in-Err-clause-known : goal.returns-in-Err-clause-known
returns-in-Err-clause-known g c = gen_stopped c.print_stop.result.0 c.in-Err.stop c.in-Err.ensures.stops c.print_stop.ensures.status

pub returns-in-Err-clause-no_others : goal.returns-in-Err-clause-no_others
returns-in-Err-clause-no_others g c = gen_others c.print_stop.result.0 (returns-in-Err-clause-known g c)

pub returns-in-Err-clause-lines : goal.returns-in-Err-clause-lines
returns-in-Err-clause-lines g c = prints_stopped c.print_stop.result.0 c.in-Err.stop c.print_stop.ensures.status _ c.print_stop.ensures.line

pub returns-in-Err-clause-generated : goal.returns-in-Err-clause-generated
returns-in-Err-clause-generated g c = λ done. absurd (never_0 c.print_stop.result.0 c.in-Err.stop c.print_stop.ensures.status done)

pub returns-in-Ok-clause-worn : goal.returns-in-Ok-clause-worn
returns-in-Ok-clause-worn g c = not_done c.print.result.0 7 c.print.ensures.status (λ z. omega (arith, z)) (λ z. omega (arith, z))

pub returns-in-Err-clause-worn : goal.returns-in-Err-clause-worn
returns-in-Err-clause-worn g c = worn_told c.print_stop.result.0 c.in-Err.stop c.print_stop.ensures.status _ c.in-Err.ensures.worn
