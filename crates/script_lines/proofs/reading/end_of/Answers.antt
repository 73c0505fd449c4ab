use Rattle.script_lines.proofs.Bytes.{found, first, not_found}
use Rattle.script_lines.proofs.reading.end_of.Goals as goal

pub returns-clause-found : goal.returns-clause-found
returns-clause-found c = found c.args.bytes.now c.memchr.result c.memchr.ensures

pub returns-clause-first : goal.returns-clause-first
returns-clause-first c = first c.args.bytes.now c.memchr.result c.memchr.ensures

pub returns-clause-none : goal.returns-clause-none
returns-clause-none c = not_found c.args.bytes.now c.memchr.result c.memchr.ensures
