use Rattle.std.proofs.Common.{ℕ, List, sym, ◌∙◌, subst}
use Rattle.std.proofs.lemmas.Result.{IfOk-weaker}
use Rattle.sector_log.specs.Bytes.{IsValue}
use Rattle.sector_log.proofs.ValueLemmas.{value_applied}
use Rattle.sector_image.proofs.logs.bytes_at.Goals as goal

pub returns-clause-log : goal.returns-clause-log
returns-clause-log g c = IfOk-weaker c.log_at.result _ _ (λ log found told.
    let e = found told in
    (e.0, e.1, e.2, subst (λ (l : List ℕ). IsValue e.0 l) (sym e.3) (value_applied e.0 c.clear.new.bytes e.1.each (c.clear.auto.bytes ∙ c.requires.storage) c.clear.ensures))) c.log_at.ensures.log
