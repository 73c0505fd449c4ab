use Rattle.std.proofs.Common.{ap, ◌∙◌, arith}
use Rattle.mav_crc.specs.Register.{register_after}
use Rattle.mav_crc.proofs.ByteLists.{bytes_of}
use Rattle.mav_crc.proofs.accumulate_text.Goals as goal

pub returns-clause-after : goal.returns-clause-after
returns-clause-after c = c.accumulate.ensures ∙ ap (λ v. register_after v 32) c.crc.ensures.chained

pub returns-clause-bytes : goal.returns-clause-bytes
returns-clause-bytes c = bytes_of c.args.text.now (λ k. let f = c.type_inv.text k in omega arith)
