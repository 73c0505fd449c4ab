use Rattle.std.proofs.Common.{◌+◌, ◌-◌, ◌*◌, ◌∙◌, arith}
use Rattle.sector_log.proofs.BytesLemmas.{read_halfword}
use Rattle.legacy_image.proofs.heads.word_at.Goals as goal

pub returns : goal.returns
returns c = read_halfword c.args.sector.now c.args.at (2 * c.args.at + 2 - 2 * c.args.at) c.read_u16.result (omega arith) (omega arith) (c.read_u16.ensures ∙ omega arith)
