use Rattle.std.proofs.Common.{◌≡◌, true, refl, subst}
use Rattle.std.proofs.Common.{ℕ}
use Rattle.flash_traits.specs.Causes.{counts_after}
use Rattle.flash_traits.specs.declared.board.Fault.{Fault}
use Rattle.sector_image.specs.FirstBad.{FirstBad}
use Rattle.sector_image.specs.Refusals.{OnForeign, fault_in}
use Rattle.script_board.specs.Image.{words_of}
use Rattle.script_replay.proofs.Ended.{never_raised}
use Rattle.script_replay.proofs.replaying.digest_of.Goals as goal

pub returns-in-Err-Foreign-clause-foreign : goal.returns-in-Err-Foreign-clause-foreign
returns-in-Err-Foreign-clause-foreign c =
    subst (λ e. OnForeign e (λ place. c.survey.new.board.still ≡ true → FirstBad (words_of c.args.sector_bytes c.args.image.items) place)) c.in-Err-Foreign.field-0-is c.in-Err-Foreign.ensures.foreign
    (c.in-Err-Foreign.ensures.reads.keeps_told refl)

pub unreachable-requires : goal.unreachable-requires
unreachable-requires c =
    never_raised _ (subst (λ e. (λ (k : Fault). 0) ≡ counts_after (fault_in e) (λ (k : Fault). 0)) c.in-Err-Fault.field-0-is c.in-Err-Fault.ensures.counts)
