use Rattle.vehicle_node.proofs.Boot.{boot_begins, boot_goes_on}
use Rattle.vehicle_node.proofs.opening.issue_boot.Goals as goal

pub loop-step-init : goal.loop-step-init
loop-step-init c = boot_begins c.issue_formatting.new.lines c.args.lines.now c.issue_formatting.ensures.issued c.issue_formatting.ensures.few

pub loop-step-preserved : goal.loop-step-preserved
loop-step-preserved c =
    boot_goes_on c.loop-step.lines c.issue_conversion.new.lines c.args.lines.now c.loop-step.step c.loop-step.invariant c.loop-step-test.true c.issue_conversion.ensures.issued c.issue_conversion.ensures.few
