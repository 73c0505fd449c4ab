use Rattle.std.proofs.Common.{ap, sym, ◌∙◌}
use Rattle.vehicle_core.specs.CoreState.{CoreState}
use Rattle.vehicle_core.proofs.Machine.{did-no_stream, no_list}
use Rattle.vehicle_core.proofs.Core.streams.Goals as goal

pub returns-then-not-heard-clause-idle : goal.returns-then-not-heard-clause-idle
returns-then-not-heard-clause-idle c = λ no budget bytes. did-no_stream budget bytes c.args.self.now.vehicle c.args.station (sym c.heard-heard.ensures ∙ c.if-not-heard.true)

pub returns-clause-idle : goal.returns-clause-idle
returns-clause-idle c = λ no budget bytes.
    no_list budget bytes c.self.inside.stations c.self.inside.parameters.next_rows c.self.inside.missions c.self.inside.armed c.args.self.now.vehicle c.args.station (ap (λ (x : CoreState). x.vehicle) c.self.view_is) (sym c.heard-heard.ensures ∙ c.if-not-heard.false) (c.streams.ensures.idle no bytes)
