use Rattle.std.proofs.Common.{◌≡◌, ℕ, List, Some, get_or, ap, ◌∙◌, rules}
use Rattle.std.specs.Prelude.{slice_get, slice_set}
use Rattle.std.proofs.lemmas.Option.{slice_get_read}
use Rattle.vehicle_node.specs.Standing.{Node}
use Rattle.vehicle_node.proofs.Heard.{pushed_by}
use Rattle.vehicle_node.proofs.Node.push.Goals as goal

pub returns-clause-frame : goal.returns-clause-frame
returns-clause-frame c =
    let same : c.self.inside.cutters ≡ c.args.self.now.rests = ap (λ (n : Node). n.rests) c.self.view_is in
    let is : slice_get c.args.self.now.rests c.args.station ≡ Some c.index-self-station.result = search (rules, slice_get_read) in
    pushed_by c.push.result c.args.station c.args.byte c.args.self.now.rests (slice_set c.self.inside.cutters c.args.station c.push.new.self) (get_or c.self.inside.cutters c.args.station c.index-self-station.result) c.push.new.self
    (is ∙ ap Some c.index-self-station.is) (ap (λ (l : List (List ℕ)). slice_set l c.args.station c.push.new.self) same) c.push.ensures

pub returns-clause-keeps : goal.returns-clause-keeps
returns-clause-keeps c = ap (λ (n : Node). record n { rests = slice_set c.self.inside.cutters c.args.station c.push.new.self }) c.self.view_is
