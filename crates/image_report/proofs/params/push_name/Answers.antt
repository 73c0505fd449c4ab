use Rattle.std.proofs.Common.{◌≡◌, ◌==◌, ap, arith, length, length-append}
use Rattle.std.specs.List.{position_or_len}
use Rattle.std.proofs.lemmas.List.{length-take}
use Rattle.param_tree.specs.Rules.{name_of}
use Rattle.image_report.proofs.params.push_name.Goals as goal

pub push-requires : goal.push-requires
push-requires c =
    let is : length c.name_in.result.now ≡ length (name_of c.args.row.now) = ap length c.name_in.ensures in
    omega (arith, is, length-take (position_or_len (λ b. b == 0) c.args.row.now.name) c.args.row.now.name)

pub returns-clause-len : goal.returns-clause-len
returns-clause-len c =
    let is : length c.name_in.result.now ≡ length (name_of c.args.row.now) = ap length c.name_in.ensures in
    omega (arith, is, ap length c.push.ensures, length-append c.args.line.now.items c.name_in.result.now, length-take (position_or_len (λ b. b == 0) c.args.row.now.name) c.args.row.now.name)
