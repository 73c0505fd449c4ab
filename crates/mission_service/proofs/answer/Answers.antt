use Rattle.param_records.specs.Steps.{HasMagic}
use Rattle.mission_service.specs.Replies.{target_of}
use Rattle.mission_service.specs.Service.{From}
use Rattle.mission_service.specs.Steps.Inside.{request_seen}
use Rattle.mission_service.proofs.Taking.{every_prefix}
use Rattle.mission_service.proofs.Limits.{lines_within}
use Rattle.mission_service.proofs.answer.Goals as goal

pub returns-in-Some-told-clause-magic : goal.returns-in-Some-told-clause-magic
returns-in-Some-told-clause-magic c = λ m. every_prefix HasMagic c.args.current.now c.serve-told.new.batch.items (c.serve-told.ensures.safe.magic m)

pub returns-in_default-told-clause-magic : goal.returns-in_default-told-clause-magic
returns-in_default-told-clause-magic c = λ m. every_prefix HasMagic c.args.current.now c.serve-told.new.batch.items (c.serve-told.ensures.safe.magic m)

pub returns-in-Some-told-clause-within : goal.returns-in-Some-told-clause-within
returns-in-Some-told-clause-within c =
    let from : From = record { station = c.args.from.station; target = target_of c.args.from; number = c.in-Some.asking.number } in
    lines_within c.args.current.now c.args.allowed c.args.state.now c.serve-told.new.state from (request_seen c.in-Some.asking.request) c.serve-told.new.batch.items c.serve-told.result c.serve-told.ensures.done

pub returns-in_default-told-clause-within : goal.returns-in_default-told-clause-within
returns-in_default-told-clause-within c =
    let from : From = record { station = c.args.from.station; target = target_of c.args.from; number = c.in-Some.asking.number } in
    lines_within c.args.current.now c.args.allowed c.args.state.now c.serve-told.new.state from (request_seen c.in-Some.asking.request) c.serve-told.new.batch.items c.serve-told.result c.serve-told.ensures.done
