use Rattle.std.proofs.Common.{ℕ, arith, ◌∙◌, ap, take, drop}
use Rattle.storage_lines.specs.declared.areas.Area.TheVariants.{Mission}
use Rattle.storage_lines.proofs.PieceLemmas.{length-area}
use Rattle.mission_records.specs.Mission.{mission_area, place_of_command}
use Rattle.mission_records.proofs.ReadLemmas.{part_listed}
use Rattle.mission_records.proofs.reading.bytes_at.Goals as goal

pub returns : goal.returns
returns c = c.read.ensures ∙ ap (λ (k : ℕ). take 15 (drop k (mission_area c.args.current.now))) c.place_of_command.ensures
    ∙ part_listed 15 (place_of_command c.args.index) (mission_area c.args.current.now) (omega (arith, length-area Mission c.args.current.now))
