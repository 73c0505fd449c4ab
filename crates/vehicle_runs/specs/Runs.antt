-- A run of the vehicle machine: what it issues and sends, event by event, and what must be flushed
-- by then.
use Rattle.std.specs.Prelude.{ℕ, ◌+◌, min, max, List, [], ◌∷◌, ◌++◌, length, take, map, if◌then◌else◌}
use Rattle.std.specs.Str.{bytes_eq}
use Rattle.storage_lines.specs.declared.areas.Area.TheVariants.{Param}
use Rattle.storage_lines.specs.declared.lines.LineWrite.{LineWrite}
use Rattle.storage_lines.specs.Areas.{logical_of}
use Rattle.storage_lines.specs.Lines.{after}
use Rattle.storage_lines.specs.Pieces.{writes_of}
use Rattle.param_records.specs.Records.{magic}
use Rattle.param_records.specs.Changes.{formatting}
use Rattle.param_tree.specs.Rows.{vehicle_rows}
use Rattle.param_convert.specs.declared.rules.Rule.{Rule}
use Rattle.param_convert.specs.Rules.{vehicle_rules}
use Rattle.param_convert.specs.Conversion.{convert_writes}
use Rattle.vehicle_core.specs.Vehicle.{Told}
use Rattle.vehicle_core.specs.Acts.{Act, Did, did}
use Rattle.vehicle_runs.specs.Frames.{Machine, new_machine, Answer, deliveries, numbered, counted_all, acknowledged}

-- What has happened so far: the machine, the lines issued, the answers given, and how many of these
-- lines were flushed for certain when the last event was finished.
pub record Run : Type 0 where
  pub machine : Machine
  pub issued : List LineWrite
  pub answers : List Answer
  pub floor : ℕ

-- what the vehicle does next, with this arming budget: its current bytes are those of the start
-- with all lines issued so far
abbrev pub did_in : ℕ → List ℕ → Run → Act → Did
did_in budget b r act = did budget (after b r.issued) r.machine.vehicle act

-- an act is taken: the vehicle's state is the one after it, and its lines are issued
abbrev pub take_act : ℕ → List ℕ → Run → Act → Run
take_act budget b r act = record r {
  machine = record r.machine { vehicle = (did_in budget b r act).vehicle };
  issued = r.issued ++ (did_in budget b r act).writes;
}

-- what is told goes to its stations, as frames with numbers
abbrev pub tell : Run → List Told → Run
tell r told = record r {
  machine = counted_all r.machine (deliveries r.machine.vehicle told);
  answers = r.answers
      ++ numbered (length r.issued) r.machine (deliveries r.machine.vehicle told);
}

-- one act more: it is taken, and then told
abbrev pub act_done : ℕ → List ℕ → Run → Act → Run
act_done budget b r act = tell (take_act budget b r act) (did_in budget b r act).told

abbrev pub all_acts : ℕ → List ℕ → Run → List Act → Run
all_acts budget b r [] = r
all_acts budget b r (act ∷ acts) = all_acts budget b (act_done budget b r act) acts

-- The event is finished: eight lines more are flushed, or all. Those that were issued before a
-- storage acknowledgement were flushed before it.
abbrev pub finish : Run → Run
finish r = record r {
  floor = min (length r.issued) (max r.floor (acknowledged r.answers) + 8);
}

-- one event more
abbrev pub event_done : ℕ → List ℕ → Run → List Act → Run
event_done budget b r acts = finish (all_acts budget b r acts)

-- The lines of boot are those of its steps in order, each over the bytes with the lines before. The
-- steps are the formatting, where the parameter storage doesn't begin with its magic, and then each
-- rule that turns an old parameter record into a new one.
abbrev pub BootStep : Type 0
BootStep = List ℕ → List LineWrite

abbrev pub format_step : BootStep
format_step b = if bytes_eq (take 4 (logical_of Param b)) magic then [] else writes_of b formatting

-- the lines of a rule, for the vehicle's table
abbrev pub convert_step : Rule → BootStep
convert_step rule b = convert_writes vehicle_rows rule b

abbrev pub boot_steps : List BootStep → List ℕ → List LineWrite
boot_steps [] b = []
boot_steps (step ∷ steps) b = step b ++ boot_steps steps (after b (step b))

unfoldable pub boot : List ℕ → List LineWrite
boot b = boot_steps (format_step ∷ map convert_step vehicle_rules) b

-- at the start the lines of boot are issued and flushed
abbrev pub start : List ℕ → Run
start b = record { machine = new_machine; issued = boot b; answers = []; floor = length (boot b) }

abbrev pub run_from : ℕ → List ℕ → Run → List (List Act) → Run
run_from budget b r [] = r
run_from budget b r (acts ∷ events) = run_from budget b (event_done budget b r acts) events

-- the whole run from these storage bytes with this arming budget, by the acts of each event
unfoldable pub run_of : ℕ → List ℕ → List (List Act) → Run
run_of budget b events = run_from budget b (start b) events

-- how many lines were flushed for certain when the first m of these events were finished: none
-- before the first is received
abbrev pub floor_of : ℕ → List ℕ → List (List Act) → ℕ → ℕ
floor_of budget b [] m = 0
floor_of budget b (acts ∷ events) m = (run_of budget b (take m (acts ∷ events))).floor
