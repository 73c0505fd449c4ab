-- The laws over runs: of missions, of uploads, of fences, and of what the start leaves.
use Rattle.std.specs.Prelude.{◌≡◌, ◌⊎◌, ◌≤◌, ◌<◌, ℕ, List, [], ◌∷◌, ◌++◌, length, take, Some, IsTrue, slice_get}
use Rattle.std.specs.List.{flat_map}
use Rattle.flash_traits.specs.Losses.{Received}
use Rattle.storage_lines.specs.declared.lines.TheConstants.{STORAGE_BYTES}
use Rattle.storage_lines.specs.declared.areas.Area.TheVariants.{Param}
use Rattle.storage_lines.specs.Areas.{logical_of}
use Rattle.storage_lines.specs.Bytes.{IsBytes}
use Rattle.storage_lines.specs.Lines.{after, EachPrefix}
use Rattle.param_tree.specs.declared.Var.{Var}
use Rattle.param_tree.specs.Rows.{vehicle_rows}
use Rattle.param_records.specs.Values.{params_of, value_from, value_of_number}
use Rattle.param_records.specs.Records.{Record, value_in}
use Rattle.param_records.specs.Steps.{HasMagic, records_in_storage}
use Rattle.param_convert.specs.declared.rules.Rule.{Rule}
use Rattle.param_convert.specs.Rules.{is_new_row, vehicle_rules}
use Rattle.mission_commands.specs.declared.commands.Command.{Command}
use Rattle.mission_records.specs.Mission.{mission_of}
use Rattle.mission_records.specs.Steps.{IsFormatted, IsTotalInOneLine, StaysFormatted}
use Rattle.fence_records.specs.declared.items.FenceItem.{FenceItem}
use Rattle.fence_records.specs.Lists.{fence_of}
use Rattle.mission_service.specs.declared.requests.MissionType.{MissionType}
use Rattle.mission_service.specs.declared.requests.MissionType.TheVariants.{Mission, Fence}
use Rattle.mission_service.specs.Uploads.{Upload}
use Rattle.vehicle_core.specs.Vehicle.{allowed_of}
use Rattle.vehicle_core.specs.Acts.{Act}
use Rattle.vehicle_runs.specs.Reading.{Reads, no_rests}
use Rattle.vehicle_runs.specs.Runs.{Run, did_in, act_done, boot, start, run_of}
use Rattle.vehicle_laws.specs.Fitting.{AllFit}
use Rattle.vehicle_laws.specs.Rows.{SetsOnly, row_of_act, AllLeave, SetsRowTo}
use Rattle.vehicle_laws.specs.Uploads.{run_over, IsUpload, EndsUpload, commands_from, fence_items_from}

-- the acts of events, one after another
abbrev pub acts_of : List (List Act) → List Act
acts_of events = flat_map (λ acts. acts) events

-- what two runs have done is the same; how many lines were flushed may differ
pub record HasDoneSame (r s : Run) : Type 0 where
  pub machine : r.machine ≡ s.machine
  pub issued : r.issued ≡ s.issued
  pub answers : r.answers ≡ s.answers

-- What a run of events has done is what the run over all their acts has: where one event ends and
-- the next begins counts for what is flushed alone.
abbrev pub RunsByActs : Type 0
RunsByActs = (budget : ℕ) (b : List ℕ) (events : List (List Act))
    → HasDoneSame (run_of budget b events) (run_over budget b (acts_of events))

-- The acts that are read of events fit.
abbrev pub ReadActsFit : Type 0
ReadActsFit = (events : List Received) (acts : List (List Act)) (rests : List (List ℕ))
    → Reads no_rests events acts rests → AllFit (acts_of acts)

-- the current bytes of a run
abbrev pub current : List ℕ → Run → List ℕ
current b r = after b r.issued

-- the list begins with this one
abbrev pub IsPrefixOf : List Command → List Command → Type 0
IsPrefixOf prefix whole = (rest : List Command) × (prefix ++ rest ≡ whole)

-- the bytes are formatted where the lines of boot are issued
abbrev pub StartsFormatted : List ℕ → Type 0
StartsFormatted b = IsFormatted (current b (start b))

-- Of an upload of the mission that opened where MIS_TOTAL lay in one line: after each number of
-- issued lines from its opening on, the mission is the one from before it, or a prefix of the
-- commands that came in it. (Where the last of the acts refuses its command, it issues nothing, and
-- the law over the acts before it says the same without that command.)
abbrev pub LawOfMissions : Type 0
LawOfMissions = (budget : ℕ) (b : List ℕ) (before since : List Act) (opening : Act)
    (station count k : ℕ)
    → StartsFormatted b → IsUpload budget Mission b before opening since station count
    → IsTotalInOneLine (current b (run_over budget b before))
    → length (run_over budget b before).issued ≤ k
    → k ≤ length (run_over budget b (before ++ opening ∷ since)).issued
    → let whole = run_over budget b (before ++ opening ∷ since) in
    let now = mission_of (after b (take k whole.issued)) in
    (now ≡ mission_of (current b (run_over budget b before)))
    ⊎ IsPrefixOf now (commands_from station 0 since)

-- What an upload has stored that ended with the answer 0: `stored` reads the list in storage bytes,
-- and `from` is what a station gives from a number on. The acts since its opening, up to the last
-- one, have given the whole list, as many as its COUNT said.
pub record Stores {X : Type 0} (budget : ℕ) (t : MissionType) (stored : List ℕ → List X)
    (from : ℕ → ℕ → List Act → List X) (b : List ℕ) (acts : List Act) (last : Act) (u : Upload)
    : Type 0 where
  pub before : List Act
  pub opening : Act
  pub since : List Act
  pub split : acts ≡ before ++ opening ∷ since
  pub upload : IsUpload budget t b before opening (since ++ last ∷ []) u.owner u.count
  pub list : stored (current b (run_over budget b (acts ++ last ∷ [])))
      ≡ from u.owner 0 (since ++ last ∷ [])
  pub all : length (from u.owner 0 (since ++ last ∷ [])) ≡ u.count

-- Where an upload of the mission ends with the answer 0, the mission is then the list of the
-- commands that its own station gave in it from number 0 on, as many as its COUNT said.
abbrev pub LawOfUploads : Type 0
LawOfUploads = (budget : ℕ) (b : List ℕ) (acts : List Act) (last : Act) (u : Upload)
    → StartsFormatted b → AllFit (acts ++ last ∷ [])
    → EndsUpload budget Mission b (run_over budget b acts) last u
    → Stores budget Mission mission_of commands_from b acts last u

-- The same of a fence.
abbrev pub LawOfFenceUploads : Type 0
LawOfFenceUploads = (budget : ℕ) (b : List ℕ) (acts : List Act) (last : Act) (u : Upload)
    → length b ≡ STORAGE_BYTES → AllFit (acts ++ last ∷ [])
    → EndsUpload budget Fence b (run_over budget b acts) last u
    → Stores budget Fence fence_of fence_items_from b acts last u

-- the fence is this one, none, or the other
abbrev pub IsFenceOneOf : List FenceItem → List FenceItem → List ℕ → Type 0
IsFenceOneOf old new bytes =
    (fence_of bytes ≡ old) ⊎ ((fence_of bytes ≡ []) ⊎ (fence_of bytes ≡ new))

-- After each prefix of the lines of an act the fence is the one from before it, none, or the one
-- after it.
abbrev pub LawOfFences : Type 0
LawOfFences = (budget : ℕ) (b : List ℕ) (acts : List Act) (act : Act)
    → StartsFormatted b → AllFit (acts ++ act ∷ []) → let r = run_over budget b acts in
    EachPrefix
    (IsFenceOneOf (fence_of (current b r)) (fence_of (current b (act_done budget b r act))))
    (current b r) (did_in budget b r act).writes

-- The lines of an act leave the parameters, or they set the one row that it may set: after each
-- prefix of them its new record is absent or whole, and every other row has its old value.
abbrev pub LawOfRecords : Type 0
LawOfRecords = (budget : ℕ) (b : List ℕ) (acts : List Act) (act : Act)
    → StartsFormatted b → AllFit (acts ++ act ∷ [])
    → let r = run_over budget b acts in
    SetsOnly (row_of_act act) (current b r) (did_in budget b r act).writes

-- After each number of issued lines a row reads as after the last act that may have set it; and
-- where that was a PARAM_SET that set it, with the number that was sent.
pub record LawOfLastValues : Type 0 where
  pub kept : (budget : ℕ) (b : List ℕ) (before since : List Act) (index k : ℕ) (row : Var)
      → StartsFormatted b → AllFit (before ++ since)
      → slice_get vehicle_rows index ≡ Some row → AllLeave index since
      → length (run_over budget b before).issued ≤ k
      → k ≤ length (run_over budget b (before ++ since)).issued
      → params_of (after b (take k (run_over budget b (before ++ since)).issued)) row
      ≡ params_of (current b (run_over budget b before)) row
  pub set : (budget : ℕ) (b : List ℕ) (before : List Act) (act : Act) (index : ℕ) (row : Var)
      (number : ℕ) → StartsFormatted b → AllFit (before ++ act ∷ [])
      → SetsRowTo (current b (run_over budget b before))
      (allowed_of budget (run_over budget b before).machine.vehicle) act index row number
      → params_of (current b (run_over budget b (before ++ act ∷ []))) row
      ≡ value_of_number row.kind number

-- A row reads as in the first of these bytes, or as in the second.
abbrev pub ReadsAsOneOf : List ℕ → List ℕ → Var → List ℕ → Type 0
ReadsAsOneOf old new row now =
    (params_of now row ≡ params_of old row) ⊎ (params_of now row ≡ params_of new row)

-- the rule is one of these
abbrev pub IsOneOf : List Rule → Rule → Type 0
IsOneOf [] rule = ⊥
IsOneOf (one ∷ rules) rule = (rule ≡ one) ⊎ IsOneOf rules rule

-- A rule makes a record of the row, and the row reads the value that the rule's old record has in
-- these bytes.
pub record IsCarriedOver (old : List ℕ) (row : Var) (now : List ℕ) : Type 0 where
  pub rule : Rule
  pub one_of : IsOneOf vehicle_rules rule
  pub makes : IsTrue (is_new_row rule row)
  pub value : List ℕ
  pub stored : value_in rule.key rule.element rule.kind (records_in_storage old) ≡ Some value
  pub reads : params_of now row ≡ value_from row.kind row.part value

-- Each record that the second bytes have more than the first is absent now, or whole: those that
-- are there stand behind the old ones, and the others come behind them.
pub record AddsSomeOf (old new now : List ℕ) : Type 0 where
  pub more : List Record
  pub rest : List Record
  pub added : records_in_storage now ≡ records_in_storage old ++ more
  pub all : records_in_storage new ≡ records_in_storage now ++ rest

-- Boot leaves formatted bytes, and where it formats them itself, MIS_TOTAL lies in one line; after
-- fewer of its lines than all the next start then formats them again. None of its lines changes the
-- mission or the fence. After each number of its lines every row reads as before, or as after all
-- of them, which is, in storage that was formatted, the value of the old record that is carried
-- over; and each new record is absent or whole.
pub record BootFormatsInSteps : Type 0 where
  pub formatted : (b : List ℕ) → length b ≡ STORAGE_BYTES → IsBytes (logical_of Param b)
      → StartsFormatted b
  pub in_one_line : (b : List ℕ) → length b ≡ STORAGE_BYTES → ¬ HasMagic b
      → IsTotalInOneLine (current b (start b))
  pub unformatted : (b : List ℕ) (j : ℕ) → length b ≡ STORAGE_BYTES → ¬ HasMagic b
      → j < length (boot b) → ¬ HasMagic (after b (take j (boot b)))
  pub bytes : (b : List ℕ) → length b ≡ STORAGE_BYTES → IsBytes (logical_of Param b)
      → EachPrefix (λ now. IsBytes (logical_of Param now)) b (boot b)
  pub mission : (b : List ℕ) → length b ≡ STORAGE_BYTES → IsBytes (logical_of Param b)
      → EachPrefix (λ now. mission_of now ≡ mission_of b) b (boot b)
  pub fence : (b : List ℕ) → length b ≡ STORAGE_BYTES → IsBytes (logical_of Param b)
      → EachPrefix (λ now. fence_of now ≡ fence_of b) b (boot b)
  pub rows : (b : List ℕ) (row : Var) → length b ≡ STORAGE_BYTES → IsBytes (logical_of Param b)
      → EachPrefix (ReadsAsOneOf b (after b (boot b)) row) b (boot b)
  pub values : (b : List ℕ) (row : Var) → length b ≡ STORAGE_BYTES → IsBytes (logical_of Param b)
      → HasMagic b
      → EachPrefix (λ now. (params_of now row ≡ params_of b row) ⊎ IsCarriedOver b row now) b
      (boot b)
  pub records : (b : List ℕ) → length b ≡ STORAGE_BYTES → IsBytes (logical_of Param b)
      → EachPrefix (AddsSomeOf b (after b (boot b))) b (boot b)

-- After each number of lines from the start on the bytes are formatted, and MIS_TOTAL lies in one
-- line if it did at the start.
abbrev pub StaysInOneLine : Type 0
StaysInOneLine = (budget : ℕ) (b : List ℕ) (acts : List Act) (k : ℕ)
    → StartsFormatted b → AllFit acts → length (boot b) ≤ k
    → StaysFormatted (current b (start b)) (after b (take k (run_over budget b acts).issued))

-- The first k lines of a run end within those of one act: they are the lines of the acts before it
-- and a prefix of its own.
pub record EndsWithin (budget : ℕ) (b : List ℕ) (acts : List Act) (k : ℕ) : Type 0 where
  pub before : List Act
  pub act : Act
  pub since : List Act
  pub split : acts ≡ before ++ act ∷ since
  pub own : ℕ
  pub few : own ≤ length (did_in budget b (run_over budget b before) act).writes
  pub lines : take k (run_over budget b acts).issued
      ≡ (run_over budget b before).issued
      ++ take own (did_in budget b (run_over budget b before) act).writes

-- What holds after each prefix of the lines of every act holds after any number of the lines of a
-- run: each ends within the lines of one act, or is that of all.
abbrev pub LinesByActs : Type 0
LinesByActs = (budget : ℕ) (b : List ℕ) (acts : List Act) (k : ℕ)
    → length (boot b) ≤ k → k < length (run_over budget b acts).issued → EndsWithin budget b acts k
