-- What the mission is while it is written.
use Rattle.std.specs.Prelude.{◌≡◌, ◌≢◌, ◌⊎◌, ℕ, ◌+◌, ◌<◌, List, [], ◌∷◌, ◌++◌, length, take, Some}
use Rattle.std.specs.Prelude.{slice_get}
use Rattle.storage_lines.specs.declared.lines.LineWrite.{LineWrite}
use Rattle.storage_lines.specs.declared.lines.TheConstants.{STORAGE_BYTES}
use Rattle.storage_lines.specs.declared.areas.Area.TheVariants.{Param}
use Rattle.storage_lines.specs.Areas.{logical_of}
use Rattle.storage_lines.specs.Bytes.{IsBytes}
use Rattle.storage_lines.specs.Lines.{after, EachPrefix}
use Rattle.storage_lines.specs.Pieces.{writes_of}
use Rattle.param_tree.specs.declared.Var.{Var}
use Rattle.param_tree.specs.Rows.{vehicle_rows}
use Rattle.param_records.specs.Changes.{set_pieces, formatting, IsFull}
use Rattle.param_records.specs.Steps.{HasMagic, IsKept, IsInOneLine, records_in_storage}
use Rattle.param_records.specs.Steps.{place_of_row}
use Rattle.mission_commands.specs.declared.commands.Command.{Command}
use Rattle.mission_commands.specs.Storable.{IsStorable}
use Rattle.mission_records.specs.declared.reading.TheConstants.{CAPACITY, TOTAL_INDEX}
use Rattle.mission_records.specs.Mission.{version, total_row, mission_area, mission_of}
use Rattle.mission_records.specs.Mission.{total_writes, begin_writes, put_writes}

-- storage bytes whose parameters are formatted
pub record IsFormatted (bytes : List ℕ) : Type 0 where
  pub size : length bytes ≡ STORAGE_BYTES
  pub params : IsBytes (logical_of Param bytes)
  pub magic : HasMagic bytes

-- a record of MIS_TOTAL is there, and both bytes of its value lie in one line
pub record IsTotalInOneLine (bytes : List ℕ) : Type 0 where
  pub at : ℕ
  pub there : place_of_row bytes total_row ≡ Some at
  pub one_line : IsInOneLine total_row at

-- the mission's area begins with the version
abbrev pub HasVersion : List ℕ → Type 0
HasVersion bytes = take 4 (mission_area bytes) ≡ version

-- the bytes are formatted, and the total lies in one line if it did
pub record StaysFormatted (old now : List ℕ) : Type 0 where
  pub formatted : IsFormatted now
  pub one_line : IsTotalInOneLine old → IsTotalInOneLine now

-- the mission is this one or the other
abbrev pub IsOneOf : List Command → List Command → List ℕ → Type 0
IsOneOf one other bytes = (mission_of bytes ≡ one) ⊎ (mission_of bytes ≡ other)

-- Some writes clear the mission: after all of them it is empty, and after fewer the old one or
-- empty.
pub record Clears (old : List ℕ) (writes : List LineWrite) : Type 0 where
  pub stays : EachPrefix (StaysFormatted old) old writes
  pub each : IsTotalInOneLine old → EachPrefix (IsOneOf (mission_of old) []) old writes
  pub whole : mission_of (after old writes) ≡ []

-- Setting MIS_TOTAL to 0 clears the mission.
abbrev pub ClearsInSteps : Type 0
ClearsInSteps = (bytes : List ℕ) → IsFormatted bytes → Clears bytes (total_writes bytes 0)

-- Some writes begin a mission: they clear the one that was there, and the version is right after
-- all of them.
pub record BeginsMission (old : List ℕ) (writes : List LineWrite) : Type 0 where
  pub clears : Clears old writes
  pub versioned : HasVersion (after old writes)

-- Those of `begin` begin a mission.
abbrev pub BeginsInSteps : Type 0
BeginsInSteps = (bytes : List ℕ) → IsFormatted bytes → BeginsMission bytes (begin_writes bytes)

-- Some writes put a command at the end of the mission: after all of them it is there, and after
-- fewer the mission is the old one or has it.
pub record PutsCommand (c : Command) (old : List ℕ) (writes : List LineWrite) : Type 0 where
  pub stays : EachPrefix (StaysFormatted old) old writes
  pub each : IsTotalInOneLine old
      → EachPrefix (IsOneOf (mission_of old) (mission_of old ++ c ∷ [])) old writes
  pub whole : mission_of (after old writes) ≡ mission_of old ++ c ∷ []
  pub versioned : HasVersion (after old writes)

-- Those of `put` at the index that is the total do so, where MIS_TOTAL has room.
abbrev pub PutsInSteps : Type 0
PutsInSteps = (bytes : List ℕ) (c : Command) → IsFormatted bytes → HasVersion bytes
    → IsStorable c → length (mission_of bytes) < CAPACITY
    → ¬ IsFull (records_in_storage bytes) total_row (length (mission_of bytes) + 1)
    → PutsCommand c bytes (put_writes bytes (length (mission_of bytes)) c)

-- Some writes change no mission.
pub record KeepsMission (old : List ℕ) (writes : List LineWrite) : Type 0 where
  pub stays : EachPrefix (StaysFormatted old) old writes
  pub same : EachPrefix (λ now. mission_of now ≡ mission_of old) old writes
  pub versioned : HasVersion old → HasVersion (after old writes)

-- Setting another row of the table changes no mission.
abbrev pub SetsNoMission : Type 0
SetsNoMission = (bytes : List ℕ) (var : ℕ) (row : Var) (number : ℕ) → IsFormatted bytes
    → var ≢ TOTAL_INDEX → slice_get vehicle_rows var ≡ Some row → IsKept row.kind number
    → ¬ IsFull (records_in_storage bytes) row number
    → KeepsMission bytes (writes_of bytes
    (set_pieces vehicle_rows (records_in_storage bytes) row number))

-- the areas of the parameters and of the mission are as they were
pub record IsBeside (old now : List ℕ) : Type 0 where
  pub params : logical_of Param now ≡ logical_of Param old
  pub mission : mission_area now ≡ mission_area old

-- Writes to other areas change no mission.
abbrev pub OthersKeepMissions : Type 0
OthersKeepMissions = (bytes : List ℕ) (writes : List LineWrite) → IsFormatted bytes
    → EachPrefix (IsBeside bytes) bytes writes → KeepsMission bytes writes

-- In storage that was formatted, the total lies in one line.
abbrev pub FormatsInOneLine : Type 0
FormatsInOneLine = (bytes : List ℕ) → length bytes ≡ STORAGE_BYTES
    → IsTotalInOneLine (after bytes (writes_of bytes formatting))
